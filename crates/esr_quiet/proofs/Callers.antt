-- Steps of tickets, takes of units, and elections leave what who 0 has done of a check or a verification; its own further steps give
-- no unit.
use Rattle.std.proofs.Common.{◌≡◌, ◌≢◌, ℕ, List, [], ◌∷◌, ◌++◌, Option, sym, subst, inl, inr}
use Rattle.esr_model.specs.Values.{Formats}
use Rattle.esr_model.specs.Image.{Image}
use Rattle.esr_core.specs.World.{World}
use Rattle.esr_core.specs.Entry.{Given, Read, Step, ReadStep, Reply, Gave, Moment}
use Rattle.esr_core.specs.Allowed as allowed
use Rattle.esr_core.specs.Allowed.{ReadAllows, VerifyAllows, Allows, Allowed}
use Rattle.esr_core.specs.History.{world_from}
use Rattle.esr_desk.specs.Start.{Start, Legal, formats_of, ticket_of}
use Rattle.esr_quiet.specs.PrefixLaws.{legal_rest}
use Rattle.esr_quiet.proofs.Others.{nothing_stays}

-- ---- a further step of a check or a verification gives no unit

abbrev NoGift : Reply → Type 0
NoGift (Gave ticket op unit) = ⊥
NoGift reply = Unit {0}

read_gives_none : (f : Formats) (w : World) (k : ℕ) (read : Read) (reply : Reply) (image : Option Image) → ReadAllows f w k read reply image → NoGift reply
read_gives_none f w k read reply image (allowed.ReadFound j name im stored by found) = tt
read_gives_none f w k read reply image a = tt

verify_gives_none : (f : Formats) (w : World) (read : Read) (reply : Reply) (image : Option Image) → VerifyAllows f w read reply image → NoGift reply
verify_gives_none f w read reply image (allowed.DrawingTest im may fits same) = tt
verify_gives_none f w read reply image a = tt

step_gives_none : (f : Formats) (size : ℕ) (w : World) (who : ℕ) (read : Read) (reply : Reply) (image : Option Image) → Allows f size w who (ReadStep read) reply image → NoGift reply
step_gives_none f size w who read reply image (allowed.Reading k r rep im h same) = read_gives_none f w k r rep im h
step_gives_none f size w who read reply image (allowed.Verifying r rep im h) = verify_gives_none f w r rep im h

gives_none : (f : Formats) (size : ℕ) (w : World) (m : Moment) (read : Read) → Allowed f size w m → m.entry.step ≡ ReadStep read → NoGift m.entry.reply
gives_none f size w m read a is = elim a.answered [
  | inl alive ↦ step_gives_none f size w m.entry.who read m.entry.reply m.image (subst (λ (step : Step). Allows f size w m.entry.who step m.entry.reply m.image) is alive.1)
  | inr dead ↦ subst NoGift (sym dead.refused) tt
]

no_gave : (reply : Reply) (ticket op : ℕ) (unit : Given) → NoGift reply → reply ≢ Gave ticket op unit
no_gave reply ticket op unit none is = subst NoGift is none

pub checks_stay : (s : Start) (log : List Moment) (m : Moment) (read : Read) (k : ℕ) → Legal s (log ++ m ∷ []) → m.entry.who ≡ 0 → m.entry.step ≡ ReadStep read → k ≢ 0 → ticket_of s (log ++ m ∷ []) k ≡ ticket_of s log k
checks_stay s log m read k legal nobody is apart =
    let a : Allowed (formats_of s) s.part_size (world_from (formats_of s) s.world log) m = (legal_rest (formats_of s) s.part_size log (m ∷ []) s.world legal).0 in
    nothing_stays s log m k legal nobody (λ ticket op unit. no_gave m.entry.reply ticket op unit (gives_none (formats_of s) s.part_size _ m read a is)) apart
