-- The ticket of a shard that is restored is out.
use Rattle.std.proofs.Common.{◌≡◌, ℕ, Option, sym, ap, ◌∙◌, subst, inl, inr}
use Rattle.esr_model.specs.Values.{Formats}
use Rattle.esr_model.specs.Image.{Image}
use Rattle.esr_core.specs.World.{World, Reader}
use Rattle.esr_core.specs.Restores.{IsReading}
use Rattle.esr_core.specs.Entry.{RestoredShard, ReadStep, Refusal, Reply, HasEnded, Refused, Entry, Moment}
use Rattle.esr_core.specs.Allowed as allowed
use Rattle.esr_core.specs.Allowed.{ReadAllows, RestoringShard, Allows, Allowed}
use Rattle.esr_readers.specs.Readers.{RestoresIn}

alive_allows : (f : Formats) (size : ℕ) (w : World) (m : Moment) (reply : Reply) → ((refusal : Refusal) → reply ≡ Refused refusal → ⊥) → Allowed f size w m → m.entry.reply ≡ reply
    → Allows f size w m.entry.who m.entry.step reply m.image
alive_allows f size w m reply not a is = elim a.answered [
  | inl alive ↦ subst (λ x. Allows f size w m.entry.who m.entry.step x m.image) is alive.1
  | inr blocked ↦ absurd (not blocked.refusal (sym is ∙ blocked.refused))
]

reader_restores : {f : Formats} {w : World} {k files bytes : ℕ} {image : Option Image} → ReadAllows f w k (RestoredShard files bytes) HasEnded image → (q : Reader) × IsReading w k q
reader_restores (RestoringShard k files bytes im q out by) = (q, out)

restores_by : (f : Formats) (size : ℕ) (w : World) (k files bytes : ℕ) (image : Option Image) → Allows f size w k (ReadStep (RestoredShard files bytes)) HasEnded image → (q : Reader) × IsReading w k q
restores_by f size w k files bytes image (allowed.Reading j read rep im h same) = reader_restores h
restores_by f size w k files bytes image (allowed.Verifying read rep im h) = elim h [ ]

not_ended : (refusal : Refusal) → HasEnded ≡ Refused refusal → ⊥
not_ended refusal e = cc

pub restores_out : (f : Formats) (size : ℕ) (w : World) (m : Moment) (k files bytes : ℕ) → Allowed f size w m → RestoresIn m k files bytes → (q : Reader) × IsReading w k q
restores_out f size w m k files bytes a is =
    let allows : Allows f size w m.entry.who m.entry.step HasEnded m.image = alive_allows f size w m HasEnded not_ended a (ap (λ (x : Entry). x.reply) is) in
    restores_by f size w k files bytes m.image (subst (λ (x : Entry). Allows f size w x.who x.step HasEnded m.image) is allows)
