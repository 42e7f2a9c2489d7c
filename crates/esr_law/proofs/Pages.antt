-- A cleanup that comes to its end was told a first page.
use Rattle.std.proofs.Common.{◌≡◌, ◌≢◌, ◌⊎◌, ℕ, true, false, true≢false, List, [], ◌∷◌, ◌++◌, Option, Some, refl, sym, ap, ◌∙◌, subst, inl, inr}
use Rattle.std.specs.FinMap as fin
use Rattle.std.proofs.lemmas.Option.{same_Some}
use Rattle.esr_model.specs.Values.{Has, Formats}
use Rattle.esr_model.specs.Cleanup.{last_text}
use Rattle.esr_model.specs.Image.{Image}
use Rattle.esr_core.specs.World.{World, Deleting, Drop, Ticket}
use Rattle.esr_core.specs.Tracked.{Tracked}
use Rattle.esr_core.specs.ReadTracked.{ReadTracked}
use Rattle.esr_core.specs.Changes.{SameUnit}
use Rattle.esr_core.specs.Entry.{Step, DroppedStep, ListStep, Reply, HasEnded, Refusal, Refused, Moment}
use Rattle.esr_core.specs.After.{answered, after}
use Rattle.esr_core.specs.Allowed as allowed
use Rattle.esr_core.specs.Allowed.{Allows, Allowed, HasCleaned, SameBlobs}
use Rattle.esr_core.specs.History.{world_from, IsLegal}
use Rattle.esr_core.specs.Cleaned.{IsFirstPage, IsLastDrop}
use Rattle.esr_law.specs.Cleanups.{IsGivenCleanup, HasFirstPage, IsEndedCleanup}
use Rattle.esr_law.proofs.OwnSteps.{IsCleaning, Own, OnKeep, OnPage, OnSettle, OnFall}
use Rattle.esr_law.proofs.Turns.{StepLaws, Turned, OnBlock, OnOther, OnOwn, fresh, turned, cleaning_on, handed_out, cleaning_given}

-- a ticket that has listed nothing and hasn't settled
record IsUnbegun (t : Ticket) : Type 0 where
  listed : t.listed ≡ []
  whole : t.whole ≡ false
  settled : t.settled ≡ false

-- among more moments
later_page : (m : Moment) (log : List Moment) (k : ℕ) → HasFirstPage log k → HasFirstPage (m ∷ log) k
later_page m log k h = record { front = m ∷ h.front; first = h.first; back = h.back; is = ap (λ (xs : List Moment). m ∷ xs) h.is; page = h.page }

-- ---- the drop

drops_by : {f : Formats} {size : ℕ} {w : World} {who : ℕ} {image : Option Image} → Allows f size w who DroppedStep HasEnded image → allowed.Drops f w who image × SameBlobs w image
drops_by (allowed.Dropping k image d same) = (d, same)

not_ended : (refusal : Refusal) → HasEnded ≡ Refused refusal → ⊥
not_ended refusal e = cc

-- the ticket's drop, where it is a cleanup's
pub record IsDropped (f : Formats) (w : World) (m : Moment) (k : ℕ) (t : Ticket) : Type 0 where
  pub alive : w.deposed ≡ false
  pub out : t.out ≡ true
  pub present : t.term ≡ w.term
  pub cleaned : HasCleaned f w k t m.image
  pub same : SameBlobs w m.image

pub dropped : (f : Formats) (size : ℕ) (w : World) (m : Moment) (k : ℕ) (t : Ticket) → Allowed f size w m → IsLastDrop m k → fin.get w.tickets k ≡ Some t → IsCleaning t → IsDropped f w m k t
dropped f size w m k t a last there c = elim a.answered [
  | inl alive ↦ by alive.0 (drops_by (subst (λ (x : Reply). Allows f size w k DroppedStep x m.image) last.reply
      (subst (λ (x : Step). Allows f size w k x m.entry.reply m.image) last.step (subst (λ (x : ℕ). Allows f size w x m.entry.step m.entry.reply m.image) last.who alive.1))))
  | inr dead ↦ absurd (not_ended dead.refusal (sym last.reply ∙ dead.refused))
]
  where
    by : w.deposed ≡ false → allowed.Drops f w k m.image × SameBlobs w m.image → IsDropped f w m k t
    by alive (d, same) =
        record {
          alive = alive;
          out = ap (λ (x : Ticket). x.out) (sym one) ∙ d.may.out.out;
          present = ap (λ (x : Ticket). x.term) (sym one) ∙ d.present;
          cleaned = subst (λ (x : Ticket). HasCleaned f w k x m.image) one (elim d.may.unit [ inl drop ↦ absurd (no_drop (sym c.work ∙ ap (λ (x : Ticket). x.work) (sym one) ∙ drop)) | inr cleaned ↦ cleaned ]);
          same = same;
        }
      where
        one : d.may.t ≡ t
        one = same_Some d.may.t t (sym d.may.out.there ∙ there)

        no_drop : Deleting c.uuids c.plan ≡ Drop → ⊥
        no_drop e = cc

-- ---- from the ticket on

-- the ticket after a step that isn't its first page
record StaysUnbegun (f : Formats) (w : World) (m : Moment) (k : ℕ) : Type 0 where
  v : Ticket
  at : fin.get (after f w m).tickets k ≡ Some v
  cleaning : IsCleaning v
  unbegun : IsUnbegun v

module _ (f : Formats) (size : ℕ) (laws : StepLaws f size) where
  page_or : (w : World) (m : Moment) → Tracked w → ReadTracked w → Allowed f size w m → (k : ℕ) (t : Ticket) → fin.get w.tickets k ≡ Some t → IsCleaning t → k ≢ 0 → IsUnbegun t → IsFirstPage m k ⊎ StaysUnbegun f w m k
  page_or w m tracked reads a k t there c first un = by (turned f size laws w m tracked reads a k t there c first)
    where
      stays : (v : Ticket) × (fin.get (after f w m).tickets k ≡ Some v) × SameUnit t v
      stays = (laws.frame w m).stay k t (fresh f size laws w tracked k t there) there

      kept : (v : Ticket) → fin.get (after f w m).tickets k ≡ Some v → v.listed ≡ t.listed → v.whole ≡ t.whole → v.settled ≡ t.settled → StaysUnbegun f w m k
      kept v at listed whole settled =
          record {
            v = v;
            at = at;
            cleaning = subst IsCleaning (same_Some stays.0 v (sym stays.1 ∙ at)) (cleaning_on t stays.0 stays.2 c);
            unbegun = record { listed = listed ∙ un.listed; whole = whole ∙ un.whole; settled = settled ∙ un.settled };
          }

      own : m.entry.who ≡ k → Own f w m.entry.who t m.entry.step m.entry.reply m.image (answered f w m.entry.who m.entry.step m.entry.reply m.image) → IsFirstPage m k ⊎ StaysUnbegun f w m k
      own mine (OnKeep h) = inr (kept h.v (ap (fin.get (after f w m).tickets) (sym mine) ∙ h.at) h.listed h.whole h.settled)
      own mine (OnPage from page step reply from_is told at safe) = inl (record { who = mine; step = step ∙ ap ListStep (from_is ∙ ap last_text un.listed); page = page; reply = reply })
      own mine (OnSettle s is at safe) = absurd (true≢false (sym (s.listed (ap (λ (x : Ticket). x.clean) is ∙ c.clean)) ∙ ap (λ (x : Ticket). x.whole) is ∙ un.whole))
      own mine (OnFall dead h) = elim h.settled [
        | inl same ↦ inr (kept h.v (ap (fin.get (after f w m).tickets) (sym mine) ∙ h.at) h.listed h.whole same)
        | inr whole ↦ absurd (true≢false (sym whole ∙ un.whole))
      ]

      by : Turned f size w m k t → IsFirstPage m k ⊎ StaysUnbegun f w m k
      by (OnBlock blocked at) = inr (kept t at refl refl refl)
      by (OnOther apart made allows at) = inr (kept t at refl refl refl)
      by (OnOwn mine alive unit allows h) = own mine h

  first_page : (log : List Moment) (w : World) → Tracked w → ReadTracked w → IsLegal f size w log → (k : ℕ) (t : Ticket) → fin.get w.tickets k ≡ Some t → IsCleaning t → k ≢ 0 → IsUnbegun t
      → ((v : Ticket) → fin.get (world_from f w log).tickets k ≡ Some v → IsCleaning v → v.settled ≡ true) → HasFirstPage log k
  first_page [] w tracked reads legal k t there c first un end = absurd (true≢false (sym (end t there c) ∙ un.settled))
  first_page (m ∷ log) w tracked reads legal k t there c first un end = elim (page_or w m tracked reads legal.0 k t there c first un) [
    | inl page ↦ record { front = []; first = m; back = log; is = refl; page = page }
    | inr h ↦ later_page m log k (first_page log (after f w m) (laws.tracks w m tracked legal.0) (laws.reads w m tracked reads legal.0) legal.1 k h.v h.at h.cleaning first h.unbegun end)
  ]

  -- from the world on in which the history begins
  page_from : (log : List Moment) (w : World) → Tracked w → ReadTracked w → IsLegal f size w log → (k : ℕ) (given : Moment) → Has log given → IsGivenCleanup given k
      → ((v : Ticket) → fin.get (world_from f w log).tickets k ≡ Some v → IsCleaning v → v.settled ≡ true) → HasFirstPage log k
  page_from [] w tracked reads legal k given there gives end = absurd there
  page_from (m ∷ log) w tracked reads legal k given (inl is) gives end =
      let h = handed_out f size laws w m k tracked legal.0 (subst (λ (x : Moment). IsGivenCleanup x k) (sym is) gives) in
      later_page m log k (first_page log (after f w m) (laws.tracks w m tracked legal.0) (laws.reads w m tracked reads legal.0) legal.1 k _ h.at (cleaning_given w h.op) h.first (record { listed = refl; whole = refl; settled = refl }) end)
  page_from (m ∷ log) w tracked reads legal k given (inr later) gives end =
      later_page m log k (page_from log (after f w m) (laws.tracks w m tracked legal.0) (laws.reads w m tracked reads legal.0) legal.1 k given later gives end)

-- ---- the whole history

-- the steps of a part, and the one after it
legal_front : (f : Formats) (size : ℕ) (w : World) (xs : List Moment) (m : Moment) (ys : List Moment) → IsLegal f size w (xs ++ m ∷ ys) → IsLegal f size w xs × Allowed f size (world_from f w xs) m
legal_front f size w [] m ys legal = (tt, legal.0)
legal_front f size w (x ∷ xs) m ys legal = let r = legal_front f size (after f w x) xs m ys legal.1 in ((legal.0, r.0), r.1)

pub listed_first : (f : Formats) (size : ℕ) → StepLaws f size → (w : World) (before rest : List Moment) (last : Moment) (k : ℕ) → Tracked w → ReadTracked w → IsLegal f size w (before ++ last ∷ rest) → IsEndedCleanup before last k
    → HasFirstPage before k
listed_first f size laws w before rest last k tracked reads legal e =
    let parts = legal_front f size w before last rest legal in
    page_from f size laws before w tracked reads parts.0 k e.given e.there e.gives (λ v there c. (dropped f size (world_from f w before) last k v parts.1 e.drop there c).cleaned.settled)
