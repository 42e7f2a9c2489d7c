-- The entries of a ticket after a step.
use Rattle.std.proofs.Common.{◌≡◌, ◌⊎◌, ℕ, Bool, true, false, [], ◌∷◌, subst, inl, inr}
use Rattle.std.specs.Prelude.{if◌then◌else◌}
use Rattle.std.proofs.lemmas.Bool.Decides.{eqb_tells}
use Rattle.esr_model.specs.Values.{Has, Formats}
use Rattle.esr_core.specs.World.{World}
use Rattle.esr_core.specs.Past.{is_counted, begins_anew, entries_by}
use Rattle.esr_core.specs.Entry.{Entry, Moment}
use Rattle.esr_core.specs.After.{after}

-- each is that of the step, or was there
pub entry_now : (f : Formats) (w : World) (m : Moment) (k : ℕ) (e : Entry) → Has (entries_by (after f w m).entries k) e → ((m.entry ≡ e) × (m.entry.who ≡ k)) ⊎ Has (entries_by w.entries k) e
entry_now f w m k e h = counted (is_counted m.entry.reply) h
  where
    anew : (b : Bool) → m.entry.who ≡ k → Has (if b then [] else m.entry ∷ entries_by w.entries k) e → ((m.entry ≡ e) × (m.entry.who ≡ k)) ⊎ Has (entries_by w.entries k) e
    anew true mine h = absurd h
    anew false mine (inl is) = inl (is, mine)
    anew false mine (inr before) = inr before

    counted : (b : Bool) → Has (entries_by (if b then m.entry ∷ w.entries else w.entries) k) e → ((m.entry ≡ e) × (m.entry.who ≡ k)) ⊎ Has (entries_by w.entries k) e
    counted false h = inr h
    counted true h = elim (eqb_tells m.entry.who k) [
      | inl mine ↦ anew (begins_anew k m.entry.step) mine.1 (subst (λ (b : Bool). Has (if b then (if begins_anew k m.entry.step then [] else m.entry ∷ entries_by w.entries k) else entries_by w.entries k) e) mine.0 h)
      | inr other ↦ inr (subst (λ (b : Bool). Has (if b then (if begins_anew k m.entry.step then [] else m.entry ∷ entries_by w.entries k) else entries_by w.entries k) e) other.0 h)
    ]
