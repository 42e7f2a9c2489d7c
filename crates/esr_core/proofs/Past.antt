-- What was done so far, entry by entry.
use Rattle.std.proofs.Common.{◌≡◌, ◌⊎◌, ◌∙◌, ℕ, Bool, true, false, List, [], ◌∷◌, refl, sym, ap, subst, inl, inr}
use Rattle.std.specs.Prelude.{if◌then◌else◌, ◌==◌}
use Rattle.std.proofs.lemmas.Bool.Decides.{eqb_tells}
use Rattle.esr_model.specs.Values.{Has, Formats}
use Rattle.esr_core.specs.World.{World}
use Rattle.esr_core.specs.Past.{is_counted, with_entry, begins_anew, entries_by}
use Rattle.esr_core.specs.Entry.{Entry, Moment}
use Rattle.esr_core.specs.After.{after}
use Rattle.esr_core.specs.History.{world_from}

-- with an entry more each one is that, or one before it
pub entry_or_before : (x : Entry) (entries : List Entry) (who : ℕ) (e : Entry) → Has (entries_by (x ∷ entries) who) e → (x ≡ e) ⊎ Has (entries_by entries who) e
entry_or_before x entries who e m = by (x.who == who) (begins_anew who x.step) m
  where
    by : (mine anew : Bool) → Has (if mine then (if anew then [] else x ∷ entries_by entries who) else entries_by entries who) e → (x ≡ e) ⊎ Has (entries_by entries who) e
    by true true m = absurd m
    by true false m = m
    by false anew m = inr m

-- an entry of who is one of all, and who made it
pub entry_among : (entries : List Entry) (who : ℕ) (e : Entry) → Has (entries_by entries who) e → Has entries e × (e.who ≡ who)
entry_among [] who e m = absurd m
entry_among (x ∷ entries) who e m = elim (eqb_tells x.who who) [
  | inl mine ↦ own (begins_anew who x.step) mine.1 (λ h. entry_among entries who e h) (subst (λ (b : Bool). Has (if b then (if begins_anew who x.step then [] else x ∷ entries_by entries who) else entries_by entries who) e) mine.0 m)
  | inr other ↦ before (entry_among entries who e (subst (λ (b : Bool). Has (if b then (if begins_anew who x.step then [] else x ∷ entries_by entries who) else entries_by entries who) e) other.0 m))
]
  where
    before : Has entries e × (e.who ≡ who) → Has (x ∷ entries) e × (e.who ≡ who)
    before h = (inr h.0, h.1)

    own : (anew : Bool) → x.who ≡ who → (Has (entries_by entries who) e → Has entries e × (e.who ≡ who)) → Has (if anew then [] else x ∷ entries_by entries who) e → Has (x ∷ entries) e × (e.who ≡ who)
    own true same rest h = absurd h
    own false same rest (inl is) = (inl is, ap (λ (y : Entry). y.who) (sym is) ∙ same)
    own false same rest (inr h) = before (rest h)

counted_or_before : (entries : List Entry) (x e : Entry) → Has (with_entry entries x) e → ((x ≡ e) × (is_counted e.reply ≡ true)) ⊎ Has entries e
counted_or_before entries x e m = by (is_counted x.reply) refl m
  where
    by : (b : Bool) → is_counted x.reply ≡ b → Has (if b then x ∷ entries else entries) e → ((x ≡ e) × (is_counted e.reply ≡ true)) ⊎ Has entries e
    by true counted (inl is) = inl (is, ap (λ (y : Entry). is_counted y.reply) (sym is) ∙ counted)
    by true counted (inr h) = inr h
    by false counted h = inr h

-- the entries of a world are those of its history that count, and those before it
pub entry_from : (f : Formats) (w : World) (log : List Moment) (e : Entry) → Has (world_from f w log).entries e → Has w.entries e ⊎ ((m : Moment) × Has log m × (m.entry ≡ e) × (is_counted e.reply ≡ true))
entry_from f w [] e h = inl h
entry_from f w (m ∷ log) e h = elim (entry_from f (after f w m) log e h) [
  | inl now ↦ elim (counted_or_before w.entries m.entry e now) [ inl is ↦ inr (m, inl refl, is.0, is.1) | inr before ↦ inl before ]
  | inr later ↦ inr (later.0, inr later.1, later.2, later.3)
]
