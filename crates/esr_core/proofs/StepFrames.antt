-- What each step leaves of what was done so far.
use Rattle.std.proofs.Common.{◌≡◌, ◌≢◌, ℕ, List, [], ◌∷◌, Bool, true, false, refl, sym, ap, ◌∙◌, inl, inr}
use Rattle.std.specs.Prelude.{if◌then◌else◌, ◌==◌}
use Rattle.std.proofs.lemmas.Bool.Decides.{eqb_tells}
use Rattle.esr_core.specs.Past.{begins_anew, is_counted, with_entry, entries_by}
use Rattle.esr_core.specs.Entry.{Entry}

-- a step of another leaves the entries of who
pub entries_apart : (entries : List Entry) (e : Entry) (who : ℕ) → who ≢ e.who → entries_by (with_entry entries e) who ≡ entries_by entries who
entries_apart entries e who apart = by (is_counted e.reply)
  where
    other : (e.who == who) ≡ false
    other = elim (eqb_tells e.who who) [ inl h ↦ absurd (apart (sym h.1)) | inr h ↦ h.0 ]

    by : (b : Bool) → entries_by (if b then e ∷ entries else entries) who ≡ entries_by entries who
    by true = ap (λ (b : Bool). if b then (if begins_anew who e.step then [] else e ∷ entries_by entries who) else entries_by entries who) other
    by false = refl

-- its own step is the last of them, unless it begins anew
pub entries_own : (entries : List Entry) (e : Entry) → is_counted e.reply ≡ true → begins_anew e.who e.step ≡ false → entries_by (with_entry entries e) e.who ≡ e ∷ entries_by entries e.who
entries_own entries e counted anew =
    ap (λ (b : Bool). entries_by (if b then e ∷ entries else entries) e.who) counted
    ∙ ap (λ (b : Bool). if b then (if begins_anew e.who e.step then [] else e ∷ entries_by entries e.who) else entries_by entries e.who) own
    ∙ ap (λ (b : Bool). if b then [] else e ∷ entries_by entries e.who) anew
  where
    own : (e.who == e.who) ≡ true
    own = elim (eqb_tells e.who e.who) [ inl h ↦ h.0 | inr h ↦ absurd (h.1 refl) ]
