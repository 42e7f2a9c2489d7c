-- The failures that a history tells, and what the container counted.
use Rattle.std.proofs.Common.{◌≡◌, ◌≤◌, ℕ, ◌+◌, ◌-◌, ◌^◌, min, List, [], ◌∷◌, ◌++◌, sym, ◌∙◌, subst, arith}
use Rattle.esr_core.specs.Entry.{Entry}
use Rattle.esr_repo.specs.Counted.{fault_entries, IsCounted}
use Rattle.esr_repo.specs.Deposed.{AreDeposedSo}

-- from an earlier count on
pub counted_from : (old start new : ℕ) (es : List Entry) → old ≤ start → IsCounted start new es → IsCounted old new es
counted_from old start new es le counted = let h : min (start + fault_entries es) (2 ^ 64 - 1) ≤ new = counted in omega (arith, le, h)

-- no failure
pub counted_none : (old new : ℕ) (es : List Entry) → es ≡ [] → old ≤ new → IsCounted old new es
counted_none old new es none le = subst (λ (l : List Entry). IsCounted old new l) (sym none) (omega (arith, le))

no_entry : (front : List Entry) (e : Entry) (back : List Entry) → [] ≡ front ++ e ∷ back → ⊥
no_entry [] e back is = cc
no_entry (x ∷ front) e back is = cc

pub named_none : (es : List Entry) → es ≡ [] → AreDeposedSo es
named_none es none front back e place is reply = absurd (no_entry front e back (sym none ∙ is))
