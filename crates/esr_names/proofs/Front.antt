-- What stands at the front of a text.
use Rattle.std.proofs.Common.{◌≡◌, ◌≢◌, ℕ, ◌==◌, List, [], ◌∷◌, ◌++◌, Option, Some, None, option_map, MatchOption, Bor, refl, sym, inl, inr}
use Rattle.std.proofs.lemmas.Bool.{cases_Bool, eqb-true, eq-eqb}
use Rattle.esr_names.specs.Reading.{strip}

pub strip-append : (p s : List ℕ) → strip p (p ++ s) ≡ Some s
strip-append [] s = refl
strip-append (x ∷ p) s = rw (eq-eqb x x refl) (strip-append p s)

strip_some : (p s r : List ℕ) → strip p s ≡ Some r → s ≡ p ++ r
strip_some [] s r h = cc
strip_some (x ∷ p) [] r h = cc
strip_some (x ∷ p) (y ∷ s) r h = elim (cases_Bool (y == x)) [
  | inl same ↦ let rest : strip p s ≡ Some r = rw same at h in let e : y ≡ x = eqb-true y x same in cc (strip_some p s r rest)
  | inr other ↦ cc (rw other at h)
]

none_when : {A : Type 0} (r : Option A) → ((x : A) → r ≡ Some x → ⊥) → None ≡ r
none_when None h = refl
none_when (Some x) h = absurd (h x refl)

-- what `strip_prefix` answers
pub strip_is : (p s : List ℕ) (r : Option (Bor (List ℕ))) → MatchOption r ((rest : List ℕ) → s ≢ p ++ rest) (λ x. s ≡ p ++ x.now) → option_map (λ x. x.now) r ≡ strip p s
strip_is p s None h = none_when (strip p s) (λ rest e. h rest (strip_some p s rest e))
strip_is p s (Some x) h = rw h (sym (strip-append p x.now))
