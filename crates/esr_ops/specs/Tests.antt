-- Laws of tests over lists, and of the first place at which one passes.
use Rattle.std.proofs.Common.{◌≡◌, ◌≢◌, ℕ, suc, zero, ◌<◌, Bool, true, false, List, [], ◌∷◌, Some, length, get_or, take, refl, sym, ap, ◌∙◌, inl, inr, true≢false, arith, cond, ◌++◌, ◌+◌}
use Rattle.std.specs.Prelude.{slice_get}
use Rattle.std.specs.List.{list_any, position}
use Rattle.std.proofs.lemmas.List.Quantifiers.{position-Some}
use Rattle.std.proofs.lemmas.Option.{slice_get-get_or, get_or_from_slice_get, none-some}
use Rattle.std.proofs.lemmas.Bool.{or_cases, or_left, or_right}
use Rattle.esr_model.specs.Values.{Has}
use Rattle.esr_model.specs.Shelf.{names_uuid}
use Rattle.esr_core.specs.Deletes.{with_uuid}

-- ---- tests over lists

module _ {A : Type 0} (p : A → Bool) where
  pub any_true : (xs : List A) → list_any p xs ≡ true → (x : A) × Has xs x × (p x ≡ true)
  any_true [] e = absurd (true≢false (sym e))
  any_true (x ∷ xs) e = elim (or_cases (p x) (list_any p xs) e) [ inl h ↦ (x, inl refl, h) | inr h ↦ let (y, m, is) = any_true xs h in (y, inr m, is) ]

  pub any_here : (xs : List A) (x : A) → Has xs x → p x ≡ true → list_any p xs ≡ true
  any_here [] x m e = absurd m
  any_here (y ∷ xs) x (inl is) e = or_left (p y) (list_any p xs) (ap p is ∙ e)
  any_here (y ∷ xs) x (inr m) e = or_right (p y) (list_any p xs) (any_here xs x m e)

-- ---- members by their places

module _ {A : Type 0} where
  pub place_of : (xs : List A) (x : A) → Has xs x → (k : ℕ) × (slice_get xs k ≡ Some x)
  place_of [] x m = absurd m
  place_of (y ∷ xs) x (inl is) = (0, ap (λ z. Some z) is)
  place_of (y ∷ xs) x (inr m) = let (k, e) = place_of xs x m in (suc k, e)

  pub place_below : (xs : List A) (n : ℕ) (x : A) → Has (take n xs) x → (k : ℕ) × (k < n) × (slice_get xs k ≡ Some x)
  place_below [] zero x m = absurd m
  place_below (y ∷ xs) (suc n) x (inl is) = (0, omega arith, ap (λ z. Some z) is)
  place_below (y ∷ xs) (suc n) x (inr m) = let (k, lt, e) = place_below xs n x m in (suc k, omega (arith, lt), e)
  place_below xs n x m = absurd m

-- the first place at which a test passes
pub first_place : {A : Type 0} (p : A → Bool) (xs : List A) (i : ℕ) (x : A) → position p xs ≡ Some i → slice_get xs i ≡ Some x → (p x ≡ true) × ((z : A) → Has (take i xs) z → p z ≡ false)
first_place p xs i x e there =
    let (lt, here, before) = position-Some p xs i x e in
    (ap p (sym (get_or_from_slice_get xs i x x there)) ∙ here, λ z m. let (k, below, is) = place_below xs i z m in ap p (sym (get_or_from_slice_get xs k z x is)) ∙ before k below)

pub place_within : {A : Type 0} (p : A → Bool) (xs : List A) (i : ℕ) → position p xs ≡ Some i → (i < length xs) × ((x : A) × (slice_get xs i ≡ Some x))
place_within p [] i e = absurd (none-some i e)
place_within p (y ∷ xs) i e = let lt = (position-Some p (y ∷ xs) i y e).0 in (lt, (get_or (y ∷ xs) i y, slice_get-get_or (y ∷ xs) i y lt))

-- a uuid that is there isn't appended
pub with_uuid-there : (xs : List ℕ) (u : ℕ) → names_uuid xs u ≡ true → with_uuid xs (Some u) ≡ xs
with_uuid-there xs u e = ap (λ b. cond b xs (xs ++ u ∷ [])) e
