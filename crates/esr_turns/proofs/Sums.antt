-- Sums over the views.
use Rattle.std.proofs.Common.{◌≡◌, ◌≢◌, ℕ, zero, suc, ◌+◌, ◌≤◌, List, [], ◌∷◌, ◌++◌, set, refl, sym, ap, arith}
use mathlib.Core.Option.{some, some-injective, some-ne-none}
use lib.ListN.{get_elem?}
use Rattle.esr_turns.specs.Rule.{total}

module _ {A : Type 0} (f : A → ℕ) where
  pub total_set : (l : List A) (i : ℕ) (a b : A) → get_elem? l i ≡ some a → total f (set l i b) + f a ≡ total f l + f b
  total_set [] i a b e = absurd (some-ne-none a (sym e))
  total_set (x ∷ xs) zero a b e = let same : f x ≡ f a = ap f (some-injective x a e) in omega arith
  total_set (x ∷ xs) (suc i) a b e = let rec : total f (set xs i b) + f a ≡ total f xs + f b = total_set xs i a b e in omega arith

  pub total_same : (l : List A) (i : ℕ) (a b : A) → get_elem? l i ≡ some a → f b ≡ f a → total f (set l i b) ≡ total f l
  total_same l i a b e same = let t = total_set l i a b e in omega arith

  pub total_snoc : (l : List A) (a : A) → total f (l ++ a ∷ []) ≡ total f l + f a
  total_snoc [] a = omega arith
  total_snoc (x ∷ xs) a = let rec = total_snoc xs a in omega arith

  pub total_at : (l : List A) (i : ℕ) (a : A) → get_elem? l i ≡ some a → f a ≤ total f l
  total_at [] i a e = absurd (some-ne-none a (sym e))
  total_at (x ∷ xs) zero a e = let same : f x ≡ f a = ap f (some-injective x a e) in omega arith
  total_at (x ∷ xs) (suc i) a e = let rec = total_at xs i a e in omega arith

pub total_le : {A : Type 0} (f g : A → ℕ) (l : List A) → ((a : A) → f a ≤ g a) → total f l ≤ total g l
total_le f g [] h = omega arith
total_le f g (x ∷ xs) h = let here = h x in let rec = total_le f g xs h in omega arith

pub set_at : {A : Type 0} (l : List A) (i : ℕ) (a b : A) → get_elem? l i ≡ some a → get_elem? (set l i b) i ≡ some b
set_at [] i a b e = absurd (some-ne-none a (sym e))
set_at (x ∷ xs) zero a b e = refl
set_at (x ∷ xs) (suc i) a b e = set_at xs i a b e

pub total_le_at : {A : Type 0} (f g : A → ℕ) (l : List A) → ((i : ℕ) (a : A) → get_elem? l i ≡ some a → f a ≤ g a) → total f l ≤ total g l
total_le_at f g [] h = omega arith
total_le_at f g (x ∷ xs) h = let here = h 0 x refl in let rec = total_le_at f g xs (λ i a e. h (suc i) a e) in omega arith

pub total_none : {A : Type 0} (f : A → ℕ) (l : List A) → ((i : ℕ) (a : A) → get_elem? l i ≡ some a → f a ≡ 0) → total f l ≡ 0
total_none f [] h = refl
total_none f (x ∷ xs) h = let here = h 0 x refl in let rec = total_none f xs (λ i a e. h (suc i) a e) in omega arith

-- all others have none
pub total_only : {A : Type 0} (f : A → ℕ) (l : List A) (i : ℕ) (a : A) → get_elem? l i ≡ some a → ((j : ℕ) (b : A) → j ≢ i → get_elem? l j ≡ some b → f b ≡ 0) → total f l ≡ f a
total_only f [] i a e h = absurd (some-ne-none a (sym e))
total_only f (x ∷ xs) zero a e h = let same : f x ≡ f a = ap f (some-injective x a e) in let rec = total_none f xs (λ j b t. h (suc j) b (λ z. omega arith) t) in omega arith
total_only f (x ∷ xs) (suc i) a e h = let here : f x ≡ 0 = h 0 x (λ z. omega arith) refl in let rec : total f xs ≡ f a = total_only f xs i a e (λ j b n t. h (suc j) b (λ z. n (omega arith)) t) in omega arith

-- who has all leaves none to the others
pub total_rest : {A : Type 0} (f : A → ℕ) (l : List A) (i : ℕ) (a : A) → get_elem? l i ≡ some a → total f l ≤ f a → (j : ℕ) (b : A) → j ≢ i → get_elem? l j ≡ some b → f b ≡ 0
total_rest f [] i a e all j b n t = absurd (some-ne-none a (sym e))
total_rest f (x ∷ xs) zero a e all zero b n t = absurd (n refl)
total_rest f (x ∷ xs) zero a e all (suc j) b n t = let same : f x ≡ f a = ap f (some-injective x a e) in let m = total_at f xs j b t in omega arith
total_rest f (x ∷ xs) (suc i) a e all zero b n t = let same : f x ≡ f b = ap f (some-injective x b t) in let m = total_at f xs i a e in omega arith
total_rest f (x ∷ xs) (suc i) a e all (suc j) b n t = total_rest f xs i a e (omega arith) j b (λ z. n (ap suc z)) t
