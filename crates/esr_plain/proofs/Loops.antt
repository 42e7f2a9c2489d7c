-- What holds of a list as far as a loop has come.
use Rattle.std.proofs.Common.{◌≡◌, ℕ, ◌+◌, ◌<◌, Bool, true, false, List, [], ◌∷◌, ◌++◌, map, length, take, get_or, Option, Some, None, refl, sym, subst, inl, inr}
use Rattle.esr_model.specs.Loops.{next, has_at, item_is, every_more}
use Rattle.esr_model.specs.Values.{Has}
use Rattle.esr_plain.specs.Exactly.{IsExactly}
use Rattle.esr_model.specs.Image.{AllPairs}
use Rattle.esr_model.specs.Lists.{AllPairs-snoc}

-- ---- answers that are exact

pub holds : {P : Type 0} → P → (true ≡ true → P) × (P → true ≡ true)
holds p = (λ _. p, λ _. refl)

pub fails : {P : Type 0} → (P → ⊥) → (false ≡ true → P) × (P → false ≡ true)
fails none = (λ e. absurd (cc), λ p. absurd (none p))

-- the answer of a test that is exact, where the one is as good as the other
pub exact_as : {P Q : Type 0} (b : Bool) → (b ≡ true → P) × (P → b ≡ true) → (P → Q) → (Q → P) → (b ≡ true → Q) × (Q → b ≡ true)
exact_as b is to back = (λ e. to (is.0 e), λ q. is.1 (back q))

pub not_so : {P : Type 0} (b : Bool) → (b ≡ true → P) × (P → b ≡ true) → b ≡ false → P → ⊥
not_so b is no_test p = let yes_test = is.1 p in cc

pub so : {P : Type 0} (b : Bool) → (b ≡ true → P) × (P → b ≡ true) → b ≡ true → P
so b is test = is.0 test

pub exact_some : {A : Type 0} (P : A → Type 0) (o : Option A) (x : A) → o ≡ Some x → IsExactly P o → P x
exact_some {A} P o x is exact = let at : IsExactly P (Some x) = subst (IsExactly P) is exact in at

pub exact_none : {A : Type 0} (P : A → Type 0) (o : Option A) → o ≡ None → IsExactly P o → (x : A) → P x → ⊥
exact_none {A} P o is exact = let at : IsExactly P None = subst (IsExactly P) is exact in at

-- ---- one more

-- the same of an item that is read at a place, at any default
pub has_read : {A B : Type 0} (f : A → B) (xs : List A) (i : ℕ) (d : A) → i < length xs → Has (map f xs) (f (get_or xs i d))
has_read f xs i d less = has_at f xs i (get_or xs i d) less (item_is xs i d less)

pub every_read : {A B : Type 0} (P : B → Type 0) (f : A → B) (xs : List A) (i : ℕ) (d : A) → i < length xs
    → ((y : B) → Has (map f (take i xs)) y → P y) → P (f (get_or xs i d)) → (y : B) → Has (map f (take (i + 1) xs)) y → P y
every_read P f xs i d less each one = every_more P f xs i (get_or xs i d) less (item_is xs i d less) each one

-- ---- pair by pair

pub pairs_has : {A B : Type 0} (R : A → B → Type 0) (xs : List A) (ys : List B) → AllPairs R xs ys → (x : A) → Has xs x → (y : B) × R x y
pairs_has R [] ys pairs x none = absurd none
pairs_has R (a ∷ xs) [] pairs x has = absurd pairs
pairs_has {A} {B} R (a ∷ xs) (b ∷ ys) pairs x (inl here) = (b, subst (λ (z : A). R z b) here pairs.0)
pairs_has R (a ∷ xs) (b ∷ ys) pairs x (inr later) = pairs_has R xs ys pairs.1 x later

pub pairs_more : {A B C : Type 0} (R : B → C → Type 0) (f : A → B) (xs : List A) (ys : List C) (i : ℕ) (x : A) (y : C) → i < length xs → x ≡ get_or xs i x
    → AllPairs R (map f (take i xs)) ys → R (f x) y → AllPairs R (map f (take (i + 1) xs)) (ys ++ y ∷ [])
pairs_more {A} {B} {C} R f xs ys i x y less is pairs one = subst (λ (zs : List B). AllPairs R zs (ys ++ y ∷ [])) (sym (next f xs i x less is)) (AllPairs-snoc R (map f (take i xs)) ys (f x) y pairs one)

-- one that has none leaves no pairs
pub pairs_none : {A B C : Type 0} (R : B → C → Type 0) (f : A → B) (xs : List A) (i : ℕ) (x : A) → i < length xs → x ≡ get_or xs i x → ((y : C) → R (f x) y → ⊥) → (ys : List C) → AllPairs R (map f xs) ys → ⊥
pairs_none R f xs i x less is none ys pairs = let one = pairs_has R (map f xs) ys pairs (f x) (has_at f xs i x less is) in none one.0 one.1

-- where each has one, there are pairs
pub pairs_each : {A B : Type 0} (R : A → B → Type 0) (xs : List A) → ((x : A) → Has xs x → (y : B) × R x y) → (ys : List B) × AllPairs R xs ys
pairs_each R [] each = ([], tt)
pairs_each R (x ∷ xs) each =
    let one = each x (inl refl) in
    let more = pairs_each R xs (λ y has. each y (inr has)) in
    (one.0 ∷ more.0, (one.1, more.1))
