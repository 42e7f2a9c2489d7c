-- What holds of a list as far as a loop has come.
use Rattle.std.proofs.Common.{◌≡◌, ℕ, zero, suc, ◌+◌, ◌<◌, Bool, true, false, List, [], ◌∷◌, ◌++◌, map, length, take, get_or, refl, sym, subst, arith}
use Rattle.esr_model.specs.Loops.{next}
use Rattle.esr_model.specs.Image.{AllPairs}
use Rattle.esr_model.specs.Lists.{AllPairs-snoc}

-- ---- answers that are exact

pub holds : {P : Type 0} → P → (true ≡ true → P) × (P → true ≡ true)
holds p = (λ _. p, λ _. refl)

pub fails : {P : Type 0} → (P → ⊥) → (false ≡ true → P) × (P → false ≡ true)
fails none = (λ e. absurd (cc), λ p. absurd (none p))

-- the answer of a test that is exact, where the one is as good as the other
pub exact_as : {P Q : Type 0} (b : Bool) → (b ≡ true → P) × (P → b ≡ true) → (P → Q) → (Q → P) → (b ≡ true → Q) × (Q → b ≡ true)
exact_as b is to back = (λ e. to (is.0 e), λ q. is.1 (back q))

-- ---- pair by pair

-- the pair at a place of two lists
pub pairs_both : {A B C D : Type 0} (R : C → D → Type 0) (g : A → C) (h : B → D) (xs : List A) (ys : List B) (k : ℕ) (x : A) (y : B) → k < length xs → x ≡ get_or xs k x → y ≡ get_or ys k y → AllPairs R (map g xs) (map h ys)
    → R (g x) (h y)
pairs_both R g h [] ys k x y less x_is y_is pairs = absurd (omega arith)
pairs_both R g h (a ∷ xs) [] k x y less x_is y_is pairs = absurd pairs
pairs_both {A} {B} {C} {D} R g h (a ∷ xs) (b ∷ ys) zero x y less x_is y_is pairs = subst (λ (z : A). R (g z) (h y)) (sym x_is) (subst (λ (z : B). R (g a) (h z)) (sym y_is) pairs.0)
pairs_both R g h (a ∷ xs) (b ∷ ys) (suc k) x y less x_is y_is pairs = pairs_both R g h xs ys k x y (omega arith) x_is y_is pairs.1

pub pairs_next : {A B C D : Type 0} (R : C → D → Type 0) (g : A → C) (h : B → D) (xs : List A) (ys : List B) (k : ℕ) (x : A) (y : B) → k < length xs → k < length ys → x ≡ get_or xs k x → y ≡ get_or ys k y
    → AllPairs R (map g (take k xs)) (map h (take k ys)) → R (g x) (h y) → AllPairs R (map g (take (k + 1) xs)) (map h (take (k + 1) ys))
pairs_next {A} {B} {C} {D} R g h xs ys k x y less_x less_y x_is y_is pairs one =
    subst (λ (zs : List C). AllPairs R zs (map h (take (k + 1) ys))) (sym (next g xs k x less_x x_is))
    (subst (λ (zs : List D). AllPairs R (map g (take k xs) ++ g x ∷ []) zs) (sym (next h ys k y less_y y_is))
    (AllPairs-snoc R (map g (take k xs)) (map h (take k ys)) (g x) (h y) pairs one))
