-- Members of lists, and lists in which none stands twice.
use Rattle.std.specs.Prelude.{◌≡◌, ◌⊎◌, Bool, true, false, if◌then◌else◌, List, [], ◌∷◌, ◌++◌, map, flat_map}
use Rattle.std.specs.List.{IsDistinct}
use Rattle.std.proofs.Common.{inl, inr, refl, sym, subst}
use Rattle.esr_model.specs.Lists.{Has-left, Has-right, Has-either, Has-mapped, Has-map, all_has}
use Rattle.esr_model.specs.Values.{Has}
use Rattle.esr_reach.specs.Names.{AreOnce}

-- ---- members

pub has_only : {A : Type 0} (x z : A) → Has (x ∷ []) z → z ≡ x
has_only x z (inl here) = sym here
has_only x z (inr none) = absurd none

pub has_if : {A : Type 0} (b : Bool) (xs ys : List A) (z : A) → Has (if b then xs else ys) z → ((b ≡ true) × Has xs z) ⊎ ((b ≡ false) × Has ys z)
has_if true xs ys z has = inl (refl, has)
has_if false xs ys z has = inr (refl, has)

pub in_then : {A : Type 0} (b : Bool) (xs ys : List A) (z : A) → b ≡ true → Has xs z → Has (if b then xs else ys) z
in_then true xs ys z is has = has
in_then false xs ys z is has = absurd (cc)

pub has_flat : {A B : Type 0} (f : A → List B) (xs : List A) (z : B) → Has (flat_map f xs) z → (x : A) × Has xs x × Has (f x) z
has_flat f [] z none = absurd none
has_flat f (x ∷ xs) z has = elim (Has-either (f x) (flat_map f xs) z has) [
  | inl here ↦ (x, inl refl, here)
  | inr later ↦ let found = has_flat f xs z later in (found.0, inr found.1, found.2)
]

pub in_flat : {A B : Type 0} (f : A → List B) (xs : List A) (x : A) (z : B) → Has xs x → Has (f x) z → Has (flat_map f xs) z
in_flat f [] x z none has = absurd none
in_flat {A} {B} f (y ∷ ys) x z (inl here) has = Has-left (f y) (flat_map f ys) z (subst (λ (w : A). Has (f w) z) (sym here) has)
in_flat f (y ∷ ys) x z (inr later) has = Has-right (f y) (flat_map f ys) z (in_flat f ys x z later has)

-- ---- none twice

pub once_both : {A : Type 0} (xs ys : List A) → AreOnce xs → AreOnce ys → ((z : A) → Has xs z → Has ys z → ⊥) → AreOnce (xs ++ ys)
once_both [] ys one two apart = two
once_both (x ∷ xs) ys one two apart = (
  λ has. elim (Has-either xs ys x has) [ inl left ↦ one.0 left | inr right ↦ apart x (inl refl) right ],
  once_both xs ys one.1 two (λ z left right. apart z (inr left) right),
)

-- pieces in which none stands twice, and that are told apart by a key
pub once_flat : {A B K : Type 0} (key : A → K) (f : A → List B) (xs : List A) → AreOnce (map key xs) → ((x : A) → Has xs x → AreOnce (f x)) → ((x y : A) (z : B) → Has (f x) z → Has (f y) z → key x ≡ key y)
    → AreOnce (flat_map f xs)
once_flat key f [] keys each apart = tt
once_flat {A} {B} {K} key f (x ∷ xs) keys each apart =
    once_both (f x) (flat_map f xs) (each x (inl refl)) (once_flat key f xs keys.1 (λ y has. each y (inr has)) apart)
    (λ z here there.
    let found = has_flat f xs z there in
    keys.0 (subst (λ (k : K). Has (map key xs) k) (sym (apart x found.0 z here found.2)) (Has-map key xs found.0 found.1)))

-- values that a test tells apart have different keys
pub once_distinct : {A K : Type 0} (same : A → A → Bool) (key : A → K) → ((x y : A) → same x y ≡ false → key x ≡ key y → ⊥) → (xs : List A) → IsDistinct same xs → AreOnce (map key xs)
unfolding IsDistinct
once_distinct same key differ [] distinct = tt
once_distinct {A} {K} same key differ (x ∷ xs) distinct = (
  λ has. let found = Has-mapped key xs (key x) has in differ x found.0 (all_has (λ (y : A). same x y ≡ false) xs found.0 distinct.0 found.1) (sym found.2),
  once_distinct same key differ xs distinct.1,
)
