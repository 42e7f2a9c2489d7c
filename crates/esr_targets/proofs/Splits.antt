-- Places in a list, and lists side by side.
use Rattle.std.proofs.Common.{◌≡◌, ◌⊎◌, List, [], ◌∷◌, ◌++◌, refl, sym, ap, ◌∙◌, subst, inl, inr}
use Rattle.esr_model.specs.Values.{Has}
use Rattle.esr_model.specs.Image.{AllPairs}
use Rattle.esr_model.specs.Lists.{Has-either}

pub heads : {A : Type 0} (x y : A) (xs ys : List A) → x ∷ xs ≡ y ∷ ys → (x ≡ y) × (xs ≡ ys)
heads x y xs ys e = (cc, cc)

pub nothing_first : {A : Type 0} (x : A) (xs : List A) → [] ≡ x ∷ xs → ⊥
nothing_first x xs e = cc

pub nothing_split : {A : Type 0} (xs : List A) (y : A) (ys : List A) → [] ≡ xs ++ y ∷ ys → ⊥
nothing_split [] y ys e = nothing_first y ys e
nothing_split (x ∷ xs) y ys e = nothing_first x (xs ++ y ∷ ys) e

-- ---- two places

-- a place lies before another one of the same list
pub record IsBefore {A : Type 0} (front : List A) (x : A) (later : List A) : Type 0 where
  pub between : List A
  pub is : later ≡ front ++ x ∷ between

before_on : {A : Type 0} (z w : A) (front : List A) (x : A) (later : List A) → z ≡ w → IsBefore front x later → IsBefore (z ∷ front) x (w ∷ later)
before_on z w front x later same h = record { between = h.between; is = ap (λ v. v ∷ later) (sym same) ∙ ap (λ l. z ∷ l) h.is }

-- one of two places lies before the other, or they are one
pub compared : {A : Type 0} (a b : List A) (x y : A) (p q : List A) → a ++ x ∷ p ≡ b ++ y ∷ q → IsBefore a x b ⊎ ((a ≡ b) ⊎ IsBefore b y a)
compared [] [] x y p q e = inr (inl refl)
compared [] (w ∷ b) x y p q e = inl (record { between = b; is = ap (λ v. v ∷ b) (sym (heads x w p (b ++ y ∷ q) e).0) })
compared (z ∷ a) [] x y p q e = inr (inr (record { between = a; is = ap (λ v. v ∷ a) (heads z y (a ++ x ∷ p) q e).0 }))
compared (z ∷ a) (w ∷ b) x y p q e =
    let h = heads z w (a ++ x ∷ p) (b ++ y ∷ q) e in
    elim (compared a b x y p q h.1) [
      | inl first ↦ inl (before_on z w a x b h.0 first)
      | inr (inl same) ↦ inr (inl (ap (λ v. v ∷ a) h.0 ∙ ap (λ l. w ∷ l) same))
      | inr (inr after) ↦ inr (inr (before_on w z b y a (sym h.0) after))
    ]

-- ---- pairs

pub right_has : {A B : Type 0} (R : A → B → Type 0) (xs : List A) (ys : List B) (y : B) → AllPairs R xs ys → Has ys y → (x : A) × Has xs x × R x y
right_has R [] [] y h m = absurd m
right_has R [] (z ∷ ys) y h m = absurd h
right_has R (x ∷ xs) [] y h m = absurd m
right_has R (x ∷ xs) (z ∷ ys) y h (inl e) = (x, inl refl, subst (R x) e h.0)
right_has R (x ∷ xs) (z ∷ ys) y h (inr m) = let (v, vm, r) = right_has R xs ys y h.1 m in (v, inr vm, r)

-- ---- in order

-- each has the relation to those after it
abbrev pub AreInOrder : {A : Type 0} → (A → A → Type 0) → List A → Type 0
AreInOrder R [] = Unit {0}
AreInOrder {A} R (x ∷ xs) = ((y : A) → Has xs y → R x y) × AreInOrder R xs

pub order_append : {A : Type 0} (R : A → A → Type 0) (xs ys : List A) → AreInOrder R xs → AreInOrder R ys → ((x y : A) → Has xs x → Has ys y → R x y) → AreInOrder R (xs ++ ys)
order_append R [] ys a b across = b
order_append R (x ∷ xs) ys a b across =
    (λ y m. elim (Has-either xs ys y m) [ inl left ↦ a.0 y left | inr right ↦ across x y (inl refl) right ], order_append R xs ys a.1 b (λ v y vm ym. across v y (inr vm) ym))

pub order_pairs : {A B : Type 0} (P : A → B → Type 0) (R : A → A → Type 0) (S : B → B → Type 0) → ((a b : A) (c d : B) → P a c → P b d → R a b → S c d) → (xs : List A) (ys : List B) → AllPairs P xs ys → AreInOrder R xs
    → AreInOrder S ys
order_pairs P R S f [] [] h o = tt
order_pairs P R S f [] (y ∷ ys) h o = absurd h
order_pairs P R S f (x ∷ xs) [] h o = absurd h
order_pairs P R S f (x ∷ xs) (y ∷ ys) h o = (λ d m. let (b, bm, p) = right_has P xs ys d h.1 m in f x b y d h.0 p (o.0 b bm), order_pairs P R S f xs ys h.1 o.1)
