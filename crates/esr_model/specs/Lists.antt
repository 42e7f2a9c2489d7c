-- Laws of lists: their members, and pairs of two lists.
use Rattle.std.specs.Prelude.{length}
use Rattle.std.specs.List.{AllByRecursion, IsDistinct, list_all}
use Rattle.std.specs.List.Sorted.{IsStrictlySortedBy}
use Rattle.std.specs.declared.cmp.Ordering.{Ordering}
use Rattle.std.specs.declared.cmp.Ordering.TheVariants.{Less}
use Rattle.std.proofs.Common.{List, [], ◌∷◌, ◌≡◌, ◌⊎◌, ◌++◌, map, refl, ap, inl, inr, subst, suc, Bool, true, filter, sym, false, ◌∙◌}
use Rattle.std.proofs.lemmas.Bool.{cases_Bool, cond-true, cond-false, and_parts}
use Rattle.esr_model.specs.Image.{AllPairs, Has}

pub AllPairs-map : {A B : Type 0} {R S : A → B → Type 0} → ((x : A) (y : B) → R x y → S x y) → (xs : List A) (ys : List B) → AllPairs R xs ys → AllPairs S xs ys
AllPairs-map f [] [] h = tt
AllPairs-map f (x ∷ xs) (y ∷ ys) h = (f x y h.0, AllPairs-map f xs ys h.1)
AllPairs-map f xs ys h = h

-- with what each pair is a member of
pub AllPairs-with : {A B : Type 0} (R S : A → B → Type 0) (xs : List A) (ys : List B) → ((x : A) (y : B) → Has xs x → R x y → S x y) → AllPairs R xs ys → AllPairs S xs ys
AllPairs-with R S [] [] f h = tt
AllPairs-with R S [] (y ∷ ys) f h = h
AllPairs-with R S (x ∷ xs) [] f h = h
AllPairs-with R S (x ∷ xs) (y ∷ ys) f h = (f x y (inl refl) h.0, AllPairs-with R S xs ys (λ a b m. f a b (inr m)) h.1)

pub Has-map : {A B : Type 0} (g : A → B) (xs : List A) (x : A) → Has xs x → Has (map g xs) (g x)
Has-map g [] x h = h
Has-map g (y ∷ ys) x (inl e) = inl (ap g e)
Has-map g (y ∷ ys) x (inr h) = inr (Has-map g ys x h)

pub Has-append : {A : Type 0} (xs : List A) (y x : A) → Has (xs ++ y ∷ []) x → Has xs x ⊎ (y ≡ x)
Has-append [] y x (inl e) = inr e
Has-append [] y x (inr h) = absurd h
Has-append (z ∷ xs) y x (inl e) = inl (inl e)
Has-append (z ∷ xs) y x (inr h) = elim (Has-append xs y x h) [ inl m ↦ inl (inr m) | inr e ↦ inr e ]

-- the member of a map comes from one of the list
pub Has-mapped : {A B : Type 0} (g : A → B) (xs : List A) (y : B) → Has (map g xs) y → (x : A) × Has xs x × (g x ≡ y)
Has-mapped g [] y h = absurd h
Has-mapped g (x ∷ xs) y (inl e) = (x, inl refl, e)
Has-mapped g (x ∷ xs) y (inr h) = let (z, m, e) = Has-mapped g xs y h in (z, inr m, e)

pub Has-left : {A : Type 0} (xs ys : List A) (x : A) → Has xs x → Has (xs ++ ys) x
Has-left [] ys x h = absurd h
Has-left (y ∷ xs) ys x (inl e) = inl e
Has-left (y ∷ xs) ys x (inr h) = inr (Has-left xs ys x h)

pub Has-right : {A : Type 0} (xs ys : List A) (x : A) → Has ys x → Has (xs ++ ys) x
Has-right [] ys x h = h
Has-right (y ∷ xs) ys x h = inr (Has-right xs ys x h)

pub Has-either : {A : Type 0} (xs ys : List A) (x : A) → Has (xs ++ ys) x → Has xs x ⊎ Has ys x
Has-either [] ys x h = inr h
Has-either (z ∷ xs) ys x (inl e) = inl (inl e)
Has-either (z ∷ xs) ys x (inr h) = elim (Has-either xs ys x h) [ inl m ↦ inl (inr m) | inr m ↦ inr m ]

pub pairs_has : {A B : Type 0} (R : A → B → Type 0) (xs : List A) (ys : List B) (x : A) → AllPairs R xs ys → Has xs x → (y : B) × R x y
pairs_has R [] ys x h m = absurd m
pairs_has R (a ∷ xs) [] x h m = absurd h
pairs_has R (a ∷ xs) (b ∷ ys) x h (inl e) = (b, subst (λ z. R z b) e h.0)
pairs_has R (a ∷ xs) (b ∷ ys) x h (inr m) = pairs_has R xs ys x h.1 m

pub AllPairs-snoc : {A B : Type 0} (R : A → B → Type 0) (xs : List A) (ys : List B) (x : A) (y : B) → AllPairs R xs ys → R x y → AllPairs R (xs ++ x ∷ []) (ys ++ y ∷ [])
AllPairs-snoc R [] [] x y h r = (r, tt)
AllPairs-snoc R [] (b ∷ ys) x y h r = absurd h
AllPairs-snoc R (a ∷ xs) [] x y h r = absurd h
AllPairs-snoc R (a ∷ xs) (b ∷ ys) x y h r = (h.0, AllPairs-snoc R xs ys x y h.1 r)

pub pairs_length : {A B : Type 0} (R : A → B → Type 0) (xs : List A) (ys : List B) → AllPairs R xs ys → length xs ≡ length ys
pairs_length R [] [] h = refl
pairs_length R [] (y ∷ ys) h = absurd h
pairs_length R (x ∷ xs) [] h = absurd h
pairs_length R (x ∷ xs) (y ∷ ys) h = ap suc (pairs_length R xs ys h.1)

-- pair by pair, what stands beside a list is one list
pub pairs_one : {A B : Type 0} (R S : A → B → Type 0) → ((x : A) (y z : B) → R x y → S x z → y ≡ z) → (xs : List A) (ys zs : List B) → AllPairs R xs ys → AllPairs S xs zs → ys ≡ zs
pairs_one R S one [] [] [] h k = refl
pairs_one R S one [] [] (z ∷ zs) h k = absurd k
pairs_one R S one [] (y ∷ ys) zs h k = absurd h
pairs_one R S one (x ∷ xs) [] zs h k = absurd h
pairs_one R S one (x ∷ xs) (y ∷ ys) [] h k = absurd k
pairs_one R S one (x ∷ xs) (y ∷ ys) (z ∷ zs) h k = λ i. one x y z h.0 k.0 i ∷ pairs_one R S one xs ys zs h.1 k.1 i

pub pairs_both : {A B : Type 0} (R : A → B → Type 0) (xs : List A) (ys : List B) (x : A) → AllPairs R xs ys → Has xs x → (y : B) × Has ys y × R x y
pairs_both R [] ys x h m = absurd m
pairs_both R (z ∷ xs) [] x h m = absurd h
pairs_both R (z ∷ xs) (y ∷ ys) x h (inl e) = (y, inl refl, subst (λ q. R q y) e h.0)
pairs_both R (z ∷ xs) (y ∷ ys) x h (inr m) = let (b, there, r) = pairs_both R xs ys x h.1 m in (b, inr there, r)

pub Has-filter : {A : Type 0} (p : A → Bool) (xs : List A) (y : A) → Has (filter p xs) y → Has xs y × (p y ≡ true)
Has-filter p [] y h = absurd h
Has-filter {A} p (x ∷ xs) y h = elim (cases_Bool (p x)) [
  | inl t ↦ first t (subst (λ (l : List A). Has l y) (cond-true (p x) (x ∷ filter p xs) (filter p xs) t) h) (Has-filter p xs y)
  | inr t ↦ let g = Has-filter p xs y (subst (λ (l : List A). Has l y) (cond-false (p x) (x ∷ filter p xs) (filter p xs) t) h) in (inr g.0, g.1)
]
  where
    first : p x ≡ true → Has (x ∷ filter p xs) y → (Has (filter p xs) y → Has xs y × (p y ≡ true)) → Has (x ∷ xs) y × (p y ≡ true)
    first t (inl e) rest = (inl e, subst (λ (z : A). p z ≡ true) e t)
    first t (inr m) rest = let g = rest m in (inr g.0, g.1)

pub filter-Has : {A : Type 0} (p : A → Bool) (xs : List A) (y : A) → Has xs y → p y ≡ true → Has (filter p xs) y
filter-Has p [] y h e = absurd h
filter-Has {A} p (x ∷ xs) y (inl s) e = subst (λ (l : List A). Has l y) (sym (cond-true (p x) (x ∷ filter p xs) (filter p xs) (subst (λ (z : A). p z ≡ true) (sym s) e))) (inl s)
filter-Has {A} p (x ∷ xs) y (inr m) e = elim (cases_Bool (p x)) [
  | inl t ↦ subst (λ (l : List A). Has l y) (sym (cond-true (p x) (x ∷ filter p xs) (filter p xs) t)) (inr (filter-Has p xs y m e))
  | inr t ↦ subst (λ (l : List A). Has l y) (sym (cond-false (p x) (x ∷ filter p xs) (filter p xs) t)) (filter-Has p xs y m e)
]

pub all_has : {A : Type 0} (P : A → Type 0) (xs : List A) (x : A) → AllByRecursion P xs → Has xs x → P x
all_has P [] x h m = absurd m
all_has P (y ∷ xs) x h (inl e) = subst P e h.0
all_has P (y ∷ xs) x h (inr m) = all_has P xs x h.1 m

pub apart_has : {A : Type 0} (e : A → A → Bool) (xs : List A) (x y : A) → IsDistinct e xs → Has xs x → Has xs y → (x ≡ y) ⊎ ((e x y ≡ false) ⊎ (e y x ≡ false))
unfolding IsDistinct
apart_has e [] x y apart none h = absurd none
apart_has e (z ∷ zs) x y apart (inl a) (inl b) = inl (sym a ∙ b)
apart_has e (z ∷ zs) x y apart (inl a) (inr b) = inr (inl (subst (λ w. e w y ≡ false) a (all_has (λ w. e z w ≡ false) zs y apart.0 b)))
apart_has e (z ∷ zs) x y apart (inr a) (inl b) = inr (inr (subst (λ w. e w x ≡ false) b (all_has (λ w. e z w ≡ false) zs x apart.0 a)))
apart_has e (z ∷ zs) x y apart (inr a) (inr b) = apart_has e zs x y apart.1 a b

pub rising_has : {A : Type 0} (c : A → A → Ordering) (xs : List A) (x y : A) → IsStrictlySortedBy c xs → Has xs x → Has xs y → (x ≡ y) ⊎ ((c x y ≡ Less) ⊎ (c y x ≡ Less))
unfolding IsStrictlySortedBy
rising_has c [] x y rises none h = absurd none
rising_has c (z ∷ zs) x y rises (inl a) (inl b) = inl (sym a ∙ b)
rising_has c (z ∷ zs) x y rises (inl a) (inr b) = inr (inl (subst (λ w. c w y ≡ Less) a (all_has (λ w. c z w ≡ Less) zs y rises.0 b)))
rising_has c (z ∷ zs) x y rises (inr a) (inl b) = inr (inr (subst (λ w. c w x ≡ Less) b (all_has (λ w. c z w ≡ Less) zs x rises.0 a)))
rising_has c (z ∷ zs) x y rises (inr a) (inr b) = rising_has c zs x y rises.1 a b

pub pass_has : {A : Type 0} (p : A → Bool) (xs : List A) (x : A) → list_all p xs ≡ true → Has xs x → p x ≡ true
pass_has p [] x all none = absurd none
pass_has p (y ∷ ys) x all (inl here) = ap p (sym here) ∙ (and_parts (p y) (list_all p ys) all).0
pass_has p (y ∷ ys) x all (inr later) = pass_has p ys x (and_parts (p y) (list_all p ys) all).1 later
