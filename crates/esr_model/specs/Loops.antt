-- What holds of each item of a list as far as a loop has come.
use Rattle.std.proofs.Common.{◌≡◌, ℕ, zero, suc, ◌+◌, ◌<◌, ◌≤◌, List, [], ◌∷◌, ◌++◌, map, length, take, get_or, sym, ap, ◌∙◌, subst, inl, inr, arith}
use Rattle.std.proofs.lemmas.List.{map_more, take_all, get_or_default}
use Rattle.esr_model.specs.Values.{Has}
use Rattle.esr_model.specs.Lists.{Has-append}

pub next : {A B : Type 0} (f : A → B) (xs : List A) (i : ℕ) (x : A) → i < length xs → x ≡ get_or xs i x → map f (take (i + 1) xs) ≡ map f (take i xs) ++ f x ∷ []
next {A} {B} f xs i x less is = map_more f xs i x less ∙ ap (λ (y : A). map f (take i xs) ++ f y ∷ []) (sym is)

pub all : {A B : Type 0} (f : A → B) (xs : List A) (i : ℕ) → length xs ≤ i → map f (take i xs) ≡ map f xs
all f xs i past = ap (map f) (take_all i xs past)

-- an item that is read at a place of the list, at any default
pub item_is : {A : Type 0} (xs : List A) (i : ℕ) (d : A) → i < length xs → get_or xs i d ≡ get_or xs i (get_or xs i d)
item_is xs i d less = get_or_default xs i d (get_or xs i d) less

-- the one at a place is of the list
pub has_at : {A B : Type 0} (f : A → B) (xs : List A) (i : ℕ) (x : A) → i < length xs → x ≡ get_or xs i x → Has (map f xs) (f x)
has_at f [] i x less is = absurd (omega arith)
has_at f (y ∷ ys) zero x less is = inl (ap f (sym is))
has_at f (y ∷ ys) (suc i) x less is = inr (has_at f ys i x (omega arith) is)

-- what holds of each so far holds of each with the next
pub every_more : {A B : Type 0} (P : B → Type 0) (f : A → B) (xs : List A) (i : ℕ) (x : A) → i < length xs → x ≡ get_or xs i x
    → ((y : B) → Has (map f (take i xs)) y → P y) → P (f x) → (y : B) → Has (map f (take (i + 1) xs)) y → P y
every_more {A} {B} P f xs i x less is each one y has =
    elim (Has-append (map f (take i xs)) (f x) y (subst (λ (zs : List B). Has zs y) (next f xs i x less is) has)) [
      | inl before ↦ each y before
      | inr last ↦ subst P last one
    ]

pub every_all : {A B : Type 0} (P : B → Type 0) (f : A → B) (xs : List A) (i : ℕ) → length xs ≤ i → ((y : B) → Has (map f (take i xs)) y → P y) → (y : B) → Has (map f xs) y → P y
every_all {A} {B} P f xs i past each y has = each y (subst (λ (zs : List B). Has zs y) (sym (all f xs i past)) has)
