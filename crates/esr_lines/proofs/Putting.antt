-- A value that is put into an ordered list, seen from a place in the list.
use Rattle.std.proofs.Common.{◌≡◌, ℕ, ◌+◌, ◌<◌, Bool, true, false, if◌then◌else◌, List, [], ◌∷◌, ◌++◌, map, length, take, drop, get_or, sym, ap, ◌∙◌, append_assoc}
use Rattle.std.proofs.lemmas.List.{take_more, drop_more, take-map, drop-map, map-append}
use Rattle.esr_model.specs.Places.{put_by}

-- the list from this place on
pub from_here : {A B : Type 0} (f : A → B) (xs : List A) (i : ℕ) (y : A) → i < length xs → y ≡ get_or xs i y → drop i (map f xs) ≡ f y ∷ drop (i + 1) (map f xs)
from_here {A} f xs i y less is =
    drop-map f i xs ∙ ap (map f) (drop_more xs i y less ∙ ap (λ (z : A). z ∷ drop (i + 1) xs) (sym is)) ∙ ap (λ (l : List _). f y ∷ l) (sym (drop-map f (i + 1) xs))

-- the list up to the next place
pub up_to_next : {A B : Type 0} (f : A → B) (xs : List A) (i : ℕ) (y : A) → i < length xs → y ≡ get_or xs i y → take (i + 1) (map f xs) ≡ take i (map f xs) ++ f y ∷ []
up_to_next {A} f xs i y less is =
    take-map f (i + 1) xs ∙ ap (map f) (take_more xs i y less ∙ ap (λ (z : A). take i xs ++ z ∷ []) (sym is)) ∙ map-append f (take i xs) (y ∷ []) ∙ ap (λ (l : List _). l ++ f y ∷ []) (sym (take-map f i xs))

-- it stands before the one at this place
pub put_here : {A B : Type 0} (first : B → B → Bool) (f : A → B) (x : B) (xs : List A) (i : ℕ) (y : A) → i < length xs → y ≡ get_or xs i y → first x (f y) ≡ true
    → put_by first x (drop i (map f xs)) ≡ x ∷ drop i (map f xs)
put_here {A} {B} first f x xs i y less is before =
    let rest = drop (i + 1) (map f xs) in
    let here = from_here f xs i y less is in
    ap (put_by first x) here ∙ ap (λ (b : Bool). if b then x ∷ f y ∷ rest else f y ∷ put_by first x rest) before ∙ ap (λ (l : List B). x ∷ l) (sym here)

-- it stands behind the one at this place
pub put_past : {A B : Type 0} (first : B → B → Bool) (f : A → B) (x : B) (xs : List A) (i : ℕ) (y : A) (all : List B) → i < length xs → y ≡ get_or xs i y → first x (f y) ≡ false
    → all ≡ take i (map f xs) ++ put_by first x (drop i (map f xs)) → all ≡ take (i + 1) (map f xs) ++ put_by first x (drop (i + 1) (map f xs))
put_past {A} {B} first f x xs i y all less is behind put =
    let rest = drop (i + 1) (map f xs) in
    let here : put_by first x (drop i (map f xs)) ≡ f y ∷ put_by first x rest = ap (put_by first x) (from_here f xs i y less is) ∙ ap (λ (b : Bool). if b then x ∷ f y ∷ rest else f y ∷ put_by first x rest) behind in
    put ∙ ap (λ (l : List B). take i (map f xs) ++ l) here ∙ sym (append_assoc (take i (map f xs)) (f y ∷ []) (put_by first x rest)) ∙ ap (λ (l : List B). l ++ put_by first x rest) (sym (up_to_next f xs i y less is))
