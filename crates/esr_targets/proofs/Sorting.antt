-- A list that is sorted from its end on.
use Rattle.std.proofs.Common.{◌≡◌, ℕ, ◌∙◌, Bool, List, [], ◌∷◌, ◌++◌, take, drop, refl, sym, ap}
use Rattle.esr_model.specs.Places.{put_by, sorted_by}

-- the values, from the last to the first, put into a sorted list
abbrev pub put_all : {A : Type 0} → (A → A → Bool) → List A → List A → List A
put_all first [] sorted = sorted
put_all first (x ∷ xs) sorted = put_by first x (put_all first xs sorted)

-- put into the empty list they are sorted
pub sorted_all : {A : Type 0} (first : A → A → Bool) (xs : List A) → sorted_by first xs ≡ put_all first xs []
sorted_all first [] = refl
sorted_all first (x ∷ xs) = ap (put_by first x) (sorted_all first xs)

-- the last of them is put first
pub put_last : {A : Type 0} (first : A → A → Bool) (xs : List A) (x : A) (sorted : List A) → put_all first (xs ++ x ∷ []) sorted ≡ put_all first xs (put_by first x sorted)
put_last first [] x sorted = refl
put_last first (y ∷ xs) x sorted = ap (put_by first y) (put_last first xs x sorted)

-- a round: the last of what is left is put to its place among the sorted
pub put_next : {A : Type 0} (first : A → A → Bool) (all left more sorted seen next : List A) (x : A) (place : ℕ) → all ≡ put_all first left sorted → left ≡ more ++ x ∷ [] → seen ≡ sorted
    → put_by first x seen ≡ take place seen ++ x ∷ drop place seen → next ≡ take place sorted ++ x ∷ drop place sorted → all ≡ put_all first more next
put_next {A} first all left more sorted seen next x place so_far popped is put inserted =
    let here : put_by first x sorted ≡ next = ap (put_by first x) (sym is) ∙ put ∙ ap (λ (l : List A). take place l ++ x ∷ drop place l) is ∙ sym inserted in
    so_far ∙ ap (λ (l : List A). put_all first l sorted) popped ∙ put_last first more x sorted ∙ ap (put_all first more) here
