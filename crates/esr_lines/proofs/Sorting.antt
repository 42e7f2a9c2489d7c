-- A list that is sorted from its end on.
use Rattle.std.proofs.Common.{◌≡◌, ℕ, ◌+◌, ◌-◌, ◌≤◌, Bool, List, ◌∷◌, ◌++◌, map, length, take, drop, get_or, sym, ap, subst, ◌∙◌, arith}
use Rattle.std.proofs.Math.Nat.{min-le_right}
use Rattle.std.proofs.lemmas.List.{drop_more, take-map, drop-map, map-append, length-take, length-take-le, take-take, get_or-take}
use Rattle.esr_model.specs.Places.{put_by, sorted_by}

-- what is left is a beginning of the list
fits : {A : Type 0} (snaps left : List A) → left ≡ take (length left) snaps → length left ≤ length snaps
fits snaps left front = subst (λ n. n ≤ length snaps) (sym (ap length front ∙ length-take (length left) snaps)) (min-le_right (length left) (length snaps))

-- without its last, it is still one
pub front_left : {A : Type 0} (snaps left : List A) → 1 ≤ length left → left ≡ take (length left) snaps
    → take (length left - 1) left ≡ take (length (take (length left - 1) left)) snaps
front_left {A} snaps left some front =
    let k = length left - 1 in
    let len : length (take k left) ≡ k = length-take-le k left (omega arith) in
    ap (take k) front ∙ take-take k (length left) snaps (omega arith) ∙ ap (λ n. take n snaps) (sym len)

-- the last of what is left comes to its place
pub sorted_left : {A B : Type 0} (first : B → B → Bool) (f : A → B) (snaps left : List A) (y : A) (m : List B) → 1 ≤ length left → left ≡ take (length left) snaps
    → y ≡ get_or left (length left - 1) y → m ≡ sorted_by first (map f (drop (length left) snaps))
    → put_by first (f y) m ≡ sorted_by first (map f (drop (length (take (length left - 1) left)) snaps))
sorted_left {A} {B} first f snaps left y m some front is sorted =
    let k = length left - 1 in
    let within = fits snaps left front in
    let len : length (take k left) ≡ k = length-take-le k left (omega arith) in
    let next : k + 1 ≡ length left = omega arith in
    let there : y ≡ get_or snaps k y = is ∙ ap (λ (l : List A). get_or l k y) front ∙ get_or-take (length left) snaps k y (omega arith) in
    let more : drop k snaps ≡ y ∷ drop (length left) snaps = drop_more snaps k y (omega arith) ∙ ap (λ (z : A). z ∷ drop (k + 1) snaps) (sym there) ∙ ap (λ n. y ∷ drop n snaps) next in
    ap (put_by first (f y)) sorted ∙ ap (λ (l : List A). sorted_by first (map f l)) (sym more) ∙ ap (λ n. sorted_by first (map f (drop n snaps))) (sym len)

-- what is inserted, seen through a function
pub inserted : {A B : Type 0} (f : A → B) (xs : List A) (i : ℕ) (y : A) → map f (take i xs ++ y ∷ drop i xs) ≡ take i (map f xs) ++ f y ∷ drop i (map f xs)
inserted {A} {B} f xs i y =
    map-append f (take i xs) (y ∷ drop i xs) ∙ ap (λ (l : List B). l ++ f y ∷ map f (drop i xs)) (sym (take-map f i xs)) ∙ ap (λ (l : List B). take i (map f xs) ++ f y ∷ l) (sym (drop-map f i xs))
