-- Lists put in order by what a function gives, and the places of a shelf.
use Rattle.std.proofs.Common.{◌≡◌, ℕ, Bool, List, [], ◌∷◌, map, refl, sym, ap, ◌∙◌, inl, inr}
use Rattle.std.proofs.lemmas.Bool.{cases_Bool, cond-true, cond-false}
use Rattle.esr_model.specs.Values.{Has, IndexRef}
use Rattle.esr_model.specs.Places.{places, comes_first, put_by, sorted_by, shelf_places}
use Rattle.esr_core.specs.Laws.SortedLists.{Has-sorted}

-- an order by what a function gives
module _ {A B : Type 0} (g : A → B) (first : B → B → Bool) where
  abbrev by_image : A → A → Bool
  by_image x y = first (g x) (g y)

  map-put_by : (x : A) (xs : List A) → map g (put_by by_image x xs) ≡ put_by first (g x) (map g xs)
  map-put_by x [] = refl
  map-put_by x (y ∷ ys) = elim (cases_Bool (first (g x) (g y))) [
    | inl t ↦ ap (map g) (cond-true (by_image x y) _ _ t) ∙ sym (cond-true (first (g x) (g y)) _ _ t)
    | inr t ↦ ap (map g) (cond-false (by_image x y) _ _ t) ∙ ap (λ zs. g y ∷ zs) (map-put_by x ys) ∙ sym (cond-false (first (g x) (g y)) _ _ t)
  ]

  pub map-sorted : (xs : List A) → map g (sorted_by by_image xs) ≡ sorted_by first (map g xs)
  map-sorted [] = refl
  map-sorted (x ∷ xs) = map-put_by x (sorted_by by_image xs) ∙ ap (put_by first (g x)) (map-sorted xs)

pub in_shelf_places : (refs : List IndexRef) (place : IndexRef × ℕ) → Has (shelf_places refs) place → Has (places refs) place
in_shelf_places refs place h = Has-sorted comes_first (places refs) place h
