-- Two lists, pair by pair.
use Rattle.std.proofs.Common.{List, [], ◌∷◌, map}
use Rattle.esr_model.specs.Image.{AllPairs}

pub pairs_of_map : {A B C : Type 0} (f : A → B) (R : B → C → Type 0) (xs : List A) (ys : List C) → AllPairs (λ (x : A) (y : C). R (f x) y) xs ys → AllPairs R (map f xs) ys
pairs_of_map f R [] [] h = tt
pairs_of_map f R [] (y ∷ ys) h = absurd h
pairs_of_map f R (x ∷ xs) [] h = absurd h
pairs_of_map f R (x ∷ xs) (y ∷ ys) h = (h.0, pairs_of_map f R xs ys h.1)

pub pairs_to_map : {A B C : Type 0} (g : B → C) (R : A → C → Type 0) (xs : List A) (ys : List B) → AllPairs (λ (x : A) (y : B). R x (g y)) xs ys → AllPairs R xs (map g ys)
pairs_to_map g R [] [] h = tt
pairs_to_map g R [] (y ∷ ys) h = absurd h
pairs_to_map g R (x ∷ xs) [] h = absurd h
pairs_to_map g R (x ∷ xs) (y ∷ ys) h = (h.0, pairs_to_map g R xs ys h.1)
