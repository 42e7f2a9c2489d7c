-- Two lists, pair by pair.
use Rattle.std.proofs.Common.{List, [], ◌∷◌, ◌++◌}
use Rattle.esr_model.specs.Image.{AllPairs}

nothing_more : {A B : Type 0} (R : A → B → Type 0) (ys : List B) (y : B) → AllPairs R [] (ys ++ y ∷ []) → ⊥
nothing_more R [] y h = h
nothing_more R (b ∷ ys) y h = h

nothing_less : {A B : Type 0} (R : A → B → Type 0) (xs : List A) (x : A) → AllPairs R (xs ++ x ∷ []) [] → ⊥
nothing_less R [] x h = h
nothing_less R (a ∷ xs) x h = h

pub pairs_pop : {A B : Type 0} (R : A → B → Type 0) (xs : List A) (ys : List B) (x : A) (y : B) → AllPairs R (xs ++ x ∷ []) (ys ++ y ∷ []) → AllPairs R xs ys × R x y
pairs_pop R [] [] x y h = (tt, h.0)
pairs_pop R [] (b ∷ ys) x y h = absurd (nothing_more R ys y h.1)
pairs_pop R (a ∷ xs) [] x y h = absurd (nothing_less R xs x h.1)
pairs_pop R (a ∷ xs) (b ∷ ys) x y h = let rest = pairs_pop R xs ys x y h.1 in ((h.0, rest.0), rest.1)

pub pairs_map : {A B : Type 0} (R S : A → B → Type 0) → ((x : A) (y : B) → R x y → S x y) → (xs : List A) (ys : List B) → AllPairs R xs ys → AllPairs S xs ys
pairs_map R S one [] [] h = tt
pairs_map R S one [] (y ∷ ys) h = absurd h
pairs_map R S one (x ∷ xs) [] h = absurd h
pairs_map R S one (x ∷ xs) (y ∷ ys) h = (one x y h.0, pairs_map R S one xs ys h.1)
