-- A loop that changes each element of a list.
use Rattle.std.proofs.Common.{◌≡◌, ℕ, ◌+◌, ◌<◌, List, [], ◌∷◌, ◌++◌, map, length, get_or, take, drop, ap, ◌∙◌}
use Rattle.std.specs.List.{AllByRecursion}
use Rattle.std.proofs.lemmas.List.{get_or_default}
use Rattle.std.proofs.lemmas.List.Edits.{map_over_more}
use Rattle.std.proofs.Math.ListN.{set}

-- what holds of each holds of each that a change keeps it for
pub all_mapped : {A : Type 0} (P : A → Type 0) (g : A → A) → ((x : A) → P x → P (g x)) → (xs : List A) → AllByRecursion P xs → AllByRecursion P (map g xs)
all_mapped P g keeps [] h = h
all_mapped P g keeps (x ∷ xs) h = (keeps x h.0, all_mapped P g keeps xs h.1)

-- a loop that changes each element in place
pub map_step : {A : Type 0} (f : A → A) (xs ys : List A) (i : ℕ) (d x : A) → i < length xs → i < length ys → ys ≡ map f (take i xs) ++ drop i xs → x ≡ f (get_or ys i d) → set ys i x ≡ map f (take (i + 1) xs) ++ drop (i + 1) xs
map_step f xs ys i d x lt ly is e = ap (set ys i) (e ∙ ap f (get_or_default ys i d (get_or ys i d) ly)) ∙ map_over_more f xs ys i (get_or ys i (get_or ys i d)) lt is (get_or_default ys i (get_or ys i d) (get_or ys i (get_or ys i d)) ly)
