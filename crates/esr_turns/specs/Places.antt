-- Places of entries in a history, counted from 0.
use Rattle.std.specs.Prelude.{ℕ, ◌+◌, ◌≤◌, List, [], ◌∷◌, if◌then◌else◌, ◌==◌, nat_lt}

-- how often k stands among these places
abbrev pub times : ℕ → List ℕ → ℕ
times k [] = 0
times k (x ∷ xs) = (if x == k then 1 else 0) + times k xs

-- one for a place below n, else none
abbrev pub once_below : ℕ → ℕ → ℕ
once_below k n = if nat_lt k n then 1 else 0

-- the places of these entries, of which the first is the n-th
abbrev pub places_from : {E : Type 0} → ℕ → List E → List ℕ
places_from n [] = []
places_from n (e ∷ es) = n ∷ places_from (n + 1) es

-- places that rise, from m on
abbrev pub RisesFrom : ℕ → List ℕ → Type 0
RisesFrom m [] = Unit {0}
RisesFrom m (x ∷ xs) = (m ≤ x) × RisesFrom x xs

-- rising places, with k put among them in order
abbrev pub inserted : ℕ → List ℕ → List ℕ
inserted k [] = k ∷ []
inserted k (x ∷ xs) = if nat_lt k x then k ∷ x ∷ xs else x ∷ inserted k xs

-- the places of both lists, in order
abbrev pub merged : List ℕ → List ℕ → List ℕ
merged [] ys = ys
merged (x ∷ xs) ys = inserted x (merged xs ys)
