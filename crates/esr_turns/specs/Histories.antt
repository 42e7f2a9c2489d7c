-- Histories: lists of entries, of which one may be the beginning of another.
use Rattle.std.specs.Prelude.{◌≡◌, ℕ, zero, suc, List, [], ◌∷◌, ◌++◌, length, if◌then◌else◌, nat_lt, ◌⊎◌, Option, None}

-- the history begins with what was seen
abbrev pub StartsWith : {E : Type 0} → List E → List E → Type 0
StartsWith {E} history seen = (rest : List E) × (history ≡ seen ++ rest)

-- the history stays, or has one entry more
abbrev pub Grows : {E : Type 0} → List E → List E → Type 0
Grows {E} before after = (after ≡ before) ⊎ ((e : E) × (after ≡ before ++ e ∷ []))

-- the place of the entry that came, if one came
abbrev pub gained : {E : Type 0} → List E → List E → List ℕ
gained before after = if nat_lt (length before) (length after) then length before ∷ [] else []

-- the longer of two
abbrev pub longer : {E : Type 0} → List E → List E → List E
longer xs ys = if nat_lt (length xs) (length ys) then ys else xs

-- the other of the two
abbrev pub shorter : {E : Type 0} → List E → List E → List E
shorter xs ys = if nat_lt (length xs) (length ys) then xs else ys

-- what f says of the entry at a place
abbrev pub said : {E : Type 0} → (E → Option ℕ) → List E → ℕ → Option ℕ
said f [] i = None
said f (e ∷ es) zero = f e
said f (e ∷ es) (suc i) = said f es i
