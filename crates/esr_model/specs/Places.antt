-- The shards of a snapshot, each an index and a number.
use Rattle.std.specs.Prelude.{ℕ, zero, suc, leb, Bool, true, false, if◌then◌else◌, List, [], ◌∷◌, ◌++◌}
use Rattle.std.specs.declared.cmp.Ordering.{Ordering}
use Rattle.std.specs.declared.cmp.Ordering.TheVariants.{Less, Equal, Greater}
use Rattle.std.specs.Ordering.{nat_cmp}
use Rattle.std.specs.Cmp.Lexicographic.{slice_cmp}
use Rattle.esr_model.specs.Values.{IndexRef}

-- so many shards of an index, from a number on
abbrev pub numbered : IndexRef → ℕ → ℕ → List (IndexRef × ℕ)
numbered r first zero = []
numbered r first (suc n) = (r, first) ∷ numbered r (suc first) n

-- in the order of the indices, and by number within each: the order of the work
abbrev pub places : List IndexRef → List (IndexRef × ℕ)
places [] = []
places (r ∷ refs) = numbered r 0 r.shards ++ places refs

abbrev pub by_order : Ordering → Bool → Bool
by_order Less tie = true
by_order Equal tie = tie
by_order Greater tie = false

-- by the index's name in byte order, then by number
abbrev pub comes_first : IndexRef × ℕ → IndexRef × ℕ → Bool
comes_first a b = by_order (slice_cmp nat_cmp a.0.name b.0.name) (leb a.1 b.1)

-- put into an ordered list before the first that doesn't come first
abbrev pub put_by : {A : Type 0} → (A → A → Bool) → A → List A → List A
put_by first x [] = x ∷ []
put_by first x (y ∷ ys) = if first x y then x ∷ y ∷ ys else y ∷ put_by first x ys

abbrev pub sorted_by : {A : Type 0} → (A → A → Bool) → List A → List A
sorted_by first [] = []
sorted_by first (x ∷ xs) = put_by first x (sorted_by first xs)

-- by name and number: the order of the shelf
abbrev pub shelf_places : List IndexRef → List (IndexRef × ℕ)
shelf_places refs = sorted_by comes_first (places refs)
