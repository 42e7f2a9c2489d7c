-- The generations of an index's shards, by shard number.
use Rattle.std.specs.Prelude.{ℕ, ◌<◌, ◌≤◌, ◌^◌, ◌+◌, ◌-◌, List, ◌++◌, length, replicate, slice_index_or, slice_set, Option, Some, None}
use Rattle.std.specs.List.{AllByRecursion}
use Rattle.esr_names.specs.declared.ids.Id.{Id}

-- a generation is an id, or none
abbrev pub IsGeneration : Option Id → Type 0
IsGeneration None = Unit {0}
IsGeneration (Some u) = u.number < 2 ^ 128

-- an index has at most 1,024 shards
pub record AreGenerations (gs : List (Option Id)) : Type 0 where
  pub few : length gs ≤ 1024
  pub each : AllByRecursion IsGeneration gs

-- the generation of a shard, none where the list has none for it
abbrev pub generation_in : List (Option Id) → ℕ → Option Id
generation_in gs k = slice_index_or gs k None

-- the list with none at its end, as far as so many shards need it
abbrev pub padded : ℕ → List (Option Id) → List (Option Id)
padded n gs = gs ++ replicate (n - length gs) None

-- the list with another generation of a shard
abbrev pub with_generation : List (Option Id) → ℕ → Option Id → List (Option Id)
with_generation gs k g = slice_set (padded (k + 1) gs) k g
