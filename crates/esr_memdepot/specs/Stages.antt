-- Stages and fetches in memory.
use Rattle.std.specs.Prelude.{ℕ, Bool, true, false, List, [], ◌∷◌}

-- no call is to fail
abbrev pub is_none_planned : List ℕ → Bool
is_none_planned [] = true
is_none_planned (n ∷ ns) = false
