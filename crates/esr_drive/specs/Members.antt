-- How many threads a crew takes.
use Rattle.std.specs.Prelude.{ℕ, ◌+◌, min}

-- one for each worker, and one that elects
abbrev pub members : ℕ → ℕ → ℕ
members workers elections = workers + min 1 elections
