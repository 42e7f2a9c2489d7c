-- What is told of a blob that is read.
use Rattle.std.specs.Prelude.{◌≡◌, ℕ, List, Option, None, Some}

-- what is told, if anything is, is this
abbrev pub Tells : Option (List ℕ) → List ℕ → Type 0
Tells None bytes = Unit {0}
Tells (Some told) bytes = told ≡ bytes
