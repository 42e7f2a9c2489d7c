-- Values that are written in full and read back: without floats, and not nested too deep.
use Rattle.std.specs.Prelude.{◌≡◌, ◌≤◌, ℕ, false, List, [], ◌∷◌}
use Rattle.serde_json.specs.Data.{Data, Members, depth, members_depth}
use Rattle.serde_json.specs.Written.{has_float, members_have_float}

-- no float, and nested at most k deep
abbrev pub IsShallow : ℕ → Data → Type 0
IsShallow k d = (has_float d ≡ false) × (depth d ≤ k)

-- each of the values is
abbrev pub AreShallow : ℕ → List Data → Type 0
AreShallow k [] = Unit {0}
AreShallow k (d ∷ ds) = IsShallow k d × AreShallow k ds

-- each member's value is
abbrev pub MembersAreShallow : ℕ → Members → Type 0
MembersAreShallow k ms = (members_have_float ms ≡ false) × (members_depth ms ≤ k)
