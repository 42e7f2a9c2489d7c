-- A container that tells that no call of it fails.
use Rattle.std.specs.Prelude.{◌≡◌, ℕ, ◌+◌, ◌^◌, ◌≤◌, Bool, true, List, ◌++◌, length}
use Rattle.esr_core.specs.Entry.{Entry}
use Rattle.esr_repo.specs.Counted.{fault_entries}

-- no entry of the first 2^41 tells a failure
abbrev pub AreFaultless : List Entry → Type 0
AreFaultless es = (front back : List Entry) → es ≡ front ++ back → length front ≤ 2 ^ 41 → fault_entries front ≡ 0

-- so it is where the container tells so, and it is sure to serve the rest of them
abbrev pub IsCalm : Bool → ℕ → List Entry → Type 0
IsCalm quiet sure es = quiet ≡ true → AreFaultless es × (length es ≤ 2 ^ 41 → 2 ^ 41 ≤ sure + length es)
