-- Failures of the container that the history tells, and its count of faults.
use Rattle.std.specs.Prelude.{ℕ, ◌+◌, ◌-◌, ◌^◌, ◌≤◌, min, Bool, true, false, List, count_by}
use Rattle.esr_core.specs.Entry.{Reply, Refused, DepotFault, Entry}

-- the answer tells that the container failed
abbrev pub is_fault : Reply → Bool
is_fault (Refused DepotFault) = true
is_fault reply = false

-- how many entries tell that the container failed
abbrev pub fault_entries : List Entry → ℕ
fault_entries es = count_by (λ (e : Entry). is_fault e.reply) es

-- the count rose by as many at least, unless it stands at the last value of a u64
abbrev pub IsCounted : ℕ → ℕ → List Entry → Type 0
IsCounted start now es = min (start + fault_entries es) (2 ^ 64 - 1) ≤ now
