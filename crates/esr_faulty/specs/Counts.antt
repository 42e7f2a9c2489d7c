-- What a call counts, by its answer.
use Rattle.std.specs.Prelude.{ℕ, Result, Ok, Err}
use Rattle.esr_depot.specs.declared.error.CallError.{CallError}
use Rattle.esr_depot.specs.declared.error.CallError.TheVariants.{Memory, Failed}
use Rattle.esr_depot.specs.Calls.{up}

-- the clock after the call
abbrev pub clock_after : {T : Type 0} → Result T CallError → ℕ → ℕ
clock_after (Ok x) clock = up clock
clock_after (Err Memory) clock = clock
clock_after (Err Failed) clock = up clock

-- the count of faults after it
abbrev pub faults_after : {T : Type 0} → Result T CallError → ℕ → ℕ
faults_after (Ok x) faults = faults
faults_after (Err Memory) faults = faults
faults_after (Err Failed) faults = up faults
