-- The turns that a step takes.
use Rattle.std.specs.Prelude.{ℕ, Result, Ok, Err}
use Rattle.esr_desk.specs.declared.refusal.StepRefusal.{StepRefusal}
use Rattle.esr_desk.specs.declared.refusal.StepRefusal.TheVariants as steps

-- one where the step added an entry, else none
abbrev pub turns_of : {X : Type 0} → Result X StepRefusal → ℕ
turns_of (Ok x) = 1
turns_of (Err steps.Memory) = 0
turns_of (Err steps.TurnsSpent) = 0
turns_of (Err (steps.Refused refusal)) = 1
