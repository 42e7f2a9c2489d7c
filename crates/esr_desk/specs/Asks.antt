-- The first step of a check or a verification, by the answer.
use Rattle.std.specs.Prelude.{Result, Ok, Err}
use Rattle.esr_desk.specs.declared.unit.UnitRefusal.{UnitRefusal}
use Rattle.esr_desk.specs.declared.unit.UnitRefusal.TheVariants as units
use Rattle.esr_desk.specs.declared.refusal.StepRefusal.TheVariants as steps

-- It was made, unless memory was wanting or turns were spent; then it may have been made. No ticket is stale here.
abbrev pub Asks : {X : Type 0} → Type 0 → Type 0 → Result X UnitRefusal → Type 0
Asks made may (Ok x) = made
Asks made may (Err (units.Failed why)) = made
Asks made may (Err (units.Stopped (steps.Refused refusal))) = made
Asks made may (Err (units.Stopped steps.Memory)) = may
Asks made may (Err (units.Stopped steps.TurnsSpent)) = may
Asks made may (Err units.Stale) = ⊥
