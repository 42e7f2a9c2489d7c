-- Why a unit stops with its ticket out.
use Rattle.esr_core.specs.Entry.{Step, Refused, DeposedAt, Moment}
use Rattle.std.specs.Prelude.{ℕ, List}
use Rattle.esr_desk.specs.declared.refusal.EntryRefusal.TheVariants as refusals
use Rattle.esr_desk.specs.declared.refusal.StepRefusal.{StepRefusal}
use Rattle.esr_desk.specs.declared.refusal.StepRefusal.TheVariants as steps
use Rattle.esr_desk.specs.Start.{Start}
use Rattle.esr_desk.specs.Outcome.{Grounds}
use Rattle.esr_desk.specs.Last.{IsLast}

-- Memory was wanting, or turns were spent; or the last step was refused since a record swap had failed, after which each step is. For
-- no other refusal a unit stops before its ticket has ended.
abbrev pub Halts : Start → List Moment → ℕ → StepRefusal → Type 0
Halts s log who steps.Memory = Unit {0}
Halts s log who steps.TurnsSpent = Grounds s log who steps.TurnsSpent
Halts s log who (steps.Refused (refusals.Deposed entry)) = (step : Step) × IsLast log who step (Refused (DeposedAt entry))
Halts s log who (steps.Refused refusal) = ⊥
