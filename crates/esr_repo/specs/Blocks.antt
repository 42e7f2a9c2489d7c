-- Why a step is refused before it is looked at.
use Rattle.std.specs.Prelude.{ℕ, Bool, true, false, if◌then◌else◌, Option, Some, None}
use Rattle.std.specs.FinMap as fin
use Rattle.esr_core.specs.Entry.{Step, FailedStep}
use Rattle.esr_ops.specs.Plan.{Plan}
use Rattle.esr_progress.specs.Aborts.{aborter}
use Rattle.esr_desk.specs.declared.refusal.EntryRefusal.{EntryRefusal}
use Rattle.esr_desk.specs.declared.refusal.EntryRefusal.TheVariants as refusals

-- the step tells that a unit of a snapshot or a clone failed
abbrev pub is_failure : Step → Bool
is_failure (FailedStep why) = true
is_failure step = false

abbrev pub as_aborted : Option ℕ → Option EntryRefusal
as_aborted None = None
as_aborted (Some by) = Some (refusals.Aborted by)

-- the place of the record swap that failed comes first
abbrev pub block_of : Option ℕ → Plan → ℕ → Step → Option EntryRefusal
block_of (Some entry) plan who step = Some (refusals.Deposed entry)
block_of None plan who step = if is_failure step then None else as_aborted (aborter plan.ops (fin.get plan.seats who))
