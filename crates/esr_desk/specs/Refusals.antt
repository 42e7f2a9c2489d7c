-- The refusals of steps, as the definitions see them.
use Rattle.std.specs.Prelude.{Option, Some, None}
use Rattle.esr_core.specs.Entry.{Refusal, CleanupRunning, NameInUse, TooMany, DeposedAt, AbortedBy, StaleTerm, GenerationsSpent, TermsSpent, IdsSpent, NameTaken, DepotFault, NoSnapshot, NoIndex, BeingDeleted, CloneRunning, RestoreRunning, BusyOp, BusyTicket}
use Rattle.esr_formats.specs.Names.{name_of}
use Rattle.esr_formats.specs.Clusters.{count_of}
use Rattle.esr_desk.specs.declared.refusal.EntryRefusal.{EntryRefusal}
use Rattle.esr_desk.specs.declared.refusal.EntryRefusal.TheVariants as code
use Rattle.esr_desk.specs.declared.refusal.StepRefusal.{StepRefusal}
use Rattle.esr_desk.specs.declared.refusal.StepRefusal.TheVariants as steps

abbrev pub refusal_of : EntryRefusal → Refusal
refusal_of (code.CleanupRunning op) = CleanupRunning op
refusal_of (code.NameInUse uuid) = NameInUse uuid.number
refusal_of (code.TooMany limit) = TooMany limit
refusal_of (code.Deposed entry) = DeposedAt entry
refusal_of (code.Aborted by) = AbortedBy by
refusal_of (code.StaleTerm own now) = StaleTerm own now
refusal_of (code.GenerationsSpent number) = GenerationsSpent (count_of number)
refusal_of (code.TermsSpent number) = TermsSpent number
refusal_of (code.IdsSpent next) = IdsSpent next.number
refusal_of (code.NameTaken name) = NameTaken (name_of name)
refusal_of code.DepotFault = DepotFault
refusal_of (code.NoSnapshot place) = NoSnapshot place
refusal_of (code.NoIndex place) = NoIndex place
refusal_of (code.BeingDeleted op) = BeingDeleted op
refusal_of (code.CloneRunning op) = CloneRunning op
refusal_of (code.RestoreRunning op) = RestoreRunning op
refusal_of (code.BusyOp op) = BusyOp op
refusal_of (code.BusyTicket ticket) = BusyTicket ticket

-- the refusal that the history tells, if it tells one
abbrev pub told_refusal : StepRefusal → Option Refusal
told_refusal steps.Memory = None
told_refusal steps.TurnsSpent = None
told_refusal (steps.Refused refusal) = Some (refusal_of refusal)
