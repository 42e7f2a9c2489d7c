-- What accepting a command answers.
use Rattle.std.specs.Prelude.{◌≡◌, ℕ, Option, Some, None, Result, Ok, Err}
use Rattle.esr_core.specs.World.{World}
use Rattle.esr_core.specs.Entry.{Asked, DeleteSnapshots, Cleanup}
use Rattle.esr_ops.specs.Plan.{Plan}
use Rattle.esr_ops.specs.declared.command.Accepted.{Accepted}
use Rattle.esr_accept.specs.Accepting.{Accepting, IsDeleteRefused, AcceptingDelete, IsCleanupRefused, AcceptingCleanup}
use Rattle.esr_ops.specs.declared.refusal.Refusal.{Refusal}
use Rattle.esr_ops.specs.declared.refusal.Refusal.TheVariants as refusals
use Rattle.esr_desk.specs.declared.refusal.EntryRefusal.{EntryRefusal}
use Rattle.esr_desk.specs.declared.refusal.EntryRefusal.TheVariants as entries

-- a refusal of the list of ops, as an entry tells it; of want of memory none does
abbrev pub entry_of : Refusal → Option EntryRefusal
entry_of refusals.Memory = None
entry_of (refusals.CleanupRunning op) = Some (entries.CleanupRunning op)
entry_of (refusals.NameInUse uuid) = Some (entries.NameInUse uuid)
entry_of (refusals.TooMany limit) = Some (entries.TooMany limit)
entry_of (refusals.IdsSpent next) = Some (entries.IdsSpent next)
entry_of (refusals.NoSnapshot place) = Some (entries.NoSnapshot place)
entry_of (refusals.NoIndex place) = Some (entries.NoIndex place)
entry_of (refusals.BeingDeleted op) = Some (entries.BeingDeleted op)
entry_of (refusals.CloneRunning op) = Some (entries.CloneRunning op)
entry_of (refusals.RestoreRunning op) = Some (entries.RestoreRunning op)
entry_of (refusals.BusyOp op) = Some (entries.BusyOp op)
entry_of (refusals.BusyTicket ticket) = Some (entries.BusyTicket ticket)

-- an op for which no id is drawn
abbrev pub as_op : Result (Plan × ℕ) Refusal → Result (Plan × Accepted) Refusal
as_op (Ok (new, op)) = Ok (new, record { op = op; drawn = 0 })
as_op (Err refusal) = Err refusal

-- by the list that is answered, or by the first rule that refuses the command
abbrev pub IsListed : World → Asked → Result (Plan × Accepted) Refusal → Type 0
IsListed w (DeleteSnapshots names) (Ok (new, accepted)) = AcceptingDelete w names (Ok (new, accepted.op)) × (accepted.drawn ≡ 0)
IsListed w (DeleteSnapshots names) (Err refusal) = IsDeleteRefused w names refusal
IsListed w Cleanup (Ok (new, accepted)) = AcceptingCleanup w (Ok (new, accepted.op)) × (accepted.drawn ≡ 0)
IsListed w Cleanup (Err refusal) = IsCleanupRefused w refusal
IsListed w command result = Accepting w command result
