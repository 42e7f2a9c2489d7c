-- A command, as the definitions see it.
use Rattle.std.specs.Prelude.{◌≤◌, None, map}
use Rattle.std.specs.List.{AllByRecursion}
use Rattle.esr_ops.specs.declared.command.AskedIndex.{AskedIndex as CodeAsked}
use Rattle.esr_ops.specs.declared.command.Command.{Command}
use Rattle.esr_ops.specs.declared.command.Command.TheVariants as commands
use Rattle.esr_core.specs.Entry.{AskedIndex, Asked, Snapshot, Clone, DeleteSnapshots, Restore, Cleanup}
use Rattle.esr_core.specs.Allowed.{AreDistinct}

abbrev pub asked_index_of : CodeAsked → AskedIndex
asked_index_of a = record { name = a.name; shards = a.shards; place = a.place }

-- what a clone takes only the entry of its ask tells
abbrev pub asked_of : Command → Asked
asked_of (commands.Create name indices moment) = Snapshot name (map asked_index_of indices) moment
asked_of (commands.Clone source name indices moment) = Clone source name indices moment None
asked_of (commands.Delete names) = DeleteSnapshots names
asked_of (commands.Restore name place) = Restore name place
asked_of commands.Cleanup = Cleanup

-- an index of a command has 1 to 1,024 shards
abbrev pub HasShards : AskedIndex → Type 0
HasShards a = (1 ≤ a.shards) × (a.shards ≤ 1024)

-- It asks for a snapshot; the names of its indices are distinct, and each has 1 to 1,024 shards.
abbrev pub IsAskable : Asked → Type 0
IsAskable (Snapshot name indices moment) = AreDistinct indices × AllByRecursion HasShards indices
IsAskable command = ⊥

-- It is asked for as it stands, and answered by its op: a snapshot that may be asked for, a delete, a cleanup. The entry of a clone tells
-- what it takes besides, and the answer of a restore its indices.
abbrev pub IsForOp : Asked → Type 0
IsForOp (DeleteSnapshots names) = Unit {0}
IsForOp Cleanup = Unit {0}
IsForOp command = IsAskable command
