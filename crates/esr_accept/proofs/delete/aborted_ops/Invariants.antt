use Rattle.std.proofs.Common.{◌≡◌, take, map}
use Rattle.esr_formats.specs.Ids.{number_of}
use Rattle.esr_accept.specs.AskedDeletes.{aborted_by}
use Rattle.esr_accept.proofs.delete.aborted_ops.Given as goal

abbrev pub invariant-loop-op : goal.invariant-loop-op
invariant-loop-op l = l.copy.items ≡ map (aborted_by l.tickets l.term (map number_of l.uuids) l.by) (take l.op-index l.ops)
