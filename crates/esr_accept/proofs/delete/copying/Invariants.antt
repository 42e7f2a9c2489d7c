use Rattle.std.proofs.Common.{◌≡◌, drop, map}
use Rattle.esr_formats.specs.Ids.{number_of}
use Rattle.esr_accept.specs.AskedDeletes.{copying}
use Rattle.esr_accept.proofs.delete.copying.Given as goal

-- the search goes on with what is left
abbrev pub invariant-loop-op : goal.invariant-loop-op
invariant-loop-op l = copying l.ops (map number_of l.uuids) ≡ copying (drop l.op-index l.ops) (map number_of l.uuids)
