use Rattle.std.proofs.Common.{◌≡◌, drop}
use Rattle.esr_core.specs.After.{open_index_id}
use Rattle.esr_accept.proofs.snapshot.open_id.Given as goal

-- the search goes on with what is left
abbrev pub invariant-loop-op : goal.invariant-loop-op
invariant-loop-op l = open_index_id l.ops l.name ≡ open_index_id (drop l.op-index l.ops) l.name
