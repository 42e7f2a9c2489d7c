use Rattle.std.proofs.Common.{◌≡◌, drop}
use Rattle.esr_accept.specs.Asking.{op_uuid}
use Rattle.esr_accept.proofs.snapshot.op_uuid.Given as goal

-- the search goes on with what is left
abbrev pub invariant-loop-op : goal.invariant-loop-op
invariant-loop-op l = op_uuid l.ops l.name ≡ op_uuid (drop l.op-index l.ops) l.name
