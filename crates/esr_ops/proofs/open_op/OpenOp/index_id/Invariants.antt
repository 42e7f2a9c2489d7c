use Rattle.std.proofs.Common.{◌≡◌, drop, map}
use Rattle.esr_core.specs.After.{index_id}
use Rattle.esr_formats.specs.Refs.{ref_of_code}
use Rattle.esr_ops.proofs.open_op.OpenOp.index_id.Given as goal

-- the search goes on with what is left
abbrev pub invariant-loop-index : goal.invariant-loop-index
invariant-loop-index l = index_id (map ref_of_code l.index-items) l.name ≡ index_id (map ref_of_code (drop l.index-index l.index-items)) l.name
