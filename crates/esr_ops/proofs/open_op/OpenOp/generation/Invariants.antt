use Rattle.std.proofs.Common.{take, option_map}
use Rattle.esr_formats.specs.Ids.{number_of}
use Rattle.esr_ops.specs.Ops.{IsMost, Among}
use Rattle.esr_ops.proofs.OpenOps.{IsDoneOpen}
use Rattle.esr_ops.proofs.open_op.OpenOp.generation.Given as goal

-- of the shards so far
abbrev pub invariant-loop-open : goal.invariant-loop-open
invariant-loop-open l = IsMost (Among (take l.open-index l.open-items) (IsDoneOpen l.shard)) (option_map number_of l.most)
