use Rattle.std.proofs.Common.{ℕ, take, option_map}
use Rattle.esr_core.specs.World.{Op}
use Rattle.esr_formats.specs.Ids.{number_of}
use Rattle.esr_ops.specs.Ops.{IsMost, Among, IsDoneAt}
use Rattle.esr_progress.proofs.ready.generation.Given as goal

-- of the ops so far
abbrev pub invariant-loop-op : goal.invariant-loop-op
invariant-loop-op l = IsMost (Among (take l.op-index l.ops) (λ (e : ℕ × Op). Among e.1.shards (IsDoneAt l.shard.index.number l.shard.number))) (option_map number_of l.most)
