use Rattle.esr_formats.specs.Roots.{root_of}
use Rattle.esr_progress.proofs.Takes.{base_is}
use Rattle.esr_progress.proofs.ready.base_of.Goals as goal

pub returns-in-Shard : goal.returns-in-Shard
returns-in-Shard c = base_is (root_of c.args.root.now) c.args.ops.now c.args.kind c.in-Shard.shard c.in-Shard.is _ _ c.later.result c.root_generation.ensures c.generation.ensures c.later.ensures
