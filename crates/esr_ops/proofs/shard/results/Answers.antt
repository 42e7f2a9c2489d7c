use Rattle.std.proofs.Common.{arith}
use Rattle.std.proofs.lemmas.Grind.{common_steps}
use Rattle.std.proofs.lemmas.List.Elements.{filter_map-append}
use Rattle.esr_ops.proofs.shard.results.Goals as goal

pub loop-open-preserved : goal.loop-open-preserved
loop-open-preserved c = grind (arith, common_steps, filter_map-append)
