use Rattle.std.proofs.Common.{arith, ◌<◌, length}
use Rattle.esr_ops.specs.Shards.{failed_open}
use Rattle.esr_ops.proofs.Lists.{map_step}
use Rattle.esr_ops.proofs.shard.give_up.Goals as goal

pub loop-open-preserved : goal.loop-open-preserved
loop-open-preserved c =
    let within : c.loop-open.open-index < length c.loop-open.open-items = omega arith in
    map_step (failed_open c.args.ticket) c.deref_mut-open-items.result.now c.loop-open.open-items c.loop-open.open-index _ _ c.loop-open-test.true within c.loop-open.invariant c.failed.ensures
