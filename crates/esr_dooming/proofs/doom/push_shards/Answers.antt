use Rattle.std.proofs.Common.{get_or}
use Rattle.esr_model.specs.Loops.{has_at, item_is}
use Rattle.esr_results.specs.Pruned.{pruned_of, no_shard}
use Rattle.esr_dooming.proofs.doom.push_shards.Goals as goal

pub push_shard-requires : goal.push_shard-requires
push_shard-requires c =
    let items = c.args.shards.now in
    let i = c.loop-shard.shard-index in
    c.requires (pruned_of (get_or items i no_shard)) (has_at pruned_of items i (get_or items i no_shard) c.loop-shard-test.true (item_is items i no_shard c.loop-shard-test.true))
