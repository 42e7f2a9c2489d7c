use Rattle.std.proofs.Common.{map, get_or}
use Rattle.esr_model.specs.Loops.{all, item_is}
use Rattle.esr_formats.specs.Ids.{number_of}
use Rattle.esr_results.specs.Pruned.{pruned_of, no_shard}
use Rattle.esr_dooming.proofs.Renewing.{renewed_first, still_some, renewed_next, renewed_all}
use Rattle.esr_dooming.proofs.clean.renew.Goals as goal

pub loop-shard-init : goal.loop-shard-init
loop-shard-init c = renewed_first c.args.held.now (map number_of c.args.uuids.now)

pub renew_shard-requires : goal.renew_shard-requires
renew_shard-requires c =
    let items = c.args.shards.now in
    let k = c.loop-shard.shard-index in
    still_some c.args.held.now c.loop-shard.held items k (get_or items k no_shard) (map number_of c.args.uuids.now) c.requires.once c.requires.some c.loop-shard-test.true (item_is items k no_shard c.loop-shard-test.true) c.loop-shard.invariant

pub loop-shard-preserved : goal.loop-shard-preserved
loop-shard-preserved c =
    let items = c.args.shards.now in
    let k = c.loop-shard.shard-index in
    renewed_next c.args.held.now c.loop-shard.held c.renew_shard.new.held items k (get_or items k no_shard)
    (map number_of c.args.uuids.now) c.requires.once c.loop-shard-test.true (item_is items k no_shard c.loop-shard-test.true) c.loop-shard.invariant
    c.in_ok-renew_shard.ensures

pub returns : goal.returns
returns c = renewed_all c.args.held.now c.loop-shard.held c.args.shards.now c.loop-shard.shard-index (map number_of c.args.uuids.now) (all pruned_of c.args.shards.now c.loop-shard.shard-index c.loop-shard-test.false) c.loop-shard.invariant
