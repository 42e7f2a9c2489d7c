use Rattle.std.specs.Ordering.{nat_cmp}
use Rattle.std.specs.BTreeSet.{contains}
use Rattle.esr_dooming.specs.Pieces.{place_piece}
use Rattle.esr_dooming.proofs.Loops.{added_shard}
use Rattle.esr_dooming.proofs.prune.push_places.Goals as goal

pub loop-number-preserved : goal.loop-number-preserved
loop-number-preserved c =
    added_shard (place_piece (contains nat_cmp c.args.named.now) (contains nat_cmp c.args.listed.now) c.args.loss c.args.read.now c.args.index.now.id.number) c.as_slice-base-items.result.now
    c.loop-number.number _ c.args.shards.now c.loop-number.shards c.push_place.new.shards c.loop-number-test.true c.loop-number.invariant c.in_ok-push_place.ensures
