use Rattle.std.proofs.Common.{map}
use Rattle.esr_formats.specs.Roots.{root_index_of}
use Rattle.esr_dooming.specs.Pieces.{gone_place}
use Rattle.esr_dooming.proofs.Loops.{added_shard}
use Rattle.esr_dooming.proofs.gone.push_places.Goals as goal

pub loop-number-preserved : goal.loop-number-preserved
loop-number-preserved c =
    added_shard (gone_place (map root_index_of c.args.new.now) c.args.index.now.id.number) c.as_slice-base-items.result.now c.loop-number.number
    _ c.args.gone.now c.loop-number.gone c.push_place.new.gone c.loop-number-test.true c.loop-number.invariant c.in_ok-push_place.ensures
