use Rattle.esr_plain.proofs.Sorting.{places_more}
use Rattle.esr_plain.proofs.places.numbered.Goals as goal

pub loop-index-preserved : goal.loop-index-preserved
loop-index-preserved c =
    places_more c.args.indices.now c.loop-index.index-index c.index-item.result c.loop-index.places c.push_numbered.new.places c.loop-index-test.true c.index-item.is c.in_ok-push_numbered.ensures c.loop-index.invariant
