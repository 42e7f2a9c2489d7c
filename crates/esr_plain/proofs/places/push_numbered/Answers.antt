use Rattle.esr_plain.proofs.Sorting.{numbered_push}
use Rattle.esr_plain.proofs.places.push_numbered.Goals as goal

pub loop-number-preserved : goal.loop-number-preserved
loop-number-preserved c =
    numbered_push c.args.places.now c.loop-number.places c.push.new.self c.in_ok-index.index c.args.index.now c.loop-number.number c.in_ok-push.ensures.ok c.in_ok-index.ensures c.loop-number.invariant
