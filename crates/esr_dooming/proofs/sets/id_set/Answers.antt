use Rattle.esr_dooming.proofs.Numbers.{is_next}
use Rattle.esr_dooming.proofs.sets.id_set.Goals as goal

pub loop-id-preserved : goal.loop-id-preserved
loop-id-preserved c = is_next c.loop-id.set c.insert.new.self c.args.ids.now c.loop-id.id-index _ c.loop-id-test.true c.loop-id.invariant c.in_ok-insert.ensures.updates
