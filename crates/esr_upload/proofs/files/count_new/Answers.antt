use Rattle.std.proofs.Common.{arith}
use Rattle.esr_upload.proofs.Planning.{count_next, new_le}
use Rattle.esr_upload.proofs.files.count_new.Goals as goal

pub loop-plan-preserved : goal.loop-plan-preserved
loop-plan-preserved c =
    let next = count_next c.args.plans.now c.loop-plan.plan-index c.plan-item.result c.loop-plan-test.true c.plan-item.is in
    let one = new_le c.plan-item.result.reused in
    let is = c.is_new-count.ensures in
    (omega (arith, next, is, c.loop-plan.invariant.0), omega (arith, one, is, c.loop-plan.invariant.1))
