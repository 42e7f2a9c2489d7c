use Rattle.esr_report.proofs.Restoring.{numbered_push}
use Rattle.esr_report.proofs.restores.push_numbered.Goals as goal

pub loop-number-preserved : goal.loop-number-preserved
loop-number-preserved c =
    numbered_push c.args.shards.now.items c.loop-number.shards.items c.push.new.self.items c.args.op c.args.uuid c.args.index.now c.loop-number.number c.in_ok-push.ensures.items c.loop-number.invariant
