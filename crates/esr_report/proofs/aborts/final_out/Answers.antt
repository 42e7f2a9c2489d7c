use Rattle.esr_report.proofs.Aborting.{final_read}
use Rattle.esr_report.proofs.aborts.final_out.Goals as goal

pub loop-entry-preserved : goal.loop-entry-preserved
loop-entry-preserved c =
    final_read c.args.entries.now c.args.op c.loop-entry.entry-index c.loop-entry.out c.final_step-out.result c.entry-item.result c.loop-entry-test.true c.entry-item.is c.final_step-out.ensures c.loop-entry.invariant
