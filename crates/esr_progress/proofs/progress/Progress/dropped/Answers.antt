use Rattle.esr_progress.proofs.Reporting.{dropped_is}
use Rattle.esr_progress.proofs.progress.Progress.dropped.Goals as goal

pub returns : goal.returns
returns c = dropped_is c.args.self.now c.in_ok-copy.copy c.drop_op.new.self c.args.ticket c.in_ok-copy.ensures c.requires c.drop_op.ensures
