use Rattle.esr_progress.proofs.Reporting.{failed_is}
use Rattle.esr_progress.proofs.progress.Progress.unit_failed.Goals as goal

pub returns : goal.returns
returns c = failed_is c.args.self.now c.in_ok-copy.copy c.fail.new.self c.args.ticket c.in_ok-copy.ensures c.requires c.args.term c.fail.ensures
