use Rattle.esr_progress.proofs.Reporting.{delete_failed_is}
use Rattle.esr_progress.proofs.progress.Progress.delete_failed.Goals as goal

pub returns : goal.returns
returns c = delete_failed_is c.args.self.now c.in_ok-copy.copy c.fail_delete.new.self c.args.ticket c.in_ok-copy.ensures c.requires c.args.term c.fail_delete.ensures
