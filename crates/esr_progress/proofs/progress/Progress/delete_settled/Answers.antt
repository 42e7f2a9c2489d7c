use Rattle.esr_progress.proofs.Reporting.{delete_settled_is}
use Rattle.esr_progress.proofs.progress.Progress.delete_settled.Goals as goal

pub returns : goal.returns
returns c = delete_settled_is c.args.self.now c.in_ok-copy.copy c.settle_delete.new.self c.args.ticket c.in_ok-copy.ensures c.requires c.settle_delete.ensures
