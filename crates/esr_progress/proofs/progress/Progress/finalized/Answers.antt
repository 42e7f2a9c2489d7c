use Rattle.esr_progress.proofs.Reporting.{settled_is}
use Rattle.esr_progress.proofs.progress.Progress.finalized.Goals as goal

pub returns : goal.returns
returns c = settled_is c.args.self.now c.in_ok-copy.copy c.settle.new.self c.args.ticket c.in_ok-copy.ensures c.requires c.settle.ensures
