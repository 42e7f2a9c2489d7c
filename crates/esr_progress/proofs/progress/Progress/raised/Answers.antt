use Rattle.esr_progress.proofs.Reporting.{raised_is}
use Rattle.esr_progress.proofs.progress.Progress.raised.Goals as goal

pub returns : goal.returns
returns c = raised_is c.args.self.now c.in_ok-copy.copy c.raise.new.self c.args.ticket c.in_ok-copy.ensures c.requires c.args.generation c.raise.ensures
