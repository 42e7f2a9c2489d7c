use Rattle.esr_progress.proofs.Reporting.{ended_is}
use Rattle.esr_progress.proofs.progress.Progress.ended.Goals as goal

pub returns : goal.returns
returns c = ended_is c.args.self.now c.in_ok-copy.copy c.end.new.self c.args.ticket c.in_ok-copy.ensures c.requires c.end.ensures
