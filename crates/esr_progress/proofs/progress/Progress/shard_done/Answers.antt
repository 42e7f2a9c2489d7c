use Rattle.esr_results.specs.Results.{result_of}
use Rattle.esr_progress.proofs.Reporting.{done_is}
use Rattle.esr_progress.proofs.progress.Progress.shard_done.Goals as goal

pub returns : goal.returns
returns c = done_is c.args.self.now c.in_ok-copy.copy c.finish.new.self c.args.ticket c.in_ok-copy.ensures c.requires (result_of c.args.outcome.now) c.in_ok-finish.ensures
