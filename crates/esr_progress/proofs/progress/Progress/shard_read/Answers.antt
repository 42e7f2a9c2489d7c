use Rattle.esr_progress.proofs.Reading.{read_is}
use Rattle.esr_progress.proofs.progress.Progress.shard_read.Goals as goal

pub returns : goal.returns
returns c = read_is c.args.self.now c.in_ok-copy.copy c.end_reader.new.self c.args.ticket c.in_ok-copy.ensures c.requires c.end_reader.ensures
