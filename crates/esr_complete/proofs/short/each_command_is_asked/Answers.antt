use Rattle.esr_complete.proofs.Lengths.{asks_few}
use Rattle.esr_complete.proofs.short.each_command_is_asked.Goals as goal

pub returns : goal.returns
returns c = asks_few
