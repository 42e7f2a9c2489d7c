use Rattle.esr_core.proofs.ReadEnding.{can_end}
use Rattle.esr_core.proofs.each_reader_can_end.Goals as goal

pub returns : goal.returns
returns c = can_end
