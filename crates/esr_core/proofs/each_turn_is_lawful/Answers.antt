use Rattle.esr_core.proofs.Turning.{turn_law}
use Rattle.esr_core.proofs.each_turn_is_lawful.Goals as goal

pub returns : goal.returns
returns c = turn_law
