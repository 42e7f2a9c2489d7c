use Rattle.esr_core.proofs.ReadLaws.{turn_read}
use Rattle.esr_core.proofs.restores_stay.Goals as goal

pub returns : goal.returns
returns c = turn_read
