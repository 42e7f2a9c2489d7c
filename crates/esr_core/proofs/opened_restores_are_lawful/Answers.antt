use Rattle.esr_core.proofs.ReadLaws.{read_opened}
use Rattle.esr_core.proofs.opened_restores_are_lawful.Goals as goal

pub returns : goal.returns
returns c = read_opened
