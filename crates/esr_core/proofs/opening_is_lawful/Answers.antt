use Rattle.esr_core.proofs.Lists.{opening_law}
use Rattle.esr_core.proofs.opening_is_lawful.Goals as goal

pub returns : goal.returns
returns c = opening_law
