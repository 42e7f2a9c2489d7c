use Rattle.esr_core.proofs.Refusing.{refused_so}
use Rattle.esr_core.proofs.refusals_are_of_their_steps.Goals as goal

pub returns : goal.returns
returns c = refused_so
