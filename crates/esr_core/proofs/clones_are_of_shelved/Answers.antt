use Rattle.esr_core.proofs.Copying.{clone_shelved}
use Rattle.esr_core.proofs.clones_are_of_shelved.Goals as goal

pub returns : goal.returns
returns c = clone_shelved
