use Rattle.esr_core.proofs.ReadSteps.{restore_ready}
use Rattle.esr_core.proofs.each_restore_goes_on.Goals as goal

pub returns : goal.returns
returns c = restore_ready
