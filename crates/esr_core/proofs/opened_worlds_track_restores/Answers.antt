use Rattle.esr_core.proofs.ReadSteps.{read_opened_tracked}
use Rattle.esr_core.proofs.opened_worlds_track_restores.Goals as goal

pub returns : goal.returns
returns c = read_opened_tracked
