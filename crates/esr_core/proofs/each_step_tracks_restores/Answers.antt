use Rattle.esr_core.proofs.ReadSteps.{read_step_tracked}
use Rattle.esr_core.proofs.each_step_tracks_restores.Goals as goal

pub returns : goal.returns
returns c = read_step_tracked
