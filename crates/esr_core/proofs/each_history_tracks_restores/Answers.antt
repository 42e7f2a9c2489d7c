use Rattle.esr_core.proofs.ReadSteps.{read_history_tracked}
use Rattle.esr_core.proofs.each_history_tracks_restores.Goals as goal

pub returns : goal.returns
returns c = λ f size w log t l legal. read_history_tracked f size log w t l legal
