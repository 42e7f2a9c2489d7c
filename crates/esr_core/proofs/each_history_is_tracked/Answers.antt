use Rattle.esr_core.proofs.TrackingSteps.{tracked_history}
use Rattle.esr_core.proofs.each_history_is_tracked.Goals as goal

pub returns : goal.returns
returns c = λ f size w log l legal. tracked_history f size log w l legal
