use Rattle.esr_core.proofs.TrackingSteps.{tracked_step}
use Rattle.esr_core.proofs.each_step_is_tracked.Goals as goal

pub returns : goal.returns
returns c = tracked_step
