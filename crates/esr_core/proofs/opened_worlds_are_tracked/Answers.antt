use Rattle.esr_core.proofs.TrackingSteps.{tracked_opened}
use Rattle.esr_core.proofs.opened_worlds_are_tracked.Goals as goal

pub returns : goal.returns
returns c = tracked_opened
