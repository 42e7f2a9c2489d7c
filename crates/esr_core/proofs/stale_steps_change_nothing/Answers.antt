use Rattle.esr_core.proofs.Histories.{stale_stays}
use Rattle.esr_core.proofs.stale_steps_change_nothing.Goals as goal

pub returns : goal.returns
returns c = stale_stays
