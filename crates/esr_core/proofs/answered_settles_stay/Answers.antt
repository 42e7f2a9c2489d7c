use Rattle.esr_core.proofs.SafeRoots.{settle_stays}
use Rattle.esr_core.proofs.answered_settles_stay.Goals as goal

pub returns : goal.returns
returns c = settle_stays
