use Rattle.esr_core.proofs.Determined.{kept_one}
use Rattle.esr_core.proofs.shelf_is_determined.Goals as goal

pub returns : goal.returns
returns c = kept_one
