use Rattle.esr_core.proofs.TidyHistories.{opened_tidy}
use Rattle.esr_core.proofs.opened_worlds_are_tidy.Goals as goal

pub returns : goal.returns
returns c = opened_tidy
