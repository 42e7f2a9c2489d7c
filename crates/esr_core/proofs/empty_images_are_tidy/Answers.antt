use Rattle.esr_core.proofs.TidyHistories.{empty_tidy}
use Rattle.esr_core.proofs.empty_images_are_tidy.Goals as goal

pub returns : goal.returns
returns c = empty_tidy
