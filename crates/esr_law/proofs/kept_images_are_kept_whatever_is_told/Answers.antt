use Rattle.esr_law.proofs.Retold.{kept_again}
use Rattle.esr_law.proofs.kept_images_are_kept_whatever_is_told.Goals as goal

pub returns : goal.returns
returns c = kept_again
