use Rattle.esr_law.proofs.Whole.{kept_whole}
use Rattle.esr_law.proofs.kept_images_are_whole_by_digests.Goals as goal

pub returns : goal.returns
returns c = kept_whole
