use Rattle.esr_opening.proofs.KeptFinds.{kept_opens}
use Rattle.esr_opening.proofs.laws.kept_images_open.Goals as goal

pub returns : goal.returns
returns c = kept_opens
