use Rattle.esr_core.proofs.Laws.{kept_of}
use Rattle.esr_core.proofs.lawful_image_is_kept.Goals as goal

pub returns : goal.returns
returns c = kept_of
