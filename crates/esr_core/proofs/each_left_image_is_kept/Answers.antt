use Rattle.esr_core.proofs.Left.{left_kept}
use Rattle.esr_core.proofs.Lists.{opening_law}
use Rattle.esr_core.proofs.each_left_image_is_kept.Goals as goal

pub returns : goal.returns
returns c = λ f size image shelf w log i kept opened back legal told left. left_kept f size log w shelf i (opening_law f image shelf w kept opened) back legal told left
