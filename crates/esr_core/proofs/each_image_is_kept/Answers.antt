use Rattle.esr_core.proofs.Histories.{each_image}
use Rattle.esr_core.proofs.Lists.{opening_law}
use Rattle.esr_core.proofs.each_image_is_kept.Goals as goal

pub returns : goal.returns
returns c = λ f size image shelf w log rest m i kept opened told legal tells. each_image f size log rest w shelf m i (opening_law f image shelf w kept opened) told legal tells
