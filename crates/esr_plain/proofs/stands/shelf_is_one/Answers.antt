use Rattle.esr_formats.specs.Formats.{formats}
use Rattle.esr_model.specs.Image.{At}
use Rattle.esr_plain.proofs.Blobs.{at_one}
use Rattle.esr_plain.proofs.Standing.{stands_one}
use Rattle.esr_plain.proofs.stands.shelf_is_one.Goals as goal

pub returns : goal.returns
returns c = λ known told blobs. let f = formats known told in stands_one f (At f blobs) (at_one f blobs)
