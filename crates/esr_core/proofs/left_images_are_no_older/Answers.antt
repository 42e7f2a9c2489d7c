use Rattle.esr_core.proofs.Left.{left_lasts}
use Rattle.esr_core.proofs.left_images_are_no_older.Goals as goal

pub returns : goal.returns
returns c = λ f size shelf w log i l back legal told left. (left_lasts f size log w shelf i l back legal told left).rises
