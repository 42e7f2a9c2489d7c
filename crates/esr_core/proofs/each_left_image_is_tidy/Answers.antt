use Rattle.esr_core.proofs.TidyHistories.{left_tidy_image}
use Rattle.esr_core.proofs.each_left_image_is_tidy.Goals as goal

pub returns : goal.returns
returns c = λ f size shelf w log i l tidy back legal told left. left_tidy_image f size log w shelf i l tidy back legal told left
