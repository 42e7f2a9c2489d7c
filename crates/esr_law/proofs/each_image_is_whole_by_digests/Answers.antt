use Rattle.esr_model.specs.Shelf.{shelf_after}
use Rattle.esr_core.specs.History.{committed}
use Rattle.esr_core.specs.Left.{safe_in}
use Rattle.esr_law.proofs.each_image_is_whole_by_digests.Goals as goal

pub returns : goal.returns
returns c = λ f size image shelf w log i kept opened back legal told left.
    c.kept_images_are_whole_by_digests.ensures f i (shelf_after shelf (committed f (safe_in f i) w log)) (c.each_left_image_is_kept.ensures f size image shelf w log i kept opened back legal told left)
