-- A history over a kept container that tells its image. Any call may fail.
use Rattle.std.specs.Prelude.{◌≡◌, true, List, ◌++◌}
use Rattle.esr_model.specs.Shelf.{Shelved}
use Rattle.esr_model.specs.Image.{Image}
use Rattle.esr_model.specs.Kept.{Kept}
use Rattle.esr_core.specs.World.{Opened}
use Rattle.esr_core.specs.Entry.{Moment}
use Rattle.esr_core.specs.History.{AreTold}
use Rattle.esr_core.specs.Ids.{Law}
use Rattle.esr_desk.specs.Start.{Start, formats_of, world_of, Legal}

-- the container told its image, which was kept, at the start and at each moment
pub record OverKept (s : Start) (log : List Moment) : Type 0 where
  pub tells : s.tells ≡ true
  pub image : Image
  pub shelf : List Shelved
  pub kept : Kept (formats_of s) image shelf
  pub opened : Opened (formats_of s) image s.world
  pub legal : Legal s log
  pub told : AreTold log

-- and each world that it passes is lawful
pub record IsLawful (s : Start) (log : List Moment) : Type 0 where
  pub over : OverKept s log
  pub lawful : (front back : List Moment) → log ≡ front ++ back → (shelf : List Shelved) × Law (formats_of s) (world_of s front) shelf
