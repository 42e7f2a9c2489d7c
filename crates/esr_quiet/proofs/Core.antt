-- The laws of the core on which histories over quiet objects rest.
use Rattle.std.specs.Prelude.{ℕ, List}
use Rattle.esr_model.specs.Values.{Formats}
use Rattle.esr_model.specs.Image.{Image}
use Rattle.esr_model.specs.Kept.{Kept}
use Rattle.esr_model.specs.Shelf.{Shelved, shelf_after}
use Rattle.esr_core.specs.World.{World, Opened}
use Rattle.esr_core.specs.Entry.{Moment}
use Rattle.esr_core.specs.History.{world_from, IsLegal, AreTold, committed}
use Rattle.esr_core.specs.Ids.{Law}
use Rattle.esr_core.specs.Tracked.{Tracked}
use Rattle.esr_core.specs.Ranked.{Ranked}

pub record CoreLaws : Type 0 where
  pub opened : (f : Formats) (image : Image) (shelf : List Shelved) (w : World) → Kept f image shelf → Opened f image w → Law f w shelf
  pub lawful : (f : Formats) (part_size : ℕ) (image : Image) (shelf : List Shelved) (w : World) (log : List Moment) → Kept f image shelf → Opened f image w → IsLegal f part_size w log → AreTold log
      → Law f (world_from f w log) (shelf_after shelf (committed f (world_from f w log).safe w log))
  pub tracked : (f : Formats) (part_size : ℕ) (w : World) (log : List Moment) → Tracked w → IsLegal f part_size w log → Tracked (world_from f w log)
  pub ranked : (f : Formats) (part_size : ℕ) (w : World) (log : List Moment) → Tracked w → Ranked w → IsLegal f part_size w log → Ranked (world_from f w log)
