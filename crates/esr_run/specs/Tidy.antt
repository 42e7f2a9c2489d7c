-- From a tidy image on each image of a run is tidy, and each delete dooms exactly what it leaves behind.
use Rattle.std.specs.Prelude.{◌≡◌, ℕ, true, false, List, ◌∷◌, ◌++◌, Some}
use Rattle.esr_model.specs.Values.{Formats, ReadsBack}
use Rattle.esr_model.specs.Image.{Image}
use Rattle.esr_model.specs.Shelf.{Shelved}
use Rattle.esr_model.specs.Kept.{Kept}
use Rattle.esr_core.specs.World.{World, record_of, Opened}
use Rattle.esr_core.specs.Entry.{SettlePruned, PruneStep, Moment}
use Rattle.esr_core.specs.Allowed.{SettlesDeletion}
use Rattle.esr_core.specs.History.{world_from, IsLegal, AreTold, counts}
use Rattle.esr_core.specs.Ids.{Law}
use Rattle.esr_core.specs.Left.{Leaves}
use Rattle.esr_core.specs.Tidy.{TidyIn, TidyImage, DoomsExactly}
use Rattle.esr_depot.specs.Image.{Image as Held}
use Rattle.esr_depot.specs.Look.{Look, now}
use Rattle.esr_repo.specs.Log.{image_of}
use Rattle.esr_run.specs.Images.{Holds}

-- the image that the container tells, if it tells one, is tidy: nothing was written yet, or a run from such an image left it
abbrev pub IsTidyAt : Formats → Look → Type 0
IsTidyAt f l = (i : Held) → now l ≡ Some i → TidyImage f (image_of i)

-- no command was carried out: from a tidy image on each image since the entry is tidy
abbrev pub StaysTidy : Formats → Look → Look → Type 0
StaysTidy f before after = IsTidyAt f before → (i : Held) → after.since before.clock i → TidyImage f (image_of i)

-- from a kept and tidy image on each image since the entry is tidy
abbrev pub EveryImageTidy : Formats → Look → Look → Type 0
EveryImageTidy f before after = (shelf : List Shelved) → Holds f before shelf → IsTidyAt f before → (i : Held) → after.since before.clock i → TidyImage f (image_of i)

-- the image at the end is tidy, too: so a run may begin with it
abbrev pub EndTidy : Formats → Look → Look → Type 0
EndTidy f before after = (shelf : List Shelved) → Holds f before shelf → IsTidyAt f before → IsTidyAt f after

-- From a kept and tidy image on each settle of a delete that was answered, or whose call failed, dooms exactly what it leaves: what
-- the safe root reached and its new root doesn't, and the safe root's own name.
abbrev pub EachDoomsExactly : Formats → World → List Moment → Look → Type 0
EachDoomsExactly f world log before =
    (shelf : List Shelved) → Holds f before shelf → IsTidyAt f before → (front back : List Moment) (m : Moment) → log ≡ front ++ m ∷ back → m.entry.step ≡ PruneStep SettlePruned → counts m.entry.reply ≡ true
    → (s : SettlesDeletion f (world_from f world front) m.entry.who) × (s.t.clean ≡ false → DoomsExactly f (world_from f world front) m.entry.who s)

-- the laws of the core on tidy images
pub record TidyLaws : Type 0 where
  pub opened : (f : Formats) (image : Image) (w : World) → TidyImage f image → Opened f image w → TidyIn f w
  pub left : (f : Formats) (part_size : ℕ) (shelf : List Shelved) (w : World) (log : List Moment) (i : Image) → Law f w shelf → TidyIn f w → ReadsBack f.cluster (record_of w) → IsLegal f part_size w log
      → AreTold log → Leaves f part_size w log i → TidyImage f i
  pub dooms : (f : Formats) (part_size : ℕ) (image : Image) (shelf : List Shelved) (w : World) (before rest : List Moment) (m : Moment) → Kept f image shelf → TidyImage f image
      → Opened f image w → IsLegal f part_size w (before ++ m ∷ rest) → AreTold (before ++ m ∷ rest) → m.entry.step ≡ PruneStep SettlePruned → counts m.entry.reply ≡ true
      → (s : SettlesDeletion f (world_from f w before) m.entry.who) × (s.t.clean ≡ false → DoomsExactly f (world_from f w before) m.entry.who s)
