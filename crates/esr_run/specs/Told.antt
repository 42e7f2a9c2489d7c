-- A container that tells its image as a run begins tells it at each moment of the run, and is kept at its end.
use Rattle.std.specs.Prelude.{◌≡◌, ℕ, true, List, Some, is_some}
use Rattle.esr_model.specs.Values.{Formats}
use Rattle.esr_model.specs.Shelf.{Shelved, shelf_after}
use Rattle.esr_model.specs.Kept.{Kept}
use Rattle.esr_core.specs.World.{World}
use Rattle.esr_core.specs.Entry.{Entry, Moment}
use Rattle.esr_core.specs.History.{AreTold, committed}
use Rattle.esr_core.specs.Left.{safe_in}
use Rattle.esr_depot.specs.Image.{Image as Held}
use Rattle.esr_depot.specs.Look.{Look, now}
use Rattle.esr_repo.specs.Log.{image_of, log_of}
use Rattle.esr_run.specs.Images.{Holds}

-- each step of the history, counted from this clock on, has the image that it left, and the end of the run has its own
pub record AllTold (clock : ℕ) (history : List Entry) (after : Look) : Type 0 where
  pub moments : AreTold (log_of after clock history)
  pub ends : is_some (now after) ≡ true

-- each step's image is known where the container tells as the run begins
abbrev pub StaysTold : Look → ℕ → List Entry → Look → Type 0
StaysTold before clock history after = is_some (now before) ≡ true → AllTold clock history after

-- the image at the end is kept for the shelf of the entry with the commands that count in it: so a run may begin with it
abbrev pub EndKept : Formats → World → List Moment → Look → Look → Type 0
EndKept f world log before after =
    (shelf : List Shelved) → Holds f before shelf → (i : Held) → now after ≡ Some i → Kept f (image_of i) (shelf_after shelf (committed f (safe_in f (image_of i)) world log))
