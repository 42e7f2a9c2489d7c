-- What the container shows of the past: its images, and what a crash might have left.
use Rattle.std.specs.Prelude.{◌≡◌, ◌⊎◌, ℕ, ◌≤◌, true, List, ◌++◌}
use Rattle.esr_core.specs.Entry.{Entry}
use Rattle.esr_core.specs.History.{AreTold}
use Rattle.esr_core.specs.Left.{Leaves}
use Rattle.esr_depot.specs.Image.{Image as Held}
use Rattle.esr_depot.specs.Look.{Look}
use Rattle.esr_desk.specs.Start.{Start, formats_of, world_of}
use Rattle.esr_repo.specs.Log.{image_of, ticks, log_of}

pub record IsPast (s : Start) (clock : ℕ) (past : ℕ → Held → Type 0) (l : Look) (es : List Entry) : Type 0 where
  -- it told its image at each moment
  pub told : s.tells ≡ true → AreTold (log_of l clock es)
  -- since a moment up to the start a crash might have left what it might have left by then, or what the history leaves
  pub before : (t : ℕ) (i : Held) → t ≤ clock → l.since t i → past t i ⊎ Leaves (formats_of s) s.part_size s.world (log_of l clock es) (image_of i)
  -- since the moment of an entry what the history leaves from there on
  pub since : (front back : List Entry) (i : Held) → es ≡ front ++ back → l.since (ticks clock front) i
      → Leaves (formats_of s) s.part_size (world_of s (log_of l clock front)) (log_of l (ticks clock front) back) (image_of i)
