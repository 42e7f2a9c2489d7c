-- The laws of steps on which a repository rests.
use Rattle.std.specs.Prelude.{◌≡◌, ◌≢◌, ◌⊎◌, ℕ, false, List, ◌++◌, Option}
use Rattle.esr_model.specs.Values.{Formats}
use Rattle.esr_model.specs.Image.{Image}
use Rattle.esr_core.specs.World.{World, record_of}
use Rattle.esr_core.specs.Entry.{Given, Gave, Step, Reply, Refusal, Refused, Moment}
use Rattle.esr_core.specs.After.{swaps_record, answered, after}
use Rattle.esr_core.specs.Allowed.{Blocks, Allowed}
use Rattle.esr_core.specs.Changes.{StepChange, StepFrame}
use Rattle.esr_core.specs.Causes.{RefusalCause, TakeGave}
use Rattle.esr_core.specs.History.{world_from}
use Rattle.esr_core.specs.Left.{Leaves}
use Rattle.esr_core.specs.Tracked.{Tracked}
use Rattle.esr_core.specs.Ranked.{Ranked}
use Rattle.esr_core.specs.ReadTracked.{ReadTracked}

pub record Laws : Type 0 where
  pub tracked : (f : Formats) (part_size : ℕ) (w : World) (m : Moment) → Tracked w → Allowed f part_size w m → Tracked (after f w m)
  pub ranked : (f : Formats) (part_size : ℕ) (w : World) (m : Moment) → Tracked w → Ranked w → Allowed f part_size w m → Ranked (after f w m)
  pub read_tracked : (f : Formats) (part_size : ℕ) (w : World) (m : Moment) → Tracked w → ReadTracked w → Allowed f part_size w m → ReadTracked (after f w m)
  -- what a crash might leave over a history it might leave over a longer one
  pub longer : (f : Formats) (part_size : ℕ) (w : World) (log rest : List Moment) (i : Image) → Leaves f part_size w log i → Leaves f part_size w (log ++ rest) i
  pub later : (f : Formats) (part_size : ℕ) (w : World) (before rest : List Moment) (i : Image) → Leaves f part_size (world_from f w before) rest i → Leaves f part_size w (before ++ rest) i
  pub record_stays : (f : Formats) (w : World) (m : Moment) → swaps_record m.entry.step ≡ false → record_of (after f w m) ≡ record_of w
  -- each step is one change, which leaves other tickets; each refusal has its cause, and each unit that was given was ready
  pub changes : (f : Formats) (w : World) (who : ℕ) (step : Step) (reply : Reply) (image : Option Image) → StepChange f w who step (answered f w who step reply image)
  pub frames : (f : Formats) (w : World) (m : Moment) → StepFrame w (after f w m) m.entry.who m.entry.step
  pub callers : (f : Formats) (part_size : ℕ) (w : World) (m : Moment) → Allowed f part_size w m → m.entry.who ≢ 0 → (after f w m).caller ≡ w.caller
  pub causes : (f : Formats) (part_size : ℕ) (w : World) (m : Moment) (refusal : Refusal) → Allowed f part_size w m → m.entry.reply ≡ Refused refusal
      → Blocks w m.entry.who m.entry.step refusal ⊎ RefusalCause f part_size w m.entry.who m.entry.step m.image refusal
  pub gave : (f : Formats) (part_size : ℕ) (w : World) (m : Moment) (k o : ℕ) (unit : Given) → Allowed f part_size w m → m.entry.reply ≡ Gave k o unit → TakeGave f w m.entry.who m.entry.step k o unit
