-- The laws of histories on which the work rests.
use Rattle.std.specs.Prelude.{◌≡◌, ℕ, List, Option}
use Rattle.esr_model.specs.Values.{Formats}
use Rattle.esr_model.specs.Image.{Image}
use Rattle.esr_core.specs.World.{World}
use Rattle.esr_core.specs.Entry.{Step, Given, Reply, Gave, Refusal, Refused, Moment}
use Rattle.esr_core.specs.After.{answered, after}
use Rattle.esr_core.specs.Allowed.{Allowed}
use Rattle.esr_core.specs.Refusing.{RefusedSo}
use Rattle.esr_core.specs.Changes.{StepChange, StepFrame}
use Rattle.esr_core.specs.Causes.{TakeGave}
use Rattle.esr_core.specs.History.{world_from, IsLegal}
use Rattle.esr_core.specs.Tracked.{Tracked}
use Rattle.esr_core.specs.ReadTracked.{ReadTracked}

pub record Laws : Type 0 where
  -- of one step
  pub refused : (f : Formats) (part_size : ℕ) (w : World) (m : Moment) (refusal : Refusal) → Allowed f part_size w m → m.entry.reply ≡ Refused refusal → RefusedSo w m.entry.who m.entry.step refusal
  pub change : (f : Formats) (w : World) (who : ℕ) (step : Step) (reply : Reply) (image : Option Image) → StepChange f w who step (answered f w who step reply image)
  pub frame : (f : Formats) (w : World) (m : Moment) → StepFrame w (after f w m) m.entry.who m.entry.step
  pub gave : (f : Formats) (part_size : ℕ) (w : World) (m : Moment) (k o : ℕ) (unit : Given) → Allowed f part_size w m → m.entry.reply ≡ Gave k o unit → TakeGave f w m.entry.who m.entry.step k o unit
  -- of histories
  pub tracked : (f : Formats) (part_size : ℕ) (w : World) (log : List Moment) → Tracked w → IsLegal f part_size w log → Tracked (world_from f w log)
  pub reads : (f : Formats) (part_size : ℕ) (w : World) (log : List Moment) → Tracked w → ReadTracked w → IsLegal f part_size w log → ReadTracked (world_from f w log)
