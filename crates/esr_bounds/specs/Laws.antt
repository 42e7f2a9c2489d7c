-- The core's laws of steps, over any container, that the bounds rest on.
use Rattle.std.specs.Prelude.{◌≡◌, ◌≢◌, ◌⊎◌, ℕ, true, false, List, ◌∷◌, Option}
use Rattle.esr_model.specs.Values.{Formats}
use Rattle.esr_model.specs.Image.{Image}
use Rattle.esr_core.specs.World.{World}
use Rattle.esr_core.specs.Past.{is_counted, with_entry, begins_anew, entries_by}
use Rattle.esr_core.specs.Tracked.{Tracked}
use Rattle.esr_core.specs.ReadTracked.{ReadTracked}
use Rattle.esr_core.specs.Changes.{StepFrame, StepChange, Maker}
use Rattle.esr_core.specs.Entry.{Step, Reply, Entry, Moment}
use Rattle.esr_core.specs.After.{answered, after}
use Rattle.esr_core.specs.Allowed.{IsBlocked, Allowed}

-- of a step, and of the entries of a ticket
pub record StepLaws (f : Formats) (size : ℕ) : Type 0 where
  pub tracks : (w : World) (m : Moment) → Tracked w → Allowed f size w m → Tracked (after f w m)
  pub reads : (w : World) (m : Moment) → Tracked w → ReadTracked w → Allowed f size w m → ReadTracked (after f w m)
  pub frame : (w : World) (m : Moment) → StepFrame w (after f w m) m.entry.who m.entry.step
  pub maker : (w : World) (m : Moment) → Allowed f size w m → Maker w m.entry.who m.entry.step ⊎ IsBlocked w m
  pub others : (entries : List Entry) (e : Entry) (who : ℕ) → who ≢ e.who → entries_by (with_entry entries e) who ≡ entries_by entries who
  pub own : (entries : List Entry) (e : Entry) → is_counted e.reply ≡ true → begins_anew e.who e.step ≡ false
      → entries_by (with_entry entries e) e.who ≡ e ∷ entries_by entries e.who

-- of a step, and of what it changes
pub record MasterLaws (f : Formats) (size : ℕ) : Type 0 where
  pub tracks : (w : World) (m : Moment) → Tracked w → Allowed f size w m → Tracked (after f w m)
  pub reads : (w : World) (m : Moment) → Tracked w → ReadTracked w → Allowed f size w m → ReadTracked (after f w m)
  pub frame : (w : World) (m : Moment) → StepFrame w (after f w m) m.entry.who m.entry.step
  pub maker : (w : World) (m : Moment) → Allowed f size w m → Maker w m.entry.who m.entry.step ⊎ IsBlocked w m
  pub change : (w : World) (who : ℕ) (step : Step) (reply : Reply) (image : Option Image) → StepChange f w who step (answered f w who step reply image)
