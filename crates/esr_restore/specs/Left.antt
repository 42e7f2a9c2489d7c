-- The target that is given back where a shard isn't restored.
use Rattle.std.specs.Prelude.{◌≡◌, ℕ, List, Option, Some, None}
use Rattle.esr_core.specs.Entry.{OfTarget, ReadFails, ReadStep, Refusal, Refused, Moment}
use Rattle.esr_source.specs.Told.{TargetTold}
use Rattle.esr_desk.specs.declared.entry.Why.TheVariants as whys
use Rattle.esr_desk.specs.declared.unit.UnitRefusal.{UnitRefusal}
use Rattle.esr_desk.specs.declared.unit.UnitRefusal.TheVariants as units
use Rattle.esr_desk.specs.Refusals.{told_refusal}
use Rattle.esr_desk.specs.Start.{Start}
use Rattle.esr_desk.specs.Last.{IsLast}
use Rattle.esr_desk.specs.Own.{reader_of}
use Rattle.esr_desk.specs.Restore.First.{HasFirst}
use Rattle.esr_desk.specs.Restore.Shown.{IsFor}

-- the ticket's last step, the report that its target failed, was refused so, if the history tells it
abbrev pub WasReportRefused : List Moment → ℕ → Option Refusal → Type 0
WasReportRefused log who None = Unit {0}
WasReportRefused log who (Some refusal) = IsLast log who (ReadStep (ReadFails OfTarget)) (Refused refusal)

-- None is given back: the target failed, and the report took it, which ended the ticket or was refused; or memory was wanting, as where
-- none was made, or turns were spent.
abbrev pub IsTaken : List Moment → ℕ → UnitRefusal → Type 0
IsTaken log who (units.Failed why) = why ≡ whys.Target
IsTaken log who (units.Stopped refusal) = WasReportRefused log who (told_refusal refusal)
IsTaken log who units.Stale = ⊥

-- the target that is given back is the shard's own, and has the files that were ended before
abbrev pub IsLeft : {T : Type 0} → (T → TargetTold) → Start → List Moment → ℕ → UnitRefusal → Option T → Type 0
IsLeft told s log who refusal None = IsTaken log who refusal
IsLeft told s log who refusal (Some target) = IsFor (reader_of s log who) (told target).made_for × HasFirst s (reader_of s log who) (told target).files
