-- How a check ends otherwise.
use Rattle.std.specs.Prelude.{◌≡◌, List, [], ◌∷◌, ◌++◌, Option}
use Rattle.esr_model.specs.Image.{Image}
use Rattle.esr_core.specs.World.{no_caller}
use Rattle.esr_core.specs.Entry.{LookStep, ReadStep, ReadFails, HasEnded, Refused, DeposedAt, Moment}
use Rattle.esr_desk.specs.declared.entry.Why.{Why}
use Rattle.esr_desk.specs.declared.fault.By.{By}
use Rattle.esr_desk.specs.declared.unit.UnitRefusal.{UnitRefusal}
use Rattle.esr_desk.specs.declared.unit.UnitRefusal.TheVariants as units
use Rattle.esr_desk.specs.declared.refusal.EntryRefusal.TheVariants as refusals
use Rattle.esr_desk.specs.declared.refusal.StepRefusal.{StepRefusal}
use Rattle.esr_desk.specs.declared.refusal.StepRefusal.TheVariants as steps
use Rattle.esr_desk.specs.Entries.{why_of}
use Rattle.esr_desk.specs.Start.{Start}
use Rattle.esr_desk.specs.Outcome.{Grounds}
use Rattle.esr_desk.specs.Last.{IsLast}
use Rattle.esr_desk.specs.Own.{caller_of}
use Rattle.esr_desk.specs.Evidence.{Evidence}
use Rattle.esr_desk.specs.Check.Shown.{IsCheckShown}
use Rattle.esr_check.specs.Began.{HasEndedCheck}
use Rattle.esr_check.specs.First.{NamesOne, FirstOf}

-- the history went on by one entry, which tells that the check failed, with a cause that was shown before it
pub record EndsFailed {S F H T : Type 0} (e : Evidence S F H T) (s : Start) (old new : List Moment) (why : Why) : Type 0 where
  pub image : Option Image
  pub is : new ≡ old ++ record { entry = record { who = 0; step = ReadStep (ReadFails (why_of why)); reply = HasEnded }; image = image } ∷ []
  pub by : By S F H T
  pub shown : IsCheckShown e s old 0 (why_of why) by
  -- all blobs before the one that it names agree
  pub first : NamesOne (FirstOf s old) (why_of why)

-- so it is with its last entry
abbrev pub HasFailed : {S F H T : Type 0} → Evidence S F H T → Start → List Moment → Why → Type 0
HasFailed e s log why = (front : List Moment) × EndsFailed e s front log why

-- Memory was wanting, or turns were spent; or its look, the last step, was refused since a record swap had failed, and nothing was
-- begun. For no other refusal it stops.
abbrev pub StopsCheck : Start → List Moment → List Moment → StepRefusal → Type 0
StopsCheck s old new steps.Memory = Unit {0}
StopsCheck s old new steps.TurnsSpent = Grounds s new 0 steps.TurnsSpent
StopsCheck s old new (steps.Refused (refusals.Deposed entry)) = IsLast new 0 LookStep (Refused (DeposedAt entry)) × (caller_of s new ≡ caller_of s old)
StopsCheck s old new (steps.Refused refusal) = ⊥

-- it has failed and ended, with the cause, after a look and fetches; or it stops, for nothing that is its own failure
abbrev pub IsCheckRefused : {S F H T : Type 0} → Evidence S F H T → Start → List Moment → List Moment → UnitRefusal → Type 0
IsCheckRefused e s old new (units.Failed why) = (caller_of s new ≡ no_caller) × HasFailed e s new why × HasEndedCheck old new
IsCheckRefused e s old new (units.Stopped refusal) = StopsCheck s old new refusal
IsCheckRefused e s old new units.Stale = ⊥
