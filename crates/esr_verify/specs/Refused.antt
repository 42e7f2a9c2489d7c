-- How a verification ends otherwise.
use Rattle.std.specs.Prelude.{◌≡◌, List}
use Rattle.esr_core.specs.World.{no_caller}
use Rattle.esr_core.specs.Entry.{ReadStep, DrawTest, Refused, DeposedAt, Moment}
use Rattle.esr_desk.specs.declared.hand.Hand.TheVariants as hands
use Rattle.esr_desk.specs.declared.unit.UnitRefusal.{UnitRefusal}
use Rattle.esr_desk.specs.declared.unit.UnitRefusal.TheVariants as units
use Rattle.esr_desk.specs.declared.refusal.EntryRefusal.TheVariants as refusals
use Rattle.esr_desk.specs.declared.refusal.StepRefusal.{StepRefusal}
use Rattle.esr_desk.specs.declared.refusal.StepRefusal.TheVariants as steps
use Rattle.esr_desk.specs.Start.{Start}
use Rattle.esr_desk.specs.Own.{caller_of}
use Rattle.esr_desk.specs.Outcome.{Grounds}
use Rattle.esr_desk.specs.Last.{IsLast}
use Rattle.esr_desk.specs.Evidence.{Evidence}
use Rattle.esr_unit.specs.Fail.{HasFailed}

-- Memory was wanting, or turns were spent; or its draw, the last step, was refused since a record swap had failed, and nothing was
-- begun. For no other refusal it stops.
abbrev pub StopsVerify : Start → List Moment → List Moment → StepRefusal → Type 0
StopsVerify s old new steps.Memory = Unit {0}
StopsVerify s old new steps.TurnsSpent = Grounds s new 0 steps.TurnsSpent
StopsVerify s old new (steps.Refused (refusals.Deposed entry)) = IsLast new 0 (ReadStep DrawTest) (Refused (DeposedAt entry)) × (caller_of s new ≡ caller_of s old)
StopsVerify s old new (steps.Refused refusal) = ⊥

-- it has failed and ended, with the cause; or it stops, for nothing that is its own failure
abbrev pub IsVerifyRefused : {S F H T : Type 0} → Evidence S F H T → Start → List Moment → List Moment → UnitRefusal → Type 0
IsVerifyRefused e s old new (units.Failed why) = (caller_of s new ≡ no_caller) × HasFailed hands.Verify e s new 0 why
IsVerifyRefused e s old new (units.Stopped refusal) = StopsVerify s old new refusal
IsVerifyRefused e s old new units.Stale = ⊥
