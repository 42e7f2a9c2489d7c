-- How a unit that could not do its work has ended.
use Rattle.std.specs.Prelude.{◌≡◌, ℕ, List, [], ◌∷◌, ◌++◌, Option}
use Rattle.esr_model.specs.Image.{Image}
use Rattle.esr_core.specs.Entry.{HasEnded, Moment}
use Rattle.esr_desk.specs.declared.hand.Hand.{Hand}
use Rattle.esr_desk.specs.declared.entry.Why.{Why}
use Rattle.esr_desk.specs.declared.fault.By.{By}
use Rattle.esr_desk.specs.declared.refusal.StepRefusal.{StepRefusal}
use Rattle.esr_desk.specs.declared.unit.UnitRefusal.{UnitRefusal}
use Rattle.esr_desk.specs.declared.unit.UnitRefusal.TheVariants as units
use Rattle.esr_desk.specs.Entries.{why_of}
use Rattle.esr_desk.specs.Start.{Start}
use Rattle.esr_desk.specs.Own.{own_of}
use Rattle.esr_desk.specs.Refusals.{told_refusal}
use Rattle.esr_desk.specs.Outcome.{Stepped, Refusing}
use Rattle.esr_desk.specs.Hands.{fail_step, own_failed}
use Rattle.esr_desk.specs.Halts.{Halts}
use Rattle.esr_desk.specs.Evidence.{Evidence}
use Rattle.esr_desk.specs.Shown.{IsShown}
use Rattle.esr_unit.specs.declared.ending.Ending.{Ending}
use Rattle.esr_unit.specs.declared.ending.Ending.TheVariants as endings

-- the last entry tells that it failed, with a cause that was shown before it
pub record HasFailed {S F H T : Type 0} (hand : Hand) (e : Evidence S F H T) (s : Start) (log : List Moment) (who : ℕ) (why : Why) : Type 0 where
  pub front : List Moment
  pub image : Option Image
  pub is : log ≡ front ++ record { entry = record { who = who; step = fail_step hand (why_of why); reply = HasEnded }; image = image } ∷ []
  pub by : By S F H T
  pub shown : IsShown hand e s front who (why_of why) by

-- the report was refused so, and nothing of its own has changed: memory was wanting, turns were spent, or a record swap had failed
pub record IsUnreported (s : Start) (old new : List Moment) (who : ℕ) (refusal : StepRefusal) : Type 0 where
  pub same : own_of s new who ≡ own_of s old who
  pub halts : Halts s new who refusal

-- It has failed and ended, or the report of that was refused; or it was stopped.
abbrev pub GivenUp : {S F H T : Type 0} → Hand → Evidence S F H T → Start → List Moment → List Moment → ℕ → Ending S F H T → UnitRefusal → Type 0
GivenUp hand e s old new who (endings.Failed why b) (units.Failed told) = (told ≡ why) × (own_of s new who ≡ own_failed hand (own_of s old who)) × HasFailed hand e s new who why
GivenUp hand e s old new who (endings.Failed why b) (units.Stopped refusal) = IsUnreported s old new who refusal
GivenUp hand e s old new who (endings.Stopped refusal) (units.Stopped told) = (told ≡ refusal) × (new ≡ old)
GivenUp hand e s old new who ending result = ⊥

-- One step was made, by which it was told that it failed, or that was refused; where it was stopped there was none.
abbrev pub IsReported : {S F H T : Type 0} → Hand → Start → List Moment → List Moment → ℕ → Ending S F H T → UnitRefusal → Type 0
IsReported hand s old new who (endings.Failed why b) (units.Failed told) = Stepped s old new who (fail_step hand (why_of why)) HasEnded
IsReported hand s old new who (endings.Failed why b) (units.Stopped refusal) = Refusing s old new who (fail_step hand (why_of why)) (told_refusal refusal)
IsReported hand s old new who ending result = new ≡ old
