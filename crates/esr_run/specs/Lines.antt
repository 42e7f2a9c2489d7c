-- What a line does that asks for one step, or looks.
use Rattle.std.specs.Prelude.{◌≡◌, ℕ, Bool, List, Result}
use Rattle.esr_core.specs.Entry.{Moment}
use Rattle.esr_desk.specs.declared.refusal.StepRefusal.{StepRefusal}
use Rattle.esr_desk.specs.Start.{Start}
use Rattle.esr_drive.specs.Takes.{idle_takes}
use Rattle.esr_run.specs.Made.{AreIn, LineRests, LineSpends, AsksOnly}
use Rattle.esr_run.specs.Verified.{MayVerify, VerifiesOn}

-- It adds no more than what it asks for, and leaves what tickets and verifications are.
pub record LineAsked (s : Start) (old new : List Moment) (result : Result (Unit {0}) StepRefusal) : Type 0 where
  pub rests : AreIn s old → LineRests s new result
  pub spent : LineSpends new result
  pub takes : idle_takes new ≡ idle_takes old
  pub only : AsksOnly old new
  pub verified : (workers : ℕ) (checks : Bool) → MayVerify s workers checks old → VerifiesOn s workers checks new result
