-- What lines do that ask for one step, or look.
use Rattle.std.proofs.Common.{◌≡◌, true, List, Result, Ok, Err}
use Rattle.esr_core.specs.Tracked.{Tracked}
use Rattle.esr_core.specs.Entry.{Step, Reply, Moment}
use Rattle.esr_desk.specs.declared.refusal.StepRefusal.{StepRefusal}
use Rattle.esr_desk.specs.Start.{Start}
use Rattle.esr_desk.specs.Outcome.{Outcome}
use Rattle.esr_quiet.specs.Numbers.{HasNoTickets}
use Rattle.esr_run.specs.Laws.{StepsStay}
use Rattle.esr_run.specs.Made.{AsksLine}
use Rattle.esr_run.specs.Lines.{LineAsked}
use Rattle.esr_run.proofs.Making.{GivesNone, rests_by, spent_by}
use Rattle.esr_run.proofs.Verifying.{line_verifies}
use Rattle.esr_run.proofs.Taking.{line_takes}
use Rattle.esr_run.proofs.Alone.{line_asks}

-- the answer of the line by that of its step
abbrev pub line_answer : {X : Type 0} → Result X StepRefusal → Result (Unit {0}) StepRefusal
line_answer (Ok x) = Ok tt
line_answer (Err e) = Err e

pub line_asked : {X : Type 0} (laws : StepsStay) (s : Start) (numbered : HasNoTickets s) (ops : Tracked s.world) (alone : s.alone ≡ true) (earlier : s.earlier_turns ≡ 0)
    (old new : List Moment) (step : Step) (ok : X → Reply) (result : Result X StepRefusal) → AsksLine step → ((x : X) → GivesNone (ok x))
    → Outcome s old new 0 step ok result → LineAsked s old new (line_answer result)
line_asked laws s numbered ops alone earlier old new step ok (Ok x) asks none h = record {
  rests = rests_by laws s numbered ops alone earlier old new step ok (Ok x) asks none h;
  spent = tt;
  takes = line_takes s old new step ok (Ok x) asks alone h;
  only = line_asks s old new step ok (Ok x) asks alone h;
  verified = λ workers checks may. line_verifies s workers checks old new step ok (Ok x) asks alone h may;
}
line_asked laws s numbered ops alone earlier old new step ok (Err e) asks none h = record {
  rests = rests_by laws s numbered ops alone earlier old new step ok (Err e) asks none h;
  spent = spent_by s old new step ok (Err e) earlier h;
  takes = line_takes s old new step ok (Err e) asks alone h;
  only = line_asks s old new step ok (Err e) asks alone h;
  verified = λ workers checks may. line_verifies s workers checks old new step ok (Err e) asks alone h may;
}
