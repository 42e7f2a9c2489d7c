-- A run in which nothing fails.
use Rattle.std.specs.Prelude.{◌≡◌, ℕ, ◌^◌, ◌<◌, List, length}
use Rattle.esr_core.specs.Entry.{Moment}
use Rattle.esr_script.specs.declared.item.ScriptLine.{ScriptLine}
use Rattle.esr_desk.specs.Start.{Start}
use Rattle.esr_quiet.specs.Asked.{asked_steps}
use Rattle.esr_quiet.specs.Smooth.{IsSmooth, NoneFailed, NoneUndeleted, NoneUnrestored, NoneUnverified}
use Rattle.esr_quiet.specs.Refusals.{AreByRule}
use Rattle.esr_complete.specs.Lines.{steps_of, failovers_of, entries_of, elections_of}
use Rattle.esr_complete.specs.InTurn.{IsInTurn, AreChecksInTurn}
use Rattle.esr_complete.specs.Answers.{IsIdle}

-- The lines were carried out over quiet objects that tell: what was asked is what they ask for, as many masters were elected as they
-- ask for, no unit, delete, restore, check or verification failed, rules alone refused steps, the units were worked until none was
-- ready, and fewer entries were made than turns last for.
pub record IsFaultFreeRun (s : Start) (log : List Moment) (lines : List ScriptLine) (moment : ℕ) : Type 0 where
  pub smooth : IsSmooth s log
  pub units : NoneFailed log
  pub deletes : NoneUndeleted s log
  pub restores : NoneUnrestored log
  pub verifies : NoneUnverified log
  pub checks : AreChecksInTurn moment lines log
  pub by_rule : AreByRule s log
  pub in_turn : IsInTurn s log
  pub idle : IsIdle s log
  pub elected : elections_of (entries_of log) ≡ failovers_of lines
  pub asked : asked_steps log ≡ steps_of moment lines
  pub short : length log < 2 ^ 33
