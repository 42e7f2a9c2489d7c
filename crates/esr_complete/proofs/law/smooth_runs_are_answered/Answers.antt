use Rattle.esr_desk.specs.Start.{Start}
use Rattle.esr_core.specs.Entry.{Moment}
use Rattle.esr_script.specs.declared.item.ScriptLine.{ScriptLine}
use Rattle.std.proofs.Common.{ℕ, List}
use Rattle.esr_report.specs.Replies.{replies}
use Rattle.esr_complete.specs.Lines.{entries_of}
use Rattle.esr_complete.specs.Answers.{AreAnswered}
use Rattle.esr_complete.specs.FaultFree.{IsFaultFreeRun}
use Rattle.esr_complete.proofs.Histories.{Laws}
use Rattle.esr_complete.proofs.InTurn.{entries_in_turn}
use Rattle.esr_complete.proofs.Asks.{asks_all}
use Rattle.esr_complete.proofs.Facts.{facts}
use Rattle.esr_complete.proofs.Walk.{answered_lines}
use Rattle.esr_complete.proofs.Endings.{short_told, ends_well}
use Rattle.esr_complete.proofs.law.smooth_runs_are_answered.Goals as goal
use Rattle.esr_complete.proofs.law.smooth_runs_are_answered.Goals.{After-each_history_tracks_restores}

answered : Laws → (s : Start) (log : List Moment) (lines : List ScriptLine) (moment : ℕ) → IsFaultFreeRun s log lines moment → AreAnswered lines (replies lines (entries_of log))
answered laws s log lines moment run =
    answered_lines log lines moment run.elected (facts laws lines s log run.smooth run.units run.deletes run.restores run.by_rule run.idle (asks_all s log lines moment run.smooth run.units run.by_rule run.asked))
    (entries_in_turn s log lines moment run.smooth run.units run.verifies run.by_rule run.in_turn run.asked run.checks) run.asked (short_told log run.short)

laws : (c : After-each_history_tracks_restores) → Laws
laws c =
    record {
      lawful = c.each_history_is_lawful.ensures;
      ready = c.some_unit_is_ready.ensures;
      opening = c.opening_is_lawful.ensures;
      restores_open = c.opened_restores_are_lawful.ensures;
      restores_kept = c.each_history_keeps_restores.ensures;
      opened_tracked = c.opened_worlds_are_tracked.ensures;
      opened_read_tracked = c.opened_worlds_track_restores.ensures;
      tracks = c.each_history_tracks_restores.ensures;
    }

pub returns-clause-answered : goal.returns-clause-answered
returns-clause-answered c = answered (laws (goal.at.returns-clause-answered c).After-each_history_tracks_restores)

pub returns-clause-ends : goal.returns-clause-ends
returns-clause-ends c = λ s log lines moment run.
    let core : Laws = laws (goal.at.returns-clause-ends c).After-each_history_tracks_restores in
    ends_well lines (entries_of log) (facts core lines s log run.smooth run.units run.deletes run.restores run.by_rule run.idle (asks_all s log lines moment run.smooth run.units run.by_rule run.asked))
    (short_told log run.short) (answered core s log lines moment run)
