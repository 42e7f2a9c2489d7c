use Rattle.std.proofs.Common.{◌≡◌, ◌≤◌, [], length}
use Rattle.esr_desk.specs.Grew.{NoneOut}
use Rattle.esr_quiet.specs.Asked.{GrewAsking}
use Rattle.esr_drive.specs.Calls.{TakeCalls}
use Rattle.esr_drive.specs.Ended.{AllEnded}
use Rattle.esr_drive.specs.Over.{NoReaderOut}
use Rattle.esr_drive.specs.Works.{WorksOnly}
use Rattle.esr_drive.specs.Takes.{idle_takes}
use Rattle.esr_drive.proofs.worker.work_off.Given as goal

-- the history has gone on, by a step at least in each round, and all tickets have ended
abbrev pub invariant-loop-round : goal.invariant-loop-round
invariant-loop-round g l =
    record {
      grew : GrewAsking g.Q.Desk.start [] (g.Q.Desk.seen l.fn.desk) (g.Q.Desk.seen l.desk);
      rest : NoneOut g.Q.Desk.start (g.Q.Desk.seen l.fn.desk) → NoneOut g.Q.Desk.start (g.Q.Desk.seen l.desk);
      readers : NoReaderOut g.Q.Desk.start (g.Q.Desk.seen l.fn.desk) → NoReaderOut g.Q.Desk.start (g.Q.Desk.seen l.desk);
      only : WorksOnly (g.Q.Desk.seen l.fn.desk) (g.Q.Desk.seen l.desk);
      takes : idle_takes (g.Q.Desk.seen l.desk) ≡ idle_takes (g.Q.Desk.seen l.fn.desk);
      calls : TakeCalls 0 (g.Q.Desk.calls l.fn.desk) (g.Q.Desk.calls l.desk);
      ended : AllEnded g.Q.Desk.start (g.Q.Desk.seen l.desk) (g.Q.Desk.calls l.fn.desk) (g.Q.Desk.calls l.desk);
      rounds : l._round ≤ length (g.Q.Desk.seen l.desk);
    }
