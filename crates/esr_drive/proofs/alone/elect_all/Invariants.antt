use Rattle.std.proofs.Common.{◌≤◌}
use Rattle.esr_drive.proofs.Electing.{Elected}
use Rattle.esr_drive.proofs.alone.elect_all.Given as goal

abbrev pub invariant-loop-time : goal.invariant-loop-time
invariant-loop-time g l =
    record {
      made : Elected g.Q.Desk.start l._time (g.Q.Desk.seen l.fn.desk) (g.Q.Desk.seen l.desk);
      few : l._time ≤ l.times;
    }
