use Rattle.std.proofs.Common.{Ok}
use Rattle.esr_drive.specs.Worked.{HasElectedBy}
use Rattle.esr_drive.proofs.workers.elect_often.Given as goal

-- so many elections were made as rounds are over
abbrev pub invariant-loop-round : goal.invariant-loop-round
invariant-loop-round g l = record { made : HasElectedBy l._round (g.Q.Desk.calls l.fn.desk) (g.Q.Desk.calls l.desk) (Ok tt) }
