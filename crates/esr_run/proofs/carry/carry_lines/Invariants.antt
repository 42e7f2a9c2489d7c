use Rattle.std.proofs.Common.{◌≡◌, ◌+◌, ◌≤◌, ◌<◌, ◌^◌, None, length}
use Rattle.esr_drive.specs.Takes.{idle_takes}
use Rattle.esr_run.specs.Script.{first_bad}
use Rattle.esr_run.specs.Checked.{asks_check}
use Rattle.esr_run.specs.Verified.{MayVerify}
use Rattle.esr_run.specs.Waits.{waits_of}
use Rattle.esr_run.proofs.Making.{Front}
use Rattle.esr_run.proofs.carry.carry_lines.Given as goal

abbrev pub invariant-loop-left : goal.invariant-loop-left
invariant-loop-left g l =
    record {
      front : Front g.Q.Desk.start l.moment l.owed l.left l.lines (g.Q.Desk.seen l.fn.desk) (g.Q.Desk.seen l.desk);
      good : first_bad l.left ≡ None;
      may : MayVerify g.Q.Desk.start l.workers (asks_check l.lines) (g.Q.Desk.seen l.desk);
      takes : idle_takes (g.Q.Desk.seen l.desk) + waits_of l.workers l.left ≤ idle_takes (g.Q.Desk.seen l.fn.desk) + waits_of l.workers l.lines;
      fits : l.owed + length l.left ≤ length l.lines;
      small : length l.lines < 2 ^ 64;
    }

abbrev pub decreases-loop-left : goal.decreases-loop-left
decreases-loop-left g l = length l.left
