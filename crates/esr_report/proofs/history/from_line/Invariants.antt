use Rattle.std.proofs.Common.{◌≡◌, length}
use Rattle.esr_report.specs.Replies.{from_line}
use Rattle.esr_report.proofs.history.from_line.Given as goal

abbrev pub invariant-loop-rest : goal.invariant-loop-rest
invariant-loop-rest l = from_line l.fn.entries ≡ from_line l.rest

abbrev pub decreases-loop-rest : goal.decreases-loop-rest
decreases-loop-rest l = length l.rest
