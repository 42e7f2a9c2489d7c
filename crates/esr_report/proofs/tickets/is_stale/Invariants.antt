use Rattle.std.proofs.Common.{◌≡◌, length}
use Rattle.esr_report.specs.Replies.{is_stale}
use Rattle.esr_report.proofs.tickets.is_stale.Given as goal

abbrev pub invariant-loop-rest : goal.invariant-loop-rest
invariant-loop-rest l = is_stale l.fn.entries l.ticket ≡ is_stale l.rest l.ticket

abbrev pub decreases-loop-rest : goal.decreases-loop-rest
decreases-loop-rest l = length l.rest
