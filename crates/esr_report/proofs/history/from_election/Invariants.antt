use Rattle.std.proofs.Common.{◌≡◌, length}
use Rattle.esr_report.specs.Replies.{from_election}
use Rattle.esr_report.proofs.history.from_election.Given as goal

abbrev pub invariant-loop-rest : goal.invariant-loop-rest
invariant-loop-rest l = from_election l.fn.entries ≡ from_election l.rest

abbrev pub decreases-loop-rest : goal.decreases-loop-rest
decreases-loop-rest l = length l.rest
