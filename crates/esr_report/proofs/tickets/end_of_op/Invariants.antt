use Rattle.std.proofs.Common.{◌≡◌, drop}
use Rattle.esr_report.specs.Ends.{first_end}
use Rattle.esr_report.proofs.tickets.end_of_op.Given as goal

abbrev pub invariant-loop-end : goal.invariant-loop-end
invariant-loop-end l = first_end l.ends l.op ≡ first_end (drop l.end-index l.ends) l.op
