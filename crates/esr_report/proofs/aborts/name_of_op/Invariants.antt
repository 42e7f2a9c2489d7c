use Rattle.std.proofs.Common.{◌≡◌, drop}
use Rattle.esr_report.specs.Replies.{name_of_op}
use Rattle.esr_report.proofs.aborts.name_of_op.Given as goal

abbrev pub invariant-loop-entry : goal.invariant-loop-entry
invariant-loop-entry l = name_of_op l.entries l.op ≡ name_of_op (drop l.entry-index l.entries) l.op
