use Rattle.std.proofs.Common.{◌≡◌, drop}
use Rattle.esr_report.specs.Replies.{final_from, final_out}
use Rattle.esr_report.proofs.aborts.final_out.Given as goal

abbrev pub invariant-loop-entry : goal.invariant-loop-entry
invariant-loop-entry l = final_out l.entries l.op ≡ final_from l.op l.out (drop l.entry-index l.entries)
