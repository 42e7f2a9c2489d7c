use Rattle.std.proofs.Common.{◌≡◌, drop}
use Rattle.esr_report.specs.Replies.{has_fallen}
use Rattle.esr_report.proofs.history.has_fallen.Given as goal

abbrev pub invariant-loop-entry : goal.invariant-loop-entry
invariant-loop-entry l = has_fallen l.entries ≡ has_fallen (drop l.entry-index l.entries)
