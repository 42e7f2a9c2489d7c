use Rattle.std.proofs.Common.{◌≡◌, drop}
use Rattle.esr_report.specs.Replies.{falls_before}
use Rattle.esr_report.proofs.history.falls_before.Given as goal

abbrev pub invariant-loop-entry : goal.invariant-loop-entry
invariant-loop-entry l = falls_before l.entries ≡ falls_before (drop l.entry-index l.entries)
