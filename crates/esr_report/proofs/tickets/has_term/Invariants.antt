use Rattle.std.proofs.Common.{◌≡◌, drop}
use Rattle.esr_report.specs.Replies.{has_term}
use Rattle.esr_report.proofs.tickets.has_term.Given as goal

abbrev pub invariant-loop-entry : goal.invariant-loop-entry
invariant-loop-entry l = has_term l.entries ≡ has_term (drop l.entry-index l.entries)
