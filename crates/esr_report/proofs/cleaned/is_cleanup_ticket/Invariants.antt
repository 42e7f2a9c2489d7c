use Rattle.std.proofs.Common.{◌≡◌, drop}
use Rattle.esr_report.specs.Cleaned.{is_cleanup_ticket}
use Rattle.esr_report.proofs.cleaned.is_cleanup_ticket.Given as goal

abbrev pub invariant-loop-entry : goal.invariant-loop-entry
invariant-loop-entry l = is_cleanup_ticket l.entries l.ticket ≡ is_cleanup_ticket (drop l.entry-index l.entries) l.ticket
