use Rattle.std.proofs.Common.{◌≡◌, drop}
use Rattle.esr_report.specs.Replies.{op_of_ticket}
use Rattle.esr_report.proofs.tickets.op_of_ticket.Given as goal

abbrev pub invariant-loop-entry : goal.invariant-loop-entry
invariant-loop-entry l = op_of_ticket l.entries l.ticket ≡ op_of_ticket (drop l.entry-index l.entries) l.ticket
