use Rattle.std.proofs.Common.{ap, ◌∙◌}
use Rattle.esr_ops.specs.Plan.{Seat}
use Rattle.esr_progress.specs.Choice.{first_number}
use Rattle.esr_progress.proofs.tickets.Tickets.first.Goals as goal

pub returns : goal.returns
returns c = c.first_ticket.ensures ∙ ap (first_number {A = Seat}) c.entries.ensures
