use Rattle.std.proofs.Common.{sym, ap, ◌∙◌}
use Rattle.std.specs.FinMap as fin
use Rattle.esr_ops.specs.Plan.{TicketMaps}
use Rattle.esr_ops.specs.Numbers.{entries_from}
use Rattle.esr_progress.proofs.tickets.Tickets.entries.Goals as goal

pub returns : goal.returns
returns c = c.deref.ensures.value ∙ sym (entries_from c.self.inside.seats.items c.self.invariant.seats_numbered.rise) ∙ ap (λ (t : TicketMaps). fin.entries t.seats) c.self.view_is
