use Rattle.std.proofs.Common.{◌++◌, refl}
use Rattle.esr_drive.proofs.Coming.{over_on, ticket_from, reader_from}
use Rattle.esr_drive.proofs.tickets.ended_tickets_stay.Goals as goal

pub returns : goal.returns
returns c = record {
  over = λ s old more k. over_on c.laws.ensures s old more (old ++ more) refl k;
  tickets = λ s old more k. ticket_from c.laws.ensures s old more (old ++ more) refl k;
  readers = λ s old more k. reader_from c.laws.ensures s old more (old ++ more) refl k;
}
