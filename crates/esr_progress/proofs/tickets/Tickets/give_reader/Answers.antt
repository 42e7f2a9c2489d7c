use Rattle.std.proofs.Common.{suc, ap, ◌∙◌, refl, add-one, arith}
use Rattle.std.specs.FinMap as fin
use Rattle.esr_ops.specs.Plan.{TicketMaps, reader_of_code}
use Rattle.esr_progress.proofs.TicketMaps.{push_is, push_numbers, stay_numbers}
use Rattle.esr_progress.proofs.tickets.Tickets.give_reader.Goals as goal

pub invariant_of-self-2 : goal.invariant_of-self-2
invariant_of-self-2 c =
    let s = c.self.inside in
    record {
      readers_numbered = push_numbers s.readers.items s.next s.next (reader_of_code c.args.reader) c.push.new.self.items c.self.invariant.first c.self.invariant.readers_numbered refl c.in_ok-push.ensures.items;
      seats_numbered = stay_numbers s.seats.items s.next c.self.invariant.seats_numbered;
      first = (let one = c.self.invariant.first in omega (arith, one));
    }

pub returns : goal.returns
returns c =
    let s = c.self.inside in
    (λ j. record {
      readers = push_is s.readers.items s.next s.next (reader_of_code c.args.reader) c.push.new.self.items c.self.invariant.readers_numbered refl c.in_ok-push.ensures.items j;
      seats = fin.from_entries s.seats.items;
      next = add-one s.next j;
    })
    ∙ ap (λ (t : TicketMaps). record t { readers = fin.insert t.readers t.next (reader_of_code c.args.reader); next = suc t.next }) c.self.view_is
