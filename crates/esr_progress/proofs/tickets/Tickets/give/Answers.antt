use Rattle.std.proofs.Common.{suc, ap, ◌∙◌, refl, add-one, arith}
use Rattle.std.specs.FinMap as fin
use Rattle.esr_ops.specs.Plan.{TicketMaps, seat_of_code}
use Rattle.esr_progress.proofs.TicketMaps.{push_is, push_numbers, stay_numbers}
use Rattle.esr_progress.proofs.tickets.Tickets.give.Goals as goal

pub invariant_of-self-2 : goal.invariant_of-self-2
invariant_of-self-2 c =
    let s = c.self.inside in
    record {
      seats_numbered = push_numbers s.seats.items s.next s.next (seat_of_code c.args.seat) c.push.new.self.items c.self.invariant.first c.self.invariant.seats_numbered refl c.in_ok-push.ensures.items;
      readers_numbered = stay_numbers s.readers.items s.next c.self.invariant.readers_numbered;
      first = (let one = c.self.invariant.first in omega (arith, one));
    }

pub returns : goal.returns
returns c =
    let s = c.self.inside in
    (λ j. record {
      seats = push_is s.seats.items s.next s.next (seat_of_code c.args.seat) c.push.new.self.items c.self.invariant.seats_numbered refl c.in_ok-push.ensures.items j;
      readers = fin.from_entries s.readers.items;
      next = add-one s.next j;
    })
    ∙ ap (λ (t : TicketMaps). record t { seats = fin.insert t.seats t.next (seat_of_code c.args.seat); next = suc t.next }) c.self.view_is
