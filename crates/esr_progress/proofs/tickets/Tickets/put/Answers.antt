use Rattle.std.proofs.Common.{ℕ, eqb, sym, ap, ◌∙◌, true≢false}
use Rattle.std.specs.Prelude.{is_some}
use Rattle.std.specs.List.{position}
use Rattle.std.specs.FinMap as fin
use Rattle.esr_ops.specs.Plan.{Seat, TicketMaps, seat_of_code}
use Rattle.esr_progress.specs.TicketMaps.{tickets_with}
use Rattle.esr_progress.proofs.TicketMaps.{missed, put_is, put_numbers}
use Rattle.esr_progress.proofs.tickets.Tickets.put.Goals as goal

pub invariant_of-self : goal.invariant_of-self
invariant_of-self c =
    let s = c.self.inside in
    let is = sym (c.seat_place.ensures ∙ ap (position (λ (e : ℕ × Seat). eqb e.0 c.args.ticket)) c.deref.ensures.value) ∙ c.in-Some.is in
    record {
      seats_numbered = put_numbers s.seats.items c.args.ticket c.in-Some.at c.index_mut.result.now c.put.new.self (seat_of_code c.args.seat) is c.index_mut.ensures.value c.put.ensures s.next c.self.invariant.seats_numbered;
      readers_numbered = c.self.invariant.readers_numbered;
      first = c.self.invariant.first;
    }

pub returns-in-Some : goal.returns-in-Some
returns-in-Some c =
    let s = c.self.inside in
    let is = sym (c.seat_place.ensures ∙ ap (position (λ (e : ℕ × Seat). eqb e.0 c.args.ticket)) c.deref.ensures.value) ∙ c.in-Some.is in
    (λ j. record (tickets_with s.seats.items s.readers.items s.next) { seats = put_is s.seats.items c.args.ticket c.in-Some.at c.index_mut.result.now c.put.new.self (seat_of_code c.args.seat) is c.index_mut.ensures.value c.put.ensures j })
    ∙ ap (λ (t : TicketMaps). record t { seats = fin.insert t.seats c.args.ticket (seat_of_code c.args.seat) }) c.self.view_is

pub returns-in_default : goal.returns-in_default
returns-in_default c =
    let is = sym (c.seat_place.ensures ∙ ap (position (λ (e : ℕ × Seat). eqb e.0 c.args.ticket)) c.deref.ensures.value) ∙ c.in_default.is in
    absurd (true≢false (sym c.requires ∙ ap (λ (t : TicketMaps). is_some (fin.get t.seats c.args.ticket)) (sym c.self.view_is) ∙ ap is_some (missed c.self.inside.seats.items c.args.ticket is)))
