use Rattle.std.proofs.Common.{ℕ, eqb, Some, option_map, sym, ap, ◌∙◌}
use Rattle.std.specs.List.{position}
use Rattle.std.specs.FinMap as fin
use Rattle.esr_ops.specs.Plan.{ReaderSeat, TicketMaps, reader_of_code}
use Rattle.esr_progress.proofs.TicketMaps.{missed, found}
use Rattle.esr_progress.proofs.tickets.Tickets.reader.Goals as goal

pub returns-in_err-at : goal.returns-in_err-at
returns-in_err-at c =
    let is = sym (c.reader_place.ensures ∙ ap (position (λ (e : ℕ × ReaderSeat). eqb e.0 c.args.ticket)) c.deref.ensures.value) ∙ c.in_err-at.was in
    ap (option_map reader_of_code) c.from_residual.ensures ∙ sym (missed c.self.inside.readers.items c.args.ticket is) ∙ ap (λ (t : TicketMaps). fin.get t.readers c.args.ticket) c.self.view_is

pub returns : goal.returns
returns c =
    let is = sym (c.reader_place.ensures ∙ ap (position (λ (e : ℕ × ReaderSeat). eqb e.0 c.args.ticket)) c.deref.ensures.value) ∙ c.in_ok-at.was in
    ap (λ (s : ReaderSeat). Some s) c.reader.ensures ∙ sym (found c.self.inside.readers.items c.args.ticket c.in_ok-at.at c.index.result.now is c.index.ensures) ∙ ap (λ (t : TicketMaps). fin.get t.readers c.args.ticket) c.self.view_is
