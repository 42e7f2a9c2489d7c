use Rattle.std.proofs.Common.{◌≡◌, ℕ, eqb, ap, ◌∙◌, subst, sym, List, rules}
use Rattle.std.proofs.lemmas.Fn.{filter_same}
use Rattle.std.specs.Prelude.{not}
use Rattle.std.specs.List.{filter}
use Rattle.std.specs.FinMap as fin
use Rattle.esr_ops.specs.Plan.{ReaderSeat, TicketMaps}
use Rattle.esr_ops.specs.Inside.{numbers_of, AreNumbers}
use Rattle.esr_progress.specs.TicketMaps.{tickets_with}
use Rattle.esr_progress.proofs.Entries.{from_filter}
use Rattle.esr_progress.proofs.Numbers.{numbers-filter}
use Rattle.esr_progress.proofs.tickets.Tickets.end_reader.Goals as goal

kept : (c : goal.After-retain) → c.retain.new.self.items ≡ filter (λ (e : ℕ × ReaderSeat). not (eqb e.0 c.args.ticket)) c.self.inside.readers.items
kept c = filter_same _ _ _ (λ x b f' k. search rules) _ _ c.retain.ensures.filtered

pub invariant_of-self : goal.invariant_of-self
invariant_of-self c =
    let s = c.self.inside in
    record {
      readers_numbered = subst (λ (es : List (ℕ × ReaderSeat)). AreNumbers (numbers_of es) s.next) (sym (kept c)) (numbers-filter (λ e. not (eqb e.0 c.args.ticket)) s.readers.items s.next c.self.invariant.readers_numbered);
      seats_numbered = c.self.invariant.seats_numbered;
      first = c.self.invariant.first;
    }

pub returns : goal.returns
returns c =
    let s = c.self.inside in
    (λ j. record (tickets_with s.seats.items s.readers.items s.next) { readers = (ap (λ (es : List (ℕ × ReaderSeat)). fin.from_entries es) (kept c) ∙ from_filter s.readers.items c.args.ticket) j })
    ∙ ap (λ (t : TicketMaps). record t { readers = fin.remove t.readers c.args.ticket }) c.self.view_is
