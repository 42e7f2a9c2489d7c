use Rattle.std.proofs.Common.{◌≡◌, ℕ, eqb, ap, ◌∙◌, subst, sym, List, rules}
use Rattle.std.proofs.lemmas.Fn.{filter_same}
use Rattle.std.specs.Prelude.{not}
use Rattle.std.specs.List.{filter}
use Rattle.std.specs.FinMap as fin
use Rattle.esr_ops.specs.Plan.{Seat, TicketMaps}
use Rattle.esr_ops.specs.Inside.{numbers_of, AreNumbers}
use Rattle.esr_progress.specs.TicketMaps.{tickets_with}
use Rattle.esr_progress.proofs.Entries.{from_filter}
use Rattle.esr_progress.proofs.Numbers.{numbers-filter}
use Rattle.esr_progress.proofs.tickets.Tickets.end.Goals as goal

kept : (c : goal.After-retain) → c.retain.new.self.items ≡ filter (λ (e : ℕ × Seat). not (eqb e.0 c.args.ticket)) c.self.inside.seats.items
kept c = filter_same _ _ _ (λ x b f' k. search rules) _ _ c.retain.ensures.filtered

pub invariant_of-self : goal.invariant_of-self
invariant_of-self c =
    let s = c.self.inside in
    record {
      seats_numbered = subst (λ (es : List (ℕ × Seat)). AreNumbers (numbers_of es) s.next) (sym (kept c)) (numbers-filter (λ e. not (eqb e.0 c.args.ticket)) s.seats.items s.next c.self.invariant.seats_numbered);
      readers_numbered = c.self.invariant.readers_numbered;
      first = c.self.invariant.first;
    }

pub returns : goal.returns
returns c =
    let s = c.self.inside in
    (λ j. record (tickets_with s.seats.items s.readers.items s.next) { seats = (ap (λ (es : List (ℕ × Seat)). fin.from_entries es) (kept c) ∙ from_filter s.seats.items c.args.ticket) j })
    ∙ ap (λ (t : TicketMaps). record t { seats = fin.remove t.seats c.args.ticket }) c.self.view_is
