use Rattle.std.proofs.Common.{ap, ◌∙◌}
use Rattle.std.specs.Prelude.{is_some}
use Rattle.std.specs.FinMap as fin
use Rattle.esr_ops.specs.Plan.{Plan, seat_of_code, TicketMaps}
use Rattle.esr_ops.specs.Inside.{plan_with}
use Rattle.esr_progress.specs.Changes.{with_seat}
use Rattle.esr_progress.proofs.progress.Progress.put_seat.Goals as goal

pub put-requires : goal.put-requires
put-requires c = ap (λ (p : Plan). is_some (fin.get p.seats c.args.ticket)) c.self.view_is ∙ c.requires

pub returns : goal.returns
returns c =
    let s = c.self.inside in
    ap (λ (t : TicketMaps). plan_with s.ops.items s.deletes.items s.completed.items t s.next_op s.restores.items) c.put.ensures ∙ ap (λ (p : Plan). with_seat p c.args.ticket (seat_of_code c.args.seat)) c.self.view_is
