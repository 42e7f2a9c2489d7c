use Rattle.std.proofs.Common.{ap, ◌∙◌}
use Rattle.esr_ops.specs.Plan.{Plan, TicketMaps}
use Rattle.esr_ops.specs.Inside.{plan_with}
use Rattle.esr_progress.specs.Changes.{without_seat}
use Rattle.esr_progress.proofs.progress.Progress.end.Goals as goal

pub returns : goal.returns
returns c =
    let s = c.self.inside in
    ap (λ (t : TicketMaps). plan_with s.ops.items s.deletes.items s.completed.items t s.next_op s.restores.items) c.end.ensures ∙ ap (λ (p : Plan). without_seat p c.args.ticket) c.self.view_is
