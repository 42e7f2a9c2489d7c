use Rattle.std.proofs.Common.{ap, ◌∙◌}
use Rattle.std.specs.FinMap as fin
use Rattle.esr_ops.specs.Plan.{Plan}
use Rattle.esr_ops.specs.Inside.{plan_with}
use Rattle.esr_progress.proofs.progress.Progress.with_entries.Goals as goal

pub returns : goal.returns
returns c =
    let completed = c.in_ok-completed.ensures.items ∙ c.as_slice.ensures.value in
    (λ j. plan_with c.args.ops.items c.args.deletes.items (completed j) (c.in_ok-tickets.ensures j) c.args.next_op c.args.restores.items)
    ∙ ap (λ (q : Plan). record q { ops = fin.from_entries c.args.ops.items; deletes = fin.from_entries c.args.deletes.items; restores = fin.from_entries c.args.restores.items; next_op = c.args.next_op }) c.self.view_is
