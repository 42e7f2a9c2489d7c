use Rattle.std.proofs.Common.{ap, ◌∙◌}
use Rattle.esr_ops.specs.Plan.{Plan}
use Rattle.esr_ops.specs.Inside.{plan_with}
use Rattle.esr_progress.proofs.Added.{valid-same}
use Rattle.esr_progress.proofs.progress.Progress.lists.Goals as goal

pub returns-clause-view : goal.returns-clause-view
returns-clause-view c =
    let s = c.self.inside in
    (λ j. plan_with (c.as_slice.ensures.value j) (c.as_slice-2.ensures.value j) (c.as_slice-3.ensures.value j) s.tickets s.next_op (c.as_slice-4.ensures.value j)) ∙ c.self.view_is

pub returns-clause-valid : goal.returns-clause-valid
returns-clause-valid c =
    let s = c.self.inside in
    valid-same s.ops.items c.as_slice.result.now s.deletes.items c.as_slice-2.result.now s.next_op s.restores.items c.as_slice-4.result.now c.as_slice.ensures.value c.as_slice-2.ensures.value c.as_slice-4.ensures.value c.self.invariant

pub returns-clause-next : goal.returns-clause-next
returns-clause-next c = ap (λ (q : Plan). q.next_op) c.self.view_is
