use Rattle.std.proofs.Common.{◌∙◌}
use Rattle.esr_progress.specs.Lowest.{ok_maps}
use Rattle.esr_progress.proofs.Added.{valid-same, plan-same}
use Rattle.esr_progress.proofs.progress.Progress.copy.Goals as goal

pub with_entries-requires : goal.with_entries-requires
with_entries-requires c =
    let s = c.self.inside in
    valid-same s.ops.items c.in_ok-ops.ops.items s.deletes.items c.in_ok-deletes.deletes.items s.next_op s.restores.items c.in_ok-restores.restores.items
    (c.in_ok-ops.ensures ∙ c.deref.ensures.value) (c.in_ok-deletes.ensures ∙ c.deref-2.ensures.value) (c.in_ok-restores.ensures ∙ c.deref-3.ensures.value) c.self.invariant

pub returns : goal.returns
returns c =
    let s = c.self.inside in
    ok_maps c.with_entries.result c.with_entries.ensures
    (λ p is. is ∙ plan-same s.ops.items c.in_ok-ops.ops.items s.deletes.items c.in_ok-deletes.deletes.items s.completed.items s.tickets s.next_op s.restores.items c.in_ok-restores.restores.items
    (c.in_ok-ops.ensures ∙ c.deref.ensures.value) (c.in_ok-deletes.ensures ∙ c.deref-2.ensures.value) (c.in_ok-restores.ensures ∙ c.deref-3.ensures.value) c.args.self.now c.self.view_is)
