use Rattle.std.proofs.Common.{ℕ, List, sym, ap, ◌∙◌, subst}
use Rattle.std.specs.FinMap as fin
use Rattle.esr_ops.specs.Plan.{Plan, RestorePlan}
use Rattle.esr_ops.specs.Inside.{IsProgress}
use Rattle.esr_ops.specs.Numbers.{entries_from}
use Rattle.esr_progress.specs.Lowest.{ok_maps}
use Rattle.esr_progress.proofs.Added.{plan-kept}
use Rattle.esr_progress.proofs.progress.Progress.with_lists.Goals as goal

pub with_entries-requires : goal.with_entries-requires
with_entries-requires c =
    let s = c.self.inside in
    let same = c.in_ok-restores.ensures ∙ c.deref.ensures.value ∙ sym (entries_from s.restores.items c.self.invariant.restores_numbered.rise) ∙ ap (λ (q : Plan). fin.entries q.restores) c.self.view_is in
    subst (λ (rs : List (ℕ × RestorePlan)). IsProgress c.args.ops.items c.args.deletes.items c.args.next_op rs) (sym same) c.requires

pub returns : goal.returns
returns c =
    let s = c.self.inside in
    ok_maps c.with_entries.result c.with_entries.ensures
    (λ p is. is ∙ plan-kept s.ops.items c.args.ops.items s.deletes.items c.args.deletes.items s.completed.items s.tickets s.next_op c.args.next_op s.restores.items c.in_ok-restores.restores.items
    (c.in_ok-restores.ensures ∙ c.deref.ensures.value) c.args.self.now c.self.view_is)
