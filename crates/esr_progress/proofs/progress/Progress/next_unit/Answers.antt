use Rattle.std.proofs.Common.{ℕ, sym, ap, ◌∙◌, subst, w64}
use Rattle.std.proofs.lemmas.Int.{to_z-of_z}
use Rattle.esr_formats.specs.Roots.{root_of}
use Rattle.esr_formats.specs.Clusters.{count_of}
use Rattle.esr_ops.specs.Plan.{IsGivenIn}
use Rattle.esr_progress.specs.Choice.{is_before}
use Rattle.esr_progress.proofs.Lowest.{restore_is_next, delete_is_next, op_is_next}
use Rattle.esr_progress.specs.Lowest.{ok_maps}
use Rattle.esr_progress.proofs.progress.Progress.next_unit.Goals as goal

pub returns-then-comes_first-clause-unit : goal.returns-then-comes_first-clause-unit
returns-then-comes_first-clause-unit c =
    let first = sym (c.comes_first.ensures ∙ ap (is_before c.unread_restore.result) c.lower.ensures) ∙ c.if-comes_first.true in
    ok_maps c.restore_unit.result c.restore_unit.ensures.unit
    (λ o h w is.
    restore_is_next w c.unread_restore.result c.ready_delete-delete.result c.ready_op-op.result (c.unread_restore.ensures w is.plan)
    (c.ready_delete-delete.ensures w is.plan is.term_is) (c.ready_op-op.ensures w is.plan is.term_is) first o
    (h w c.args.term (subst (λ (n : ℕ). IsGivenIn c.args.self.now (root_of c.args.root.now) n c.args.term w) (sym (ap count_of (to_z-of_z w64 c.args.safe c.ranges.safe))) is)))

pub returns-then-comes_first-2-clause-unit : goal.returns-then-comes_first-2-clause-unit
returns-then-comes_first-2-clause-unit c =
    let later = sym (c.comes_first.ensures ∙ ap (is_before c.unread_restore.result) c.lower.ensures) ∙ c.if-comes_first.false in
    ok_maps c.delete_unit.result c.delete_unit.ensures.unit
    (λ o h w is.
    delete_is_next w c.unread_restore.result c.ready_delete-delete.result c.ready_op-op.result (c.unread_restore.ensures w is.plan)
    (c.ready_delete-delete.ensures w is.plan is.term_is) (c.ready_op-op.ensures w is.plan is.term_is) later (sym c.comes_first-2.ensures ∙ c.if-comes_first-2.true) o
    (h w (subst (λ (n : ℕ). IsGivenIn c.args.self.now (root_of c.args.root.now) n c.args.term w) (sym (ap count_of (to_z-of_z w64 c.args.safe c.ranges.safe))) is)))

pub returns-clause-unit : goal.returns-clause-unit
returns-clause-unit c =
    let later = sym (c.comes_first.ensures ∙ ap (is_before c.unread_restore.result) c.lower.ensures) ∙ c.if-comes_first.false in
    ok_maps c.op_unit.result c.op_unit.ensures.unit
    (λ o h w is.
    op_is_next w c.unread_restore.result c.ready_delete-delete.result c.ready_op-op.result (c.unread_restore.ensures w is.plan)
    (c.ready_delete-delete.ensures w is.plan is.term_is) (c.ready_op-op.ensures w is.plan is.term_is) later (sym c.comes_first-2.ensures ∙ c.if-comes_first-2.false) o
    (h w (subst (λ (n : ℕ). IsGivenIn c.args.self.now (root_of c.args.root.now) n c.args.term w) (sym (ap count_of (to_z-of_z w64 c.args.safe c.ranges.safe))) is)))
