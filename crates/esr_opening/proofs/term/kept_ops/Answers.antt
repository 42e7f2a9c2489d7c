use Rattle.std.proofs.Common.{◌+◌, List, sym, ap, ◌∙◌, subst}
use Rattle.esr_record.specs.declared.op.RecordOp.{RecordOp}
use Rattle.esr_record.specs.Op.{AreOps, last_op}
use Rattle.esr_opening.specs.Terms.{kept_ops}
use Rattle.esr_opening.proofs.Keeping.{AreKept, none_kept, may_keep, kept_more, passed_over, all_kept}
use Rattle.esr_opening.proofs.term.kept_ops.Goals as goal
use Rattle.esr_opening.proofs.term.kept_ops.Goals.{then-is_delete+in_ok-work+in_ok-push, else-is_delete}

pub loop-op-init : goal.loop-op-init
loop-op-init c =
    subst (AreKept c.as_slice-op-items.result.now 0) (sym c.new-kept.ensures)
    (none_kept c.as_slice-op-items.result.now (subst (λ (ops : List RecordOp). AreOps 0 ops) (sym c.as_slice-op-items.ensures.items) c.as_slice-op-items.ensures.valid))

pub push-requires : goal.push-requires
push-requires c =
    may_keep c.as_slice-op-items.result.now c.loop-op.op-index c.loop-op.kept c.loop-op.invariant c.op-item.result c.loop-op-test.true c.op-item.is
    (record { op = c.last-number.result + 1; work = c.in_ok-work.work }) (ap (λ n. n + 1) c.last-number.ensures) c.in_ok-work.ensures

pub loop-op-preserved : goal.loop-op-preserved
loop-op-preserved c = elim c.if-is_delete.branch [
  | then-is_delete+in_ok-work+in_ok-push w ↦
      kept_more c.as_slice-op-items.result.now c.loop-op.op-index c.loop-op.kept c.loop-op.invariant c.op-item.result c.loop-op-test.true c.op-item.is
      (record { op = w.last-number.result + 1; work = w.in_ok-work.work }) c.if-is_delete.kept (sym c.is_delete.ensures ∙ w.if-is_delete.true) (ap (λ n. n + 1) w.last-number.ensures) w.in_ok-work.ensures (w.kept-is ∙ w.in_ok-push.ensures.ok)
  | else-is_delete w ↦
      subst (AreKept c.as_slice-op-items.result.now (c.loop-op.op-index + 1)) (sym w.kept-is)
      (passed_over c.as_slice-op-items.result.now c.loop-op.op-index c.loop-op.kept c.loop-op.invariant c.op-item.result c.loop-op-test.true c.op-item.is (sym c.is_delete.ensures ∙ w.if-is_delete.false))
]

pub returns : goal.returns
returns c = all_kept c.as_slice-op-items.result.now c.loop-op.op-index c.loop-op.kept c.loop-op.invariant c.loop-op-test.false ∙ ap (kept_ops 1) c.as_slice-op-items.ensures.items
