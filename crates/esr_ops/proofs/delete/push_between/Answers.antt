use Rattle.std.proofs.Common.{ℕ, ◌+◌, List, map, ap, ◌++◌, ◌∙◌, sym, subst}
use Rattle.std.proofs.lemmas.List.{take_all}
use Rattle.esr_core.specs.World.{Deletion}
use Rattle.esr_formats.specs.Clusters.{op_of}
use Rattle.esr_ops.specs.Deletes.{deletion_entry, between}
use Rattle.esr_ops.proofs.Between.{ArePushed, none_pushed, may_push, pushed, passed}
use Rattle.esr_ops.proofs.delete.push_between.Goals as goal
use Rattle.esr_ops.proofs.delete.push_between.Goals.{then-lies_between+in_ok-record_op+in_ok-push, else-lies_between}

pub loop-delete-init : goal.loop-delete-init
loop-delete-init c = none_pushed c.args.ops.now c.args.deletes.now c.args.after c.args.before c.requires.last

pub push-requires : goal.push-requires
push-requires c =
    may_push c.args.ops.now c.args.deletes.now c.args.after c.args.before c.loop-delete.delete-index c.loop-delete.ops c.loop-delete.invariant c.delete-item.result c.loop-delete-test.true c.delete-item.is
    c.in_ok-record_op.field-0 (sym c.lies_between.ensures ∙ c.if-lies_between.true) c.requires.most c.in_ok-record_op.ensures.told c.in_ok-record_op.ensures.valid

pub loop-delete-preserved : goal.loop-delete-preserved
loop-delete-preserved c = elim c.if-lies_between.branch [
  | then-lies_between+in_ok-record_op+in_ok-push w ↦
      pushed c.args.ops.now c.args.deletes.now c.args.after c.args.before c.loop-delete.delete-index c.loop-delete.ops c.loop-delete.invariant c.delete-item.result c.loop-delete-test.true c.delete-item.is
      w.in_ok-record_op.field-0 c.if-lies_between.ops (sym c.lies_between.ensures ∙ w.if-lies_between.true) w.in_ok-record_op.ensures.told (w.ops-is ∙ w.in_ok-push.ensures.ok) c.requires.rise
  | else-lies_between w ↦
      subst (ArePushed c.args.ops.now c.args.deletes.now c.args.after c.args.before (c.loop-delete.delete-index + 1)) (sym w.ops-is)
      (passed c.args.ops.now c.args.deletes.now c.args.after c.args.before c.loop-delete.delete-index c.loop-delete.ops c.loop-delete.invariant
      c.delete-item.result c.loop-delete-test.true c.delete-item.is (sym c.lies_between.ensures ∙ w.if-lies_between.false))
]

pub returns-clause-told : goal.returns-clause-told
returns-clause-told c =
    let all = take_all c.loop-delete.delete-index c.args.deletes.now c.loop-delete-test.false in
    c.loop-delete.invariant.told ∙ ap (λ (xs : List (ℕ × Deletion)). map op_of c.args.ops.now ++ map deletion_entry (between c.args.after c.args.before xs)) all

pub returns-clause-last : goal.returns-clause-last
returns-clause-last c = c.loop-delete.invariant.low
