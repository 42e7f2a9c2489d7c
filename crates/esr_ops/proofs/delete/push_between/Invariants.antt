use Rattle.esr_ops.proofs.Between.{ArePushed}
use Rattle.esr_ops.proofs.delete.push_between.Given as goal

abbrev pub invariant-loop-delete : goal.invariant-loop-delete
invariant-loop-delete l = ArePushed l.fn.ops l.deletes l.after l.before l.delete-index l.ops
