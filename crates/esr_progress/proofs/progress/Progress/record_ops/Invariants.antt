use Rattle.esr_progress.proofs.Recorded.{AreTold}
use Rattle.esr_progress.proofs.progress.Progress.record_ops.Given as goal

abbrev pub invariant-loop-op : goal.invariant-loop-op
invariant-loop-op l = AreTold l.op-items l.self-inside.deletes.items l.self-inside.next_op l.op-index l.last l.ops
