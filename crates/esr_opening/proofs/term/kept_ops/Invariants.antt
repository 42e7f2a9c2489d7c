use Rattle.esr_opening.proofs.Keeping.{AreKept}
use Rattle.esr_opening.proofs.term.kept_ops.Given as goal

abbrev pub invariant-loop-op : goal.invariant-loop-op
invariant-loop-op l = AreKept l.op-items l.op-index l.kept
