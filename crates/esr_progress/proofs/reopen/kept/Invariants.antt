use Rattle.esr_progress.proofs.Reopening.{AreKept}
use Rattle.esr_progress.proofs.reopen.kept.Given as goal

abbrev pub invariant-loop-op : goal.invariant-loop-op
invariant-loop-op l = AreKept l.ops l.op-index l.deletes.items
