use Rattle.esr_newroot.proofs.Pruning.{Passed}
use Rattle.esr_newroot.proofs.pruned_root.renewed_shard.Given as goal

abbrev pub invariant-loop-index : goal.invariant-loop-index
invariant-loop-index l = Passed l.index-items l.shard.shard.index.number l.index-index
