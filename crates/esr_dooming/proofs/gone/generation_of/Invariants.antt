use Rattle.esr_dooming.proofs.Changed.{IsAhead}
use Rattle.esr_dooming.proofs.gone.generation_of.Given as goal

abbrev pub invariant-loop-index : goal.invariant-loop-index
invariant-loop-index l = IsAhead l.indices l.shard.index.number l.index-index
