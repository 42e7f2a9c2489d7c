use Rattle.std.proofs.Common.{◌≡◌, drop}
use Rattle.esr_root.specs.Changes.{generation_among}
use Rattle.esr_root.proofs.root.generation_among.Given as goal

abbrev pub invariant-loop-index : goal.invariant-loop-index
invariant-loop-index l = generation_among l.indices l.name l.shard ≡ generation_among (drop l.index-index l.indices) l.name l.shard
