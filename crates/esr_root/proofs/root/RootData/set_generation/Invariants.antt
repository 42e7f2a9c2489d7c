use Rattle.std.proofs.Common.{◌≡◌, take, map}
use Rattle.esr_root.specs.Changes.{set_generation_in}
use Rattle.esr_root.proofs.root.RootData.set_generation.Given as goal

abbrev pub invariant-loop-old : goal.invariant-loop-old
invariant-loop-old l = l.items ≡ map (set_generation_in l.index l.shard l.to) (take l.old-index l.self.indices)
