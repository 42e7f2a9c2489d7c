use Rattle.std.proofs.Common.{subst}
use Rattle.esr_reach.specs.Held.{AreWhole}
use Rattle.esr_reach.proofs.Apart.{held_whole}
use Rattle.esr_reach.proofs.held.ShardIndices.whole.Goals as goal

pub returns : goal.returns
returns c = subst AreWhole c.self.view_is (held_whole c.self.inside.by_shard.entries c.self.invariant)
