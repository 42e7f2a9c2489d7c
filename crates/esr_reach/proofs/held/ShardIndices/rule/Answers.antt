use Rattle.std.proofs.Common.{subst}
use Rattle.esr_reach.specs.Held.{AreApart}
use Rattle.esr_reach.proofs.Apart.{held_apart}
use Rattle.esr_reach.proofs.held.ShardIndices.rule.Goals as goal

pub returns : goal.returns
returns c = subst AreApart c.self.view_is (held_apart c.self.inside.by_shard.entries c.self.invariant)
