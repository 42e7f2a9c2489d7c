use Rattle.std.proofs.Common.{ℕ, subst}
use Rattle.esr_ops.specs.Plan.{RestorePlan}
use Rattle.esr_ops.specs.Shards.{AreShards}
use Rattle.esr_ops.proofs.OpenRestores.{reads_rule}
use Rattle.esr_ops.proofs.restore.OpenRestore.rule.Goals as goal

pub returns : goal.returns
returns c = subst (λ (v : ℕ × RestorePlan). AreShards v.1.shards) c.self.view_is (reads_rule c.self.inside.indices c.self.inside.place c.self.inside.shards.items c.self.invariant)
