use Rattle.std.proofs.Common.{ℕ, subst}
use Rattle.esr_core.specs.World.{Op}
use Rattle.esr_ops.specs.Shards.{AreShards}
use Rattle.esr_ops.proofs.OpenOps.{works_rule}
use Rattle.esr_ops.proofs.open_op.OpenOp.rule.Goals as goal

pub returns : goal.returns
returns c = subst (λ (v : ℕ × Op). AreShards v.1.shards) c.self.view_is (works_rule c.self.inside.making c.self.inside.places c.self.inside.shards.items c.self.invariant)
