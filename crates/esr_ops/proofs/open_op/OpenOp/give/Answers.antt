use Rattle.std.proofs.Common.{refl}
use Rattle.esr_ops.proofs.OpenOps.{works-given, kept-given}
use Rattle.esr_ops.proofs.open_op.OpenOp.give.Goals as goal

pub invariant_of-self : goal.invariant_of-self
invariant_of-self c = rw c.give.ensures (kept-given _ _ _ c.self.invariant c.args.ticket c.args.shard)

pub returns : goal.returns
returns c = rw (← c.self.view_is, c.give.ensures) (rw works-given refl)
