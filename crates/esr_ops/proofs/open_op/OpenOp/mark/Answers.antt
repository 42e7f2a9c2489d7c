use Rattle.std.proofs.Common.{refl}
use Rattle.esr_ops.proofs.OpenOps.{works-marked, kept-marked}
use Rattle.esr_ops.proofs.open_op.OpenOp.mark.Goals as goal

pub invariant_of-self : goal.invariant_of-self
invariant_of-self c = rw c.mark.ensures (kept-marked _ _ _ c.self.invariant c.args.ticket c.args.state)

pub returns : goal.returns
returns c = rw (← c.self.view_is, c.mark.ensures) (rw works-marked refl)
