use Rattle.std.proofs.Common.{refl}
use Rattle.esr_ops.proofs.OpenOps.{works-failed, kept-failed}
use Rattle.esr_ops.proofs.open_op.OpenOp.fail.Goals as goal

pub invariant_of-self : goal.invariant_of-self
invariant_of-self c = rw c.give_up.ensures (kept-failed _ _ _ c.self.invariant c.args.ticket)

pub returns : goal.returns
returns c = rw (← c.self.view_is, c.give_up.ensures) (rw works-failed refl)
