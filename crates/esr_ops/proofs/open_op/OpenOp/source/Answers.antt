use Rattle.std.proofs.Common.{ℕ, ap}
use Rattle.esr_core.specs.World.{Op}
use Rattle.esr_ops.proofs.open_op.OpenOp.source.Goals as goal

pub returns : goal.returns
returns c = ap (λ (v : ℕ × Op). v.1.source) c.self.view_is
