use Rattle.std.proofs.Common.{ℕ, Some, ap, ◌∙◌}
use Rattle.esr_core.specs.World.{Op}
use Rattle.esr_ops.proofs.open_op.OpenOp.aborted_by.Goals as goal

pub returns : goal.returns
returns c = ap (λ (v : ℕ × Op). (v.0, record v.1 { aborted = Some c.args.by })) (c.copy.view_is ∙ c.in_ok-copy.ensures)
