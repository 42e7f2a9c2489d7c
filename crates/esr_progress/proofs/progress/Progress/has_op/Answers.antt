use Rattle.std.proofs.Common.{ℕ, eqb, ap, ◌∙◌}
use Rattle.std.specs.Prelude.{is_some}
use Rattle.std.specs.List.{position}
use Rattle.std.specs.FinMap as fin
use Rattle.esr_core.specs.World.{Op}
use Rattle.esr_ops.specs.Plan.{Plan}
use Rattle.esr_progress.proofs.Changing.{has_op_is}
use Rattle.esr_progress.proofs.progress.Progress.has_op.Goals as goal

pub returns : goal.returns
returns c =
    c.is_some.ensures
    ∙ has_op_is c.self.inside.ops.items c.args.number c.place.result (c.place.ensures ∙ ap (position (λ (e : ℕ × Op). eqb e.0 c.args.number)) c.deref.ensures.value)
    ∙ ap (λ (p : Plan). is_some (fin.get p.ops c.args.number)) c.self.view_is
