use Rattle.std.proofs.Common.{ℕ, eqb, ap, ◌∙◌}
use Rattle.std.specs.Prelude.{is_some}
use Rattle.std.specs.List.{position}
use Rattle.std.specs.FinMap as fin
use Rattle.esr_ops.specs.Plan.{Plan, RestorePlan}
use Rattle.esr_progress.proofs.Changing.{has_restore_is}
use Rattle.esr_progress.proofs.progress.Progress.has_restore.Goals as goal

pub returns : goal.returns
returns c =
    c.is_some.ensures
    ∙ has_restore_is c.self.inside.restores.items c.args.number c.restore_place.result (c.restore_place.ensures ∙ ap (position (λ (e : ℕ × RestorePlan). eqb e.0 c.args.number)) c.deref.ensures.value)
    ∙ ap (λ (p : Plan). is_some (fin.get p.restores c.args.number)) c.self.view_is
