use Rattle.std.proofs.Common.{ℕ, eqb, ap, ◌∙◌, sym}
use Rattle.std.specs.List.{position}
use Rattle.std.specs.FinMap as fin
use Rattle.esr_core.specs.World.{Op}
use Rattle.esr_ops.specs.Plan.{Plan}
use Rattle.esr_progress.specs.Aborts.{op_aborter}
use Rattle.esr_progress.proofs.Changing.{missed_op, found_op}
use Rattle.esr_progress.proofs.progress.Progress.op_aborter.Goals as goal

pub returns-in_err-at : goal.returns-in_err-at
returns-in_err-at c =
    let missed = sym (c.place.ensures ∙ ap (position (λ (e : ℕ × Op). eqb e.0 c.args.number)) c.deref.ensures.value) ∙ c.in_err-at.was in
    c.from_residual.ensures ∙ sym (ap op_aborter (missed_op c.self.inside.ops.items c.args.number missed)) ∙ ap (λ (p : Plan). op_aborter (fin.get p.ops c.args.number)) c.self.view_is

pub returns : goal.returns
returns c =
    let found = sym (c.place.ensures ∙ ap (position (λ (e : ℕ × Op). eqb e.0 c.args.number)) c.deref.ensures.value) ∙ c.in_ok-at.was in
    c.aborter.ensures ∙ sym (ap op_aborter (found_op c.self.inside.ops.items c.args.number c.in_ok-at.at c.index.result.now found c.index.ensures)) ∙ ap (λ (p : Plan). op_aborter (fin.get p.ops c.args.number)) c.self.view_is
