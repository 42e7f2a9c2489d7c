use Rattle.std.proofs.Common.{position, ℕ, eqb, sym, ap, ◌∙◌}
use Rattle.std.specs.FinMap as fin
use Rattle.std.specs.List.{position}
use Rattle.esr_core.specs.World.{Op}
use Rattle.esr_results.specs.Results.{result_of}
use Rattle.esr_ops.specs.Plan.{Plan}
use Rattle.esr_progress.specs.Changes.{op_changed, op_marked}
use Rattle.esr_progress.proofs.Changing.{op_missed, op_put, op_put_keeps}
use Rattle.esr_progress.proofs.progress.Progress.mark_op.Goals as goal

pub invariant_of-self : goal.invariant_of-self
invariant_of-self c =
    let found = sym (c.place.ensures ∙ ap (position (λ (e : ℕ × Op). eqb e.0 c.args.number)) c.deref.ensures.value) ∙ c.in-Some.is in
    op_put_keeps (op_marked c.args.ticket (result_of c.args.outcome)) c.self.inside.deletes.items c.self.inside.completed.items c.self.inside.tickets c.self.inside.next_op
    c.self.inside.restores.items c.args.number c.self.inside.ops.items c.in-Some.at c.index_mut.result.now c.mark.new.self found c.index_mut.ensures.value c.mark.ensures c.self.invariant

pub returns-in-Some : goal.returns-in-Some
returns-in-Some c =
    let found = sym (c.place.ensures ∙ ap (position (λ (e : ℕ × Op). eqb e.0 c.args.number)) c.deref.ensures.value) ∙ c.in-Some.is in
    op_put (op_marked c.args.ticket (result_of c.args.outcome)) c.self.inside.deletes.items c.self.inside.completed.items c.self.inside.tickets c.self.inside.next_op
    c.self.inside.restores.items c.args.number c.self.inside.ops.items c.in-Some.at c.index_mut.result.now c.mark.new.self found c.index_mut.ensures.value c.mark.ensures
    ∙ ap (λ (p : Plan). op_changed (op_marked c.args.ticket (result_of c.args.outcome)) p c.args.number (fin.get p.ops c.args.number)) c.self.view_is

pub returns-in_default : goal.returns-in_default
returns-in_default c =
    let missed = sym (c.place.ensures ∙ ap (position (λ (e : ℕ × Op). eqb e.0 c.args.number)) c.deref.ensures.value) ∙ c.in_default.is in
    sym c.self.view_is
    ∙ op_missed (op_marked c.args.ticket (result_of c.args.outcome)) c.self.inside.deletes.items c.self.inside.completed.items c.self.inside.tickets c.self.inside.next_op c.self.inside.restores.items c.args.number c.self.inside.ops.items missed
    ∙ ap (λ (p : Plan). op_changed (op_marked c.args.ticket (result_of c.args.outcome)) p c.args.number (fin.get p.ops c.args.number)) c.self.view_is
