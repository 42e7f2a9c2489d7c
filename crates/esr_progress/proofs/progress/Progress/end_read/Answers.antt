use Rattle.std.proofs.Common.{position, ℕ, eqb, sym, ap, ◌∙◌}
use Rattle.std.specs.FinMap as fin
use Rattle.std.specs.List.{position}
use Rattle.esr_ops.specs.Plan.{Plan, RestorePlan}
use Rattle.esr_progress.specs.Changes.{restore_changed, restore_over}
use Rattle.esr_progress.proofs.Changing.{restore_missed, restore_put, restore_put_keeps}
use Rattle.esr_progress.proofs.progress.Progress.end_read.Goals as goal

pub invariant_of-self : goal.invariant_of-self
invariant_of-self c =
    let found = sym (c.restore_place.ensures ∙ ap (position (λ (e : ℕ × RestorePlan). eqb e.0 c.args.number)) c.deref.ensures.value) ∙ c.in-Some.is in
    restore_put_keeps (restore_over c.args.ticket) c.self.inside.ops.items c.self.inside.deletes.items c.self.inside.completed.items c.self.inside.tickets c.self.inside.next_op
    c.args.number c.self.inside.restores.items c.in-Some.at c.index_mut.result.now c.end.new.self found c.index_mut.ensures.value c.end.ensures c.self.invariant

pub returns-in-Some : goal.returns-in-Some
returns-in-Some c =
    let found = sym (c.restore_place.ensures ∙ ap (position (λ (e : ℕ × RestorePlan). eqb e.0 c.args.number)) c.deref.ensures.value) ∙ c.in-Some.is in
    restore_put (restore_over c.args.ticket) c.self.inside.ops.items c.self.inside.deletes.items c.self.inside.completed.items c.self.inside.tickets
    c.self.inside.next_op c.args.number c.self.inside.restores.items c.in-Some.at c.index_mut.result.now c.end.new.self found c.index_mut.ensures.value c.end.ensures
    ∙ ap (λ (p : Plan). restore_changed (restore_over c.args.ticket) p c.args.number (fin.get p.restores c.args.number)) c.self.view_is

pub returns-in_default : goal.returns-in_default
returns-in_default c =
    let missed = sym (c.restore_place.ensures ∙ ap (position (λ (e : ℕ × RestorePlan). eqb e.0 c.args.number)) c.deref.ensures.value) ∙ c.in_default.is in
    sym c.self.view_is ∙ restore_missed (restore_over c.args.ticket) c.self.inside.ops.items c.self.inside.deletes.items c.self.inside.completed.items c.self.inside.tickets c.self.inside.next_op c.args.number c.self.inside.restores.items missed
    ∙ ap (λ (p : Plan). restore_changed (restore_over c.args.ticket) p c.args.number (fin.get p.restores c.args.number)) c.self.view_is
