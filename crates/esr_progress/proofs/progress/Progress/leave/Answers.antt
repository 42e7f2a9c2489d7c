use Rattle.std.proofs.Common.{◌≡◌, ℕ, eqb, sym, ap, ◌∙◌, rules}
use Rattle.std.proofs.lemmas.Fn.{filter_same}
use Rattle.std.specs.Prelude.{not}
use Rattle.std.specs.List.{filter, position}
use Rattle.std.specs.FinMap as fin
use Rattle.esr_ops.specs.Plan.{Plan, RestorePlan}
use Rattle.esr_ops.specs.Inside.{plan_with}
use Rattle.esr_progress.specs.Changes.{restore_kept}
use Rattle.esr_progress.proofs.Changing.{restore_none, restore_stays, restore_leaves, restore_left_keeps}
use Rattle.esr_progress.proofs.progress.Progress.leave.Goals as goal

kept : (c : goal.After-retain) → c.retain.new.self.items ≡ filter (λ (e : ℕ × RestorePlan). not (eqb e.0 c.args.number)) c.self.inside.restores.items
kept c = filter_same _ _ _ (λ x b f' k. search rules) _ _ c.retain.ensures.filtered

pub invariant_of-self : goal.invariant_of-self
invariant_of-self c = rw (kept c) (restore_left_keeps c.self.inside.ops.items c.self.inside.deletes.items c.self.inside.completed.items c.self.inside.tickets c.self.inside.next_op c.self.inside.restores.items c.args.number c.self.invariant)

pub returns-in_default : goal.returns-in_default
returns-in_default c =
    let missed = sym (c.restore_place.ensures ∙ ap (position (λ (e : ℕ × RestorePlan). eqb e.0 c.args.number)) c.deref.ensures.value) ∙ c.in_default.is in
    sym c.self.view_is ∙ restore_none c.self.inside.ops.items c.self.inside.deletes.items c.self.inside.completed.items c.self.inside.tickets c.self.inside.next_op c.self.inside.restores.items c.args.number missed
    ∙ ap (λ (p : Plan). restore_kept p c.args.number (fin.get p.restores c.args.number)) c.self.view_is

pub returns-then-waits : goal.returns-then-waits
returns-then-waits c =
    let found = sym (c.restore_place.ensures ∙ ap (position (λ (e : ℕ × RestorePlan). eqb e.0 c.args.number)) c.deref.ensures.value) ∙ c.in-Some.is in
    sym c.self.view_is
    ∙ restore_stays c.self.inside.ops.items c.self.inside.deletes.items c.self.inside.completed.items c.self.inside.tickets c.self.inside.next_op c.self.inside.restores.items c.args.number c.in-Some.at c.index.result.now found c.index.ensures
    (sym c.waits.ensures ∙ c.if-waits.true)
    ∙ ap (λ (p : Plan). restore_kept p c.args.number (fin.get p.restores c.args.number)) c.self.view_is

pub returns : goal.returns
returns c =
    let found = sym (c.restore_place.ensures ∙ ap (position (λ (e : ℕ × RestorePlan). eqb e.0 c.args.number)) c.deref.ensures.value) ∙ c.in-Some.is in
    (λ j. plan_with c.self.inside.ops.items c.self.inside.deletes.items c.self.inside.completed.items c.self.inside.tickets c.self.inside.next_op (kept c j))
    ∙ restore_leaves c.self.inside.ops.items c.self.inside.deletes.items c.self.inside.completed.items c.self.inside.tickets c.self.inside.next_op c.self.inside.restores.items c.args.number c.in-Some.at c.index.result.now found c.index.ensures
    (sym c.waits.ensures ∙ c.if-waits.false)
    ∙ ap (λ (p : Plan). restore_kept p c.args.number (fin.get p.restores c.args.number)) c.self.view_is
