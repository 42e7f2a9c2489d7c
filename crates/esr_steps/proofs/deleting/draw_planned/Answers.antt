use Rattle.std.proofs.Common.{map, None, subst, sym, ℕ, ◌+◌, ◌≤◌, suc, ap, ◌∙◌}
use Rattle.esr_core.specs.Entry.{Step, DrawnFrom, IdsSpent}
use Rattle.esr_results.specs.Pruned.{pruned_of}
use Rattle.esr_repo.specs.Next.{Added}
use Rattle.esr_repo.specs.May.{MayNote, MayRefuse}
use Rattle.esr_steps.proofs.DeleteTickets.{planned_ticket}
use Rattle.esr_steps.proofs.DeleteMays.{may_plan_delete, may_spend_plan}
use Rattle.esr_model.specs.Kept.{first_id}
use Rattle.esr_desk.specs.Start.{world_of}
use Rattle.esr_steps.proofs.deleting.draw_planned.Goals as goal

pub refuse-requires-clause-may : goal.refuse-requires-clause-may
refuse-requires-clause-may g c =
    let s = g.K.Told.start in
    let old = c.args.repo.now in
    subst (λ (step : Step). MayRefuse s old c.args.ticket step (IdsSpent c.args.plan.first.number)) (sym c.requires.is)
    (may_spend_plan s old c.args.ticket c.requires.may.0 (map pruned_of c.args.shards.now) c.args.plan.first.number c.rules.ensures.tracked c.rules.ensures.of_ops c.requires.may.1 c.requires.first
    (subst (λ (n : ℕ). first_id (suc (world_of s old).term) ≤ (world_of s old).next_id + n) c.kept_count.ensures c.in_default.ensures.next))

pub note-requires-clause-may : goal.note-requires-clause-may
note-requires-clause-may g c =
    let s = g.K.Told.start in
    let old = c.args.repo.now in
    subst (λ (step : Step). MayNote s old c.args.ticket step (DrawnFrom c.args.plan.first.number) None c.in-Some.next.number) (sym c.requires.is)
    (may_plan_delete s old c.args.ticket c.requires.may.0 (map pruned_of c.args.shards.now) c.args.plan.first.number c.in-Some.next.number c.rules.ensures.tracked c.rules.ensures.of_ops c.requires.may.1 c.requires.may.2 c.requires.first
    (c.in-Some.ensures.next.0 ∙ ap (λ (n : ℕ). (world_of s old).next_id + n) c.kept_count.ensures) c.in-Some.ensures.next.1)

pub returns-clause-own : goal.returns-clause-own
returns-clause-own g c =
    planned_ticket g.K.Told.start c.args.repo.now c.note.new.self c.args.ticket (map pruned_of c.args.shards.now) c.args.plan.first.number c.requires.first c.requires.may.1.out
    (subst (λ (step : Step). Added g.K.Told.start c.args.repo.now c.note.new.self c.args.ticket step (DrawnFrom c.args.plan.first.number)) c.requires.is c.in_ok-note.ensures.step)
