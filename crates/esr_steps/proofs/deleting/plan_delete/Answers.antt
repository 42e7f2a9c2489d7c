use Rattle.std.proofs.Common.{◌≡◌, ◌+◌, ◌<◌, ◌^◌, List, length, map, IfOk, OnErr, sym, subst}
use Rattle.esr_model.specs.Values.{RootData, IsOneEach}
use Rattle.esr_model.specs.Delete.{deleted_root}
use Rattle.esr_core.specs.Pruning.{AreOfRoot, planned}
use Rattle.esr_core.specs.Entry.{Step, DrawnFrom, Moment, PruneStep, PlanShards}
use Rattle.esr_formats.specs.Ids.{number_of}
use Rattle.esr_formats.specs.Roots.{root_of}
use Rattle.esr_results.specs.Pruned.{pruned_of}
use Rattle.esr_desk.specs.Start.{formats_of, ticket_of}
use Rattle.esr_desk.specs.Entries.{step_of}
use Rattle.esr_desk.specs.declared.unit.Planned.{Planned}
use Rattle.esr_repo.specs.Next.{Did}
use Rattle.esr_repo.specs.Stepping.{did_from, ok_so}
use Rattle.esr_steps.proofs.DeletePlans.{plan_now}
use Rattle.esr_repo.specs.Fresh.{fresh_as, goes_as, own_as}
use Rattle.esr_steps.proofs.deleting.plan_delete.Goals as goal

pub planned-requires-clause-one_each : goal.planned-requires-clause-one_each
planned-requires-clause-one_each g c = subst (λ (r : RootData). IsOneEach r.indices) (sym c.requires.copied) c.requires.may.one_each

pub planned-requires-clause-of_root : goal.planned-requires-clause-of_root
planned-requires-clause-of_root g c = subst (λ (r : RootData). AreOfRoot r (map pruned_of c.args.shards.now)) (sym c.requires.copied) c.requires.may.of_root

pub draw_planned-requires-clause-may : goal.draw_planned-requires-clause-may
draw_planned-requires-clause-may g c =
    plan_now g.K.Told.start c.args.repo.now c.check.new.self c.args.ticket (map number_of c.args.uuids.now) (map pruned_of c.args.shards.now) (root_of c.args.root.now) (root_of c.in_ok-plan.plan.root) c.in_ok-plan.plan.first.number
    c.in_ok-check.ensures.step.0 c.requires.may c.requires.copied c.in_ok-plan.ensures.root c.in_ok-plan.ensures.back

pub returns-clause-step : goal.returns-clause-step
returns-clause-step g c =
    let s = g.K.Told.start in
    subst (λ (step : Step). Did s c.args.repo.now c.draw_planned.new.repo c.args.ticket step (λ (p : Planned). DrawnFrom p.first.number) c.draw_planned.result) c.in_ok-step.ensures
    (did_from s c.args.repo.now c.check.new.self c.draw_planned.new.repo c.args.ticket (step_of c.in_ok-step.step) (λ (p : Planned). DrawnFrom p.first.number) c.draw_planned.result c.in_ok-check.ensures.step.0 c.draw_planned.ensures.step)

pub returns-clause-own : goal.returns-clause-own
returns-clause-own g c =
    let s = g.K.Told.start in
    subst (λ (log : List Moment). IfOk c.draw_planned.result (λ (p : Planned). ticket_of s c.draw_planned.new.repo c.args.ticket ≡ planned (formats_of s) (map pruned_of c.args.shards.now) p.first.number (ticket_of s log c.args.ticket)))
    c.in_ok-check.ensures.step.0 c.draw_planned.ensures.own

pub returns-clause-root : goal.returns-clause-root
returns-clause-root g c =
    ok_so c.draw_planned.result c.in_ok-plan.plan
    (λ (p : Planned). root_of p.root ≡ deleted_root (root_of c.args.root.now) (map number_of c.args.uuids.now) (map pruned_of c.args.shards.now) p.first.number) c.draw_planned.ensures.same c.in_ok-plan.ensures.root

pub returns-clause-range : goal.returns-clause-range
returns-clause-range g c = ok_so c.draw_planned.result c.in_ok-plan.plan (λ (p : Planned). p.first.number + length c.args.shards.now < 2 ^ 128) c.draw_planned.ensures.same c.in_ok-plan.ensures.range

pub returns-clause-kept : goal.returns-clause-kept
returns-clause-kept g c =
    let s = g.K.Told.start in
    subst (λ (log : List Moment). OnErr c.draw_planned.result (ticket_of s c.draw_planned.new.repo c.args.ticket ≡ ticket_of s log c.args.ticket)) c.in_ok-check.ensures.step.0 c.draw_planned.ensures.kept

pub check-requires-clause-fresh : goal.check-requires-clause-fresh
check-requires-clause-fresh g c = fresh_as g.K.Told.start c.args.repo.now c.args.ticket (step_of c.in_ok-plans.field-0) (PruneStep (PlanShards (map pruned_of c.args.shards.now))) c.in_ok-plans.ensures c.requires.new

pub check-requires-clause-own : goal.check-requires-clause-own
check-requires-clause-own g c = own_as g.K.Told.start c.args.repo.now c.args.ticket (step_of c.in_ok-plans.field-0) (PruneStep (PlanShards (map pruned_of c.args.shards.now))) c.in_ok-plans.ensures tt

pub draw_planned-requires-clause-goes : goal.draw_planned-requires-clause-goes
draw_planned-requires-clause-goes g c =
    goes_as g.K.Told.start c.check.new.self c.args.ticket (step_of c.in_ok-plans.field-0) (step_of c.in_ok-step.step) (PruneStep (PlanShards (map pruned_of c.args.shards.now))) c.in_ok-plans.ensures c.in_ok-step.ensures c.in_ok-check.ensures.goes
