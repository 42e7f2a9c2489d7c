use Rattle.std.proofs.Common.{None, map, ap, ◌∙◌}
use Rattle.esr_core.specs.World.{Ticket}
use Rattle.esr_core.specs.Entry.{PruneStep, PlanShards, DrawnFrom}
use Rattle.esr_formats.specs.Ids.{number_of}
use Rattle.esr_formats.specs.Roots.{root_of}
use Rattle.esr_results.specs.Pruned.{pruned_of}
use Rattle.esr_desk.specs.Start.{ticket_of}
use Rattle.esr_desk.specs.Grew.{grew_by_none, outcome_grew_by}
use Rattle.esr_desk.specs.declared.unit.Planned.{Planned}
use Rattle.esr_desk.specs.declared.hand.Hand.TheVariants as hands
use Rattle.esr_desk.specs.Evidence.{evidence}
use Rattle.esr_unit.specs.declared.trouble.Trouble.TheVariants.{Step}
use Rattle.esr_unit.specs.Shown.{Shown}
use Rattle.esr_unit.specs.Refusals.{passed_on}
use Rattle.esr_delete.proofs.Going.{prune_shown}
use Rattle.esr_delete.proofs.Planning.{found, can_plan, plan_new, plan_tells, has_planned}
use Rattle.esr_delete.proofs.plan.plan.Goals as goal

pub plan-requires-clause-copied : goal.plan-requires-clause-copied
plan-requires-clause-copied g c = c.requires.may.root_is

pub plan-requires-clause-may : goal.plan-requires-clause-may
plan-requires-clause-may g c =
    let s = g.Q.Desk.start in
    let t = ticket_of s (g.Q.Desk.seen c.args.desk.now) c.args.ticket in
    let root = root_of c.args.root.now in
    let uuids = map number_of c.args.uuids.now in
    let shards = map pruned_of c.in_ok-shards.shards in
    let all = c.in_ok-shards.ensures in
    can_plan s t c.args.clean root uuids c.args.held.now shards c.requires.may c.requires.gathered
    (found s t c.args.clean root uuids c.args.held.now shards c.requires.may c.requires.gathered all.one_each all.exact all.of_root all.each all.held all.writable)

pub plan-requires-clause-new : goal.plan-requires-clause-new
plan-requires-clause-new g c = plan_new g.Q.Desk.start (g.Q.Desk.seen c.args.desk.now) c.args.ticket (map pruned_of c.in_ok-shards.shards) c.requires.made

pub returns-in_err-shards-clause-grew : goal.returns-in_err-shards-clause-grew
returns-in_err-shards-clause-grew g c = grew_by_none g.Q.Desk.start c.args.ticket (g.Q.Desk.seen c.args.desk.now)

pub returns-in_err-planned-clause-trouble : goal.returns-in_err-planned-clause-trouble
returns-in_err-planned-clause-trouble g c =
    let s = g.Q.Desk.start in
    let old = g.Q.Desk.seen c.args.desk.now in
    let new = g.Q.Desk.seen c.plan.new.self in
    let who = c.args.ticket in
    let refusal = c.in_err-planned.field-0.0 in
    let kept = c.in_err-planned.ensures.kept in
    let e = evidence g.Q.Stage.Counted.faults g.Q.Fetch.Counted.faults g.Q.Shard.Counted.faults g.Q.Target.Counted.faults g.Q.Shard.Shard.told g.Q.Target.Target.told in
    passed_on c.from_residual-in_err-planned.result (Shown hands.Delete e ⊥ s new who) (Step refusal) c.from_residual-in_err-planned.ensures.1
    (prune_shown e s old new who (PlanShards (map pruned_of c.in_ok-shards.shards)) refusal (map number_of c.args.uuids.now) None c.refusals_are_of_their_steps.ensures (ap (λ (t : Ticket). t.out) kept ∙ c.requires.may.out)
    (ap (λ (t : Ticket). t.work) kept ∙ c.requires.may.work) c.in_err-planned.ensures.step)

pub returns-in_err-planned-clause-grew : goal.returns-in_err-planned-clause-grew
returns-in_err-planned-clause-grew g c =
    outcome_grew_by g.Q.Desk.start (g.Q.Desk.seen c.args.desk.now) (g.Q.Desk.seen c.plan.new.self) c.args.ticket
    (PruneStep (PlanShards (map pruned_of c.in_ok-shards.shards))) (λ (p : Planned). DrawnFrom p.first.number) c.plan.result c.plan.ensures.step

pub returns-clause-ok : goal.returns-clause-ok
returns-clause-ok g c =
    let s = g.Q.Desk.start in
    let who = c.args.ticket in
    let t = ticket_of s (g.Q.Desk.seen c.args.desk.now) who in
    let root = root_of c.args.root.now in
    let uuids = map number_of c.args.uuids.now in
    let shards = map pruned_of c.in_ok-shards.shards in
    let all = c.in_ok-shards.ensures in
    let p = c.in_ok-planned.planned in
    has_planned s t (ticket_of s (g.Q.Desk.seen c.plan.new.self) who) root (root_of p.root) uuids c.args.held.now c.in_ok-shards.shards p.first.number c.requires.may.root_is c.requires.gathered
    (found s t c.args.clean root uuids c.args.held.now shards c.requires.may c.requires.gathered all.one_each all.exact all.of_root all.each all.held all.writable)
    c.in_ok-planned.ensures.own c.in_ok-planned.ensures.root c.in_ok-planned.ensures.range

pub returns-clause-few : goal.returns-clause-few
returns-clause-few g c = c.in_ok-shards.ensures.few

pub returns-clause-tells : goal.returns-clause-tells
returns-clause-tells g c =
    plan_tells g.Q.Desk.start (g.Q.Desk.seen c.args.desk.now) (g.Q.Desk.seen c.plan.new.self) c.args.ticket (map pruned_of c.in_ok-shards.shards)
    (DrawnFrom c.in_ok-planned.planned.first.number) c.requires.mine.some c.requires.made c.in_ok-planned.ensures.step

pub returns-clause-grew : goal.returns-clause-grew
returns-clause-grew g c =
    outcome_grew_by g.Q.Desk.start (g.Q.Desk.seen c.args.desk.now) (g.Q.Desk.seen c.plan.new.self) c.args.ticket
    (PruneStep (PlanShards (map pruned_of c.in_ok-shards.shards))) (λ (p : Planned). DrawnFrom p.first.number) c.plan.result c.plan.ensures.step
