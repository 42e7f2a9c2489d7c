use Rattle.std.proofs.Common.{◌≡◌, ◌++◌, ◌∙◌, is_some, ap, refl, map, IfOk, OnErr}
use Rattle.esr_core.specs.World.{Ticket}
use Rattle.esr_core.specs.Entry.{PruneStep, PlanShards, DrawnFrom}
use Rattle.esr_core.specs.Pruning.{planned}
use Rattle.esr_formats.specs.Ids.{number_of}
use Rattle.esr_formats.specs.Roots.{root_of}
use Rattle.esr_results.specs.Pruned.{pruned_of}
use Rattle.esr_desk.specs.Start.{ticket_of, formats_of}
use Rattle.esr_desk.specs.declared.unit.Planned.{Planned}
use Rattle.esr_handle.specs.Turned.{Seated}
use Rattle.esr_handle.proofs.Growing.{mine_of_desk}
use Rattle.esr_handle.proofs.Conditions.{plan_on, root_on, fresh_on, step_came, step_shown, step_calls, ticket_back}
use Rattle.esr_handle.proofs.Seats.{end_of, turned_at, is_idle, idle_step, idle_ok, idle_kept, idle_calls}
use Rattle.esr_handle.proofs.handle.HandleDesk.plan.Goals as goal

pub invariant_of-self : goal.invariant_of-self
invariant_of-self g c = ap is_some c.in_err-lent.ensures.kept ∙ c.self.invariant

pub returns-in_err-lent : goal.returns-in_err-lent
returns-in_err-lent g c =
    let i = is_idle g.Q.Desk.start g.B.Since.before c.in_err-lent.field-0.0 c.from_residual.result c.from_residual.ensures.1 c.self.view_is c.in_err-lent.ensures.kept c.in_err-lent.ensures.legal c.in_err-lent.ensures.grounds in record {
      step = idle_step i c.args.ticket (PruneStep (PlanShards (map pruned_of c.args.basis.now.shards.now))) (λ (p : Planned). DrawnFrom p.first.number);
      own = idle_ok i _;
      root = idle_ok i _;
      range = idle_ok i _;
      kept = idle_kept i (λ (z : Seated). ticket_of g.Q.Desk.start (g.B.Since.before ++ z.pass.seen) c.args.ticket);
      calls = idle_calls i;
    }

pub plan-answer-requires-clause-mine : goal.plan-answer-requires-clause-mine
plan-answer-requires-clause-mine g c = mine_of_desk c.args.ticket (g.met.Q.Sole.all_calls c.in_ok-lent.lent.desk) ((turned_at c.self.inside.seat c.self.view_is c.in_ok-lent.ensures.turned).taken c.args.ticket c.requires.mine)

pub plan-answer-requires-clause-copied : goal.plan-answer-requires-clause-copied
plan-answer-requires-clause-copied g c = root_on (turned_at c.self.inside.seat c.self.view_is c.in_ok-lent.ensures.turned) c.args.ticket c.requires.mine (root_of c.args.basis.now.root.now) c.requires.copied

pub plan-answer-requires-clause-may : goal.plan-answer-requires-clause-may
plan-answer-requires-clause-may g c =
    plan_on (turned_at c.self.inside.seat c.self.view_is c.in_ok-lent.ensures.turned) c.args.ticket c.requires.mine (map number_of c.args.basis.now.uuids.now) (map pruned_of c.args.basis.now.shards.now) c.requires.may

pub plan-answer-requires-clause-new : goal.plan-answer-requires-clause-new
plan-answer-requires-clause-new g c = fresh_on (turned_at c.self.inside.seat c.self.view_is c.in_ok-lent.ensures.turned) c.args.ticket c.requires.mine (PruneStep (PlanShards (map pruned_of c.args.basis.now.shards.now))) c.requires.new

pub invariant_of-end : goal.invariant_of-end
invariant_of-end g c =
    let t = turned_at c.self.inside.seat c.self.view_is c.in_ok-lent.ensures.turned in
    end_of c.in_ok-lent.ensures.lent c.in_ok-lent.ensures.base t.alone
    (step_came t c.args.ticket c.requires.mine (g.Q.Desk.seen c.plan-answer.new.self) (PruneStep (PlanShards (map pruned_of c.args.basis.now.shards.now)))
    (λ (p : Planned). DrawnFrom p.first.number) c.plan-answer.result c.is_told-is_told.result (λ x. refl) c.is_told-is_told.ensures c.plan-answer.ensures.step)

pub invariant_of-self-2 : goal.invariant_of-self-2
invariant_of-self-2 g c = c.end_turn.ensures.full

pub returns : goal.returns
returns g c =
    let t = turned_at c.self.inside.seat c.self.view_is c.in_ok-lent.ensures.turned in record {
      step = step_shown t c.args.ticket c.requires.mine c.end_turn.ensures.pass (PruneStep (PlanShards (map pruned_of c.args.basis.now.shards.now))) (λ (p : Planned). DrawnFrom p.first.number) c.plan-answer.result c.plan-answer.ensures.step;
      own = ticket_back t c.args.ticket c.requires.mine c.end_turn.ensures.pass
          (λ (old new : Ticket). IfOk c.plan-answer.result (λ (p : Planned). new ≡ planned (formats_of g.Q.Desk.start) (map pruned_of c.args.basis.now.shards.now) p.first.number old)) c.plan-answer.ensures.own;
      root = c.plan-answer.ensures.root;
      range = c.plan-answer.ensures.range;
      kept = ticket_back t c.args.ticket c.requires.mine c.end_turn.ensures.pass (λ (old new : Ticket). OnErr c.plan-answer.result (new ≡ old)) c.plan-answer.ensures.kept;
      calls = step_calls t c.args.ticket c.requires.mine c.end_turn.ensures.pass (PruneStep (PlanShards (map pruned_of c.args.basis.now.shards.now))) (λ (p : Planned). DrawnFrom p.first.number) c.plan-answer.result c.plan-answer.ensures.step;
    }
