use Rattle.std.proofs.Common.{◌≡◌, ◌++◌, ◌∙◌, is_some, ap, refl, IfOk, OnErr}
use Rattle.esr_core.specs.World.{Ticket}
use Rattle.esr_core.specs.Entry.{DrawStep, DrawnFrom}
use Rattle.esr_desk.specs.Start.{ticket_of}
use Rattle.esr_handle.specs.Turned.{Seated}
use Rattle.esr_handle.proofs.Growing.{mine_of_desk}
use Rattle.esr_handle.proofs.Conditions.{draw_on, fresh_on, step_came, step_shown, step_calls, ticket_back}
use Rattle.esr_handle.proofs.Seats.{end_of, turned_at, is_idle, idle_step, idle_ok, idle_kept, idle_calls}
use Rattle.esr_names.specs.declared.ids.Id.{Id}
use Rattle.esr_handle.proofs.handle.HandleDesk.draw.Goals as goal

pub invariant_of-self : goal.invariant_of-self
invariant_of-self g c = ap is_some c.in_err-lent.ensures.kept ∙ c.self.invariant

pub returns-in_err-lent : goal.returns-in_err-lent
returns-in_err-lent g c =
    let i = is_idle g.Q.Desk.start g.B.Since.before c.in_err-lent.field-0.0 c.from_residual.result c.from_residual.ensures.1 c.self.view_is c.in_err-lent.ensures.kept c.in_err-lent.ensures.legal c.in_err-lent.ensures.grounds in record {
      step = idle_step i c.args.ticket (DrawStep c.args.count) (λ (first : Id). DrawnFrom first.number);
      own = idle_ok i _;
      range = idle_ok i _;
      kept = idle_kept i (λ (z : Seated). ticket_of g.Q.Desk.start (g.B.Since.before ++ z.pass.seen) c.args.ticket);
      calls = idle_calls i;
    }

pub draw-answer-requires-clause-mine : goal.draw-answer-requires-clause-mine
draw-answer-requires-clause-mine g c = mine_of_desk c.args.ticket (g.met.Q.Sole.all_calls c.in_ok-lent.lent.desk) ((turned_at c.self.inside.seat c.self.view_is c.in_ok-lent.ensures.turned).taken c.args.ticket c.requires.mine)

pub draw-answer-requires-clause-may : goal.draw-answer-requires-clause-may
draw-answer-requires-clause-may g c = draw_on (turned_at c.self.inside.seat c.self.view_is c.in_ok-lent.ensures.turned) c.args.ticket c.requires.mine c.args.count c.requires.may

pub draw-answer-requires-clause-new : goal.draw-answer-requires-clause-new
draw-answer-requires-clause-new g c = fresh_on (turned_at c.self.inside.seat c.self.view_is c.in_ok-lent.ensures.turned) c.args.ticket c.requires.mine (DrawStep c.args.count) c.requires.new

pub invariant_of-end : goal.invariant_of-end
invariant_of-end g c =
    let t = turned_at c.self.inside.seat c.self.view_is c.in_ok-lent.ensures.turned in
    end_of c.in_ok-lent.ensures.lent c.in_ok-lent.ensures.base t.alone
    (step_came t c.args.ticket c.requires.mine (g.Q.Desk.seen c.draw-answer.new.self) (DrawStep c.args.count)
    (λ (first : Id). DrawnFrom first.number) c.draw-answer.result c.is_told-is_told.result (λ x. refl) c.is_told-is_told.ensures c.draw-answer.ensures.step)

pub invariant_of-self-2 : goal.invariant_of-self-2
invariant_of-self-2 g c = c.end_turn.ensures.full

pub returns : goal.returns
returns g c =
    let t = turned_at c.self.inside.seat c.self.view_is c.in_ok-lent.ensures.turned in record {
      step = step_shown t c.args.ticket c.requires.mine c.end_turn.ensures.pass (DrawStep c.args.count) (λ (first : Id). DrawnFrom first.number) c.draw-answer.result c.draw-answer.ensures.step;
      own = ticket_back t c.args.ticket c.requires.mine c.end_turn.ensures.pass (λ (old new : Ticket). IfOk c.draw-answer.result (λ (first : Id). new ≡ record old { first = first.number; drawn = c.args.count })) c.draw-answer.ensures.own;
      range = c.draw-answer.ensures.range;
      kept = ticket_back t c.args.ticket c.requires.mine c.end_turn.ensures.pass (λ (old new : Ticket). OnErr c.draw-answer.result (new ≡ old)) c.draw-answer.ensures.kept;
      calls = step_calls t c.args.ticket c.requires.mine c.end_turn.ensures.pass (DrawStep c.args.count) (λ (first : Id). DrawnFrom first.number) c.draw-answer.result c.draw-answer.ensures.step;
    }
