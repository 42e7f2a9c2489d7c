use Rattle.std.proofs.Common.{◌≡◌, ◌++◌, ◌∙◌, is_some, ap, refl, OnErr, OnOk}
use Rattle.esr_core.specs.World.{Ticket}
use Rattle.esr_core.specs.Entry.{DoneStep, HasEnded}
use Rattle.esr_results.specs.Results.{result_of}
use Rattle.esr_desk.specs.Start.{ticket_of}
use Rattle.esr_desk.specs.Taken.{HasEndedAs}
use Rattle.esr_handle.specs.Turned.{Seated}
use Rattle.esr_handle.proofs.Growing.{mine_of_desk}
use Rattle.esr_handle.proofs.Conditions.{end_on, step_came, step_shown, step_calls, ticket_back}
use Rattle.esr_handle.proofs.Seats.{end_of, turned_at, is_idle, idle_step, idle_ok, idle_kept, idle_calls}
use Rattle.esr_handle.proofs.handle.HandleDesk.end_shard.Goals as goal

pub invariant_of-self : goal.invariant_of-self
invariant_of-self g c = ap is_some c.in_err-lent.ensures.kept ∙ c.self.invariant

pub returns-in_err-lent : goal.returns-in_err-lent
returns-in_err-lent g c =
    let i = is_idle g.Q.Desk.start g.B.Since.before c.in_err-lent.field-0.0 c.from_residual.result c.from_residual.ensures.1 c.self.view_is c.in_err-lent.ensures.kept c.in_err-lent.ensures.legal c.in_err-lent.ensures.grounds in record {
      step = idle_step i c.args.ticket (DoneStep (result_of c.args.outcome.now)) (λ _. HasEnded);
      own = idle_ok i _;
      kept = idle_kept i (λ (z : Seated). ticket_of g.Q.Desk.start (g.B.Since.before ++ z.pass.seen) c.args.ticket);
      calls = idle_calls i;
    }

pub end_shard-answer-requires-clause-mine : goal.end_shard-answer-requires-clause-mine
end_shard-answer-requires-clause-mine g c = mine_of_desk c.args.ticket (g.met.Q.Sole.all_calls c.in_ok-lent.lent.desk) ((turned_at c.self.inside.seat c.self.view_is c.in_ok-lent.ensures.turned).taken c.args.ticket c.requires.mine)

pub end_shard-answer-requires-clause-may : goal.end_shard-answer-requires-clause-may
end_shard-answer-requires-clause-may g c = end_on (turned_at c.self.inside.seat c.self.view_is c.in_ok-lent.ensures.turned) c.args.ticket c.requires.mine (result_of c.args.outcome.now) c.requires.may

pub invariant_of-end : goal.invariant_of-end
invariant_of-end g c =
    let t = turned_at c.self.inside.seat c.self.view_is c.in_ok-lent.ensures.turned in
    end_of c.in_ok-lent.ensures.lent c.in_ok-lent.ensures.base t.alone
    (step_came t c.args.ticket c.requires.mine (g.Q.Desk.seen c.end_shard-answer.new.self) (DoneStep (result_of c.args.outcome.now))
    (λ _. HasEnded) c.end_shard-answer.result c.is_told-is_told.result (λ x. refl) c.is_told-is_told.ensures c.end_shard-answer.ensures.step)

pub invariant_of-self-2 : goal.invariant_of-self-2
invariant_of-self-2 g c = c.end_turn.ensures.full

pub returns : goal.returns
returns g c =
    let t = turned_at c.self.inside.seat c.self.view_is c.in_ok-lent.ensures.turned in record {
      step = step_shown t c.args.ticket c.requires.mine c.end_turn.ensures.pass (DoneStep (result_of c.args.outcome.now)) (λ _. HasEnded) c.end_shard-answer.result c.end_shard-answer.ensures.step;
      own = ticket_back t c.args.ticket c.requires.mine c.end_turn.ensures.pass (λ (old new : Ticket). OnOk c.end_shard-answer.result (HasEndedAs old new)) c.end_shard-answer.ensures.own;
      kept = ticket_back t c.args.ticket c.requires.mine c.end_turn.ensures.pass (λ (old new : Ticket). OnErr c.end_shard-answer.result (new ≡ old)) c.end_shard-answer.ensures.kept;
      calls = step_calls t c.args.ticket c.requires.mine c.end_turn.ensures.pass (DoneStep (result_of c.args.outcome.now)) (λ _. HasEnded) c.end_shard-answer.result c.end_shard-answer.ensures.step;
    }
