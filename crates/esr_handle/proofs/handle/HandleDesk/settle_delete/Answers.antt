use Rattle.std.proofs.Common.{◌≡◌, ◌∙◌, is_some, ap, refl, OnOk, true}
use Rattle.esr_core.specs.World.{Ticket}
use Rattle.esr_core.specs.Entry.{PruneStep, SettlePruned, WasSettled}
use Rattle.esr_formats.specs.Roots.{root_of}
use Rattle.esr_desk.specs.Taken.{IsSettled, LeftBy}
use Rattle.esr_handle.proofs.Growing.{mine_of_desk}
use Rattle.esr_handle.proofs.Conditions.{settle_delete_on, fresh_on, step_came, step_shown, step_calls, ticket_back}
use Rattle.esr_handle.proofs.Seats.{end_of, turned_at, is_idle, idle_step, idle_ok, idle_left, idle_calls}
use Rattle.esr_handle.proofs.handle.HandleDesk.settle_delete.Goals as goal

pub invariant_of-self : goal.invariant_of-self
invariant_of-self g c = ap is_some c.in_err-lent.ensures.kept ∙ c.self.invariant

pub returns-in_err-lent : goal.returns-in_err-lent
returns-in_err-lent g c =
    let i = is_idle g.Q.Desk.start g.B.Since.before c.in_err-lent.field-0.0 c.from_residual.result c.from_residual.ensures.1 c.self.view_is c.in_err-lent.ensures.kept c.in_err-lent.ensures.legal c.in_err-lent.ensures.grounds in record {
      step = idle_step i c.args.ticket (PruneStep SettlePruned) (λ _. WasSettled);
      own = idle_ok i _;
      kept = idle_left i c.args.ticket IsSettled;
      calls = idle_calls i;
    }

pub settle_delete-answer-requires-clause-mine : goal.settle_delete-answer-requires-clause-mine
settle_delete-answer-requires-clause-mine g c = mine_of_desk c.args.ticket (g.met.Q.Sole.all_calls c.in_ok-lent.lent.desk) ((turned_at c.self.inside.seat c.self.view_is c.in_ok-lent.ensures.turned).taken c.args.ticket c.requires.mine)

pub settle_delete-answer-requires-clause-may : goal.settle_delete-answer-requires-clause-may
settle_delete-answer-requires-clause-may g c = settle_delete_on (turned_at c.self.inside.seat c.self.view_is c.in_ok-lent.ensures.turned) c.args.ticket c.requires.mine (root_of c.args.root.now) c.requires.may

pub settle_delete-answer-requires-clause-new : goal.settle_delete-answer-requires-clause-new
settle_delete-answer-requires-clause-new g c = fresh_on (turned_at c.self.inside.seat c.self.view_is c.in_ok-lent.ensures.turned) c.args.ticket c.requires.mine (PruneStep SettlePruned) c.requires.new

pub invariant_of-end : goal.invariant_of-end
invariant_of-end g c =
    let t = turned_at c.self.inside.seat c.self.view_is c.in_ok-lent.ensures.turned in
    end_of c.in_ok-lent.ensures.lent c.in_ok-lent.ensures.base t.alone
    (step_came t c.args.ticket c.requires.mine (g.Q.Desk.seen c.settle_delete-answer.new.self) (PruneStep SettlePruned)
    (λ _. WasSettled) c.settle_delete-answer.result c.is_told-is_told.result (λ x. refl) c.is_told-is_told.ensures c.settle_delete-answer.ensures.step)

pub invariant_of-self-2 : goal.invariant_of-self-2
invariant_of-self-2 g c = c.end_turn.ensures.full

pub returns : goal.returns
returns g c =
    let t = turned_at c.self.inside.seat c.self.view_is c.in_ok-lent.ensures.turned in record {
      step = step_shown t c.args.ticket c.requires.mine c.end_turn.ensures.pass (PruneStep SettlePruned) (λ _. WasSettled) c.settle_delete-answer.result c.settle_delete-answer.ensures.step;
      own = ticket_back t c.args.ticket c.requires.mine c.end_turn.ensures.pass (λ (old new : Ticket). OnOk c.settle_delete-answer.result (new ≡ record old { settled = true })) c.settle_delete-answer.ensures.own;
      kept = ticket_back t c.args.ticket c.requires.mine c.end_turn.ensures.pass (λ (old new : Ticket). LeftBy (IsSettled old) c.settle_delete-answer.result old new) c.settle_delete-answer.ensures.kept;
      calls = step_calls t c.args.ticket c.requires.mine c.end_turn.ensures.pass (PruneStep SettlePruned) (λ _. WasSettled) c.settle_delete-answer.result c.settle_delete-answer.ensures.step;
    }
