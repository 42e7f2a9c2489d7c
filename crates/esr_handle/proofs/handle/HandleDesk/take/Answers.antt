use Rattle.std.proofs.Common.{◌≡◌, ◌++◌, ◌∙◌, is_some, ap, sym, subst, IfOk, IfSome, List, [], length}
use Rattle.esr_core.specs.Entry.{TakeStep, Moment}
use Rattle.esr_desk.specs.Own.{made_of}
use Rattle.esr_desk.specs.Outcome.{take_reply}
use Rattle.esr_desk.specs.Readers.{TookUnit, IsBare}
use Rattle.esr_handle.specs.Turned.{or_no_seat}
use Rattle.esr_handle.specs.Owned.{calls_in}
use Rattle.esr_handle.proofs.Turns.{no_ticket, came_take, outcome, calls_client, taken_home}
use Rattle.esr_handle.proofs.Seats.{end_of, turned_at, is_idle, idle_step, idle_ok, idle_called}
use Rattle.esr_handle.proofs.handle.HandleDesk.take.Goals as goal

pub invariant_of-self : goal.invariant_of-self
invariant_of-self g c = ap is_some c.in_err-lent.ensures.kept ∙ c.self.invariant

pub returns-in_err-lent : goal.returns-in_err-lent
returns-in_err-lent g c =
    let i = is_idle g.Q.Desk.start g.B.Since.before c.in_err-lent.field-0.0 c.from_residual.result c.from_residual.ensures.1 c.self.view_is c.in_err-lent.ensures.kept c.in_err-lent.ensures.legal c.in_err-lent.ensures.grounds in record {
      step = idle_step i 0 TakeStep take_reply;
      took = idle_ok i _;
      bare = idle_ok i _;
      new = idle_ok i _;
      mine = idle_ok i _;
      calls = idle_called i TakeStep take_reply;
    }

pub invariant_of-end : goal.invariant_of-end
invariant_of-end g c =
    let t = turned_at c.self.inside.seat c.self.view_is c.in_ok-lent.ensures.turned in
    end_of c.in_ok-lent.ensures.lent c.in_ok-lent.ensures.base t.alone
    (came_take g.Q.Desk.start g.B.Since.before c.args.self.now.pass c.in_ok-lent.lent.turn (g.Q.Desk.seen c.in_ok-lent.lent.desk) t c.each_ticket_is_given_once.ensures.next
    (g.Q.Desk.seen c.take-answer.new.self) c.take-answer.result c.is_told-is_told.result c.is_told-is_told.ensures c.take-answer.ensures.step)

pub invariant_of-self-2 : goal.invariant_of-self-2
invariant_of-self-2 g c = c.end_turn.ensures.full

pub returns : goal.returns
returns g c =
    let t = turned_at c.self.inside.seat c.self.view_is c.in_ok-lent.ensures.turned in record {
      step = outcome g.Q.Desk.start g.B.Since.before c.args.self.now.pass c.in_ok-lent.lent.turn (g.Q.Desk.seen c.in_ok-lent.lent.desk) t (g.Q.Desk.seen c.take-answer.new.self) (or_no_seat c.end_turn.new.self).pass 0 TakeStep take_reply
          c.take-answer.result (no_ticket g.Q.Desk.start g.B.Since.before c.args.self.now.pass c.in_ok-lent.lent.turn (g.Q.Desk.seen c.in_ok-lent.lent.desk) t) c.end_turn.ensures.pass.whole c.take-answer.ensures.step;
      took = subst (λ (log : List Moment). IfOk c.take-answer.result (λ o. IfSome o (λ u. TookUnit g.Q.Desk.start log u))) (sym c.end_turn.ensures.pass.whole) c.take-answer.ensures.took;
      bare = subst (λ (log : List Moment). IfOk c.take-answer.result (λ o. IfSome o (λ u. IsBare g.Q.Desk.start log u))) (sym c.end_turn.ensures.pass.whole) c.take-answer.ensures.bare;
      new = subst (λ (log : List Moment). IfOk c.take-answer.result (λ o. IfSome o (λ u. made_of g.Q.Desk.start log u.ready.ticket ≡ []))) (sym c.end_turn.ensures.pass.whole) c.take-answer.ensures.new;
      mine = taken_home (g.B.Since.before ++ (or_no_seat c.end_turn.new.self).pass.seen) (calls_in (length g.B.Since.before) c.args.self.now.pass.seen c.args.self.now.pass.mine)
          (calls_in (length g.B.Since.before) (or_no_seat c.end_turn.new.self).pass.seen (or_no_seat c.end_turn.new.self).pass.mine) (g.Q.Desk.calls c.take-answer.new.self) c.take-answer.result
          (calls_client g.Q.Desk.start g.B.Since.before c.args.self.now.pass c.in_ok-lent.lent.turn (g.Q.Desk.seen c.in_ok-lent.lent.desk) t (g.Q.Desk.seen c.take-answer.new.self) (or_no_seat c.end_turn.new.self).pass TakeStep take_reply
          c.take-answer.result c.end_turn.ensures.pass c.take-answer.ensures.step) c.take-answer.ensures.mine;
      calls = calls_client g.Q.Desk.start g.B.Since.before c.args.self.now.pass c.in_ok-lent.lent.turn (g.Q.Desk.seen c.in_ok-lent.lent.desk) t (g.Q.Desk.seen c.take-answer.new.self) (or_no_seat c.end_turn.new.self).pass TakeStep take_reply
          c.take-answer.result c.end_turn.ensures.pass c.take-answer.ensures.step;
    }
