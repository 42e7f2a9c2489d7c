use Rattle.std.proofs.Common.{◌∙◌, is_some, ap, refl}
use Rattle.esr_core.specs.Entry.{ElectStep, ElectedTerm}
use Rattle.esr_handle.specs.Turned.{or_no_seat}
use Rattle.esr_handle.proofs.Turns.{no_ticket, came, outcome, calls_client}
use Rattle.esr_handle.proofs.Seats.{end_of, turned_at, is_idle, idle_step, idle_ok, idle_called}
use Rattle.esr_handle.proofs.handle.HandleDesk.elect.Goals as goal

pub invariant_of-self : goal.invariant_of-self
invariant_of-self g c = ap is_some c.in_err-lent.ensures.kept ∙ c.self.invariant

pub returns-in_err-lent : goal.returns-in_err-lent
returns-in_err-lent g c =
    let i = is_idle g.Q.Desk.start g.B.Since.before c.in_err-lent.field-0.0 c.from_residual.result c.from_residual.ensures.1 c.self.view_is c.in_err-lent.ensures.kept c.in_err-lent.ensures.legal c.in_err-lent.ensures.grounds in record {
      step = idle_step i 0 ElectStep (λ term. ElectedTerm term);
      range = idle_ok i _;
      calls = idle_called i ElectStep (λ term. ElectedTerm term);
    }

pub invariant_of-end : goal.invariant_of-end
invariant_of-end g c =
    let t = turned_at c.self.inside.seat c.self.view_is c.in_ok-lent.ensures.turned in
    end_of c.in_ok-lent.ensures.lent c.in_ok-lent.ensures.base t.alone
    (came g.Q.Desk.start g.B.Since.before c.args.self.now.pass c.in_ok-lent.lent.turn (g.Q.Desk.seen c.in_ok-lent.lent.desk) t (g.Q.Desk.seen c.elect-answer.new.self) 0 ElectStep (λ term. ElectedTerm term) c.elect-answer.result
    c.is_told-is_told.result (no_ticket g.Q.Desk.start g.B.Since.before c.args.self.now.pass c.in_ok-lent.lent.turn (g.Q.Desk.seen c.in_ok-lent.lent.desk) t) (λ term. refl) c.is_told-is_told.ensures c.elect-answer.ensures.step)

pub invariant_of-self-2 : goal.invariant_of-self-2
invariant_of-self-2 g c = c.end_turn.ensures.full

pub returns : goal.returns
returns g c =
    let t = turned_at c.self.inside.seat c.self.view_is c.in_ok-lent.ensures.turned in record {
      step = outcome g.Q.Desk.start g.B.Since.before c.args.self.now.pass c.in_ok-lent.lent.turn (g.Q.Desk.seen c.in_ok-lent.lent.desk) t (g.Q.Desk.seen c.elect-answer.new.self) (or_no_seat c.end_turn.new.self).pass 0 ElectStep
          (λ term. ElectedTerm term) c.elect-answer.result (no_ticket g.Q.Desk.start g.B.Since.before c.args.self.now.pass c.in_ok-lent.lent.turn (g.Q.Desk.seen c.in_ok-lent.lent.desk) t) c.end_turn.ensures.pass.whole c.elect-answer.ensures.step;
      range = c.elect-answer.ensures.range;
      calls = calls_client g.Q.Desk.start g.B.Since.before c.args.self.now.pass c.in_ok-lent.lent.turn (g.Q.Desk.seen c.in_ok-lent.lent.desk) t (g.Q.Desk.seen c.elect-answer.new.self) (or_no_seat c.end_turn.new.self).pass ElectStep
          (λ term. ElectedTerm term) c.elect-answer.result c.end_turn.ensures.pass c.elect-answer.ensures.step;
    }
