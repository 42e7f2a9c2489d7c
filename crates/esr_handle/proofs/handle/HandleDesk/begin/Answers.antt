use Rattle.std.proofs.Common.{◌≡◌, ◌∙◌, is_some, ap, refl}
use Rattle.esr_core.specs.World.{Ticket}
use Rattle.esr_core.specs.Entry.{BeginStep, WasBegun}
use Rattle.esr_formats.specs.Names.{name_of}
use Rattle.esr_desk.specs.Taken.{begun_by}
use Rattle.esr_handle.proofs.Growing.{mine_of_desk}
use Rattle.esr_handle.proofs.Conditions.{begin_on, fresh_on, step_came, step_shown, step_calls, ticket_back}
use Rattle.esr_handle.proofs.Seats.{end_of, turned_at, is_idle, idle_step, idle_ok, idle_begun, idle_calls}
use Rattle.esr_handle.proofs.handle.HandleDesk.begin.Goals as goal

pub invariant_of-self : goal.invariant_of-self
invariant_of-self g c = ap is_some c.in_err-lent.ensures.kept ∙ c.self.invariant

pub returns-in_err-lent : goal.returns-in_err-lent
returns-in_err-lent g c =
    let i = is_idle g.Q.Desk.start g.B.Since.before c.in_err-lent.field-0.0 c.from_residual.result c.from_residual.ensures.1 c.self.view_is c.in_err-lent.ensures.kept c.in_err-lent.ensures.legal c.in_err-lent.ensures.grounds in record {
      step = idle_step i c.args.ticket (BeginStep (name_of c.args.blob.name)) (λ _. WasBegun);
      own = idle_begun i c.args.ticket (name_of c.args.blob.name);
      name = idle_ok i _;
      room = idle_ok i _;
      contents = idle_ok i _;
      count = idle_ok i _;
      sure = idle_ok i _;
      calls = idle_calls i;
    }

pub begin-answer-requires-clause-mine : goal.begin-answer-requires-clause-mine
begin-answer-requires-clause-mine g c = mine_of_desk c.args.ticket (g.met.Q.Sole.all_calls c.in_ok-lent.lent.desk) ((turned_at c.self.inside.seat c.self.view_is c.in_ok-lent.ensures.turned).taken c.args.ticket c.requires.mine)

pub begin-answer-requires-clause-may : goal.begin-answer-requires-clause-may
begin-answer-requires-clause-may g c = begin_on (turned_at c.self.inside.seat c.self.view_is c.in_ok-lent.ensures.turned) c.args.ticket c.requires.mine (name_of c.args.blob.name) c.requires.may

pub begin-answer-requires-clause-new : goal.begin-answer-requires-clause-new
begin-answer-requires-clause-new g c = fresh_on (turned_at c.self.inside.seat c.self.view_is c.in_ok-lent.ensures.turned) c.args.ticket c.requires.mine (BeginStep (name_of c.args.blob.name)) c.requires.new

pub invariant_of-end : goal.invariant_of-end
invariant_of-end g c =
    let t = turned_at c.self.inside.seat c.self.view_is c.in_ok-lent.ensures.turned in
    end_of c.in_ok-lent.ensures.lent c.in_ok-lent.ensures.base t.alone
    (step_came t c.args.ticket c.requires.mine (g.Q.Desk.seen c.begin-answer.new.self) (BeginStep (name_of c.args.blob.name))
    (λ _. WasBegun) c.begin-answer.result c.is_told-is_told.result (λ x. refl) c.is_told-is_told.ensures c.begin-answer.ensures.step)

pub invariant_of-self-2 : goal.invariant_of-self-2
invariant_of-self-2 g c = c.end_turn.ensures.full

pub returns : goal.returns
returns g c =
    let t = turned_at c.self.inside.seat c.self.view_is c.in_ok-lent.ensures.turned in record {
      step = step_shown t c.args.ticket c.requires.mine c.end_turn.ensures.pass (BeginStep (name_of c.args.blob.name)) (λ _. WasBegun) c.begin-answer.result c.begin-answer.ensures.step;
      own = ticket_back t c.args.ticket c.requires.mine c.end_turn.ensures.pass (λ (old new : Ticket). new ≡ begun_by (name_of c.args.blob.name) c.begin-answer.result old) c.begin-answer.ensures.own;
      name = c.begin-answer.ensures.name;
      room = c.begin-answer.ensures.room;
      contents = c.begin-answer.ensures.contents;
      count = c.begin-answer.ensures.count;
      sure = c.begin-answer.ensures.sure;
      calls = step_calls t c.args.ticket c.requires.mine c.end_turn.ensures.pass (BeginStep (name_of c.args.blob.name)) (λ _. WasBegun) c.begin-answer.result c.begin-answer.ensures.step;
    }
