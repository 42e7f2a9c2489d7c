use Rattle.std.proofs.Common.{◌≡◌, ◌++◌, ◌∙◌, is_some, ap, IfOk, OnErr}
use Rattle.esr_core.specs.World.{Ticket}
use Rattle.esr_core.specs.Entry.{CommitStep}
use Rattle.esr_depot.specs.declared.depot.Commit.TheVariants.{Exists}
use Rattle.esr_depot.specs.declared.depot.Commit.{Commit}
use Rattle.esr_formats.specs.Names.{name_of}
use Rattle.esr_desk.specs.Start.{ticket_of}
use Rattle.esr_desk.specs.Taken.{committed_by}
use Rattle.esr_desk.specs.Outcome.{commit_reply}
use Rattle.esr_handle.specs.Turned.{Seated}
use Rattle.esr_handle.proofs.Growing.{mine_of_desk}
use Rattle.esr_handle.proofs.Conditions.{commit_on, fresh_on, step_came, step_shown, step_calls, ticket_back, commit_gives}
use Rattle.esr_handle.proofs.Seats.{end_of, turned_at, is_idle, idle_step, idle_ok, idle_not, idle_kept, idle_calls}
use Rattle.esr_handle.proofs.handle.HandleDesk.commit.Goals as goal

pub invariant_of-self : goal.invariant_of-self
invariant_of-self g c = ap is_some c.in_err-lent.ensures.kept ∙ c.self.invariant

pub returns-in_err-lent : goal.returns-in_err-lent
returns-in_err-lent g c =
    let i = is_idle g.Q.Desk.start g.B.Since.before c.in_err-lent.field-0.0 c.from_residual.result c.from_residual.ensures.1 c.self.view_is c.in_err-lent.ensures.kept c.in_err-lent.ensures.legal c.in_err-lent.ensures.grounds in record {
      step = idle_step i c.args.ticket (CommitStep (name_of c.args.name)) commit_reply;
      own = idle_ok i _;
      found = λ is. absurd (idle_not i Exists is);
      kept = idle_kept i (λ (z : Seated). ticket_of g.Q.Desk.start (g.B.Since.before ++ z.pass.seen) c.args.ticket);
      calls = idle_calls i;
    }

pub commit-answer-requires-clause-mine : goal.commit-answer-requires-clause-mine
commit-answer-requires-clause-mine g c = mine_of_desk c.args.ticket (g.met.Q.Sole.all_calls c.in_ok-lent.lent.desk) ((turned_at c.self.inside.seat c.self.view_is c.in_ok-lent.ensures.turned).taken c.args.ticket c.requires.mine)

pub commit-answer-requires-clause-may : goal.commit-answer-requires-clause-may
commit-answer-requires-clause-may g c = (c.requires.may.0, c.requires.may.1, commit_on (turned_at c.self.inside.seat c.self.view_is c.in_ok-lent.ensures.turned) c.args.ticket c.requires.mine (name_of c.args.name) c.requires.may.0 c.requires.may.2)

pub commit-answer-requires-clause-new : goal.commit-answer-requires-clause-new
commit-answer-requires-clause-new g c = fresh_on (turned_at c.self.inside.seat c.self.view_is c.in_ok-lent.ensures.turned) c.args.ticket c.requires.mine (CommitStep (name_of c.args.name)) c.requires.new

pub invariant_of-end : goal.invariant_of-end
invariant_of-end g c =
    let t = turned_at c.self.inside.seat c.self.view_is c.in_ok-lent.ensures.turned in
    end_of c.in_ok-lent.ensures.lent c.in_ok-lent.ensures.base t.alone
    (step_came t c.args.ticket c.requires.mine (g.Q.Desk.seen c.commit-answer.new.self)
    (CommitStep (name_of c.args.name)) commit_reply c.commit-answer.result c.is_told-is_told.result commit_gives c.is_told-is_told.ensures c.commit-answer.ensures.step)

pub invariant_of-self-2 : goal.invariant_of-self-2
invariant_of-self-2 g c = c.end_turn.ensures.full

pub returns : goal.returns
returns g c =
    let t = turned_at c.self.inside.seat c.self.view_is c.in_ok-lent.ensures.turned in record {
      step = step_shown t c.args.ticket c.requires.mine c.end_turn.ensures.pass (CommitStep (name_of c.args.name)) commit_reply c.commit-answer.result c.commit-answer.ensures.step;
      own = ticket_back t c.args.ticket c.requires.mine c.end_turn.ensures.pass (λ (old new : Ticket). IfOk c.commit-answer.result (λ (k : Commit). new ≡ committed_by (name_of c.args.name) (g.Q.Stage.Stage.contents c.args.stage) k old))
          c.commit-answer.ensures.own;
      found = c.commit-answer.ensures.found;
      kept = ticket_back t c.args.ticket c.requires.mine c.end_turn.ensures.pass (λ (old new : Ticket). OnErr c.commit-answer.result (new ≡ old)) c.commit-answer.ensures.kept;
      calls = step_calls t c.args.ticket c.requires.mine c.end_turn.ensures.pass (CommitStep (name_of c.args.name)) commit_reply c.commit-answer.result c.commit-answer.ensures.step;
    }
