use Rattle.std.proofs.Common.{◌≡◌, ◌++◌, ◌∙◌, is_some, ap, IfOk, OnErr}
use Rattle.esr_formats.specs.Names.{name_of}
use Rattle.esr_desk.specs.Own.{own_of}
use Rattle.esr_desk.specs.Hands.{fetch_step, own_fetched}
use Rattle.esr_desk.specs.Outcome.{fetch_reply}
use Rattle.esr_handle.specs.Turned.{Seated, or_no_seat}
use Rattle.esr_handle.proofs.Growing.{mine_of_hand}
use Rattle.esr_handle.proofs.Turns.{own_hand, came, outcome, calls_hand}
use Rattle.esr_handle.proofs.Hands.{few_shared, fetch_none, mine_whole, fetch_on, fetch_fresh, fetch_own}
use Rattle.esr_handle.proofs.Seats.{end_of, turned_at, is_idle, idle_step, idle_ok, idle_kept, idle_called_by}
use Rattle.esr_handle.proofs.handle.HandleDesk.fetch.Goals as goal

pub invariant_of-self : goal.invariant_of-self
invariant_of-self g c = ap is_some c.in_err-lent.ensures.kept ∙ c.self.invariant

pub returns-in_err-lent : goal.returns-in_err-lent
returns-in_err-lent g c =
    let i = is_idle g.Q.Desk.start g.B.Since.before c.in_err-lent.field-0.0 c.from_residual.result c.from_residual.ensures.1 c.self.view_is c.in_err-lent.ensures.kept c.in_err-lent.ensures.legal c.in_err-lent.ensures.grounds in record {
      step = idle_step i c.args.who.number (fetch_step c.args.who.hand (name_of c.args.name)) fetch_reply;
      own = idle_ok i _;
      told = idle_ok i _;
      count = idle_ok i _;
      sure = idle_ok i _;
      few = idle_ok i _;
      kept = idle_kept i (λ (z : Seated). own_of g.Q.Desk.start (g.B.Since.before ++ z.pass.seen) c.args.who.number);
      calls = idle_called_by i c.args.who.hand (fetch_step c.args.who.hand (name_of c.args.name)) fetch_reply;
    }

pub fetch-answer-requires-clause-mine : goal.fetch-answer-requires-clause-mine
fetch-answer-requires-clause-mine g c =
    mine_of_hand c.args.who.hand c.args.who.number (g.met.Q.Sole.all_calls c.in_ok-lent.lent.desk) (mine_whole (turned_at c.self.inside.seat c.self.view_is c.in_ok-lent.ensures.turned) c.args.who.number c.args.who.hand c.requires.mine)

pub fetch-answer-requires-clause-may : goal.fetch-answer-requires-clause-may
fetch-answer-requires-clause-may g c = fetch_on (turned_at c.self.inside.seat c.self.view_is c.in_ok-lent.ensures.turned) c.args.who.number c.args.who.hand (name_of c.args.name) c.requires.mine c.requires.may

pub fetch-answer-requires-clause-new : goal.fetch-answer-requires-clause-new
fetch-answer-requires-clause-new g c =
    fetch_fresh (turned_at c.self.inside.seat c.self.view_is c.in_ok-lent.ensures.turned) c.args.who.number c.args.who.hand (name_of c.args.name) (fetch_step c.args.who.hand (name_of c.args.name)) c.requires.mine c.requires.may c.requires.new

pub invariant_of-end : goal.invariant_of-end
invariant_of-end g c =
    let t = turned_at c.self.inside.seat c.self.view_is c.in_ok-lent.ensures.turned in
    end_of c.in_ok-lent.ensures.lent c.in_ok-lent.ensures.base t.alone
    (came g.Q.Desk.start g.B.Since.before c.args.self.now.pass c.in_ok-lent.lent.turn (g.Q.Desk.seen c.in_ok-lent.lent.desk) t (g.Q.Desk.seen c.fetch-answer.new.self) c.args.who.number (fetch_step c.args.who.hand (name_of c.args.name))
    fetch_reply c.fetch-answer.result c.is_told-is_told.result (own_hand g.Q.Desk.start g.B.Since.before c.args.self.now.pass c.in_ok-lent.lent.turn (g.Q.Desk.seen c.in_ok-lent.lent.desk) t c.args.who.hand c.args.who.number c.requires.mine)
    fetch_none c.is_told-is_told.ensures c.fetch-answer.ensures.step)

pub invariant_of-self-2 : goal.invariant_of-self-2
invariant_of-self-2 g c = c.end_turn.ensures.full

pub returns : goal.returns
returns g c =
    let t = turned_at c.self.inside.seat c.self.view_is c.in_ok-lent.ensures.turned in record {
      step = outcome g.Q.Desk.start g.B.Since.before c.args.self.now.pass c.in_ok-lent.lent.turn (g.Q.Desk.seen c.in_ok-lent.lent.desk) t (g.Q.Desk.seen c.fetch-answer.new.self) (or_no_seat c.end_turn.new.self).pass c.args.who.number
          (fetch_step c.args.who.hand (name_of c.args.name)) fetch_reply c.fetch-answer.result
          (own_hand g.Q.Desk.start g.B.Since.before c.args.self.now.pass c.in_ok-lent.lent.turn (g.Q.Desk.seen c.in_ok-lent.lent.desk) t c.args.who.hand c.args.who.number c.requires.mine) c.end_turn.ensures.pass.whole c.fetch-answer.ensures.step;
      own = fetch_own t c.args.who.number c.args.who.hand (name_of c.args.name) (g.Q.Desk.seen c.fetch-answer.new.self) (or_no_seat c.end_turn.new.self).pass
          (λ old new. IfOk c.fetch-answer.result (λ o. new ≡ own_fetched c.args.who.hand g.Q.Fetch.Fetch.left (name_of c.args.name) o old)) c.requires.mine c.requires.may c.end_turn.ensures.pass c.fetch-answer.ensures.own;
      told = c.fetch-answer.ensures.told;
      count = c.fetch-answer.ensures.count;
      sure = c.fetch-answer.ensures.sure;
      few = few_shared c.fetch-answer.result _;
      kept = fetch_own t c.args.who.number c.args.who.hand (name_of c.args.name) (g.Q.Desk.seen c.fetch-answer.new.self) (or_no_seat c.end_turn.new.self).pass (λ old new. OnErr c.fetch-answer.result (new ≡ old)) c.requires.mine c.requires.may
          c.end_turn.ensures.pass c.fetch-answer.ensures.kept;
      calls = calls_hand g.Q.Desk.start g.B.Since.before c.args.self.now.pass c.in_ok-lent.lent.turn (g.Q.Desk.seen c.in_ok-lent.lent.desk) t c.args.who.hand (g.Q.Desk.seen c.fetch-answer.new.self) (or_no_seat c.end_turn.new.self).pass
          c.args.who.number (fetch_step c.args.who.hand (name_of c.args.name)) fetch_reply c.fetch-answer.result c.requires.mine c.end_turn.ensures.pass c.fetch-answer.ensures.step;
    }
