use Rattle.std.proofs.Common.{◌≡◌, ◌++◌, ◌∙◌, is_some, ap, refl, Err, OnErr, OnOk}
use Rattle.esr_core.specs.Entry.{HasEnded}
use Rattle.esr_desk.specs.Own.{own_of}
use Rattle.esr_desk.specs.Entries.{why_of}
use Rattle.esr_desk.specs.Evidence.{evidence}
use Rattle.esr_desk.specs.Hands.{fail_step, own_failed}
use Rattle.esr_handle.specs.Turned.{Seated, or_no_seat}
use Rattle.esr_handle.proofs.Growing.{mine_of_hand}
use Rattle.esr_handle.proofs.Turns.{own_hand, came, outcome, calls_hand}
use Rattle.esr_handle.proofs.Hands.{mine_whole, fail_on, fail_shown, fail_own}
use Rattle.esr_handle.proofs.Seats.{end_of, turned_at, is_idle, idle_step, idle_kept, idle_called_by}
use Rattle.esr_handle.proofs.handle.HandleDesk.fail.Goals as goal

pub invariant_of-self : goal.invariant_of-self
invariant_of-self g c = ap is_some c.in-Err.ensures.kept ∙ c.self.invariant

pub returns-in-Err : goal.returns-in-Err
returns-in-Err g c =
    let i = is_idle {X = Unit} g.Q.Desk.start g.B.Since.before c.in-Err.refusal (Err c.in-Err.refusal) refl c.self.view_is c.in-Err.ensures.kept c.in-Err.ensures.legal c.in-Err.ensures.grounds in record {
      step = idle_step i c.args.failure.who.number (fail_step c.args.failure.who.hand (why_of c.args.failure.why)) (λ _. HasEnded);
      own = tt;
      kept = idle_kept i (λ (z : Seated). own_of g.Q.Desk.start (g.B.Since.before ++ z.pass.seen) c.args.failure.who.number);
      calls = idle_called_by i c.args.failure.who.hand (fail_step c.args.failure.who.hand (why_of c.args.failure.why)) (λ _. HasEnded);
    }

pub fail-answer-requires-clause-mine : goal.fail-answer-requires-clause-mine
fail-answer-requires-clause-mine g c =
    mine_of_hand c.args.failure.who.hand c.args.failure.who.number (g.met.Q.Sole.all_calls c.in-Ok.lent.desk)
    (mine_whole (turned_at c.self.inside.seat c.self.view_is c.in-Ok.ensures.turned) c.args.failure.who.number c.args.failure.who.hand c.requires.mine)

pub fail-answer-requires-clause-may : goal.fail-answer-requires-clause-may
fail-answer-requires-clause-may g c = fail_on (turned_at c.self.inside.seat c.self.view_is c.in-Ok.ensures.turned) c.args.failure.who.number c.args.failure.who.hand c.requires.mine c.requires.may

pub fail-answer-requires-clause-shown : goal.fail-answer-requires-clause-shown
fail-answer-requires-clause-shown g c =
    fail_shown (turned_at c.self.inside.seat c.self.view_is c.in-Ok.ensures.turned) c.args.failure.who.number c.args.failure.who.hand
    (evidence g.Q.Stage.Counted.faults g.Q.Fetch.Counted.faults g.Q.Shard.Counted.faults g.Q.Target.Counted.faults g.Q.Shard.Shard.told g.Q.Target.Target.told) (why_of c.args.failure.why) c.args.failure.by c.requires.mine c.requires.may
    c.requires.shown

pub invariant_of-end : goal.invariant_of-end
invariant_of-end g c =
    let t = turned_at c.self.inside.seat c.self.view_is c.in-Ok.ensures.turned in
    end_of c.in-Ok.ensures.lent c.in-Ok.ensures.base t.alone
    (came g.Q.Desk.start g.B.Since.before c.args.self.now.pass c.in-Ok.lent.turn (g.Q.Desk.seen c.in-Ok.lent.desk) t (g.Q.Desk.seen c.fail-answer.new.self) c.args.failure.who.number
    (fail_step c.args.failure.who.hand (why_of c.args.failure.why)) (λ _. HasEnded) c.fail-answer.result c.is_told-is_told.result (own_hand g.Q.Desk.start g.B.Since.before c.args.self.now.pass c.in-Ok.lent.turn
    (g.Q.Desk.seen c.in-Ok.lent.desk) t c.args.failure.who.hand c.args.failure.who.number c.requires.mine) (λ x. refl) c.is_told-is_told.ensures c.fail-answer.ensures.step)

pub invariant_of-self-2 : goal.invariant_of-self-2
invariant_of-self-2 g c = c.end_turn.ensures.full

pub returns : goal.returns
returns g c =
    let t = turned_at c.self.inside.seat c.self.view_is c.in-Ok.ensures.turned in record {
      step = outcome g.Q.Desk.start g.B.Since.before c.args.self.now.pass c.in-Ok.lent.turn (g.Q.Desk.seen c.in-Ok.lent.desk) t (g.Q.Desk.seen c.fail-answer.new.self) (or_no_seat c.end_turn.new.self).pass c.args.failure.who.number
          (fail_step c.args.failure.who.hand (why_of c.args.failure.why)) (λ _. HasEnded) c.fail-answer.result
          (own_hand g.Q.Desk.start g.B.Since.before c.args.self.now.pass c.in-Ok.lent.turn (g.Q.Desk.seen c.in-Ok.lent.desk) t c.args.failure.who.hand c.args.failure.who.number c.requires.mine) c.end_turn.ensures.pass.whole
          c.fail-answer.ensures.step;
      own = fail_own t c.args.failure.who.number c.args.failure.who.hand (g.Q.Desk.seen c.fail-answer.new.self) (or_no_seat c.end_turn.new.self).pass (λ old new. OnOk c.fail-answer.result (new ≡ own_failed c.args.failure.who.hand old))
          c.requires.mine c.requires.may c.end_turn.ensures.pass c.fail-answer.ensures.own;
      kept = fail_own t c.args.failure.who.number c.args.failure.who.hand (g.Q.Desk.seen c.fail-answer.new.self) (or_no_seat c.end_turn.new.self).pass (λ old new. OnErr c.fail-answer.result (new ≡ old)) c.requires.mine c.requires.may
          c.end_turn.ensures.pass c.fail-answer.ensures.kept;
      calls = calls_hand g.Q.Desk.start g.B.Since.before c.args.self.now.pass c.in-Ok.lent.turn (g.Q.Desk.seen c.in-Ok.lent.desk) t c.args.failure.who.hand (g.Q.Desk.seen c.fail-answer.new.self) (or_no_seat c.end_turn.new.self).pass
          c.args.failure.who.number (fail_step c.args.failure.who.hand (why_of c.args.failure.why)) (λ _. HasEnded) c.fail-answer.result c.requires.mine c.end_turn.ensures.pass c.fail-answer.ensures.step;
    }
