use Rattle.std.proofs.Common.{◌≡◌, ℕ, Ok, Err, ◌+◌, refl, subst, arith}
use Rattle.esr_drive.specs.Worked.{HasElectedBy}
use Rattle.esr_drive.proofs.Working.{elected_none, elected_on}
use Rattle.esr_drive.proofs.workers.elect_often.Goals as goal

pub loop-round-init : goal.loop-round-init
loop-round-init g c = record { made = elected_none (g.Q.Desk.calls c.args.desk.now) (g.Q.Desk.calls c.args.desk.now) (Ok tt) 0 refl refl }

pub loop-round-preserved : goal.loop-round-preserved
loop-round-preserved g c = record {
  made = elected_on (g.Q.Desk.calls c.args.desk.now) (g.Q.Desk.calls c.loop-round.desk) (g.Q.Desk.calls c.elect.new.desk)
      (Ok tt) c.loop-round._round 1 (c.loop-round._round + 1) (λ is. refl) (omega arith) c.loop-round.invariant.made c.in-Ok.ensures.calls;
}

pub returns-in-Err-clause-calls : goal.returns-in-Err-clause-calls
returns-in-Err-clause-calls g c = elected_on (g.Q.Desk.calls c.args.desk.now) (g.Q.Desk.calls c.loop-round.desk) (g.Q.Desk.calls c.elect.new.desk)
    (Err c.in-Err.refusal) c.loop-round._round 1 c.args.times (λ is. absurd (cc)) (omega arith) c.loop-round.invariant.made c.in-Err.ensures.calls

pub returns-clause-calls : goal.returns-clause-calls
returns-clause-calls g c =
    let all : c.loop-round._round ≡ c.args.times = omega arith in
    subst (λ (n : ℕ). HasElectedBy n (g.Q.Desk.calls c.args.desk.now) (g.Q.Desk.calls c.loop-round.desk) (Ok tt)) all c.loop-round.invariant.made
