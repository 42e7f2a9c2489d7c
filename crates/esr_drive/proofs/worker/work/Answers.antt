use Rattle.std.proofs.Common.{◌≡◌, ℕ, ◌+◌, ◌≤◌, Ok, [], length, refl, subst, arith}
use Rattle.esr_desk.specs.declared.refusal.StepRefusal.TheVariants.{TurnsSpent}
use Rattle.esr_quiet.specs.Asking.{asking_none, asking_on}
use Rattle.esr_drive.proofs.Coming.{over_on}
use Rattle.esr_drive.proofs.Taking.{calls_none, calls_on, worked_out, worked_some, found_true, found_false, ended_none, ended_on}
use Rattle.esr_drive.proofs.Works.{works_none, works_on}
use Rattle.esr_drive.specs.Calls.{TakeCalls, found_none}
use Rattle.esr_drive.specs.Takes.{idle_takes}
use Rattle.esr_drive.proofs.worker.work.Goals as goal

pub loop-round-init : goal.loop-round-init
loop-round-init g c =
    record {
      grew = asking_none g.Q.Desk.start (g.Q.Desk.seen c.args.desk.now);
      rest = λ alone rest. rest;
      readers = λ alone rest. rest;
      only = λ alone. works_none (g.Q.Desk.seen c.args.desk.now);
      takes = λ alone. refl;
      calls = calls_none (g.Q.Desk.calls c.args.desk.now);
      ended = ended_none g.Q.Desk.start (g.Q.Desk.seen c.args.desk.now) (g.Q.Desk.calls c.args.desk.now);
      rounds = omega arith;
    }

pub loop-round-preserved : goal.loop-round-preserved
loop-round-preserved g c =
    let s = g.Q.Desk.start in
    let old = g.Q.Desk.seen c.args.desk.now in
    let mid = g.Q.Desk.seen c.loop-round.desk in
    let new = g.Q.Desk.seen c.work_next.new.desk in
    let first = g.Q.Desk.calls c.args.desk.now in
    let before = g.Q.Desk.calls c.loop-round.desk in
    let after = g.Q.Desk.calls c.work_next.new.desk in
    let inv = c.loop-round.invariant in
    let done = c.in-Ok.ensures in
    let none : found_none (Ok c.in-Ok.did) ≡ 0 = found_true c.in-Ok.did c.if-not-did.false in
    let calls : TakeCalls 0 before after = subst (λ (n : ℕ). TakeCalls n before after) none done.calls in
    let longer : length mid + 1 ≤ length new = done.longer c.if-not-did.false in
    let rounds : c.loop-round._round ≤ length mid = inv.rounds in
    record {
      grew = asking_on s [] [] old mid new inv.grew done.grew;
      rest = λ alone rest. done.rest alone (inv.rest alone rest);
      readers = λ alone rest. done.readers alone (inv.readers alone rest);
      only = λ alone. works_on old mid new (inv.only alone) (done.only alone);
      takes = λ alone.
          let same : idle_takes mid ≡ idle_takes old = inv.takes alone in
          let more : idle_takes new ≡ idle_takes mid + found_none (Ok c.in-Ok.did) = done.takes alone in
          omega (arith, same, more, none);
      calls = calls_on 0 first before after inv.calls calls;
      ended = ended_on s mid new 0 0 first before after (over_on c.laws.ensures s mid done.grew.more new done.grew.is) inv.calls calls inv.ended done.ended;
      rounds = omega (arith, longer, rounds);
    }

-- ---- no unit was ready

pub returns-then-not-did-clause-idle : goal.returns-then-not-did-clause-idle
returns-then-not-did-clause-idle g c = let last = c.in-Ok.ensures.idle c.if-not-did.true in record { front = last.front; image = last.image; is = last.is }

pub returns-then-not-did-clause-rest : goal.returns-then-not-did-clause-rest
returns-then-not-did-clause-rest g c alone rest = c.in-Ok.ensures.rest alone (c.loop-round.invariant.rest alone rest)

pub returns-then-not-did-clause-readers : goal.returns-then-not-did-clause-readers
returns-then-not-did-clause-readers g c alone rest = c.in-Ok.ensures.readers alone (c.loop-round.invariant.readers alone rest)

pub returns-then-not-did-clause-grew : goal.returns-then-not-did-clause-grew
returns-then-not-did-clause-grew g c = asking_on g.Q.Desk.start [] [] (g.Q.Desk.seen c.args.desk.now) (g.Q.Desk.seen c.loop-round.desk) (g.Q.Desk.seen c.work_next.new.desk) c.loop-round.invariant.grew c.in-Ok.ensures.grew

pub returns-then-not-did-clause-only : goal.returns-then-not-did-clause-only
returns-then-not-did-clause-only g c alone = works_on (g.Q.Desk.seen c.args.desk.now) (g.Q.Desk.seen c.loop-round.desk) (g.Q.Desk.seen c.work_next.new.desk) (c.loop-round.invariant.only alone) (c.in-Ok.ensures.only alone)

pub returns-then-not-did-clause-takes : goal.returns-then-not-did-clause-takes
returns-then-not-did-clause-takes g c alone =
    let mid = g.Q.Desk.seen c.loop-round.desk in
    let same : idle_takes mid ≡ idle_takes (g.Q.Desk.seen c.args.desk.now) = c.loop-round.invariant.takes alone in
    let more : idle_takes (g.Q.Desk.seen c.work_next.new.desk) ≡ idle_takes mid + found_none (Ok c.in-Ok.did) = c.in-Ok.ensures.takes alone in
    let one : found_none (Ok c.in-Ok.did) ≡ 1 = found_false c.in-Ok.did c.if-not-did.true in
    omega (arith, same, more, one)

pub returns-then-not-did-clause-calls : goal.returns-then-not-did-clause-calls
returns-then-not-did-clause-calls g c =
    let first = g.Q.Desk.calls c.args.desk.now in
    let before = g.Q.Desk.calls c.loop-round.desk in
    let after = g.Q.Desk.calls c.work_next.new.desk in
    let one : found_none (Ok c.in-Ok.did) ≡ 1 = found_false c.in-Ok.did c.if-not-did.true in
    let last : TakeCalls 1 before after = subst (λ (n : ℕ). TakeCalls n before after) one c.in-Ok.ensures.calls in
    worked_out first after (calls_on 1 first before after c.loop-round.invariant.calls last)

pub returns-then-not-did-clause-ended : goal.returns-then-not-did-clause-ended
returns-then-not-did-clause-ended g c =
    let s = g.Q.Desk.start in
    let mid = g.Q.Desk.seen c.loop-round.desk in
    let new = g.Q.Desk.seen c.work_next.new.desk in
    let grew = c.in-Ok.ensures.grew in
    ended_on s mid new 0 (found_none c.work_next.result) (g.Q.Desk.calls c.args.desk.now) (g.Q.Desk.calls c.loop-round.desk) (g.Q.Desk.calls c.work_next.new.desk) (over_on c.laws.ensures s mid grew.more new grew.is)
    c.loop-round.invariant.calls c.work_next.ensures.calls c.loop-round.invariant.ended c.in-Ok.ensures.ended

-- ---- a step was refused

pub returns-in-Err-clause-grew : goal.returns-in-Err-clause-grew
returns-in-Err-clause-grew g c = asking_on g.Q.Desk.start [] [] (g.Q.Desk.seen c.args.desk.now) (g.Q.Desk.seen c.loop-round.desk) (g.Q.Desk.seen c.work_next.new.desk) c.loop-round.invariant.grew c.in-Err.ensures.grew

pub returns-in-Err-clause-only : goal.returns-in-Err-clause-only
returns-in-Err-clause-only g c alone = works_on (g.Q.Desk.seen c.args.desk.now) (g.Q.Desk.seen c.loop-round.desk) (g.Q.Desk.seen c.work_next.new.desk) (c.loop-round.invariant.only alone) (c.in-Err.ensures.only alone)

pub returns-in-Err-clause-takes : goal.returns-in-Err-clause-takes
returns-in-Err-clause-takes g c alone =
    let mid = g.Q.Desk.seen c.loop-round.desk in
    let same : idle_takes mid ≡ idle_takes (g.Q.Desk.seen c.args.desk.now) = c.loop-round.invariant.takes alone in
    let more : idle_takes (g.Q.Desk.seen c.work_next.new.desk) ≡ idle_takes mid + 0 = c.in-Err.ensures.takes alone in
    omega (arith, same, more)

pub returns-in-Err-clause-calls : goal.returns-in-Err-clause-calls
returns-in-Err-clause-calls g c =
    let first = g.Q.Desk.calls c.args.desk.now in
    let after = g.Q.Desk.calls c.work_next.new.desk in
    worked_some first after c.in-Err.refusal (calls_on 0 first (g.Q.Desk.calls c.loop-round.desk) after c.loop-round.invariant.calls c.in-Err.ensures.calls)

-- ---- turns were spent

pub returns-clause-grew : goal.returns-clause-grew
returns-clause-grew g c = c.loop-round.invariant.grew

pub returns-clause-stopped : goal.returns-clause-stopped
returns-clause-stopped g c = let rounds : c.loop-round._round ≤ length (g.Q.Desk.seen c.loop-round.desk) = c.loop-round.invariant.rounds in omega (arith, rounds)

pub returns-clause-only : goal.returns-clause-only
returns-clause-only g c = c.loop-round.invariant.only

pub returns-clause-takes : goal.returns-clause-takes
returns-clause-takes g c alone =
    let same : idle_takes (g.Q.Desk.seen c.loop-round.desk) ≡ idle_takes (g.Q.Desk.seen c.args.desk.now) = c.loop-round.invariant.takes alone in
    omega (arith, same)

pub returns-clause-calls : goal.returns-clause-calls
returns-clause-calls g c = worked_some (g.Q.Desk.calls c.args.desk.now) (g.Q.Desk.calls c.loop-round.desk) TurnsSpent c.loop-round.invariant.calls
