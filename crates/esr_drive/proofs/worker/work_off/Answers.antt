use Rattle.std.proofs.Common.{◌≡◌, ℕ, ◌+◌, ◌≤◌, Ok, [], length, refl, subst, arith}
use Rattle.esr_quiet.specs.Asking.{asking_none, asking_on}
use Rattle.esr_drive.proofs.Coming.{over_on}
use Rattle.esr_drive.proofs.Taking.{calls_none, calls_on, found_true, ended_none, ended_on, found_no_unit}
use Rattle.esr_drive.proofs.Works.{works_none, works_on}
use Rattle.esr_drive.specs.Calls.{TakeCalls, found_none}
use Rattle.esr_drive.specs.Takes.{idle_takes}
use Rattle.esr_drive.proofs.worker.work_off.Goals as goal

pub loop-round-init : goal.loop-round-init
loop-round-init g c =
    record {
      grew = asking_none g.Q.Desk.start (g.Q.Desk.seen c.args.desk.now);
      rest = λ rest. rest;
      readers = λ rest. rest;
      only = works_none (g.Q.Desk.seen c.args.desk.now);
      takes = refl;
      calls = calls_none (g.Q.Desk.calls c.args.desk.now);
      ended = ended_none g.Q.Desk.start (g.Q.Desk.seen c.args.desk.now) (g.Q.Desk.calls c.args.desk.now);
      rounds = omega arith;
    }

pub loop-round-preserved : goal.loop-round-preserved
loop-round-preserved g c =
    let s = g.Q.Desk.start in
    let alone = c.requires.alone in
    let old = g.Q.Desk.seen c.args.desk.now in
    let mid = g.Q.Desk.seen c.loop-round.desk in
    let new = g.Q.Desk.seen c.work_next.new.desk in
    let first = g.Q.Desk.calls c.args.desk.now in
    let before = g.Q.Desk.calls c.loop-round.desk in
    let after = g.Q.Desk.calls c.work_next.new.desk in
    let inv = c.loop-round.invariant in
    let did = c.in-Ok-work_next.did in
    let done = c.in-Ok-work_next.ensures in
    let none : found_none (Ok did) ≡ 0 = found_true did c.if-not-did.false in
    let calls : TakeCalls 0 before after = subst (λ (n : ℕ). TakeCalls n before after) none done.calls in
    let longer : length mid + 1 ≤ length new = done.longer c.if-not-did.false in
    let rounds : c.loop-round._round ≤ length mid = inv.rounds in
    let same : idle_takes mid ≡ idle_takes old = inv.takes in
    let more : idle_takes new ≡ idle_takes mid + found_none (Ok did) = done.takes alone in
    record {
      grew = asking_on s [] [] old mid new inv.grew done.grew;
      rest = λ rest. done.rest alone (inv.rest rest);
      readers = λ rest. done.readers alone (inv.readers rest);
      only = works_on old mid new inv.only (done.only alone);
      takes = omega (arith, same, more, none);
      calls = calls_on 0 first before after inv.calls calls;
      ended = ended_on s mid new 0 0 first before after (over_on c.laws.ensures s mid done.grew.more new done.grew.is) inv.calls calls inv.ended done.ended;
      rounds = omega (arith, longer, rounds);
    }

-- ---- none is ready

pub returns-then-not-any-clause-ready : goal.returns-then-not-any-clause-ready
returns-then-not-any-clause-ready g c = c.in-Ok.ensures.none c.if-not-any.true

-- ---- one was, so the take found one

pub unreachable-requires : goal.unreachable-requires
unreachable-requires g c =
    found_no_unit c.laws.ensures g.Q.Desk.start (g.Q.Desk.seen c.loop-round.desk) (g.Q.Desk.seen c.work_next.new.desk) c.requires.alone (c.in-Ok-work_next.ensures.idle c.if-not-did.true) (c.in-Ok.ensures.ready c.if-not-any.false)

-- ---- a step was refused

pub returns-in-Err-clause-grew : goal.returns-in-Err-clause-grew
returns-in-Err-clause-grew g c = asking_on g.Q.Desk.start [] [] (g.Q.Desk.seen c.args.desk.now) (g.Q.Desk.seen c.loop-round.desk) (g.Q.Desk.seen c.work_next.new.desk) c.loop-round.invariant.grew c.in-Err.ensures.grew

pub returns-in-Err-clause-only : goal.returns-in-Err-clause-only
returns-in-Err-clause-only g c = works_on (g.Q.Desk.seen c.args.desk.now) (g.Q.Desk.seen c.loop-round.desk) (g.Q.Desk.seen c.work_next.new.desk) c.loop-round.invariant.only (c.in-Err.ensures.only c.requires.alone)

pub returns-in-Err-clause-takes : goal.returns-in-Err-clause-takes
returns-in-Err-clause-takes g c =
    let same : idle_takes (g.Q.Desk.seen c.loop-round.desk) ≡ idle_takes (g.Q.Desk.seen c.args.desk.now) = c.loop-round.invariant.takes in
    let more : idle_takes (g.Q.Desk.seen c.work_next.new.desk) ≡ idle_takes (g.Q.Desk.seen c.loop-round.desk) + 0 = c.in-Err.ensures.takes c.requires.alone in
    omega (arith, same, more)

pub returns-in-Err-clause-calls : goal.returns-in-Err-clause-calls
returns-in-Err-clause-calls g c = calls_on 0 (g.Q.Desk.calls c.args.desk.now) (g.Q.Desk.calls c.loop-round.desk) (g.Q.Desk.calls c.work_next.new.desk) c.loop-round.invariant.calls c.in-Err.ensures.calls

-- ---- turns were spent

pub returns-clause-stopped : goal.returns-clause-stopped
returns-clause-stopped g c = let rounds : c.loop-round._round ≤ length (g.Q.Desk.seen c.loop-round.desk) = c.loop-round.invariant.rounds in omega (arith, rounds)
