use Rattle.std.proofs.Common.{◌<◌, ◌≤◌, arith}
use Rattle.esr_core.specs.Entry.{ElectedTerm, Refused}
use Rattle.esr_desk.specs.Refusals.{refusal_of}
use Rattle.esr_drive.proofs.Electing.{Elected, term_none, refused_none, elected_none, elected_same, elected_one, as_refused, as_wanting, as_spent, some_elected, all_elected}
use Rattle.esr_drive.proofs.alone.elect_all.Goals.{in-Ok, in-Err-Refused, In-Err-Memory, In-Err-TurnsSpent}
use Rattle.esr_drive.proofs.alone.elect_all.Goals as goal

pub loop-time-init : goal.loop-time-init
loop-time-init g c = record { made = elected_none g.Q.Desk.start (g.Q.Desk.seen c.args.desk.now); few = omega arith }

pub loop-time-preserved : goal.loop-time-preserved
loop-time-preserved g c =
    let s = g.Q.Desk.start in
    let old = g.Q.Desk.seen c.args.desk.now in
    let mid = g.Q.Desk.seen c.loop-time.desk in
    let new = g.Q.Desk.seen c.elect.new.self in
    let test : c.loop-time._time < c.args.times = c.loop-time-test.true in
    record {
      made = elim c.match-elect.branch [
        | in-Ok w ↦ elected_one c.laws.ensures s c.requires.alone mid new (ElectedTerm w.in-Ok.field-0) (term_none w.in-Ok.field-0) w.in-Ok.ensures.step c.loop-time._time old c.loop-time.invariant.made
        | in-Err-Refused w ↦ elected_one c.laws.ensures s c.requires.alone mid new (Refused (refusal_of w.in-Err-Refused.field-0-0)) (refused_none (refusal_of w.in-Err-Refused.field-0-0))
            (as_refused s mid new w.in-Err-Refused.field-0 w.in-Err-Refused.field-0-0 w.in-Err-Refused.field-0-is w.in-Err-Refused.ensures.step) c.loop-time._time old c.loop-time.invariant.made
      ];
      few = omega (arith, test);
    }

pub returns-clause-grew : goal.returns-clause-grew
returns-clause-grew g c = c.loop-time.invariant.made.grew

pub returns-clause-only : goal.returns-clause-only
returns-clause-only g c = c.loop-time.invariant.made.only

pub returns-clause-takes : goal.returns-clause-takes
returns-clause-takes g c = c.loop-time.invariant.made.takes

pub returns-clause-rest : goal.returns-clause-rest
returns-clause-rest g c = c.loop-time.invariant.made.rest

pub returns-clause-readers : goal.returns-clause-readers
returns-clause-readers g c = c.loop-time.invariant.made.readers

pub returns-clause-elects : goal.returns-clause-elects
returns-clause-elects g c =
    let few : c.loop-time._time ≤ c.args.times = c.loop-time.invariant.few in
    all_elected g.Q.Desk.start c.loop-time._time c.args.times (g.Q.Desk.seen c.args.desk.now) (g.Q.Desk.seen c.loop-time.desk) (omega (arith, few)) c.loop-time.invariant.made

-- ---- a step was not told

wanting_at : (g : _) (c : In-Err-Memory g) → Elected g.Q.Desk.start c.loop-time._time (g.Q.Desk.seen c.args.desk.now) (g.Q.Desk.seen c.elect.new.self)
wanting_at g c =
    let s = g.Q.Desk.start in
    let mid = g.Q.Desk.seen c.loop-time.desk in
    let new = g.Q.Desk.seen c.elect.new.self in
    elected_same s c.loop-time._time (g.Q.Desk.seen c.args.desk.now) mid new c.requires.alone (as_wanting s mid new c.in-Err-Memory.field-0 c.in-Err-Memory.field-0-is c.in-Err-Memory.ensures.step) c.loop-time.invariant.made

pub returns-in-Err-Memory-clause-grew : goal.returns-in-Err-Memory-clause-grew
returns-in-Err-Memory-clause-grew g c = (wanting_at g (goal.at.returns-in-Err-Memory-clause-grew g c).In-Err-Memory).grew

pub returns-in-Err-Memory-clause-only : goal.returns-in-Err-Memory-clause-only
returns-in-Err-Memory-clause-only g c = (wanting_at g (goal.at.returns-in-Err-Memory-clause-only g c).In-Err-Memory).only

pub returns-in-Err-Memory-clause-takes : goal.returns-in-Err-Memory-clause-takes
returns-in-Err-Memory-clause-takes g c = (wanting_at g (goal.at.returns-in-Err-Memory-clause-takes g c).In-Err-Memory).takes

pub returns-in-Err-Memory-clause-rest : goal.returns-in-Err-Memory-clause-rest
returns-in-Err-Memory-clause-rest g c = (wanting_at g (goal.at.returns-in-Err-Memory-clause-rest g c).In-Err-Memory).rest

pub returns-in-Err-Memory-clause-readers : goal.returns-in-Err-Memory-clause-readers
returns-in-Err-Memory-clause-readers g c = (wanting_at g (goal.at.returns-in-Err-Memory-clause-readers g c).In-Err-Memory).readers

pub returns-in-Err-Memory-clause-elects : goal.returns-in-Err-Memory-clause-elects
returns-in-Err-Memory-clause-elects g c =
    some_elected g.Q.Desk.start c.loop-time._time c.args.times (g.Q.Desk.seen c.args.desk.now) (g.Q.Desk.seen c.elect.new.self) c.loop-time.invariant.few (wanting_at g (goal.at.returns-in-Err-Memory-clause-elects g c).In-Err-Memory)

spent_at : (g : _) (c : In-Err-TurnsSpent g) → Elected g.Q.Desk.start c.loop-time._time (g.Q.Desk.seen c.args.desk.now) (g.Q.Desk.seen c.elect.new.self)
spent_at g c =
    let s = g.Q.Desk.start in
    let mid = g.Q.Desk.seen c.loop-time.desk in
    let new = g.Q.Desk.seen c.elect.new.self in
    elected_same s c.loop-time._time (g.Q.Desk.seen c.args.desk.now) mid new c.requires.alone (as_spent s mid new c.in-Err-TurnsSpent.field-0 c.in-Err-TurnsSpent.field-0-is c.in-Err-TurnsSpent.ensures.step).0 c.loop-time.invariant.made

pub returns-in-Err-TurnsSpent-clause-grew : goal.returns-in-Err-TurnsSpent-clause-grew
returns-in-Err-TurnsSpent-clause-grew g c = (spent_at g (goal.at.returns-in-Err-TurnsSpent-clause-grew g c).In-Err-TurnsSpent).grew

pub returns-in-Err-TurnsSpent-clause-only : goal.returns-in-Err-TurnsSpent-clause-only
returns-in-Err-TurnsSpent-clause-only g c = (spent_at g (goal.at.returns-in-Err-TurnsSpent-clause-only g c).In-Err-TurnsSpent).only

pub returns-in-Err-TurnsSpent-clause-takes : goal.returns-in-Err-TurnsSpent-clause-takes
returns-in-Err-TurnsSpent-clause-takes g c = (spent_at g (goal.at.returns-in-Err-TurnsSpent-clause-takes g c).In-Err-TurnsSpent).takes

pub returns-in-Err-TurnsSpent-clause-rest : goal.returns-in-Err-TurnsSpent-clause-rest
returns-in-Err-TurnsSpent-clause-rest g c = (spent_at g (goal.at.returns-in-Err-TurnsSpent-clause-rest g c).In-Err-TurnsSpent).rest

pub returns-in-Err-TurnsSpent-clause-readers : goal.returns-in-Err-TurnsSpent-clause-readers
returns-in-Err-TurnsSpent-clause-readers g c = (spent_at g (goal.at.returns-in-Err-TurnsSpent-clause-readers g c).In-Err-TurnsSpent).readers

pub returns-in-Err-TurnsSpent-clause-elects : goal.returns-in-Err-TurnsSpent-clause-elects
returns-in-Err-TurnsSpent-clause-elects g c =
    some_elected g.Q.Desk.start c.loop-time._time c.args.times (g.Q.Desk.seen c.args.desk.now) (g.Q.Desk.seen c.elect.new.self) c.loop-time.invariant.few (spent_at g (goal.at.returns-in-Err-TurnsSpent-clause-elects g c).In-Err-TurnsSpent)

pub returns-in-Err-TurnsSpent-clause-stopped : goal.returns-in-Err-TurnsSpent-clause-stopped
returns-in-Err-TurnsSpent-clause-stopped g c = (as_spent g.Q.Desk.start (g.Q.Desk.seen c.loop-time.desk) (g.Q.Desk.seen c.elect.new.self) c.in-Err-TurnsSpent.field-0 c.in-Err-TurnsSpent.field-0-is c.in-Err-TurnsSpent.ensures.step).1
