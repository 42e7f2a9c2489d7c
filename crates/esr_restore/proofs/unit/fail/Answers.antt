use Rattle.std.proofs.Common.{refl}
use Rattle.esr_desk.specs.declared.entry.Why.TheVariants as whys
use Rattle.esr_desk.specs.declared.fault.By.TheVariants as shows
use Rattle.esr_desk.specs.declared.fault.FailedObject.TheVariants as objects
use Rattle.esr_desk.specs.declared.unit.UnitRefusal.TheVariants.{Stopped}
use Rattle.esr_desk.specs.Evidence.{evidence}
use Rattle.esr_desk.specs.Grew.{grew_by_none}
use Rattle.esr_desk.specs.Own.{reader_of}
use Rattle.esr_restore.proofs.Going.{worked_none}
use Rattle.esr_restore.proofs.Ending.{cause_shown, stop_halts, no_stale, own_faulty, target_shown, not_stale, given_refused}
use Rattle.esr_restore.proofs.Left.{given_out, left_given, left_taken}
use Rattle.esr_restore.proofs.unit.fail.Goals as goal

-- ---- it failed

pub give_up-requires-clause-may : goal.give_up-requires-clause-may
give_up-requires-clause-may g c κs within =
    c.requires.out

pub give_up-requires-clause-shown : goal.give_up-requires-clause-shown
give_up-requires-clause-shown g c κs within =
    let e = evidence g.Q.Stage.Counted.faults g.Q.Fetch.Counted.faults g.Q.Shard.Counted.faults g.Q.Target.Counted.faults g.Q.Shard.Shard.told g.Q.Target.Target.told in
    let s = g.Q.Desk.start in
    let who = c.args.ticket in
    let old = g.Q.Desk.seen c.args.desk.now in
    let target = c.args.target in
    cause_shown e (g.Q.Target.Counted.faults target) (g.Q.Target.Target.told target).is_sure s old who c.args.trouble c.requires.trouble c.ending_of.result c.ending_of.ensures c.in-Failed.why c.in-Failed.by c.in-Failed.is

pub give_up-requires-clause-present : goal.give_up-requires-clause-present
give_up-requires-clause-present g c κs within =
    not_stale c.in-Failed.why c.in-Failed.by

pub returns-in-Failed-clause-refused : goal.returns-in-Failed-clause-refused
returns-in-Failed-clause-refused g c =
    let e = evidence g.Q.Stage.Counted.faults g.Q.Fetch.Counted.faults g.Q.Shard.Counted.faults g.Q.Target.Counted.faults g.Q.Shard.Shard.told g.Q.Target.Target.told in
    let s = g.Q.Desk.start in
    let who = c.args.ticket in
    let old = g.Q.Desk.seen c.args.desk.now in
    let new = g.Q.Desk.seen c.give_up.new.desk in
    given_refused e s old new who c.in-Failed.why c.in-Failed.by c.give_up.result c.give_up.ensures.end

pub returns-in-Failed-clause-left : goal.returns-in-Failed-clause-left
returns-in-Failed-clause-left g c =
    let e = evidence g.Q.Stage.Counted.faults g.Q.Fetch.Counted.faults g.Q.Shard.Counted.faults g.Q.Target.Counted.faults g.Q.Shard.Shard.told g.Q.Target.Target.told in
    let s = g.Q.Desk.start in
    let who = c.args.ticket in
    let old = g.Q.Desk.seen c.args.desk.now in
    let target = c.args.target in
    let new = g.Q.Desk.seen c.give_up.new.desk in
    left_given e s old new who target c.requires.of c.requires.first c.in-Failed.why c.in-Failed.by c.give_up.result c.give_up.ensures.end

pub returns-in-Failed-clause-calls : goal.returns-in-Failed-clause-calls
returns-in-Failed-clause-calls g c =
    c.give_up.ensures.others

-- ---- its target failed

pub give_up-requires-in-Own-clause-may : goal.give_up-requires-in-Own-clause-may
give_up-requires-in-Own-clause-may g c κs within =
    c.requires.out

pub give_up-requires-in-Own-clause-shown : goal.give_up-requires-in-Own-clause-shown
give_up-requires-in-Own-clause-shown g c κs within =
    let e = evidence g.Q.Stage.Counted.faults g.Q.Fetch.Counted.faults g.Q.Shard.Counted.faults g.Q.Target.Counted.faults g.Q.Shard.Shard.told g.Q.Target.Target.told in
    let s = g.Q.Desk.start in
    let who = c.args.ticket in
    let old = g.Q.Desk.seen c.args.desk.now in
    let target = c.args.target in
    target_shown e s old who target
    (own_faulty e (g.Q.Target.Counted.faults target) (g.Q.Target.Target.told target).is_sure s old who c.args.trouble c.requires.trouble c.ending_of.result c.ending_of.ensures c.in-Own.is) c.requires.sure c.requires.of c.requires.first

pub give_up-requires-in-Own-clause-present : goal.give_up-requires-in-Own-clause-present
give_up-requires-in-Own-clause-present g c κs within =
    not_stale whys.Target (shows.Object (objects.Target c.args.target))

pub returns-in-Own-clause-refused : goal.returns-in-Own-clause-refused
returns-in-Own-clause-refused g c =
    let e = evidence g.Q.Stage.Counted.faults g.Q.Fetch.Counted.faults g.Q.Shard.Counted.faults g.Q.Target.Counted.faults g.Q.Shard.Shard.told g.Q.Target.Target.told in
    let s = g.Q.Desk.start in
    let who = c.args.ticket in
    let old = g.Q.Desk.seen c.args.desk.now in
    let new = g.Q.Desk.seen c.give_up-in-Own.new.desk in
    given_refused e s old new who whys.Target (shows.Object (objects.Target c.args.target)) c.give_up-in-Own.result c.give_up-in-Own.ensures.end

pub returns-in-Own-clause-left : goal.returns-in-Own-clause-left
returns-in-Own-clause-left g c =
    let e = evidence g.Q.Stage.Counted.faults g.Q.Fetch.Counted.faults g.Q.Shard.Counted.faults g.Q.Target.Counted.faults g.Q.Shard.Shard.told g.Q.Target.Target.told in
    let s = g.Q.Desk.start in
    let who = c.args.ticket in
    let old = g.Q.Desk.seen c.args.desk.now in
    let target = c.args.target in
    let new = g.Q.Desk.seen c.give_up-in-Own.new.desk in
    left_taken e s old new who (shows.Object (objects.Target target)) c.give_up-in-Own.result c.give_up-in-Own.ensures.end c.give_up-in-Own.ensures.report

pub returns-in-Own-clause-calls : goal.returns-in-Own-clause-calls
returns-in-Own-clause-calls g c =
    c.give_up-in-Own.ensures.others

-- ---- it has no term

pub unreachable-requires : goal.unreachable-requires
unreachable-requires g c =
    let e = evidence g.Q.Stage.Counted.faults g.Q.Fetch.Counted.faults g.Q.Shard.Counted.faults g.Q.Target.Counted.faults g.Q.Shard.Shard.told g.Q.Target.Target.told in
    let s = g.Q.Desk.start in
    let who = c.args.ticket in
    let old = g.Q.Desk.seen c.args.desk.now in
    let target = c.args.target in
    no_stale e (g.Q.Target.Counted.faults target) (g.Q.Target.Target.told target).is_sure s old who c.args.trouble c.requires.trouble c.ending_of.result c.ending_of.ensures c.in-Stale.is

-- ---- it was stopped

pub returns-in-Stopped-clause-refused : goal.returns-in-Stopped-clause-refused
returns-in-Stopped-clause-refused g c =
    let e = evidence g.Q.Stage.Counted.faults g.Q.Fetch.Counted.faults g.Q.Shard.Counted.faults g.Q.Target.Counted.faults g.Q.Shard.Shard.told g.Q.Target.Target.told in
    let s = g.Q.Desk.start in
    let who = c.args.ticket in
    let old = g.Q.Desk.seen c.args.desk.now in
    let target = c.args.target in
    (worked_none (reader_of s old who), stop_halts e (g.Q.Target.Counted.faults target) (g.Q.Target.Target.told target).is_sure s old who c.args.trouble c.requires.trouble c.ending_of.result c.ending_of.ensures c.in-Stopped.refusal c.in-Stopped.is)

pub returns-in-Stopped-clause-left : goal.returns-in-Stopped-clause-left
returns-in-Stopped-clause-left g c =
    let e = evidence g.Q.Stage.Counted.faults g.Q.Fetch.Counted.faults g.Q.Shard.Counted.faults g.Q.Target.Counted.faults g.Q.Shard.Shard.told g.Q.Target.Target.told in
    let s = g.Q.Desk.start in
    let who = c.args.ticket in
    let old = g.Q.Desk.seen c.args.desk.now in
    let target = c.args.target in
    given_out g.Q.Target.Target.told s (reader_of s old who) target c.requires.of c.requires.first old who (Stopped c.in-Stopped.refusal) refl

pub returns-in-Stopped-clause-grew : goal.returns-in-Stopped-clause-grew
returns-in-Stopped-clause-grew g c =
    grew_by_none g.Q.Desk.start c.args.ticket (g.Q.Desk.seen c.args.desk.now)
