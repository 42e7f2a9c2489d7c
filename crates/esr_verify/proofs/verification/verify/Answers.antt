use Rattle.std.proofs.Common.{inl, refl}
use Rattle.esr_core.specs.Entry.{ReadStep, DrawTest, DrawnFrom}
use Rattle.esr_names.specs.declared.ids.Id.{Id}
use Rattle.esr_desk.specs.Evidence.{evidence}
use Rattle.esr_desk.specs.Grew.{grew_by_on, outcome_grew_by}
use Rattle.esr_desk.specs.Own.{caller_of}
use Rattle.esr_unit.specs.declared.trouble.Trouble.TheVariants.{Step}
use Rattle.esr_verify.proofs.Going.{grew_further, unverified_on, outcome_unverified, has_drawn, report_unverified}
use Rattle.esr_verify.proofs.Failing.{may_end, never_stale, ending_shown, ends, draw_shown, draw_may_end, draw_ends}
use Rattle.esr_verify.proofs.Making.{made_none}
use Rattle.esr_verify.proofs.Doing.{can_draw, is_open, done_none, drawn_open}
use Rattle.esr_verify.proofs.Ending.{has_verified}
use Rattle.esr_verify.proofs.Beginning.{steps_begun, asks_draw, asks_run}
use Rattle.esr_verify.proofs.verification.verify.Goals as goal

pub draw_test-requires-clause-may : goal.draw_test-requires-clause-may
draw_test-requires-clause-may g c = can_draw (caller_of g.Q.Desk.start (g.Q.Desk.seen c.args.desk.now)) c.requires.idle

-- ---- the draw was refused

pub give_up-requires-clause-mine : goal.give_up-requires-clause-mine
give_up-requires-clause-mine g c κs within = refl

pub give_up-requires-clause-may : goal.give_up-requires-clause-may
give_up-requires-clause-may g c κs within =
    let s = g.Q.Desk.start in
    let old = g.Q.Desk.seen c.args.desk.now in
    let mid = g.Q.Desk.seen c.draw_test.new.self in
    let e = evidence g.Q.Stage.Counted.faults g.Q.Fetch.Counted.faults g.Q.Shard.Counted.faults g.Q.Target.Counted.faults g.Q.Shard.Shard.told g.Q.Target.Target.told in
    draw_may_end e c.laws.ensures.refuses s old mid c.requires.alone c.in-Err.refusal c.ending_of-ending.result c.ending_of-ending.ensures c.in-Err.ensures.step c.in-Err.ensures.own

pub give_up-requires-clause-shown : goal.give_up-requires-clause-shown
give_up-requires-clause-shown g c κs within =
    let s = g.Q.Desk.start in
    let old = g.Q.Desk.seen c.args.desk.now in
    let mid = g.Q.Desk.seen c.draw_test.new.self in
    let e = evidence g.Q.Stage.Counted.faults g.Q.Fetch.Counted.faults g.Q.Shard.Counted.faults g.Q.Target.Counted.faults g.Q.Shard.Shard.told g.Q.Target.Target.told in
    ending_shown e s mid (Step c.in-Err.refusal) c.ending_of-ending.result c.ending_of-ending.ensures (draw_shown e c.laws.ensures.refuses s old mid c.requires.alone c.in-Err.refusal c.in-Err.ensures.step c.in-Err.ensures.own)

pub give_up-requires-clause-present : goal.give_up-requires-clause-present
give_up-requires-clause-present g c κs within =
    let s = g.Q.Desk.start in
    let old = g.Q.Desk.seen c.args.desk.now in
    let mid = g.Q.Desk.seen c.draw_test.new.self in
    let e = evidence g.Q.Stage.Counted.faults g.Q.Fetch.Counted.faults g.Q.Shard.Counted.faults g.Q.Target.Counted.faults g.Q.Shard.Shard.told g.Q.Target.Target.told in
    never_stale e s mid c.ending_of-ending.result
    (ending_shown e s mid (Step c.in-Err.refusal) c.ending_of-ending.result c.ending_of-ending.ensures (draw_shown e c.laws.ensures.refuses s old mid c.requires.alone c.in-Err.refusal c.in-Err.ensures.step c.in-Err.ensures.own))

pub returns-in-Err-clause-refused : goal.returns-in-Err-clause-refused
returns-in-Err-clause-refused g c =
    let s = g.Q.Desk.start in
    let old = g.Q.Desk.seen c.args.desk.now in
    let mid = g.Q.Desk.seen c.draw_test.new.self in
    let new = g.Q.Desk.seen c.give_up.new.desk in
    let e = evidence g.Q.Stage.Counted.faults g.Q.Fetch.Counted.faults g.Q.Shard.Counted.faults g.Q.Target.Counted.faults g.Q.Shard.Shard.told g.Q.Target.Target.told in
    draw_ends e c.laws.ensures.refuses c.laws.ensures.deposes s old mid new c.requires.alone c.in-Err.refusal c.ending_of-ending.result c.give_up.result c.ending_of-ending.ensures c.in-Err.ensures.step c.in-Err.ensures.own c.give_up.ensures.end
    c.give_up.ensures.report

pub returns-in-Err-clause-asked : goal.returns-in-Err-clause-asked
returns-in-Err-clause-asked g c =
    let s = g.Q.Desk.start in
    let old = g.Q.Desk.seen c.args.desk.now in
    let mid = g.Q.Desk.seen c.draw_test.new.self in
    let new = g.Q.Desk.seen c.give_up.new.desk in
    let e = evidence g.Q.Stage.Counted.faults g.Q.Fetch.Counted.faults g.Q.Shard.Counted.faults g.Q.Target.Counted.faults g.Q.Shard.Shard.told g.Q.Target.Target.told in
    asks_draw (Unit {0}) e s old mid new c.in-Err.refusal c.ending_of-ending.result c.give_up.result c.ending_of-ending.ensures c.requires.alone c.in-Err.ensures.step c.give_up.ensures.end c.give_up.ensures.report

pub returns-in-Err-clause-unverified : goal.returns-in-Err-clause-unverified
returns-in-Err-clause-unverified g c =
    let s = g.Q.Desk.start in
    let old = g.Q.Desk.seen c.args.desk.now in
    let mid = g.Q.Desk.seen c.draw_test.new.self in
    let new = g.Q.Desk.seen c.give_up.new.desk in
    unverified_on old mid new (outcome_unverified s old mid DrawTest (λ (id : Id). DrawnFrom id.number) c.draw_test.result c.requires.alone (λ e. cc) c.draw_test.ensures.step)
    (report_unverified s mid new c.ending_of-ending.result c.give_up.result c.requires.alone c.give_up.ensures.report)

pub returns-in-Err-clause-grew : goal.returns-in-Err-clause-grew
returns-in-Err-clause-grew g c =
    let s = g.Q.Desk.start in
    let old = g.Q.Desk.seen c.args.desk.now in
    let mid = g.Q.Desk.seen c.draw_test.new.self in
    let new = g.Q.Desk.seen c.give_up.new.desk in
    grew_by_on s 0 old mid new (outcome_grew_by s old mid 0 (ReadStep DrawTest) (λ (id : Id). DrawnFrom id.number) c.draw_test.result c.draw_test.ensures.step) c.give_up.ensures.grew

-- ---- it drew

pub run-requires-clause-drew : goal.run-requires-clause-drew
run-requires-clause-drew g c κs within =
    let s = g.Q.Desk.start in
    let old = g.Q.Desk.seen c.args.desk.now in
    let mid = g.Q.Desk.seen c.draw_test.new.self in
    has_drawn c.laws.ensures.deposes s old mid c.in-Ok.id.number c.requires.alone c.in-Ok.ensures.step (drawn_open (caller_of s old) (caller_of s mid) c.in-Ok.id c.in-Ok.ensures.own)

pub run-requires-clause-new : goal.run-requires-clause-new
run-requires-clause-new g c κs within =
    let s = g.Q.Desk.start in
    done_none s (caller_of s (g.Q.Desk.seen c.args.desk.now)) (caller_of s (g.Q.Desk.seen c.draw_test.new.self)) c.in-Ok.id c.requires.idle c.in-Ok.ensures.own

pub run-requires-clause-made : goal.run-requires-clause-made
run-requires-clause-made g c κs within = made_none g.Q.Desk.start (g.Q.Desk.seen c.draw_test.new.self) c.in-Ok.id.number c.in-Ok.ensures.new

pub returns-in-Ok-run-clause-ok : goal.returns-in-Ok-run-clause-ok
returns-in-Ok-run-clause-ok g c =
    has_verified g.Q.Desk.start (g.Q.Desk.seen c.args.desk.now) (g.Q.Desk.seen c.draw_test.new.self) (g.Q.Desk.seen c.run.new.desk) c.in-Ok.id.number c.args.workers c.requires.alone c.in-Ok.ensures.step c.in-Ok-run.ensures.ended

pub returns-in-Ok-run-clause-asked : goal.returns-in-Ok-run-clause-asked
returns-in-Ok-run-clause-asked g c =
    steps_begun g.Q.Desk.start (g.Q.Desk.seen c.args.desk.now) (g.Q.Desk.seen c.draw_test.new.self) (g.Q.Desk.seen c.run.new.desk) (DrawnFrom c.in-Ok.id.number) c.requires.alone c.in-Ok.ensures.step c.run.ensures.grew

pub returns-in-Ok-run-clause-grew : goal.returns-in-Ok-run-clause-grew
returns-in-Ok-run-clause-grew g c =
    let s = g.Q.Desk.start in
    let old = g.Q.Desk.seen c.args.desk.now in
    let mid = g.Q.Desk.seen c.draw_test.new.self in
    let new = g.Q.Desk.seen c.run.new.desk in
    grew_by_on s 0 old mid new (outcome_grew_by s old mid 0 (ReadStep DrawTest) (λ (id : Id). DrawnFrom id.number) c.draw_test.result c.draw_test.ensures.step) (grew_further s mid new c.run.ensures.grew)

-- ---- a step was refused, or failed

pub give_up-requires-in-Err-run-clause-mine : goal.give_up-requires-in-Err-run-clause-mine
give_up-requires-in-Err-run-clause-mine g c κs within = refl

pub give_up-requires-in-Err-run-clause-may : goal.give_up-requires-in-Err-run-clause-may
give_up-requires-in-Err-run-clause-may g c κs within =
    let s = g.Q.Desk.start in
    let last = g.Q.Desk.seen c.run.new.desk in
    may_end s last c.ending_of.result c.requires.alone (inl (is_open s last c.in-Ok.id.number c.in-Err-run.ensures.kept.drew))

pub give_up-requires-in-Err-run-clause-shown : goal.give_up-requires-in-Err-run-clause-shown
give_up-requires-in-Err-run-clause-shown g c κs within =
    let s = g.Q.Desk.start in
    let last = g.Q.Desk.seen c.run.new.desk in
    let e = evidence g.Q.Stage.Counted.faults g.Q.Fetch.Counted.faults g.Q.Shard.Counted.faults g.Q.Target.Counted.faults g.Q.Shard.Shard.told g.Q.Target.Target.told in
    ending_shown e s last c.in-Err-run.trouble c.ending_of.result c.ending_of.ensures c.in-Err-run.ensures.trouble

pub give_up-requires-in-Err-run-clause-present : goal.give_up-requires-in-Err-run-clause-present
give_up-requires-in-Err-run-clause-present g c κs within =
    let s = g.Q.Desk.start in
    let last = g.Q.Desk.seen c.run.new.desk in
    let e = evidence g.Q.Stage.Counted.faults g.Q.Fetch.Counted.faults g.Q.Shard.Counted.faults g.Q.Target.Counted.faults g.Q.Shard.Shard.told g.Q.Target.Target.told in
    never_stale e s last c.ending_of.result (ending_shown e s last c.in-Err-run.trouble c.ending_of.result c.ending_of.ensures c.in-Err-run.ensures.trouble)

pub returns-in-Err-run-clause-refused : goal.returns-in-Err-run-clause-refused
returns-in-Err-run-clause-refused g c =
    let s = g.Q.Desk.start in
    let old = g.Q.Desk.seen c.args.desk.now in
    let last = g.Q.Desk.seen c.run.new.desk in
    let new = g.Q.Desk.seen c.give_up-in-Err-run.new.desk in
    let e = evidence g.Q.Stage.Counted.faults g.Q.Fetch.Counted.faults g.Q.Shard.Counted.faults g.Q.Target.Counted.faults g.Q.Shard.Shard.told g.Q.Target.Target.told in
    ends e c.laws.ensures.refuses s old last new c.requires.alone c.ending_of.result c.give_up-in-Err-run.result (c.in-Err-run.ensures.kept.grew.legal c.in-Ok.ensures.step.legal) c.in-Err-run.ensures.kept.drew.alive
    (ending_shown e s last c.in-Err-run.trouble c.ending_of.result c.ending_of.ensures c.in-Err-run.ensures.trouble) c.give_up-in-Err-run.ensures.end c.give_up-in-Err-run.ensures.report

pub returns-in-Err-run-clause-asked : goal.returns-in-Err-run-clause-asked
returns-in-Err-run-clause-asked g c =
    let s = g.Q.Desk.start in
    let old = g.Q.Desk.seen c.args.desk.now in
    let mid = g.Q.Desk.seen c.draw_test.new.self in
    let last = g.Q.Desk.seen c.run.new.desk in
    let new = g.Q.Desk.seen c.give_up-in-Err-run.new.desk in
    let e = evidence g.Q.Stage.Counted.faults g.Q.Fetch.Counted.faults g.Q.Shard.Counted.faults g.Q.Target.Counted.faults g.Q.Shard.Shard.told g.Q.Target.Target.told in
    asks_run (Unit {0}) e s old last new c.ending_of.result c.give_up-in-Err-run.result c.requires.alone
    (steps_begun s old mid last (DrawnFrom c.in-Ok.id.number) c.requires.alone c.in-Ok.ensures.step c.run.ensures.grew) c.give_up-in-Err-run.ensures.end
    c.give_up-in-Err-run.ensures.report

pub returns-in-Err-run-clause-unverified : goal.returns-in-Err-run-clause-unverified
returns-in-Err-run-clause-unverified g c =
    let s = g.Q.Desk.start in
    let old = g.Q.Desk.seen c.args.desk.now in
    let mid = g.Q.Desk.seen c.draw_test.new.self in
    let last = g.Q.Desk.seen c.run.new.desk in
    let new = g.Q.Desk.seen c.give_up-in-Err-run.new.desk in
    unverified_on old mid new (outcome_unverified s old mid DrawTest (λ (id : Id). DrawnFrom id.number) c.draw_test.result c.requires.alone (λ e. cc) c.draw_test.ensures.step)
    (unverified_on mid last new c.in-Err-run.ensures.kept.unverified (report_unverified s last new c.ending_of.result c.give_up-in-Err-run.result c.requires.alone c.give_up-in-Err-run.ensures.report))

pub returns-in-Err-run-clause-grew : goal.returns-in-Err-run-clause-grew
returns-in-Err-run-clause-grew g c =
    let s = g.Q.Desk.start in
    let old = g.Q.Desk.seen c.args.desk.now in
    let mid = g.Q.Desk.seen c.draw_test.new.self in
    let last = g.Q.Desk.seen c.run.new.desk in
    let new = g.Q.Desk.seen c.give_up-in-Err-run.new.desk in
    grew_by_on s 0 old mid new (outcome_grew_by s old mid 0 (ReadStep DrawTest) (λ (id : Id). DrawnFrom id.number) c.draw_test.result c.draw_test.ensures.step)
    (grew_by_on s 0 mid last new (grew_further s mid last c.run.ensures.grew) c.give_up-in-Err-run.ensures.grew)
