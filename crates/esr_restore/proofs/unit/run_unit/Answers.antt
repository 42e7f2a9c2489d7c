use Rattle.std.proofs.Common.{◌≡◌, ◌∙◌, length, sym, ap, subst}
use Rattle.esr_model.specs.Values.{Bytes}
use Rattle.esr_source.specs.Address.{address}
use Rattle.esr_core.specs.World.{Reader}
use Rattle.esr_core.specs.Entry.{ReadStep, RestoredShard, HasEnded}
use Rattle.esr_desk.specs.Evidence.{evidence}
use Rattle.esr_desk.specs.Grew.{GrewBy, grew_by_none, grew_by_on, outcome_grew_by}
use Rattle.esr_desk.specs.Own.{reader_of}
use Rattle.esr_desk.specs.Restore.Shown.{IsFor}
use Rattle.esr_desk.specs.Restore.Targets.{refused_of}
use Rattle.esr_desk.specs.declared.refusal.StepRefusal.TheVariants.{Memory}
use Rattle.esr_desk.specs.declared.unit.UnitRefusal.{UnitRefusal}
use Rattle.esr_restore.specs.Files.{sum_files}
use Rattle.esr_restore.proofs.Going.{worked_none, worked_same, worked_on, went_at, still_mine}
use Rattle.esr_restore.proofs.Ending.{end_halts, unit_refused_on}
use Rattle.esr_restore.specs.Refused.{IsUnitRefused}
use Rattle.esr_restore.specs.Snapped.{IsAt}
use Rattle.esr_restore.proofs.Left.{first_all, left_unended, stopped_left}
use Rattle.esr_restore.proofs.Finishing.{has_files, has_restored, filled, took_fresh, took_at, took_of, none_yet}
use Rattle.esr_restore.proofs.unit.run_unit.Goals.{After-restore, After-finish}
use Rattle.esr_restore.proofs.unit.run_unit.Goals as goal

pub returns-in-Err-clause-grew : goal.returns-in-Err-clause-grew
returns-in-Err-clause-grew g c =
    grew_by_none g.Q.Desk.start c.args.unit.ready.ticket (g.Q.Desk.seen c.args.desk.now)

pub returns-in-Err-clause-refused : goal.returns-in-Err-clause-refused
returns-in-Err-clause-refused g c =
    let e = evidence g.Q.Stage.Counted.faults g.Q.Fetch.Counted.faults g.Q.Shard.Counted.faults g.Q.Target.Counted.faults g.Q.Shard.Shard.told g.Q.Target.Target.told in
    let s = g.Q.Desk.start in
    let old = g.Q.Desk.seen c.args.desk.now in
    let who = c.args.unit.ready.ticket in
    subst (λ (r : UnitRefusal). IsUnitRefused e s old old who r) (sym c.stopped.ensures.refusal) (worked_none (reader_of s old who), tt)

pub returns-in-Err-clause-left : goal.returns-in-Err-clause-left
returns-in-Err-clause-left g c =
    stopped_left g.Q.Target.Target.told g.Q.Desk.start (g.Q.Desk.seen c.args.desk.now) c.args.unit.ready.ticket Memory c.stopped.result.refusal c.stopped.result.target c.stopped.ensures.refusal c.stopped.ensures.target tt

-- ---- the files are restored

pub restore-requires-clause-at : goal.restore-requires-clause-at
restore-requires-clause-at g c κs within =
    let s = g.Q.Desk.start in
    let ready = c.args.unit.ready in
    let who = ready.ticket in
    let r = c.in-RestoreShard in
    let old = g.Q.Desk.seen c.args.desk.now in
    took_at ready.work ready.op (reader_of s old who) r.uuid r.at r.index r.place (sym c.into_work-work.ensures ∙ r.is) c.requires.fresh

pub restore-requires-clause-few : goal.restore-requires-clause-few
restore-requires-clause-few g c κs within =
    let s = g.Q.Desk.start in
    let ready = c.args.unit.ready in
    let who = ready.ticket in
    let r = c.in-RestoreShard in
    let old = g.Q.Desk.seen c.args.desk.now in
    (took_fresh ready.work ready.op (reader_of s old who) r.uuid r.at r.index r.place (sym c.into_work-work.ensures ∙ r.is) c.requires.fresh).1

pub restore-requires-clause-empty : goal.restore-requires-clause-empty
restore-requires-clause-empty g c κs within =
    none_yet (g.T.Targets.told c.args.targets.now).tells (g.Q.Target.Target.told c.in-Ok.target).files c.in-Ok.ensures.files

-- ---- the ticket ends

-- it is still out for the shard
still_at : (g : _) (c : After-restore g) → IsAt (reader_of g.Q.Desk.start (g.Q.Desk.seen c.restore.new.desk) c.args.unit.ready.ticket) c.in-RestoreShard.at.index.number c.in-RestoreShard.at.number c.in-RestoreShard.uuid.number
still_at g c =
    let s = g.Q.Desk.start in
    let ready = c.args.unit.ready in
    let r = c.in-RestoreShard in
    let old = g.Q.Desk.seen c.args.desk.now in
    went_at s old (g.Q.Desk.seen c.restore.new.desk) ready.ticket r.at.index.number r.at.number r.uuid.number c.restore.ensures.went
    (took_at ready.work ready.op (reader_of s old ready.ticket) r.uuid r.at r.index r.place (sym c.into_work-work.ensures ∙ r.is) c.requires.fresh)

-- the target is the shard's own
for_shard : (g : _) (c : After-restore g) → IsFor (reader_of g.Q.Desk.start (g.Q.Desk.seen c.restore.new.desk) c.args.unit.ready.ticket) (g.Q.Target.Target.told c.restore.new.target).made_for
for_shard g c =
    let s = g.Q.Desk.start in
    let ready = c.args.unit.ready in
    let r = c.in-RestoreShard in
    let made = g.Q.Target.Target.told c.restore.new.target in
    let made_is : made.made_for ≡ address r.place r.index r.at.number =
    c.restore.ensures.made_for ∙ c.in-Ok.ensures.made_for ∙ ap (λ (p : Bytes). address p c.as_str-2.result.now r.at.number) c.as_str.ensures.text ∙ ap (λ (n : Bytes). address r.place n r.at.number) c.as_str-2.ensures.text in
    took_of ready.work ready.op (reader_of s (g.Q.Desk.seen c.args.desk.now) ready.ticket)
    (reader_of s (g.Q.Desk.seen c.restore.new.desk) ready.ticket) r.uuid r.at r.index r.place made.made_for (sym c.into_work-work.ensures ∙ r.is) c.requires.fresh made_is
    c.restore.ensures.went.worked

pub finish-requires-clause-mine : goal.finish-requires-clause-mine
finish-requires-clause-mine g c κs within =
    still_mine (g.Q.Desk.calls c.args.desk.now) (g.Q.Desk.calls c.restore.new.desk) c.args.unit.ready.ticket c.restore.ensures.calls c.requires.mine

pub finish-requires-clause-out : goal.finish-requires-clause-out
finish-requires-clause-out g c κs within = (still_at g (goal.at.finish-requires-clause-out g c).After-restore).out

pub finish-requires-clause-read : goal.finish-requires-clause-read
finish-requires-clause-read g c κs within =
    let s = g.Q.Desk.start in
    let r = c.in-RestoreShard in
    has_files s (reader_of s (g.Q.Desk.seen c.restore.new.desk) c.args.unit.ready.ticket) r.at r.uuid.number c.in-Ok-restore.snap (g.Q.Target.Target.told c.in-Ok.target).files (g.Q.Target.Target.told c.restore.new.target).files
    (still_at g (goal.at.finish-requires-clause-read g c).After-restore) c.in-Ok-restore.ensures.snap c.in-Ok-restore.ensures.restored

pub finish-requires-clause-filled : goal.finish-requires-clause-filled
finish-requires-clause-filled g c κs within =
    let s = g.Q.Desk.start in
    let ready = c.args.unit.ready in
    let r = c.in-RestoreShard in
    let old = reader_of s (g.Q.Desk.seen c.args.desk.now) ready.ticket in
    let e = evidence g.Q.Stage.Counted.faults g.Q.Fetch.Counted.faults g.Q.Shard.Counted.faults g.Q.Target.Counted.faults g.Q.Shard.Shard.told g.Q.Target.Target.told in
    filled e s old (reader_of s (g.Q.Desk.seen c.restore.new.desk) ready.ticket) ready.op r.uuid r.at r.index r.place c.in-Ok-restore.snap c.restore.new.target (g.Q.Target.Target.told c.in-Ok.target).files (g.T.Targets.told c.args.targets.now).tells
    (took_fresh ready.work ready.op old r.uuid r.at r.index r.place (sym c.into_work-work.ensures ∙ r.is) c.requires.fresh).0 c.restore.ensures.went.worked
    (still_at g (goal.at.finish-requires-clause-filled g c).After-restore) c.in-Ok-restore.ensures.snap c.in-Ok-restore.ensures.restored (for_shard g (goal.at.finish-requires-clause-filled g c).After-restore) c.in-Ok.ensures.files c.requires.tells
    (λ all. c.restore.ensures.is_sure ∙ c.in-Ok.ensures.sure (sym c.requires.sure ∙ all)) c.in-Ok-restore.ensures.begun (c.in-Ok-restore.ensures.steady ∙ c.in-Ok.ensures.count)

-- by its end, also where that was refused
finish_grew : (g : _) (c : After-finish g) → GrewBy g.Q.Desk.start c.args.unit.ready.ticket (g.Q.Desk.seen c.args.desk.now) (g.Q.Desk.seen c.finish.new.desk)
finish_grew g c =
    let s = g.Q.Desk.start in
    let who = c.args.unit.ready.ticket in
    let mid = g.Q.Desk.seen c.restore.new.desk in
    let new = g.Q.Desk.seen c.finish.new.desk in
    grew_by_on s who (g.Q.Desk.seen c.args.desk.now) mid new c.restore.ensures.went.grew
    (outcome_grew_by s mid new who (ReadStep (RestoredShard (length c.in-Ok-restore.snap.files) (sum_files c.in-Ok-restore.snap.files))) (λ x. HasEnded) (refused_of c.finish.result) c.finish.ensures.step)

pub returns-in-Ok-finish-clause-ok : goal.returns-in-Ok-finish-clause-ok
returns-in-Ok-finish-clause-ok g c =
    let snap = c.in-Ok-restore.snap in
    has_restored g.Q.Desk.start (g.Q.Desk.seen c.args.desk.now) (g.Q.Desk.seen c.restore.new.desk) (g.Q.Desk.seen c.finish.new.desk) c.args.unit.ready.ticket
    (length snap.files) (sum_files snap.files) c.restore.ensures.went.worked c.in-Ok-finish.ensures.step c.in-Ok-finish.ensures.own

pub returns-in-Ok-finish-clause-grew : goal.returns-in-Ok-finish-clause-grew
returns-in-Ok-finish-clause-grew g c = finish_grew g (goal.at.returns-in-Ok-finish-clause-grew g c).After-finish

pub returns-in-Ok-finish-clause-calls : goal.returns-in-Ok-finish-clause-calls
returns-in-Ok-finish-clause-calls g c =
    c.finish.ensures.calls ∙ c.restore.ensures.calls

-- ---- the end was refused

pub returns-in-Ok-restore-clause-refused : goal.returns-in-Ok-restore-clause-refused
returns-in-Ok-restore-clause-refused g c =
    let s = g.Q.Desk.start in
    let who = c.args.unit.ready.ticket in
    let old = g.Q.Desk.seen c.args.desk.now in
    let mid = g.Q.Desk.seen c.restore.new.desk in
    let new = g.Q.Desk.seen c.finish.new.desk in
    let failed = c.in-Err-finish in
    let e = evidence g.Q.Stage.Counted.faults g.Q.Fetch.Counted.faults g.Q.Shard.Counted.faults g.Q.Target.Counted.faults g.Q.Shard.Shard.told g.Q.Target.Target.told in
    let out = ap (λ (q : Reader). q.out) failed.ensures.kept ∙ (still_at g (goal.at.returns-in-Ok-restore-clause-refused g c).After-restore).out in
    subst (λ (x : UnitRefusal). IsUnitRefused e s old new who x) (sym c.give_back.ensures.refusal) (
      worked_on (reader_of s old who) (reader_of s mid who) (reader_of s new who) c.restore.ensures.went.worked (worked_same (reader_of s mid who) (reader_of s new who) failed.ensures.kept),
      end_halts c.refusals_are_of_their_steps.ensures s mid new who (length c.in-Ok-restore.snap.files) (sum_files c.in-Ok-restore.snap.files) out failed.unended.refusal failed.ensures.step,
    )

pub returns-in-Ok-restore-clause-left : goal.returns-in-Ok-restore-clause-left
returns-in-Ok-restore-clause-left g c =
    let s = g.Q.Desk.start in
    let ready = c.args.unit.ready in
    let r = c.in-RestoreShard in
    let mid = reader_of s (g.Q.Desk.seen c.restore.new.desk) ready.ticket in
    let failed = c.in-Err-finish in
    let target = c.restore.new.target in
    left_unended g.Q.Target.Target.told s mid (g.Q.Desk.seen c.finish.new.desk) ready.ticket c.give_back.result.refusal (record { op = ready.op; index = r.index; shard = r.at.number; target = target }) failed.unended.target c.give_back.result.target
    (for_shard g (goal.at.returns-in-Ok-restore-clause-left g c).After-restore)
    (first_all s mid r.at r.uuid.number c.in-Ok-restore.snap (g.Q.Target.Target.told c.in-Ok.target).files (g.Q.Target.Target.told target).files
    (still_at g (goal.at.returns-in-Ok-restore-clause-left g c).After-restore) c.in-Ok-restore.ensures.snap c.in-Ok-restore.ensures.restored)
    failed.ensures.kept failed.ensures.target c.give_back.ensures.target

pub returns-in-Ok-restore-clause-grew : goal.returns-in-Ok-restore-clause-grew
returns-in-Ok-restore-clause-grew g c = finish_grew g (goal.at.returns-in-Ok-restore-clause-grew g c).After-finish

pub returns-in-Ok-restore-clause-calls : goal.returns-in-Ok-restore-clause-calls
returns-in-Ok-restore-clause-calls g c =
    c.finish.ensures.calls ∙ c.restore.ensures.calls

-- ---- the files aren't restored

pub fail-requires-clause-mine : goal.fail-requires-clause-mine
fail-requires-clause-mine g c κs within =
    still_mine (g.Q.Desk.calls c.args.desk.now) (g.Q.Desk.calls c.restore.new.desk) c.args.unit.ready.ticket c.restore.ensures.calls c.requires.mine

pub fail-requires-clause-out : goal.fail-requires-clause-out
fail-requires-clause-out g c κs within = (still_at g (goal.at.fail-requires-clause-out g c).After-restore).out

pub fail-requires-clause-of : goal.fail-requires-clause-of
fail-requires-clause-of g c κs within = for_shard g (goal.at.fail-requires-clause-of g c).After-restore

pub fail-requires-clause-sure : goal.fail-requires-clause-sure
fail-requires-clause-sure g c κs within =
    λ all. c.restore.ensures.is_sure ∙ c.in-Ok.ensures.sure (sym c.requires.sure ∙ all)

pub fail-requires-clause-first : goal.fail-requires-clause-first
fail-requires-clause-first g c κs within =
    c.in-Err-restore.ensures.first

pub returns-clause-refused : goal.returns-clause-refused
returns-clause-refused g c =
    let e = evidence g.Q.Stage.Counted.faults g.Q.Fetch.Counted.faults g.Q.Shard.Counted.faults g.Q.Target.Counted.faults g.Q.Shard.Shard.told g.Q.Target.Target.told in
    unit_refused_on e g.Q.Desk.start (g.Q.Desk.seen c.args.desk.now) (g.Q.Desk.seen c.restore.new.desk) (g.Q.Desk.seen c.fail.new.desk) c.args.unit.ready.ticket c.fail.result.refusal c.restore.ensures.went.worked c.fail.ensures.refused

pub returns-clause-left : goal.returns-clause-left
returns-clause-left g c =
    c.fail.ensures.left

pub returns-clause-grew : goal.returns-clause-grew
returns-clause-grew g c =
    grew_by_on g.Q.Desk.start c.args.unit.ready.ticket (g.Q.Desk.seen c.args.desk.now) (g.Q.Desk.seen c.restore.new.desk) (g.Q.Desk.seen c.fail.new.desk) c.restore.ensures.went.grew c.fail.ensures.grew

pub returns-clause-calls : goal.returns-clause-calls
returns-clause-calls g c =
    c.fail.ensures.calls ∙ c.restore.ensures.calls
