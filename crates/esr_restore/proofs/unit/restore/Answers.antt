use Rattle.std.proofs.Common.{◌∙◌}
use Rattle.esr_desk.specs.Own.{reader_of}
use Rattle.esr_restore.specs.Trouble.{IsTrouble}
use Rattle.esr_restore.proofs.Going.{went_on, still_mine}
use Rattle.esr_restore.proofs.Reading.{snap_more}
use Rattle.esr_model.specs.Names.{ShardSnap}
use Rattle.esr_desk.specs.Restore.First.{HasFirst}
use Rattle.esr_core.specs.Entry.{ReadBlob, ReadStep}
use Rattle.esr_desk.specs.Evidence.{evidence}
use Rattle.esr_desk.specs.Made.{none_fresh}
use Rattle.esr_unit.specs.Refusals.{passed_on, on_err}
use Rattle.esr_restore.proofs.Once.{files_unread}
use Rattle.esr_restore.proofs.Left.{first_none}
use Rattle.esr_restore.proofs.unit.restore.Goals as goal

pub returns-in_err-snap-clause-trouble : goal.returns-in_err-snap-clause-trouble
returns-in_err-snap-clause-trouble g c =
    let s = g.Q.Desk.start in
    let count = g.Q.Target.Counted.faults c.args.target.now in
    let sure = (g.Q.Target.Target.told c.args.target.now).is_sure in
    passed_on c.from_residual.result
    (IsTrouble (evidence g.Q.Stage.Counted.faults g.Q.Fetch.Counted.faults g.Q.Shard.Counted.faults g.Q.Target.Counted.faults g.Q.Shard.Shard.told g.Q.Target.Target.told) count sure s (g.Q.Desk.seen c.fetch_snap.new.desk) c.args.job.ticket)
    c.in_err-snap.field-0.0 c.from_residual.ensures.1 (c.in_err-snap.ensures.trouble count sure)

pub returns-in_err-snap-clause-first : goal.returns-in_err-snap-clause-first
returns-in_err-snap-clause-first g c =
    let s = g.Q.Desk.start in
    let q = reader_of s (g.Q.Desk.seen c.fetch_snap.new.desk) c.args.job.ticket in
    let files = (g.Q.Target.Target.told c.args.target.now).files in
    on_err c.from_residual.result (HasFirst s q files) (first_none s q files c.requires.empty)

pub returns-in_err-restore_files-clause-first : goal.returns-in_err-restore_files-clause-first
returns-in_err-restore_files-clause-first g c =
    let s = g.Q.Desk.start in
    let q = reader_of s (g.Q.Desk.seen c.restore_files.new.desk) c.args.job.ticket in
    on_err c.from_residual-in_err-restore_files.result (HasFirst s q (g.Q.Target.Target.told c.restore_files.new.target).files) c.in_err-restore_files.ensures.first

pub returns-in_err-restore_files-clause-went : goal.returns-in_err-restore_files-clause-went
returns-in_err-restore_files-clause-went g c =
    went_on g.Q.Desk.start (g.Q.Desk.seen c.args.desk.now) (g.Q.Desk.seen c.fetch_snap.new.desk) (g.Q.Desk.seen c.restore_files.new.desk) c.args.job.ticket c.fetch_snap.ensures.went c.restore_files.ensures.went

pub returns-clause-went : goal.returns-clause-went
returns-clause-went g c = went_on g.Q.Desk.start (g.Q.Desk.seen c.args.desk.now) (g.Q.Desk.seen c.fetch_snap.new.desk) (g.Q.Desk.seen c.restore_files.new.desk) c.args.job.ticket c.fetch_snap.ensures.went c.restore_files.ensures.went

pub restore_files-requires-clause-mine : goal.restore_files-requires-clause-mine
restore_files-requires-clause-mine g c κs within = still_mine (g.Q.Desk.calls c.args.desk.now) (g.Q.Desk.calls c.fetch_snap.new.desk) c.args.job.ticket c.fetch_snap.ensures.calls c.requires.mine

pub returns-in_err-restore_files-clause-calls : goal.returns-in_err-restore_files-clause-calls
returns-in_err-restore_files-clause-calls g c = c.restore_files.ensures.calls ∙ c.fetch_snap.ensures.calls

pub returns-clause-calls : goal.returns-clause-calls
returns-clause-calls g c = c.restore_files.ensures.calls ∙ c.fetch_snap.ensures.calls

pub returns-clause-snap : goal.returns-clause-snap
returns-clause-snap g c =
    let s = g.Q.Desk.start in
    let who = c.args.job.ticket in
    snap_more s (reader_of s (g.Q.Desk.seen c.fetch_snap.new.desk) who) (reader_of s (g.Q.Desk.seen c.restore_files.new.desk) who) c.in_ok-snap.snap c.restore_files.ensures.went.worked c.in_ok-snap.ensures.snap

pub fetch_snap-requires-clause-new : goal.fetch_snap-requires-clause-new
fetch_snap-requires-clause-new g c κs within = none_fresh g.Q.Desk.start (g.Q.Desk.seen c.args.desk.now) c.args.job.ticket (ReadStep (ReadBlob (ShardSnap c.args.job.at.index.number c.args.job.at.number c.args.job.uuid.number))) c.requires.new

pub restore_files-requires-clause-new : goal.restore_files-requires-clause-new
restore_files-requires-clause-new g c κs within =
    let s = g.Q.Desk.start in
    let old = g.Q.Desk.seen c.args.desk.now in
    files_unread s old (g.Q.Desk.seen c.fetch_snap.new.desk) c.args.job.ticket c.args.job.at c.args.job.uuid.number c.in_ok-snap.snap.files
    (λ name. none_fresh s old c.args.job.ticket (ReadStep (ReadBlob name)) c.requires.new) c.in_ok-snap.ensures.reads

pub returns-clause-begun : goal.returns-clause-begun
returns-clause-begun g c = c.in_ok-restore_files.ensures.begun

pub returns-clause-steady : goal.returns-clause-steady
returns-clause-steady g c = c.in_ok-restore_files.ensures.steady
