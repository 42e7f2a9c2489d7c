use Rattle.std.proofs.Common.{◌∙◌, ◌≤◌, List, length, take, refl, subst}
use Rattle.esr_shardidx.specs.declared.entry.FileEntry.{FileEntry as CodeEntry}
use Rattle.esr_desk.specs.Own.{reader_of}
use Rattle.esr_restore.proofs.Going.{went_none, went_on, went_at, still_mine}
use Rattle.esr_restore.proofs.Reading.{snap_more}
use Rattle.esr_restore.proofs.Listing.{entry_at, listed_at, files_none, next_free, files_next, files_all, at_same}
use Rattle.esr_desk.specs.Restore.First.{HasFirst}
use Rattle.esr_desk.specs.Made.{reads_none}
use Rattle.esr_unit.specs.Refusals.{on_err}
use Rattle.esr_restore.specs.Unread.{IsPartOfAny}
use Rattle.esr_restore.proofs.Once.{file_unread, file_more}
use Rattle.esr_restore.proofs.Left.{first_files}
use Rattle.esr_restore.proofs.files.restore_files.Goals as goal

pub loop-entry-init : goal.loop-entry-init
loop-entry-init g c = record {
  calls = refl;
  buffer = refl;
  begun = c.requires.none_begun;
  steady = refl;
  made_for = refl;
  is_sure = refl;
  went = went_none g.Q.Desk.start (g.Q.Desk.seen c.args.desk.now) c.args.job.ticket;
  reads = reads_none g.Q.Desk.start (g.Q.Desk.seen c.args.desk.now) c.args.job.ticket (IsPartOfAny c.args.job.at (take 0 c.args.snap.now.files));
  first = files_none g.Q.Desk.start (reader_of g.Q.Desk.start (g.Q.Desk.seen c.args.desk.now) c.args.job.ticket) c.args.job.at c.args.snap.now.files (g.Q.Target.Target.told c.args.target.now).files c.requires.empty;
}

pub restore_file-requires-clause-mine : goal.restore_file-requires-clause-mine
restore_file-requires-clause-mine g c κs within =
    still_mine (g.Q.Desk.calls c.args.desk.now) (g.Q.Desk.calls c.loop-entry.desk) c.args.job.ticket c.loop-entry.invariant.calls c.requires.mine

pub restore_file-requires-clause-entry : goal.restore_file-requires-clause-entry
restore_file-requires-clause-entry g c κs within =
    let here = at_same c.files-entry-items.result.now c.args.snap.now.files c.loop-entry.entry-index c.entry-item.result c.files-entry-items.ensures.files c.loop-entry-test.true c.entry-item.is in
    entry_at c.args.snap.now c.loop-entry.entry-index c.entry-item.result c.files-entry-items.ensures.whole here.0 here.1

pub restore_file-requires-clause-listed : goal.restore_file-requires-clause-listed
restore_file-requires-clause-listed g c κs within =
    let s = g.Q.Desk.start in
    let who = c.args.job.ticket in
    let old = reader_of s (g.Q.Desk.seen c.args.desk.now) who in
    let now = reader_of s (g.Q.Desk.seen c.loop-entry.desk) who in
    let here = at_same c.files-entry-items.result.now c.args.snap.now.files c.loop-entry.entry-index c.entry-item.result c.files-entry-items.ensures.files c.loop-entry-test.true c.entry-item.is in
    listed_at s now c.args.snap.now c.loop-entry.entry-index c.entry-item.result (snap_more s old now c.args.snap.now c.loop-entry.invariant.went.worked c.requires.snap) here.0 here.1

pub restore_file-requires-clause-free : goal.restore_file-requires-clause-free
restore_file-requires-clause-free g c κs within =
    let s = g.Q.Desk.start in
    let here = at_same c.files-entry-items.result.now c.args.snap.now.files c.loop-entry.entry-index c.entry-item.result c.files-entry-items.ensures.files c.loop-entry-test.true c.entry-item.is in
    next_free s (reader_of s (g.Q.Desk.seen c.loop-entry.desk) c.args.job.ticket) c.args.job.at c.args.snap.now c.loop-entry.entry-index c.entry-item.result
    (g.Q.Target.Target.told c.args.target.now).files (g.Q.Target.Target.told c.loop-entry.target).files
    c.files-entry-items.ensures.whole here.0 here.1 c.loop-entry.invariant.first

pub returns-in_err-restore_file-clause-went : goal.returns-in_err-restore_file-clause-went
returns-in_err-restore_file-clause-went g c = went_on g.Q.Desk.start (g.Q.Desk.seen c.args.desk.now) (g.Q.Desk.seen c.loop-entry.desk) (g.Q.Desk.seen c.restore_file.new.desk) c.args.job.ticket c.loop-entry.invariant.went c.restore_file.ensures.went

pub returns-in_err-restore_file-clause-first : goal.returns-in_err-restore_file-clause-first
returns-in_err-restore_file-clause-first g c =
    let s = g.Q.Desk.start in
    let who = c.args.job.ticket in
    let at = c.args.job.at in
    let uuid = c.args.job.uuid in
    let old = g.Q.Desk.seen c.args.desk.now in
    let mid = g.Q.Desk.seen c.loop-entry.desk in
    let new = g.Q.Desk.seen c.restore_file.new.desk in
    let went = went_on s old mid new who c.loop-entry.invariant.went c.restore_file.ensures.went in
    let files_new = (g.Q.Target.Target.told c.restore_file.new.target).files in
    on_err c.from_residual.result (HasFirst s (reader_of s new who) files_new)
    (first_files s (reader_of s mid who) (reader_of s new who) at uuid.number c.args.snap.now c.loop-entry.entry-index
    (g.Q.Target.Target.told c.args.target.now).files (g.Q.Target.Target.told c.loop-entry.target).files files_new c.restore_file.ensures.went.worked
    (went_at s old new who at.index.number at.number uuid.number went c.requires.at) (snap_more s (reader_of s old who) (reader_of s new who) c.args.snap.now went.worked c.requires.snap)
    c.loop-entry.invariant.first c.in_err-restore_file.ensures.kept)

pub returns-in_err-restore_file-clause-calls : goal.returns-in_err-restore_file-clause-calls
returns-in_err-restore_file-clause-calls g c = c.restore_file.ensures.calls ∙ c.loop-entry.invariant.calls

pub loop-entry-preserved : goal.loop-entry-preserved
loop-entry-preserved g c =
    let s = g.Q.Desk.start in
    let who = c.args.job.ticket in
    let inv = c.loop-entry.invariant in
    let done = c.in_ok-restore_file.ensures in
    let mid = g.Q.Desk.seen c.loop-entry.desk in
    let new = g.Q.Desk.seen c.restore_file.new.desk in
    let here = at_same c.files-entry-items.result.now c.args.snap.now.files c.loop-entry.entry-index c.entry-item.result c.files-entry-items.ensures.files c.loop-entry-test.true c.entry-item.is in
    record {
      calls = done.calls ∙ inv.calls;
      buffer = done.buffer ∙ inv.buffer;
      begun = done.begun;
      steady = done.steady ∙ inv.steady;
      made_for = done.made_for ∙ inv.made_for;
      is_sure = done.is_sure ∙ inv.is_sure;
      went = went_on s (g.Q.Desk.seen c.args.desk.now) mid new who inv.went done.went;
      reads = file_more s (g.Q.Desk.seen c.args.desk.now) mid new who c.args.job.at c.args.snap.now.files c.loop-entry.entry-index c.entry-item.result here.0 here.1 inv.reads done.reads;
      first =
          files_next s (reader_of s mid who) (reader_of s new who) c.args.job.at c.args.snap.now.files c.loop-entry.entry-index c.entry-item.result (g.Q.Target.Target.told c.args.target.now).files (g.Q.Target.Target.told c.loop-entry.target).files
          (g.Q.Target.Target.told c.restore_file.new.target).files done.went.worked here.0 here.1 inv.first done.restored;
    }

pub returns-clause-restored : goal.returns-clause-restored
returns-clause-restored g c =
    let s = g.Q.Desk.start in
    let all : length c.files-entry-items.result.now ≤ c.loop-entry.entry-index = c.loop-entry-test.false in
    let le = subst (λ (l : List CodeEntry). length l ≤ c.loop-entry.entry-index) c.files-entry-items.ensures.files all in
    files_all s (reader_of s (g.Q.Desk.seen c.loop-entry.desk) c.args.job.ticket) c.args.job.at c.args.snap.now.files c.loop-entry.entry-index
    (g.Q.Target.Target.told c.args.target.now).files (g.Q.Target.Target.told c.loop-entry.target).files le c.loop-entry.invariant.first

pub restore_file-requires-clause-new : goal.restore_file-requires-clause-new
restore_file-requires-clause-new g c κs within =
    let here = at_same c.files-entry-items.result.now c.args.snap.now.files c.loop-entry.entry-index c.entry-item.result c.files-entry-items.ensures.files c.loop-entry-test.true c.entry-item.is in
    file_unread g.Q.Desk.start (g.Q.Desk.seen c.args.desk.now) (g.Q.Desk.seen c.loop-entry.desk) c.args.job.ticket c.args.job.at c.args.snap.now
    c.loop-entry.entry-index c.entry-item.result c.files-entry-items.ensures.whole here.0 here.1 c.requires.new c.loop-entry.invariant.reads

pub returns-clause-begun : goal.returns-clause-begun
returns-clause-begun g c = c.loop-entry.invariant.begun

pub returns-clause-steady : goal.returns-clause-steady
returns-clause-steady g c = c.loop-entry.invariant.steady
