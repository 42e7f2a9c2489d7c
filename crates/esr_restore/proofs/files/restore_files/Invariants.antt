use Rattle.std.proofs.Common.{◌≡◌, List, length, take, None}
use Rattle.esr_desk.specs.Own.{reader_of}
use Rattle.esr_desk.specs.Calls.{Call}
use Rattle.esr_desk.specs.Made.{ReadsOnly}
use Rattle.esr_restore.specs.Unread.{IsPartOfAny}
use Rattle.esr_restore.specs.Went.{Went}
use Rattle.esr_restore.proofs.Listing.{FirstFiles}
use Rattle.esr_restore.proofs.files.restore_files.Given as goal

abbrev pub invariant-loop-entry : goal.invariant-loop-entry
invariant-loop-entry g l =
    record {
      calls : ◌≡◌ {A = List Call} (g.Q.Desk.calls l.desk) (g.Q.Desk.calls l.fn.desk);
      buffer : length l.buf ≡ length l.fn.buf;
      begun : (g.Q.Target.Target.told l.target).begun ≡ None;
      steady : g.Q.Target.Counted.faults l.target ≡ g.Q.Target.Counted.faults l.fn.target;
      made_for : (g.Q.Target.Target.told l.target).made_for ≡ (g.Q.Target.Target.told l.fn.target).made_for;
      is_sure : (g.Q.Target.Target.told l.target).is_sure ≡ (g.Q.Target.Target.told l.fn.target).is_sure;
      went : Went g.Q.Desk.start (g.Q.Desk.seen l.fn.desk) (g.Q.Desk.seen l.desk) l.job.ticket;
      reads : ReadsOnly g.Q.Desk.start (g.Q.Desk.seen l.fn.desk) (g.Q.Desk.seen l.desk) l.job.ticket (IsPartOfAny l.job.at (take l.entry-index l.snap.files));
      first : FirstFiles g.Q.Desk.start (reader_of g.Q.Desk.start (g.Q.Desk.seen l.desk) l.job.ticket) l.job.at l.snap.files l.entry-index (g.Q.Target.Target.told l.fn.target).files (g.Q.Target.Target.told l.target).files;
    }
