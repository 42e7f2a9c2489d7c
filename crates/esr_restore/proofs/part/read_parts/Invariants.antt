use Rattle.std.proofs.Common.{◌≡◌, List, length}
use Rattle.esr_desk.specs.Own.{reader_of}
use Rattle.esr_desk.specs.Calls.{Call}
use Rattle.esr_desk.specs.Made.{ReadsOnly}
use Rattle.esr_restore.specs.Unread.{IsPartBefore}
use Rattle.esr_restore.specs.Went.{Went}
use Rattle.esr_restore.proofs.Parts.{SoFar}
use Rattle.esr_restore.proofs.part.read_parts.Given as goal

abbrev pub invariant-loop-number : goal.invariant-loop-number
invariant-loop-number g l =
    record {
      calls : ◌≡◌ {A = List Call} (g.Q.Desk.calls l.desk) (g.Q.Desk.calls l.fn.desk);
      buffer : length l.buf ≡ length l.fn.buf;
      files : (g.Q.Target.Target.told l.target).files ≡ (g.Q.Target.Target.told l.fn.target).files;
      steady : g.Q.Target.Counted.faults l.target ≡ g.Q.Target.Counted.faults l.fn.target;
      made_for : (g.Q.Target.Target.told l.target).made_for ≡ (g.Q.Target.Target.told l.fn.target).made_for;
      is_sure : (g.Q.Target.Target.told l.target).is_sure ≡ (g.Q.Target.Target.told l.fn.target).is_sure;
      went : Went g.Q.Desk.start (g.Q.Desk.seen l.fn.desk) (g.Q.Desk.seen l.desk) l.job.ticket;
      reads : ReadsOnly g.Q.Desk.start (g.Q.Desk.seen l.fn.desk) (g.Q.Desk.seen l.desk) l.job.ticket (IsPartBefore l.job.at l.entry l.number);
      so_far : SoFar g.Q.Desk.start (reader_of g.Q.Desk.start (g.Q.Desk.seen l.desk) l.job.ticket) l.hasher (g.Q.Target.Target.told l.fn.target).begun (g.Q.Target.Target.told l.target).begun l.job.at l.entry l.number l.is_exact;
    }
