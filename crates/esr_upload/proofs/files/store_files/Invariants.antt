use Rattle.std.proofs.Common.{◌≡◌, ◌+◌, true, length, take}
use Rattle.esr_desk.specs.Start.{ticket_of}
use Rattle.esr_desk.specs.Told.{TellsAll}
use Rattle.esr_upload.specs.Entries.{new_count}
use Rattle.esr_parts.specs.Reads.{ReadOn}
use Rattle.esr_upload.specs.Stored.{IsAt, IsToldBy, AreBelow}
use Rattle.esr_upload.specs.Worked.{Went}
use Rattle.esr_upload.proofs.Storing.{StoredFirst}
use Rattle.esr_upload.proofs.files.store_files.Given as goal

abbrev pub invariant-loop-file : goal.invariant-loop-file
invariant-loop-file g l =
    record {
      calls : g.Q.Desk.calls l.desk ≡ g.Q.Desk.calls l.fn.desk;
      told : IsToldBy g.Q.Desk.start (g.S.Shard.told l.fn.shard).files l.job.at.number (ticket_of g.Q.Desk.start (g.Q.Desk.seen l.desk) l.job.ticket);
      at : IsAt (ticket_of g.Q.Desk.start (g.Q.Desk.seen l.desk) l.job.ticket) l.job.at.index.number l.job.at.number;
      from : (ticket_of g.Q.Desk.start (g.Q.Desk.seen l.desk) l.job.ticket).first ≡ l.fn.first.number;
      drawn : (ticket_of g.Q.Desk.start (g.Q.Desk.seen l.desk) l.job.ticket).drawn ≡ new_count l.plans + 1;
      below : AreBelow (ticket_of g.Q.Desk.start (g.Q.Desk.seen l.desk) l.job.ticket) l.next.number;
      kept : ReadOn (g.S.Shard.told l.fn.shard) (g.S.Shard.told l.shard);
      steady : (g.S.Shard.told l.fn.shard).is_sure ≡ true → g.S.Counted.faults l.shard ≡ g.S.Counted.faults l.fn.shard;
      buffer : length l.buf ≡ length l.fn.buf;
      tells : TellsAll g.Q.Desk.start (g.Q.Desk.seen l.desk) l.job.ticket;
      went : Went g.Q.Desk.start (g.Q.Desk.seen l.fn.desk) (g.Q.Desk.seen l.desk) l.job.ticket;
      next : l.next.number ≡ l.fn.first.number + new_count (take l.file l.plans);
      stored : StoredFirst g.Q.Desk.start (g.S.Shard.told l.fn.shard).files l.job.at.index.number l.job.at.number l.job.part_size l.fn.first.number l.file l.plans l.entries
          (ticket_of g.Q.Desk.start (g.Q.Desk.seen l.fn.desk) l.job.ticket) (ticket_of g.Q.Desk.start (g.Q.Desk.seen l.desk) l.job.ticket);
    }
