use Rattle.std.proofs.Common.{◌≡◌, ◌*◌, ◌≤◌, ℕ, true, List, length, min}
use Rattle.std.specs.Io.KnownBytes.{Consumes}
use Rattle.esr_hash.specs.Fed.{HasFed}
use Rattle.esr_parts.specs.Reads.{ReadOn}
use Rattle.esr_desk.specs.Start.{ticket_of}
use Rattle.esr_desk.specs.Taken.{after_writes}
use Rattle.esr_desk.specs.Told.{TellsAll}
use Rattle.esr_upload.specs.Pieces.{blob_name, cut}
use Rattle.esr_upload.specs.Worked.{Went}
use Rattle.esr_upload.proofs.file.put_parts.Given as goal

abbrev pub invariant-loop-number : goal.invariant-loop-number
invariant-loop-number g l =
    record {
      calls : g.Q.Desk.calls l.desk ≡ g.Q.Desk.calls l.fn.desk;
      kept : ReadOn (g.S.Shard.told l.fn.shard) (g.S.Shard.told l.shard);
      steady : (g.S.Shard.told l.fn.shard).is_sure ≡ true → g.S.Counted.faults l.shard ≡ g.S.Counted.faults l.fn.shard;
      buffer : length l.buf ≡ length l.fn.buf;
      later : g.S.Counted.faults l.fn.shard ≤ g.S.Counted.faults l.shard;
      bytes : List ℕ;
      took : Consumes (g.S.Shard.told l.fn.shard).left (g.S.Shard.told l.shard).left bytes;
      fed : HasFed l.hasher bytes;
      count : length bytes ≡ min (l.number * l.entry.part_size) l.entry.print.len;
      is : ticket_of g.Q.Desk.start (g.Q.Desk.seen l.desk) l.job.ticket
          ≡ after_writes g.Q.Desk.start (cut (blob_name l.job.at l.entry) l.entry.part_size 0 l.number bytes) (ticket_of g.Q.Desk.start (g.Q.Desk.seen l.fn.desk) l.job.ticket);
      tells : TellsAll g.Q.Desk.start (g.Q.Desk.seen l.desk) l.job.ticket;
      went : Went g.Q.Desk.start (g.Q.Desk.seen l.fn.desk) (g.Q.Desk.seen l.desk) l.job.ticket;
    }
