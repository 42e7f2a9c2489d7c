use Rattle.std.proofs.Common.{◌≡◌, length}
use Rattle.esr_desk.specs.Own.{caller_of}
use Rattle.esr_check.specs.Went.{IsSoFar, Went}
use Rattle.esr_check.proofs.Listing.{Below}
use Rattle.esr_check.proofs.Naming.{PartOf}
use Rattle.esr_check.proofs.Parting.{SoFar}
use Rattle.esr_check.proofs.part.read_parts.Given as goal

abbrev pub invariant-loop-number : goal.invariant-loop-number
invariant-loop-number g l =
    let s = g.Q.Desk.start in
    let now = g.Q.Desk.seen l.desk in
    record {
      buffer : length l.buf ≡ length l.fn.buf;
      so_far : IsSoFar s now l.count;
      went : Went s (g.Q.Desk.seen l.fn.desk) now (Below (PartOf l.shard.at l.entry) l.number);
      parts : SoFar s (caller_of s now) l.hasher l.shard.at l.entry l.number l.is_exact;
    }
