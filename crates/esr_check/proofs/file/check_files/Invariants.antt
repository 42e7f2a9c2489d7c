use Rattle.std.proofs.Common.{◌≡◌, map, take, length}
use Rattle.esr_formats.specs.Shards.{entry_of}
use Rattle.esr_desk.specs.Own.{caller_of}
use Rattle.esr_check.specs.Pieces.{HasFiles}
use Rattle.esr_check.specs.Went.{IsSoFar, Went}
use Rattle.esr_check.proofs.Listing.{Any}
use Rattle.esr_check.proofs.Naming.{FileOf}
use Rattle.esr_check.proofs.file.check_files.Given as goal

abbrev pub invariant-loop-entry : goal.invariant-loop-entry
invariant-loop-entry g l =
    let s = g.Q.Desk.start in
    let now = g.Q.Desk.seen l.desk in
    record {
      buffer : length l.buf ≡ length l.fn.buf;
      files : HasFiles s (caller_of s now) l.shard.at.index.number l.shard.at.number (map entry_of (take l.entry-index l.entry-items));
      so_far : IsSoFar s now l.count;
      went : Went s (g.Q.Desk.seen l.fn.desk) now (Any (FileOf l.shard.at.index.number l.shard.at.number) (map entry_of (take l.entry-index l.entry-items)));
    }
