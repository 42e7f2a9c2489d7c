use Rattle.std.proofs.Common.{◌≡◌, ◌+◌, ◌≤◌, true, List, ℕ, length}
use Rattle.std.specs.Io.KnownBytes.{Consumes}
use Rattle.esr_hash.specs.Fed.{HasFed}
use Rattle.esr_source.specs.Files.{bytes_at}
use Rattle.esr_parts.specs.Reads.{ReadOn}
use Rattle.esr_parts.proofs.hash.hash_file.Given as goal

abbrev pub invariant-loop-left : goal.invariant-loop-left
invariant-loop-left g l =
    record {
      kept : ReadOn (g.S.Shard.told l.fn.shard) (g.S.Shard.told l.shard);
      buffer : length l.buf ≡ length l.fn.buf;
      later : g.S.Counted.faults l.fn.shard ≤ g.S.Counted.faults l.shard;
      steady : (g.S.Shard.told l.fn.shard).is_sure ≡ true → g.S.Counted.faults l.shard ≡ g.S.Counted.faults l.fn.shard;
      bytes : List ℕ;
      fed : HasFed l.hasher bytes;
      took : Consumes (bytes_at (g.S.Shard.told l.fn.shard).files l.file) (g.S.Shard.told l.shard).left bytes;
      count : length bytes + l.left ≡ l.len;
    }

abbrev pub decreases-loop-left : goal.decreases-loop-left
decreases-loop-left g l = l.left
