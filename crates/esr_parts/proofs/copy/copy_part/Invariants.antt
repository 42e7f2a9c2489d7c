use Rattle.std.proofs.Common.{◌≡◌, ◌+◌, ◌≤◌, true, List, ℕ, length}
use Rattle.std.specs.Io.KnownBytes.{Consumes, append_known}
use Rattle.esr_parts.specs.Reads.{Fed, ReadOn}
use Rattle.esr_parts.proofs.copy.copy_part.Given as goal

abbrev pub invariant-loop-left : goal.invariant-loop-left
invariant-loop-left g l =
    record {
      kept : ReadOn (g.S.Shard.told l.fn.shard) (g.S.Shard.told l.shard);
      buffer : length l.buf ≡ length l.fn.buf;
      name : g.W.Stage.name l.stage ≡ g.W.Stage.name l.fn.stage;
      source : g.S.Counted.faults l.fn.shard ≤ g.S.Counted.faults l.shard;
      stage : g.W.Counted.faults l.fn.stage ≤ g.W.Counted.faults l.stage;
      steady : (g.S.Shard.told l.fn.shard).is_sure ≡ true → g.S.Counted.faults l.shard ≡ g.S.Counted.faults l.fn.shard;
      sure : g.W.Stage.is_sure l.stage ≡ g.W.Stage.is_sure l.fn.stage;
      room : l.left ≤ g.W.Stage.room l.stage;
      piece : List ℕ;
      fed : Fed l.fn.hasher l.hasher piece;
      stage_is : g.W.Stage.contents l.stage ≡ append_known (g.W.Stage.contents l.fn.stage) piece;
      took : Consumes (g.S.Shard.told l.fn.shard).left (g.S.Shard.told l.shard).left piece;
      count : length piece + l.left ≡ l.size;
    }

abbrev pub decreases-loop-left : goal.decreases-loop-left
decreases-loop-left g l = l.left
