use Rattle.std.proofs.Common.{take, map}
use Rattle.esr_formats.specs.Roots.{root_snap_of}
use Rattle.esr_formats.specs.Shards.{shard_index_of}
use Rattle.esr_plain.specs.Reach.{AreNames, OfSome, OfList}
use Rattle.esr_plain.proofs.reached.list_names.Given as goal

abbrev pub invariant-loop-snap : goal.invariant-loop-snap
invariant-loop-snap l = AreNames l.names (OfSome (OfList (shard_index_of l.held) l.shard.index.number l.shard.number) (map root_snap_of (take l.snap-index l.snaps)))
