use Rattle.std.proofs.Common.{take, map, flat_map}
use Rattle.std.specs.Ordering.{nat_cmp}
use Rattle.std.specs.BTreeSet.{contains}
use Rattle.esr_reach.specs.Names.{Pushed}
use Rattle.esr_results.specs.Pruned.{pruned_of}
use Rattle.esr_dooming.specs.Pieces.{shard_piece}
use Rattle.esr_dooming.proofs.doom.push_shards.Given as goal

abbrev pub invariant-loop-shard : goal.invariant-loop-shard
invariant-loop-shard l = Pushed l.fn.names l.names (flat_map (shard_piece (contains nat_cmp l.listed) (contains nat_cmp l.left) l.read) (map pruned_of (take l.shard-index l.shards)))
