use Rattle.std.proofs.Common.{take, map, flat_map}
use Rattle.std.specs.Ordering.{nat_cmp}
use Rattle.std.specs.BTreeSet.{contains}
use Rattle.esr_formats.specs.Shards.{snap_list_of}
use Rattle.esr_reach.specs.Names.{Pushed}
use Rattle.esr_results.specs.Pruned.{pruned_of}
use Rattle.esr_dooming.specs.Pieces.{list_piece}
use Rattle.esr_dooming.proofs.doom.push_lists.Given as goal

abbrev pub invariant-loop-list : goal.invariant-loop-list
invariant-loop-list l = Pushed l.fn.names l.names (flat_map (list_piece (contains nat_cmp l.listed) (contains nat_cmp l.left) (pruned_of l.shard)) (map snap_list_of (take l.list-index l.lists)))
