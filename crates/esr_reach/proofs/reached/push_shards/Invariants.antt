use Rattle.std.proofs.Common.{take, map, option_map}
use Rattle.std.specs.Ordering.{nat_cmp}
use Rattle.std.specs.BTreeSet.{contains}
use Rattle.esr_formats.specs.Ids.{number_of}
use Rattle.esr_reach.specs.Names.{Pushed}
use Rattle.esr_reach.specs.Listing.{shards_names}
use Rattle.esr_reach.proofs.reached.push_shards.Given as goal

abbrev pub invariant-loop-number : goal.invariant-loop-number
invariant-loop-number l = Pushed l.fn.names l.names (shards_names (contains nat_cmp l.listed) l.held l.index.id.number 0 (map (option_map number_of) (take l.number l.generation-items)))
