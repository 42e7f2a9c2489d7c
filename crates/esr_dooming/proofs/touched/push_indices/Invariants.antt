use Rattle.std.proofs.Common.{take, map, flat_map}
use Rattle.std.specs.Ordering.{nat_cmp}
use Rattle.std.specs.BTreeSet.{contains}
use Rattle.esr_formats.specs.Roots.{root_index_of}
use Rattle.esr_dooming.specs.Pieces.{Added, read_index}
use Rattle.esr_dooming.proofs.touched.push_indices.Given as goal

abbrev pub invariant-loop-index : goal.invariant-loop-index
invariant-loop-index l = Added l.fn.shards l.shards (flat_map (read_index l.clean (contains nat_cmp l.named)) (map root_index_of (take l.index-index l.indices)))
