use Rattle.std.proofs.Common.{take, map, flat_map}
use Rattle.std.specs.Ordering.{nat_cmp}
use Rattle.std.specs.BTreeSet.{contains}
use Rattle.esr_formats.specs.Roots.{root_index_of}
use Rattle.esr_reach.specs.Names.{Pushed}
use Rattle.esr_dooming.specs.Pieces.{metas_piece}
use Rattle.esr_dooming.proofs.doom.push_index_metas.Given as goal

abbrev pub invariant-loop-index : goal.invariant-loop-index
invariant-loop-index l = Pushed l.fn.names l.names (flat_map (metas_piece (contains nat_cmp l.named)) (map root_index_of (take l.index-index l.indices)))
