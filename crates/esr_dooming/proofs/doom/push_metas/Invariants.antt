use Rattle.std.proofs.Common.{take, map, flat_map}
use Rattle.std.specs.Ordering.{nat_cmp}
use Rattle.std.specs.BTreeSet.{contains}
use Rattle.esr_formats.specs.Ids.{number_of}
use Rattle.esr_reach.specs.Names.{Pushed}
use Rattle.esr_dooming.specs.Pieces.{meta_piece}
use Rattle.esr_dooming.proofs.doom.push_metas.Given as goal

abbrev pub invariant-loop-uuid : goal.invariant-loop-uuid
invariant-loop-uuid l = Pushed l.fn.names l.names (flat_map (meta_piece (contains nat_cmp l.named) l.index.id.number) (map number_of (take l.uuid-index l.uuid-items)))
