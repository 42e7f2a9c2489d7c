use Rattle.std.proofs.Common.{take, map, flat_map}
use Rattle.std.specs.Ordering.{nat_cmp}
use Rattle.std.specs.BTreeSet.{contains}
use Rattle.esr_formats.specs.Roots.{root_snap_of}
use Rattle.esr_reach.specs.Names.{Pushed}
use Rattle.esr_dooming.specs.Pieces.{snap_piece}
use Rattle.esr_dooming.proofs.doom.push_snaps.Given as goal

abbrev pub invariant-loop-snap : goal.invariant-loop-snap
invariant-loop-snap l = Pushed l.fn.names l.names (flat_map (snap_piece (contains nat_cmp l.named)) (map root_snap_of (take l.snap-index l.snaps)))
