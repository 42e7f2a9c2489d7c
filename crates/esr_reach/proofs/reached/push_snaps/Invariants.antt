use Rattle.std.proofs.Common.{take, map, flat_map}
use Rattle.esr_formats.specs.Roots.{root_snap_of}
use Rattle.esr_reach.specs.Names.{Pushed}
use Rattle.esr_reach.specs.Listing.{snap_names}
use Rattle.esr_reach.proofs.reached.push_snaps.Given as goal

abbrev pub invariant-loop-snap : goal.invariant-loop-snap
invariant-loop-snap l = Pushed l.fn.names l.names (flat_map snap_names (map root_snap_of (take l.snap-index l.snaps)))
