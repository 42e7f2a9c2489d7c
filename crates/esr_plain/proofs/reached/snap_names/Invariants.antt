use Rattle.std.proofs.Common.{take, map}
use Rattle.esr_formats.specs.Roots.{root_snap_of}
use Rattle.esr_plain.specs.Reach.{AreNames, OfSome, OfSnap}
use Rattle.esr_plain.proofs.reached.snap_names.Given as goal

abbrev pub invariant-loop-snap : goal.invariant-loop-snap
invariant-loop-snap l = AreNames l.names (OfSome OfSnap (map root_snap_of (take l.snap-index l.snaps)))
