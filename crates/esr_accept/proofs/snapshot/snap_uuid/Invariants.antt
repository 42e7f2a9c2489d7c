use Rattle.std.proofs.Common.{◌≡◌, drop, map}
use Rattle.esr_formats.specs.Roots.{root_snap_of}
use Rattle.esr_accept.specs.Asking.{snap_uuid}
use Rattle.esr_accept.proofs.snapshot.snap_uuid.Given as goal

-- the search goes on with what is left
abbrev pub invariant-loop-snap : goal.invariant-loop-snap
invariant-loop-snap l = snap_uuid (map root_snap_of l.snaps) l.name ≡ snap_uuid (map root_snap_of (drop l.snap-index l.snaps)) l.name
