use Rattle.std.proofs.Common.{◌≡◌, drop, map}
use Rattle.esr_formats.specs.Roots.{root_snap_of}
use Rattle.esr_opening.specs.Foreign.{snapshot_ids, first_from}
use Rattle.esr_opening.proofs.ids.foreign_uuid.Given as goal

abbrev pub invariant-loop-snap : goal.invariant-loop-snap
invariant-loop-snap l = first_from l.bound.number (snapshot_ids (map root_snap_of l.snaps)) ≡ first_from l.bound.number (snapshot_ids (map root_snap_of (drop l.snap-index l.snaps)))
