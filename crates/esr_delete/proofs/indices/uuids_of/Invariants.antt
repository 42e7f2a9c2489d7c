use Rattle.std.proofs.Common.{◌≡◌, map, take}
use Rattle.esr_formats.specs.Ids.{number_of}
use Rattle.esr_formats.specs.Roots.{root_snap_of}
use Rattle.esr_model.specs.Values.{RootSnap}
use Rattle.esr_delete.proofs.indices.uuids_of.Given as goal

abbrev pub invariant-loop-snap : goal.invariant-loop-snap
invariant-loop-snap l = map number_of l.uuids ≡ map (λ (s : RootSnap). s.uuid) (map root_snap_of (take l.snap-index l.snap-items))
