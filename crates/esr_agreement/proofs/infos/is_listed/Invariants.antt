use Rattle.std.proofs.Common.{◌≡◌, take, map}
use Rattle.esr_formats.specs.Roots.{root_snap_of}
use Rattle.esr_model.specs.Values.{Has, RootSnap}
use Rattle.esr_agreement.proofs.infos.is_listed.Given as goal

abbrev pub invariant-loop-snap : goal.invariant-loop-snap
invariant-loop-snap l = (s : RootSnap) → Has (map root_snap_of (take l.snap-index l.snap-items)) s → s.uuid ≡ l.uuid.number → ⊥
