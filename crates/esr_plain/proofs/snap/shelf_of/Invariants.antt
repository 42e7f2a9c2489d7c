use Rattle.std.proofs.Common.{take, map}
use Rattle.esr_formats.specs.Roots.{root_of, root_snap_of}
use Rattle.esr_model.specs.Image.{AllPairs, At, SnapStands}
use Rattle.esr_plain.specs.Exactly.{Always}
use Rattle.esr_plain.proofs.snap.shelf_of.Given as goal

abbrev pub invariant-loop-snap : goal.invariant-loop-snap
invariant-loop-snap l = Always (λ f. AllPairs (SnapStands f (At f l.image) (root_of l.root)) (map root_snap_of (take l.snap-index l.snap-items)) l.shelf)
