use Rattle.std.proofs.Common.{take, map}
use Rattle.esr_formats.specs.Roots.{root_snap_of, root_index_of}
use Rattle.esr_model.specs.Image.{At}
use Rattle.esr_plain.specs.Exactly.{Always}
use Rattle.esr_plain.specs.Reach.{AreNames, OfSome, OfIndex}
use Rattle.esr_plain.proofs.reached.indices_names.Given as goal

abbrev pub invariant-loop-index : goal.invariant-loop-index
invariant-loop-index l = Always (λ f. AreNames l.names (OfSome (OfIndex f (At f l.image) (map root_snap_of l.snaps)) (map root_index_of (take l.index-index l.indices))))
