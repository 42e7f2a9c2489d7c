use Rattle.std.proofs.Common.{take, map}
use Rattle.esr_formats.specs.Roots.{root_of, root_index_of}
use Rattle.esr_model.specs.Values.{Has, RootIndex}
use Rattle.esr_model.specs.Image.{At}
use Rattle.esr_plain.specs.Exactly.{Always}
use Rattle.esr_plain.proofs.Standing.{ShardsStand}
use Rattle.esr_plain.proofs.indices.indices_stand.Given as goal

abbrev pub invariant-loop-index : goal.invariant-loop-index
invariant-loop-index l = Always (λ f. (x : RootIndex) → Has (map root_index_of (take l.index-index l.index-items)) x → ShardsStand f (At f l.image) (root_of l.root) x)
