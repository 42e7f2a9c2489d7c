use Rattle.std.proofs.Common.{take, map}
use Rattle.esr_formats.specs.Roots.{root_of}
use Rattle.esr_model.specs.Image.{AllPairs, At, ShardStands}
use Rattle.esr_plain.specs.Exactly.{Always}
use Rattle.esr_plain.specs.Places.{place_of}
use Rattle.esr_plain.proofs.snap.shelf_shards.Given as goal

abbrev pub invariant-loop-place : goal.invariant-loop-place
invariant-loop-place l = Always (λ f. AllPairs (ShardStands f (At f l.image) (root_of l.root) l.uuid.number) (map place_of (take l.place-index l.place-items)) l.shards)
