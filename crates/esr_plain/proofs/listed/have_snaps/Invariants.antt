use Rattle.std.proofs.Common.{take, map}
use Rattle.esr_formats.specs.Roots.{root_of}
use Rattle.esr_formats.specs.Shards.{snap_list_of}
use Rattle.esr_model.specs.Values.{Has, SnapList}
use Rattle.esr_model.specs.Image.{At}
use Rattle.esr_plain.specs.Exactly.{Always}
use Rattle.esr_plain.specs.Listed.{HasSnap}
use Rattle.esr_plain.proofs.listed.have_snaps.Given as goal

abbrev pub invariant-loop-list : goal.invariant-loop-list
invariant-loop-list l = Always (λ f. (x : SnapList) → Has (map snap_list_of (take l.list-index l.list-items)) x → HasSnap f (At f l.image) (root_of l.root) l.shard.index.number l.shard.number x.uuid)
