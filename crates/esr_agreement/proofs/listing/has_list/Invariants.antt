use Rattle.std.proofs.Common.{◌≡◌, take, map}
use Rattle.esr_formats.specs.Shards.{snap_list_of}
use Rattle.esr_model.specs.Values.{Has, SnapList}
use Rattle.esr_agreement.proofs.listing.has_list.Given as goal

abbrev pub invariant-loop-list : goal.invariant-loop-list
invariant-loop-list l = (x : SnapList) → Has (map snap_list_of (take l.list-index l.list-items)) x → x.uuid ≡ l.uuid.number → ⊥
