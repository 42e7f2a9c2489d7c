use Rattle.std.proofs.Common.{take, map}
use Rattle.esr_formats.specs.Shards.{entry_of, snap_list_of, shard_index_of}
use Rattle.esr_model.specs.Values.{Has, SnapList}
use Rattle.esr_agreement.specs.Lists.{ListsFiles}
use Rattle.esr_agreement.proofs.listing.lists.Given as goal

abbrev pub invariant-loop-list : goal.invariant-loop-list
invariant-loop-list l = (x : SnapList) → Has (map snap_list_of (take l.list-index l.list-items)) x → ListsFiles (shard_index_of l.held).files l.uuid.number (map entry_of l.files) x → ⊥
