use Rattle.std.proofs.Common.{◌↔◌, map, take}
use Rattle.std.specs.BTreeSet.{contains}
use Rattle.esr_names.specs.declared.blob.BlobName.{BlobName as CodeName}
use Rattle.esr_formats.specs.Names.{name_of}
use Rattle.esr_model.specs.Values.{Has}
use Rattle.esr_reach.specs.Names.{AreOnce}
use Rattle.esr_reach.specs.NameOrder.{name_cmp}
use Rattle.esr_delete.specs.Removed.{IsSetOf}
use Rattle.esr_delete.proofs.remove.distinct.Given as goal

abbrev pub invariant-loop-name : goal.invariant-loop-name
invariant-loop-name l =
    record {
      set : IsSetOf (contains name_cmp l.there) l.once;
      once : AreOnce (map name_of l.once);
      same : (name : CodeName) → Has l.once name ↔ Has (take l.name-index l.names) name;
    }
