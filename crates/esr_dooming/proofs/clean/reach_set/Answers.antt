use Rattle.std.proofs.Common.{◌≡◌, ◌↔◌, true, List, IfOk, map, ap, ◌∙◌, subst}
use Rattle.std.specs.BTreeSet.{contains}
use Rattle.esr_names.specs.contracts.blob.BlobNameOrd.TheImpl as name_block
use Rattle.esr_names.specs.declared.blob.BlobName.{BlobName as CodeName}
use Rattle.esr_model.specs.Names.{BlobName}
use Rattle.esr_model.specs.Values.{Has}
use Rattle.esr_formats.specs.Names.{name_of}
use Rattle.esr_dooming.proofs.clean.reach_set.Goals as goal

pub returns : goal.returns
returns c =
    subst (λ (ns : List BlobName). IfOk c.set_of.result (λ set. (name : CodeName) → (contains name_block.ghosts.cmp set name ≡ true) ↔ Has ns (name_of name)))
    (ap (map name_of) c.as_slice.ensures ∙ c.in_ok-names.ensures.order) c.set_of.ensures
