use Rattle.std.proofs.Common.{Bool, ◌||◌, sym, ap, ◌∙◌}
use Rattle.std.specs.BTreeSet.{contains}
use Rattle.esr_names.specs.contracts.blob.BlobNameOrd.TheImpl as name_block
use Rattle.esr_dooming.proofs.Unreaching.{spared_by}
use Rattle.esr_dooming.proofs.clean.is_spared.Goals as goal

pub returns-then-is_latest : goal.returns-then-is_latest
returns-then-is_latest c =
    let has = contains name_block.ghosts.cmp c.args.reached.now in
    c.if-is_latest.true ∙ ap (λ (b : Bool). b || has c.args.name) (sym c.if-is_latest.true ∙ c.is_latest.ensures) ∙ spared_by has c.args.name

pub returns-else-is_latest : goal.returns-else-is_latest
returns-else-is_latest c =
    let has = contains name_block.ghosts.cmp c.args.reached.now in
    c.contains.ensures ∙ ap (λ (b : Bool). b || has c.args.name) (sym c.if-is_latest.false ∙ c.is_latest.ensures) ∙ spared_by has c.args.name
