use Rattle.std.proofs.Common.{◌≡◌, IfOk, IfSome, Option, Some, None, option_map, sym, ap, ◌∙◌, subst}
use Rattle.std.specs.BTreeSet.{contains}
use Rattle.esr_names.specs.contracts.blob.BlobNameOrd.TheImpl as name_block
use Rattle.esr_names.specs.declared.blob.BlobName.{BlobName as CodeName}
use Rattle.esr_names.specs.Layout.{IsName}
use Rattle.esr_model.specs.Names.{BlobName}
use Rattle.esr_model.specs.Values.{Bytes}
use Rattle.esr_formats.specs.Names.{name_of, name_kind}
use Rattle.esr_reach.specs.Names.{Pushed}
use Rattle.esr_reach.specs.NamePieces.{pushed_none}
use Rattle.esr_dooming.specs.Unreached.{name_piece}
use Rattle.esr_dooming.proofs.clean.push_blob.Goals as goal

pub push_name-requires : goal.push_name-requires
push_name-requires c = subst (λ (o : Option CodeName). IfSome o IsName) c.in-Some.is c.read_name.ensures.range

pub returns-in-Some : goal.returns-in-Some
returns-in-Some c =
    let has = contains name_block.ghosts.cmp c.args.reached.now in
    let text : c.as_bytes.result.now ≡ c.args.blob.now.name = c.as_bytes.ensures.value ∙ c.as_str-text.ensures.text in
    let read : name_kind.read c.args.blob.now.name ≡ Some (name_of c.in-Some.name) = ap (λ (b : Bytes). name_kind.read b) (sym text) ∙ c.read_name.ensures.read ∙ ap (option_map name_of) c.in-Some.is in
    subst (λ (o : Option BlobName). IfOk c.push_name.result (λ x. Pushed c.args.names.now c.push_name.new.names (name_piece has o))) (sym read) c.push_name.ensures

pub returns-in-None : goal.returns-in-None
returns-in-None c =
    let has = contains name_block.ghosts.cmp c.args.reached.now in
    let text : c.as_bytes.result.now ≡ c.args.blob.now.name = c.as_bytes.ensures.value ∙ c.as_str-text.ensures.text in
    let read : name_kind.read c.args.blob.now.name ≡ None = ap (λ (b : Bytes). name_kind.read b) (sym text) ∙ c.read_name.ensures.read ∙ ap (option_map name_of) c.in-None.is in
    subst (λ (o : Option BlobName). Pushed c.args.names.now c.args.names.now (name_piece has o)) (sym read) (pushed_none c.args.names.now)
