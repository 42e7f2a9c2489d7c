use Rattle.std.proofs.Common.{List, map, get_or, ap, sym, ◌∙◌, subst}
use Rattle.std.specs.List.{AllByRecursion}
use Rattle.esr_model.specs.Loops.{item_is}
use Rattle.esr_names.specs.declared.blob.BlobName.{BlobName as CodeName}
use Rattle.esr_names.specs.declared.blob.BlobName.TheVariants as code
use Rattle.esr_names.specs.Layout.{IsName}
use Rattle.esr_model.specs.Lists.{all_has}
use Rattle.esr_formats.specs.Names.{name_of}
use Rattle.esr_dooming.proofs.Unreaching.{rest_pushed, rest_passed, rest_all, item_has}
use Rattle.esr_dooming.proofs.clean.without_root.Goals as goal
use Rattle.esr_dooming.proofs.clean.without_root.Goals.{then-not-is_root+in_ok-push, else-not-is_root}

pub loop-name-init : goal.loop-name-init
loop-name-init c = ap (map name_of) c.new-rest.ensures

pub push-requires : goal.push-requires
push-requires c =
    let items = c.as_slice-name-items.result.now in
    let i = c.loop-name.name-index in
    let less = c.loop-name-test.true in
    all_has IsName items (get_or items i (code.Root 0)) (subst (λ (l : List CodeName). AllByRecursion IsName l) (sym c.as_slice-name-items.ensures.items) c.as_slice-name-items.ensures.laid)
    (item_has items i (get_or items i (code.Root 0)) less (item_is items i (code.Root 0) less))

pub loop-name-preserved : goal.loop-name-preserved
loop-name-preserved c =
    let items = c.as_slice-name-items.result.now in
    let i = c.loop-name.name-index in
    let less = c.loop-name-test.true in
    let x : CodeName = get_or items i (code.Root 0) in
    let is = item_is items i (code.Root 0) less in
    elim c.if-not-is_root.branch [
      | then-not-is_root+in_ok-push w ↦
          rest_pushed c.args.generation items i x c.loop-name.rest c.if-not-is_root.rest less is (sym c.is_root.ensures ∙ w.if-not-is_root.true) c.loop-name.invariant (w.rest-is ∙ w.in_ok-push.ensures.ok)
      | else-not-is_root w ↦ rest_passed c.args.generation items i x c.loop-name.rest c.if-not-is_root.rest less is (sym c.is_root.ensures ∙ w.if-not-is_root.false) c.loop-name.invariant w.rest-is
    ]

pub returns : goal.returns
returns c = rest_all c.args.generation c.as_slice-name-items.result.now c.args.names.now c.loop-name.rest c.loop-name.name-index c.as_slice-name-items.ensures.items c.loop-name-test.false c.loop-name.invariant
