use Rattle.std.proofs.Common.{List, map, ap, ◌∙◌, subst}
use Rattle.esr_model.specs.Loops.{has_at, every_more}
use Rattle.esr_names.specs.declared.index_ref.IndexRef.{IndexRef as CodeRef}
use Rattle.esr_meta.specs.Info.{Info}
use Rattle.esr_formats.specs.Refs.{ref_of_code}
use Rattle.esr_model.specs.Values.{Has, IndexRef}
use Rattle.esr_agreement.specs.Lists.{IsAt}
use Rattle.esr_agreement.specs.AgreementTests.{so, not_so}
use Rattle.esr_agreement.proofs.Loops.{holds}
use Rattle.esr_agreement.proofs.infos.is_of.Goals as goal

pub returns-then-is_at : goal.returns-then-is_at
returns-then-is_at c =
    let xs = c.as_slice-told-items.result.now in
    let own = ref_of_code c.told-item.result in
    let items = c.as_slice-told-items.ensures ∙ ap (λ (i : Info). i.indices) c.info.view_is in
    let there = subst (λ (rs : List CodeRef). Has (map ref_of_code rs) own) items (has_at ref_of_code xs c.loop-told.told-index c.told-item.result c.loop-told-test.true c.told-item.is) in
    let is = so c.is_at.result c.is_at.ensures c.if-is_at.true in
    holds (own, there, is.0, is.1)

pub loop-told-preserved : goal.loop-told-preserved
loop-told-preserved c =
    every_more (λ (r : IndexRef). IsAt r c.args.at.index.number c.args.at.number → ⊥) ref_of_code c.as_slice-told-items.result.now c.loop-told.told-index c.told-item.result c.loop-told-test.true c.told-item.is c.loop-told.invariant
    (not_so c.is_at.result c.is_at.ensures c.if-is_at.false)
