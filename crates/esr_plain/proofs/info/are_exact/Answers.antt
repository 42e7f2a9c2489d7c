use Rattle.std.proofs.Common.{List, map, ap, ◌∙◌, subst}
use Rattle.esr_model.specs.Loops.{has_at, every_more}
use Rattle.esr_root.specs.Root.{Root as CodeRoot}
use Rattle.esr_root.specs.declared.indices.RootIndex.{RootIndex as CodeIndex}
use Rattle.esr_formats.specs.Roots.{root_index_of}
use Rattle.esr_formats.specs.Refs.{ref_of_code}
use Rattle.esr_model.specs.Values.{Has, RootIndex}
use Rattle.esr_plain.specs.Infos.{IsReferred}
use Rattle.esr_plain.proofs.Loops.{fails, so, not_so}
use Rattle.esr_plain.proofs.info.are_exact.Goals as goal

pub returns-then-not-is_exact : goal.returns-then-not-is_exact
returns-then-not-is_exact c =
    let xs = c.as_slice-listed-items.result.now in
    let own = root_index_of c.listed-item.result in
    let items = c.as_slice-listed-items.ensures.items ∙ ap (λ (r : CodeRoot). r.indices) c.root.view_is in
    let there = subst (λ (is : List CodeIndex). Has (map root_index_of is) own) items (has_at root_index_of xs c.loop-listed.listed-index c.listed-item.result c.loop-listed-test.true c.listed-item.is) in
    fails (λ all. not_so c.is_exact.result c.is_exact.ensures c.if-not-is_exact.true (all own there))

pub loop-listed-preserved : goal.loop-listed-preserved
loop-listed-preserved c =
    every_more (λ (x : RootIndex). Has x.snapshots c.args.uuid.number → IsReferred (map ref_of_code c.args.indices.now) x) root_index_of
    c.as_slice-listed-items.result.now c.loop-listed.listed-index c.listed-item.result c.loop-listed-test.true c.listed-item.is c.loop-listed.invariant
    (so c.is_exact.result c.is_exact.ensures c.if-not-is_exact.false)
