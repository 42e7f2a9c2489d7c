use Rattle.std.proofs.Common.{List, map, ap, ◌∙◌, subst}
use Rattle.esr_model.specs.Loops.{has_at, every_more, every_all}
use Rattle.esr_root.specs.Root.{Root as CodeRoot}
use Rattle.esr_root.specs.Indices.{AreIndices}
use Rattle.esr_root.specs.declared.indices.RootIndex.{RootIndex as CodeIndex}
use Rattle.esr_formats.specs.Roots.{root_of, root_index_of}
use Rattle.esr_formats.specs.Formats.{formats}
use Rattle.esr_model.specs.Values.{Has, RootIndex}
use Rattle.esr_model.specs.Image.{At}
use Rattle.esr_plain.proofs.Loops.{holds, fails, so, not_so}
use Rattle.esr_plain.proofs.Standing.{ShardsStand, one_each, by_index, to_index}
use Rattle.esr_plain.proofs.indices.indices_stand.Goals as goal

pub returns-then-not-branch : goal.returns-then-not-branch
returns-then-not-branch c = λ known told.
    let f = formats known told in
    let has = At f c.args.image.now in
    let root = root_of c.args.root.now in
    let xs = c.as_slice-index-items.result.now in
    let items = c.as_slice-index-items.ensures.items ∙ ap (λ (r : CodeRoot). r.indices) c.root.view_is in
    let own = root_index_of c.index-item.result in
    let rule = subst AreIndices (ap (λ (r : CodeRoot). r.indices) c.root.view_is) c.root.invariant.indices in
    let there = subst (λ (is : List CodeIndex). Has (map root_index_of is) own) items (has_at root_index_of xs c.loop-index.index-index c.index-item.result c.loop-index-test.true c.index-item.is) in
    fails (λ all. not_so c.in_ok-shards_stand.field-0 (c.in_ok-shards_stand.ensures known told) c.if-not-branch.true (to_index f has root (one_each c.args.root.now.indices rule) all own there))

pub loop-index-preserved : goal.loop-index-preserved
loop-index-preserved c = λ known told.
    let f = formats known told in
    let has = At f c.args.image.now in
    let root = root_of c.args.root.now in
    let xs = c.as_slice-index-items.result.now in
    let items = c.as_slice-index-items.ensures.items ∙ ap (λ (r : CodeRoot). r.indices) c.root.view_is in
    every_more (ShardsStand f has root) root_index_of xs c.loop-index.index-index c.index-item.result c.loop-index-test.true c.index-item.is (c.loop-index.invariant known told)
    (so c.in_ok-shards_stand.field-0 (c.in_ok-shards_stand.ensures known told) c.if-not-branch.false)

pub returns : goal.returns
returns c = λ known told.
    let f = formats known told in
    let has = At f c.args.image.now in
    let root = root_of c.args.root.now in
    let xs = c.as_slice-index-items.result.now in
    let items = c.as_slice-index-items.ensures.items ∙ ap (λ (r : CodeRoot). r.indices) c.root.view_is in
    let each = every_all (ShardsStand f has root) root_index_of xs c.loop-index.index-index c.loop-index-test.false (c.loop-index.invariant known told) in
    holds (by_index f has root (subst (λ (is : List CodeIndex). (x : RootIndex) → Has (map root_index_of is) x → ShardsStand f has root x) items each))
