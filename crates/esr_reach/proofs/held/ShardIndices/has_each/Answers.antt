use Rattle.std.proofs.Common.{List, map, refl, sym, ap, ◌∙◌, subst}
use Rattle.std.proofs.lemmas.Bool.{true≢false}
use Rattle.esr_model.specs.Loops.{has_at, every_more, every_all}
use Rattle.esr_root.specs.Root.{Root as CodeRoot, IsRoot}
use Rattle.esr_root.specs.declared.indices.RootIndex.{RootIndex as CodeIndex}
use Rattle.esr_formats.specs.Roots.{root_of, root_index_of}
use Rattle.esr_model.specs.Values.{Has, RootIndex}
use Rattle.esr_reach.specs.Reading.{HasShards}
use Rattle.esr_reach.specs.Reached.{generation_at}
use Rattle.esr_reach.specs.OnceEach.{one_each}
use Rattle.esr_reach.proofs.Apart.{root_single}
use Rattle.esr_reach.proofs.Shards.{each_held}
use Rattle.esr_reach.proofs.held.ShardIndices.has_each.Goals as goal

pub returns-then-not-has_shards : goal.returns-then-not-has_shards
returns-then-not-has_shards c =
    let root = c.args.root.now in
    let rule : IsRoot root = subst IsRoot c.root.view_is c.root.invariant in
    let once = one_each (root_of root).indices (root_single root rule.snapshots rule.indices).indices in
    let xs = c.as_slice-index-items.result.now in
    let x = root_index_of c.index-item.result in
    let items = c.as_slice-index-items.ensures.items ∙ ap (λ (r : CodeRoot). r.indices) c.root.view_is in
    let there = subst (λ (is : List CodeIndex). Has (map root_index_of is) x) items (has_at root_index_of xs c.loop-index.index-index c.index-item.result c.loop-index-test.true c.index-item.is) in (
      λ e. absurd (true≢false (sym e)),
      λ each. absurd (true≢false (sym (c.has_shards.ensures.1 (λ k g is. each x.id k g (generation_at (root_of root) once x there k g is))) ∙ c.if-not-has_shards.true)),
    )

pub loop-index-preserved : goal.loop-index-preserved
loop-index-preserved c =
    every_more (λ (x : RootIndex). HasShards x c.args.self.now) root_index_of c.as_slice-index-items.result.now c.loop-index.index-index c.index-item.result c.loop-index-test.true c.index-item.is c.loop-index.invariant
    (c.has_shards.ensures.0 c.if-not-has_shards.false)

pub returns : goal.returns
returns c =
    let root = c.args.root.now in
    let items = c.as_slice-index-items.ensures.items ∙ ap (λ (r : CodeRoot). r.indices) c.root.view_is in
    let each = every_all (λ (x : RootIndex). HasShards x c.args.self.now) root_index_of c.as_slice-index-items.result.now c.loop-index.index-index c.loop-index-test.false c.loop-index.invariant in (
      λ _. each_held (root_of root) c.args.self.now (λ x has. each x (subst (λ (is : List CodeIndex). Has (map root_index_of is) x) (sym items) has)),
      λ _. refl,
    )
