use Rattle.std.proofs.Common.{List, map, ap, ◌∙◌}
use Rattle.esr_root.specs.Root.{Root as CodeRoot}
use Rattle.esr_root.specs.declared.indices.RootIndex.{RootIndex as CodeIndex}
use Rattle.esr_formats.specs.Roots.{root_index_of}
use Rattle.esr_model.specs.Image.{index_at, at_shard_of}
use Rattle.esr_plain.proofs.Standing.{generation_here}
use Rattle.esr_plain.proofs.shard.generation.Goals as goal

pub returns-then-index-shard : goal.returns-then-index-shard
returns-then-index-shard c =
    let items = c.as_slice-index-items.ensures.items ∙ ap (λ (r : CodeRoot). r.indices) c.root.view_is in
    let id = c.args.shard.index.number in
    let k = c.args.shard.number in
    generation_here c.as_slice-index-items.result.now c.loop-index.index-index c.index-item.result id k c.get.result (at_shard_of (index_at (map root_index_of c.args.root.now.indices) id) k)
    c.loop-index-test.true c.index-item.is c.if-index-shard.true c.get.ensures (c.loop-index.invariant ∙ ap (λ (is : List CodeIndex). at_shard_of (index_at (map root_index_of is) id) k) items)
