use Rattle.std.proofs.Common.{◌∙◌, List, ap, sym, map, option_map}
use Rattle.esr_root.specs.Root.{Root}
use Rattle.esr_root.specs.declared.indices.RootIndex.{RootIndex as CodeIndex}
use Rattle.esr_model.specs.Image.{index_at, at_shard_of}
use Rattle.esr_formats.specs.Ids.{number_of}
use Rattle.esr_formats.specs.Roots.{root_index_of}
use Rattle.esr_progress.proofs.Takes.{index_at-here, index_at-on}
use Rattle.esr_progress.proofs.ready.root_generation.Goals as goal

pub returns-then-eq : goal.returns-then-eq
returns-then-eq c =
    let here = index_at-here c.as_slice-index-items.result.now c.loop-index.index-index c.index-item.result c.loop-index-test.true c.index-item.is c.args.shard.index.number c.eq.result c.args.shard.number c.eq.ensures c.if-eq.true in
    ap (option_map number_of) c.get.ensures ∙ sym here ∙ ap (λ o. at_shard_of o c.args.shard.number) (sym c.loop-index.invariant)
    ∙ ap (λ (rs : List CodeIndex). at_shard_of (index_at (map root_index_of rs) c.args.shard.index.number) c.args.shard.number) c.as_slice-index-items.ensures.items
    ∙ ap (λ (r : Root). at_shard_of (index_at (map root_index_of r.indices) c.args.shard.index.number) c.args.shard.number) c.root.view_is

pub loop-index-preserved : goal.loop-index-preserved
loop-index-preserved c =
    c.loop-index.invariant ∙ index_at-on c.as_slice-index-items.result.now c.loop-index.index-index c.index-item.result c.loop-index-test.true c.index-item.is c.args.shard.index.number c.eq.result c.eq.ensures c.if-eq.false
