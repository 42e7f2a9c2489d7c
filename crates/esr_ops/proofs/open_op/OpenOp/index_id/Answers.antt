use Rattle.std.proofs.Common.{ℕ, List, ◌∙◌, map, sym, ap}
use Rattle.esr_names.specs.declared.index_ref.IndexRef.{IndexRef as CodeRef}
use Rattle.esr_core.specs.World.{Op}
use Rattle.esr_core.specs.After.{index_id}
use Rattle.esr_formats.specs.Refs.{ref_of_code}
use Rattle.esr_ops.proofs.Searches.{index_id-here, index_id-on}
use Rattle.esr_ops.proofs.open_op.OpenOp.index_id.Goals as goal

pub returns-then-eq : goal.returns-then-eq
returns-then-eq c =
    let here = index_id-here c.as_slice-index-items.result.now c.loop-index.index-index c.index-item.result c.loop-index-test.true c.index-item.is c.args.name.now (sym c.eq.ensures ∙ c.if-eq.true) in
    sym (c.loop-index.invariant ∙ here) ∙ ap (λ (rs : List CodeRef). index_id (map ref_of_code rs) c.args.name.now) c.as_slice-index-items.ensures ∙ ap (λ (v : ℕ × Op). index_id v.1.indices c.args.name.now) c.self.view_is

pub loop-index-preserved : goal.loop-index-preserved
loop-index-preserved c =
    c.loop-index.invariant ∙ index_id-on c.as_slice-index-items.result.now c.loop-index.index-index c.index-item.result c.loop-index-test.true c.index-item.is c.args.name.now (sym c.eq.ensures ∙ c.if-eq.false)
