use Rattle.esr_model.specs.Loops.{has_at, every_more}
use Rattle.esr_formats.specs.Roots.{root_index_of}
use Rattle.esr_formats.specs.Refs.{ref_of_code}
use Rattle.esr_model.specs.Values.{IndexRef}
use Rattle.esr_plain.proofs.Loops.{holds, so, not_so}
use Rattle.esr_plain.proofs.Infos.{IsRefTo}
use Rattle.esr_plain.proofs.info.is_referred.Goals as goal

pub returns-then-is_ref_to : goal.returns-then-is_ref_to
returns-then-is_ref_to c =
    let there = has_at ref_of_code c.args.indices.now c.loop-index.index-index c.index-item.result c.loop-index-test.true c.index-item.is in
    let is = so c.is_ref_to.result c.is_ref_to.ensures c.if-is_ref_to.true in
    holds (ref_of_code c.index-item.result, there, is.0, is.1)

pub loop-index-preserved : goal.loop-index-preserved
loop-index-preserved c =
    every_more (λ (r : IndexRef). IsRefTo (root_index_of c.args.listed.now) r → ⊥) ref_of_code c.args.indices.now c.loop-index.index-index c.index-item.result c.loop-index-test.true c.index-item.is c.loop-index.invariant
    (not_so c.is_ref_to.result c.is_ref_to.ensures c.if-is_ref_to.false)
