use Rattle.esr_model.specs.Loops.{has_at, every_more}
use Rattle.esr_formats.specs.Refs.{ref_of_code}
use Rattle.esr_formats.specs.Formats.{formats}
use Rattle.esr_model.specs.Names.{IndexMeta}
use Rattle.esr_model.specs.Values.{IndexRef}
use Rattle.esr_model.specs.Image.{At, Reads}
use Rattle.esr_plain.proofs.Loops.{fails, so, not_so}
use Rattle.esr_plain.proofs.info.have_metas.Goals as goal

pub returns-then-not-branch : goal.returns-then-not-branch
returns-then-not-branch c = λ known told.
    let there = has_at ref_of_code c.args.indices.now c.loop-index.index-index c.index-item.result c.loop-index-test.true c.index-item.is in
    fails (λ all. not_so c.in_ok-has_meta.field-0 (c.in_ok-has_meta.ensures known told) c.if-not-branch.true (all (ref_of_code c.index-item.result) there))

pub loop-index-preserved : goal.loop-index-preserved
loop-index-preserved c = λ known told.
    let f = formats known told in
    every_more (λ (r : IndexRef). Reads (At f c.args.image.now) (IndexMeta r.id c.args.uuid.number) f.index_meta (record { index = r; uuid = c.args.uuid.number }))
    ref_of_code c.args.indices.now c.loop-index.index-index c.index-item.result c.loop-index-test.true c.index-item.is
    (c.loop-index.invariant known told) (so c.in_ok-has_meta.field-0 (c.in_ok-has_meta.ensures known told) c.if-not-branch.false)
