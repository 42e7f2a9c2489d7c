use Rattle.esr_model.specs.Loops.{has_at, every_more}
use Rattle.esr_formats.specs.Roots.{root_of}
use Rattle.esr_formats.specs.Refs.{ref_of_code}
use Rattle.esr_plain.specs.Infos.{IsListedIn}
use Rattle.esr_plain.proofs.Loops.{fails, so, not_so}
use Rattle.esr_plain.proofs.info.are_listed.Goals as goal

pub returns-then-not-is_listed : goal.returns-then-not-is_listed
returns-then-not-is_listed c =
    let there = has_at ref_of_code c.args.indices.now c.loop-index.index-index c.index-item.result c.loop-index-test.true c.index-item.is in
    fails (λ all. not_so c.is_listed.result c.is_listed.ensures c.if-not-is_listed.true (all (ref_of_code c.index-item.result) there))

pub loop-index-preserved : goal.loop-index-preserved
loop-index-preserved c =
    every_more (IsListedIn (root_of c.args.root.now) c.args.uuid.number) ref_of_code c.args.indices.now c.loop-index.index-index c.index-item.result c.loop-index-test.true c.index-item.is c.loop-index.invariant
    (so c.is_listed.result c.is_listed.ensures c.if-not-is_listed.false)
