use Rattle.std.proofs.Common.{get_or}
use Rattle.esr_model.specs.Loops.{item_is}
use Rattle.esr_names.specs.declared.blob.BlobName.{BlobName as CodeName}
use Rattle.esr_names.specs.declared.blob.BlobName.TheVariants as code
use Rattle.esr_reach.specs.NameSets.{set_none, set_more}
use Rattle.esr_reach.proofs.Sets.{set_all}
use Rattle.esr_reach.proofs.doomed.set_of.Goals as goal

pub loop-name-init : goal.loop-name-init
loop-name-init c = set_none c.new-set.result c.new-set.ensures.empty

pub loop-name-preserved : goal.loop-name-preserved
loop-name-preserved c =
    let names = c.args.names.now in
    let i = c.loop-name.name-index in
    let less = c.loop-name-test.true in
    let x : CodeName = get_or names i (code.Root 0) in
    set_more names i x c.loop-name.set c.insert.new.self less (item_is names i (code.Root 0) less) c.in_ok-insert.ensures.updates.0 c.loop-name.invariant

pub returns : goal.returns
returns c = set_all c.args.names.now c.loop-name.name-index c.loop-name.set c.loop-name-test.false c.loop-name.invariant
