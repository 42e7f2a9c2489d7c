use Rattle.std.proofs.Common.{◌∷◌, [], get_or}
use Rattle.esr_model.specs.Loops.{item_is}
use Rattle.esr_names.specs.declared.ids.Id.{Id}
use Rattle.esr_names.specs.declared.blob.BlobName.TheVariants as code
use Rattle.esr_formats.specs.Ids.{number_of}
use Rattle.esr_model.specs.Names.{IndexMeta}
use Rattle.esr_plain.specs.Reach.{OfMeta}
use Rattle.esr_plain.proofs.Reaching.{are_one, some_more, joined_by}
use Rattle.esr_plain.proofs.reached.meta_names.Goals as goal

pub loop-uuid-preserved : goal.loop-uuid-preserved
loop-uuid-preserved c =
    let none : Id = record { number = 0 } in
    let xs = c.as_slice-uuid-items.result.now in
    let i = c.loop-uuid.uuid-index in
    let u = get_or xs i none in
    let index = c.args.index.now.id in
    some_more (OfMeta index.number) number_of xs i u c.loop-uuid.names c.push.new.self (IndexMeta index.number u.number ∷ []) c.loop-uuid-test.true (item_is xs i none c.loop-uuid-test.true)
    (joined_by c.loop-uuid.names c.push.new.self (code.IndexMeta index u ∷ []) c.in_ok-push.ensures.ok) c.loop-uuid.invariant (are_one (IndexMeta index.number u.number))
