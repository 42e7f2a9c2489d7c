use Rattle.esr_names.specs.declared.blob.BlobName.TheVariants as code
use Rattle.esr_report.proofs.Cleaning.{texts_read, texts_all}
use Rattle.esr_report.proofs.cleaned.insert_texts.Goals as goal

pub loop-name-preserved : goal.loop-name-preserved
loop-name-preserved c text =
    texts_read c.args.names.now c.loop-name.name-index (code.Root 0) c.args.texts.now c.loop-name.texts c.insert.new.self c.into_vec.result c.new-text.result c.append_name.new.out text
    c.loop-name-test.true c.new-text.ensures c.in_ok-append_name.ensures c.into_vec.ensures c.in_ok-insert.ensures.keys (c.loop-name.invariant text)

pub returns : goal.returns
returns c text = texts_all c.args.names.now c.loop-name.name-index c.args.texts.now c.loop-name.texts text c.loop-name-test.false (c.loop-name.invariant text)
