use Rattle.esr_report.proofs.Cleaning.{gone_unread, gone_read, gone_all}
use Rattle.esr_report.proofs.cleaned.texts_gone.Goals as goal

pub loop-entry-init : goal.loop-entry-init
loop-entry-init c text = gone_unread c.args.entries.now c.args.ticket c.new-texts.result text c.new-texts.ensures.empty

pub loop-entry-preserved : goal.loop-entry-preserved
loop-entry-preserved c text =
    gone_read c.args.entries.now c.args.ticket c.loop-entry.entry-index c.entry-item.result c.loop-entry.texts c.insert_texts.new.texts c.gone_at.result.now text c.loop-entry-test.true c.entry-item.is
    c.gone_at.ensures (c.in_ok-insert_texts.ensures text) (c.loop-entry.invariant text)

pub returns : goal.returns
returns c = gone_all c.args.entries.now c.args.ticket c.loop-entry.entry-index c.loop-entry.texts c.loop-entry-test.false c.loop-entry.invariant
