use Rattle.std.proofs.Common.{◌-◌, ◌^◌, ◌∙◌, List, min, ap}
use Rattle.esr_model.specs.Cleanup.{BlobSize}
use Rattle.esr_core.specs.Entry.{Entry}
use Rattle.esr_report.specs.Cleaned.{is_gone, page_at, sizes_where}
use Rattle.esr_report.specs.Ends.{holds_text}
use Rattle.esr_report.proofs.Cleaning.{sum_read, sum_all}
use Rattle.esr_report.proofs.cleaned.bytes_gone.Goals as goal

pub loop-entry-preserved : goal.loop-entry-preserved
loop-entry-preserved c =
    let holds = holds_text c.args.texts.now in
    sum_read (λ (e : Entry). sizes_where holds (page_at c.args.ticket e)) c.args.entries.now c.loop-entry.entry-index c.entry-item.result (2 ^ 64 - 1) c.loop-entry.bytes c.page_sizes.result c.saturating_add-bytes.result
    c.loop-entry-test.true c.entry-item.is (c.page_sizes.ensures ∙ ap (λ (page : List BlobSize). min (sizes_where holds page) (2 ^ 64 - 1)) c.page_at.ensures) c.saturating_add-bytes.ensures c.loop-entry.invariant

pub returns : goal.returns
returns c =
    sum_all c.args.entries.now c.args.ticket c.loop-entry.entry-index (2 ^ 64 - 1) c.loop-entry.bytes (holds_text c.args.texts.now) (is_gone c.args.entries.now c.args.ticket) c.loop-entry-test.false c.requires
    c.loop-entry.invariant
