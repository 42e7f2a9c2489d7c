use Rattle.std.proofs.Common.{sym, ◌∙◌}
use Rattle.esr_report.proofs.Cleaning.{texts_count, cleaned_as}
use Rattle.esr_report.proofs.cleaned.cleaned_by.Goals as goal

pub returns : goal.returns
returns c =
    let all = c.args.entries.now in
    let k = c.args.ticket in
    cleaned_as all k c.len-blobs.result c.bytes_gone-bytes.result (sym c.is_cleanup_ticket.ensures ∙ c.if-not-is_cleanup_ticket.false)
    (c.len-blobs.ensures.len ∙ texts_count all k c.in_ok-texts.texts c.len-blobs.ensures.ordered c.in_ok-texts.ensures) c.bytes_gone-bytes.ensures
