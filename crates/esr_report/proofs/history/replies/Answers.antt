use Rattle.std.proofs.Common.{◌≡◌, List, IfOk, map, subst}
use Rattle.esr_core.specs.Entry.{Entry}
use Rattle.esr_report.specs.Replies.{replies}
use Rattle.esr_report.specs.Code.{reply_of}
use Rattle.esr_report.proofs.history.replies.Goals as goal

pub returns : goal.returns
returns c = subst (λ (es : List Entry). IfOk c.replies_by.result (λ rs. map reply_of rs ≡ replies c.args.script.now es)) c.as_slice-entries.ensures c.replies_by.ensures
