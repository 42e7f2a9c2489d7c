use Rattle.std.proofs.Common.{◌≡◌, ◌++◌, false, drop, map}
use Rattle.esr_report.specs.Replies.{replies_from}
use Rattle.esr_report.specs.Code.{reply_of}
use Rattle.esr_report.proofs.history.replies_by.Given as goal

abbrev pub invariant-loop-line : goal.invariant-loop-line
invariant-loop-line l = replies_from l.entries l.fn.script false l.entries l.entries ≡ map reply_of l.replies ++ replies_from l.entries (drop l.line-index l.fn.script) l.down l.later l.rest
