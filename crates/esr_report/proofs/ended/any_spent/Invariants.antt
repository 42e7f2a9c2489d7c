use Rattle.std.proofs.Common.{◌≡◌, drop, map}
use Rattle.std.specs.List.{list_any}
use Rattle.esr_report.specs.Status.{is_spent}
use Rattle.esr_report.specs.Code.{reply_of}
use Rattle.esr_report.proofs.ended.any_spent.Given as goal

abbrev pub invariant-loop-reply : goal.invariant-loop-reply
invariant-loop-reply l = list_any is_spent (map reply_of l.replies) ≡ list_any is_spent (map reply_of (drop l.reply-index l.replies))
