use Rattle.std.proofs.Common.{◌≡◌, drop, map}
use Rattle.esr_report.specs.Status.{are_ok}
use Rattle.esr_report.specs.Code.{reply_of}
use Rattle.esr_report.proofs.ended.are_ok.Given as goal

abbrev pub invariant-loop-reply : goal.invariant-loop-reply
invariant-loop-reply l = are_ok (map reply_of l.replies) ≡ are_ok (map reply_of (drop l.reply-index l.replies))
