use Rattle.std.proofs.Common.{◌≡◌, drop, map}
use Rattle.esr_report.specs.Status.{first_damaged}
use Rattle.esr_report.specs.Code.{reply_of}
use Rattle.esr_report.proofs.ended.first_damaged.Given as goal

abbrev pub invariant-loop-reply : goal.invariant-loop-reply
invariant-loop-reply l = first_damaged (map reply_of l.replies) ≡ first_damaged (map reply_of (drop l.reply-index l.replies))
