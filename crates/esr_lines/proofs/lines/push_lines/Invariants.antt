use Rattle.std.proofs.Common.{◌≡◌, ◌++◌, drop, map}
use Rattle.esr_lines.specs.Lines.{lines_text}
use Rattle.esr_report.specs.Code.{reply_of}
use Rattle.esr_lines.proofs.lines.push_lines.Given as goal

abbrev pub invariant-loop-reply : goal.invariant-loop-reply
invariant-loop-reply l = l.fn.out ++ lines_text l.lines (map reply_of l.replies) ≡ l.out ++ lines_text l.left (map reply_of (drop l.reply-index l.replies))
