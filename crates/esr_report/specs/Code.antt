-- Replies and endings of the code, as the definitions see them.
use Rattle.std.specs.Prelude.{map}
use Rattle.esr_formats.specs.Roots.{root_snap_of}
use Rattle.esr_desk.specs.Refusals.{refusal_of}
use Rattle.esr_desk.specs.Entries.{why_of}
use Rattle.esr_report.specs.declared.reply.Reply.{Reply as CodeReply}
use Rattle.esr_report.specs.declared.reply.Reply.TheVariants as code
use Rattle.esr_formats.specs.Names.{name_of}
use Rattle.esr_report.specs.declared.ended.Ending.{Ending as CodeEnding}
use Rattle.esr_report.specs.declared.ended.Ending.TheVariants as ends
use Rattle.esr_report.specs.Status.{Ending, AllOk, SomeRefused, SwapFailed, BlobDamaged, NumbersSpent}
use Rattle.esr_report.specs.Replies.{Reply, Made, Deleted, Restored, Cleaned, Term, Waited, Listed, Checked, Verified, Refused, Failed, Aborted, Deposed}

abbrev pub reply_of : CodeReply → Reply
reply_of (code.Made uuid) = Made uuid.number
reply_of (code.Deleted op) = Deleted op
reply_of (code.Restored files bytes) = Restored files bytes
reply_of (code.Cleaned blobs bytes) = Cleaned blobs bytes
reply_of (code.Term term) = Term term
reply_of code.Waited = Waited
reply_of (code.Listed snapshots) = Listed (map root_snap_of snapshots)
reply_of (code.Checked snapshots blobs) = Checked snapshots blobs
reply_of code.Verified = Verified
reply_of (code.Refused refusal) = Refused (refusal_of refusal)
reply_of (code.Failed why op) = Failed (why_of why) op
reply_of (code.Aborted by) = Aborted by
reply_of code.Deposed = Deposed

-- the ending that an ending of the code is
abbrev pub ending_of : CodeEnding → Ending
ending_of ends.SwapFailed = SwapFailed
ending_of (ends.BlobDamaged name) = BlobDamaged (name_of name)
ending_of ends.NumbersSpent = NumbersSpent
ending_of ends.SomeRefused = SomeRefused
ending_of ends.AllOk = AllOk
