use Rattle.std.proofs.Common.{◌≡◌, drop}
use Rattle.esr_report.specs.Replies.{first_by}
use Rattle.esr_report.specs.Ends.{shard_end_for}
use Rattle.esr_report.proofs.restores.end_of.Given as goal

abbrev pub invariant-loop-end : goal.invariant-loop-end
invariant-loop-end l = first_by (shard_end_for l.ticket) l.ends ≡ first_by (shard_end_for l.ticket) (drop l.end-index l.ends)
