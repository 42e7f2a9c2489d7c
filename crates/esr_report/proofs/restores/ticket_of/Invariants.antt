use Rattle.std.proofs.Common.{◌≡◌, drop}
use Rattle.esr_report.specs.Replies.{first_by}
use Rattle.esr_report.specs.Ends.{shard_of_code, ticket_for}
use Rattle.esr_report.proofs.restores.ticket_of.Given as goal

abbrev pub invariant-loop-take : goal.invariant-loop-take
invariant-loop-take l = first_by (ticket_for (shard_of_code l.shard)) l.takes ≡ first_by (ticket_for (shard_of_code l.shard)) (drop l.take-index l.takes)
