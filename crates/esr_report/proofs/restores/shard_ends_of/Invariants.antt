use Rattle.std.proofs.Common.{◌≡◌, ℕ, drop}
use Rattle.esr_core.specs.After.{or_else}
use Rattle.esr_report.specs.Replies.{first_by, shard_end_at}
use Rattle.esr_report.specs.Ends.{shard_end_for}
use Rattle.esr_report.proofs.restores.shard_ends_of.Given as goal

abbrev pub invariant-loop-entry : goal.invariant-loop-entry
invariant-loop-entry l = (k : ℕ) → first_by (shard_end_at k) l.entries ≡ or_else (first_by (shard_end_for k) l.ends.items) (first_by (shard_end_at k) (drop l.entry-index l.entries))
