use Rattle.std.proofs.Common.{◌≡◌, drop}
use Rattle.esr_core.specs.After.{or_else}
use Rattle.esr_core.specs.Entry.{Entry}
use Rattle.esr_report.specs.Replies.{ReadShard, first_by, shard_ticket_by}
use Rattle.esr_report.specs.Ends.{ticket_for}
use Rattle.esr_report.proofs.restores.takes_of.Given as goal

abbrev pub invariant-loop-entry : goal.invariant-loop-entry
invariant-loop-entry l = (s : ReadShard) → first_by (λ (e : Entry). shard_ticket_by e.reply s) l.entries
    ≡ or_else (first_by (ticket_for s) l.takes.items) (first_by (λ (e : Entry). shard_ticket_by e.reply s) (drop l.entry-index l.entries))
