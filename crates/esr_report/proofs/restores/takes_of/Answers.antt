use Rattle.std.proofs.Common.{arith}
use Rattle.esr_core.specs.Entry.{Entry}
use Rattle.esr_report.specs.Replies.{shard_ticket_by}
use Rattle.esr_report.specs.Ends.{ticket_for}
use Rattle.esr_report.proofs.Firsts.{first_read, first_all_read}
use Rattle.esr_report.proofs.restores.takes_of.Goals as goal

pub loop-entry-preserved : goal.loop-entry-preserved
loop-entry-preserved c s =
    first_read (λ (e : Entry). shard_ticket_by e.reply s) (ticket_for s) c.args.entries.now c.loop-entry.takes.items c.keep.new.list.items c.loop-entry.entry-index c.entry-item.result c.take_by.result
    c.loop-entry-test.true c.entry-item.is (c.take_by.ensures s) c.in_ok-keep.ensures (c.loop-entry.invariant s)

pub returns : goal.returns
returns c s = first_all_read (λ (e : Entry). shard_ticket_by e.reply s) (ticket_for s) c.args.entries.now c.loop-entry.takes.items c.loop-entry.entry-index (omega arith) (c.loop-entry.invariant s)
