use Rattle.std.proofs.Common.{arith}
use Rattle.esr_report.specs.Replies.{shard_end_at}
use Rattle.esr_report.specs.Ends.{shard_end_for}
use Rattle.esr_report.proofs.Firsts.{first_read, first_all_read}
use Rattle.esr_report.proofs.restores.shard_ends_of.Goals as goal

pub loop-entry-preserved : goal.loop-entry-preserved
loop-entry-preserved c k =
    first_read (shard_end_at k) (shard_end_for k) c.args.entries.now c.loop-entry.ends.items c.keep.new.list.items c.loop-entry.entry-index c.entry-item.result c.end_by.result
    c.loop-entry-test.true c.entry-item.is (c.end_by.ensures k) c.in_ok-keep.ensures (c.loop-entry.invariant k)

pub returns : goal.returns
returns c k = first_all_read (shard_end_at k) (shard_end_for k) c.args.entries.now c.loop-entry.ends.items c.loop-entry.entry-index (omega arith) (c.loop-entry.invariant k)
