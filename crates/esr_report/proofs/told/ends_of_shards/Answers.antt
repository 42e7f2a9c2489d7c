use Rattle.esr_report.proofs.Restoring.{ends_more, ends_none}
use Rattle.esr_report.proofs.told.ends_of_shards.Goals as goal

pub returns-in-None : goal.returns-in-None
returns-in-None c all read =
    ends_none all c.args.shards.now c.loop-shard.shard-index _ c.loop-shard.ends.items c.loop-shard-test.true (c.in-None.ensures all read) (c.loop-shard.invariant all read)

pub loop-shard-preserved : goal.loop-shard-preserved
loop-shard-preserved c all read =
    ends_more all c.args.shards.now c.loop-shard.shard-index _ c.loop-shard.ends.items c.push.new.self.items c.in-Some.end c.loop-shard-test.true (c.in-Some.ensures all read) c.in_ok-push-in-Some.ensures.items (c.loop-shard.invariant all read)
