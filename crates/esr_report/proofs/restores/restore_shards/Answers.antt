use Rattle.esr_report.proofs.Restoring.{shards_more}
use Rattle.esr_report.proofs.restores.restore_shards.Goals as goal

pub loop-index-preserved : goal.loop-index-preserved
loop-index-preserved c =
    shards_more c.args.indices.now c.loop-index.index-index c.index-item.result c.args.op c.args.uuid c.loop-index.shards.items c.push_numbered.new.shards.items
    c.loop-index-test.true c.index-item.is c.in_ok-push_numbered.ensures c.loop-index.invariant
