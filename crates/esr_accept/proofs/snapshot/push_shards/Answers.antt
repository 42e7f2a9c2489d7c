use Rattle.esr_accept.proofs.Firsts.{shards_step}
use Rattle.esr_accept.proofs.snapshot.push_shards.Goals as goal

pub loop-number-preserved : goal.loop-number-preserved
loop-number-preserved c = shards_step c.args.at c.args.index c.loop-number.number c.args.shards.now.items c.loop-number.shards.items c.push.new.self.items c.loop-number.invariant c.in_ok-push.ensures.items
