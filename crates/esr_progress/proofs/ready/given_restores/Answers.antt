use Rattle.esr_progress.proofs.Unread.{given_read}
use Rattle.esr_progress.proofs.ready.given_restores.Goals as goal

pub returns : goal.returns
returns c = given_read c.args.restores.now c.in_ok-copy.copy.items c.args.at c.args.shard c.args.ticket c.index_mut.result.now c.give.new.self c.requires c.in_ok-copy.ensures c.index_mut.ensures.value c.give.ensures
