use Rattle.esr_readers.proofs.ReadersStay.{once_restored}
use Rattle.esr_readers.proofs.no_shard_is_restored_twice.Goals as goal

pub returns : goal.returns
returns c = once_restored c.steps_keep_order.ensures
