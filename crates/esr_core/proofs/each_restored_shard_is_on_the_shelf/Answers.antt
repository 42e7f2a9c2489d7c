use Rattle.esr_core.proofs.OnShelf.{on_shelf}
use Rattle.esr_core.proofs.each_restored_shard_is_on_the_shelf.Goals as goal

pub returns : goal.returns
returns c = on_shelf
