use Rattle.esr_shardidx.proofs.Found.{survivors_of-files}
use Rattle.esr_shardidx.proofs.laws.survivors_keep.Goals as goal

pub returns : goal.returns
returns c = survivors_of-files
