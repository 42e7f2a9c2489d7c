use Rattle.esr_dooming.proofs.Laid.{index_laid}
use Rattle.esr_dooming.proofs.doom.push_shard.Goals as goal

pub push-requires : goal.push-requires
push-requires c = index_laid _ _ c.requires
