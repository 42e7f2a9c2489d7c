use Rattle.esr_dooming.proofs.Laid.{list_laid}
use Rattle.esr_dooming.proofs.doom.push_lists.Goals as goal

pub push-requires : goal.push-requires
push-requires c = list_laid _ _ c.requires
