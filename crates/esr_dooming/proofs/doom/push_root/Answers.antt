use Rattle.esr_dooming.proofs.Laid.{root_laid}
use Rattle.esr_dooming.proofs.doom.push_root.Goals as goal

pub push-requires : goal.push-requires
push-requires c = root_laid c.args.number c.in-Some.n c.in-Some.is c.requires
