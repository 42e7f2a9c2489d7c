use Rattle.esr_dooming.proofs.Laid.{snap_laid, meta_laid}
use Rattle.esr_dooming.proofs.doom.push_snaps.Goals as goal

pub push-requires : goal.push-requires
push-requires c = snap_laid _

pub push-requires-then-contains : goal.push-requires-then-contains
push-requires-then-contains c = meta_laid _
