use Rattle.esr_core.proofs.Dooming.{dooming_sound}
use Rattle.esr_core.proofs.dooming_is_sound.Goals as goal

pub returns : goal.returns
returns c = dooming_sound
