use Rattle.esr_core.proofs.Removes.{remove_sound}
use Rattle.esr_core.proofs.remove_is_sound.Goals as goal

pub returns : goal.returns
returns c = remove_sound
