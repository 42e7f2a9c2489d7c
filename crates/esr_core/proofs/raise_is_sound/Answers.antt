use Rattle.esr_core.proofs.Laws.{raise_sound_whole, raise_fresh}
use Rattle.esr_core.proofs.raise_is_sound.Goals as goal

pub returns : goal.returns
returns c = record { law = raise_sound_whole; fresh = raise_fresh }
