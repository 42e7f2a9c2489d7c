use Rattle.std.proofs.Common.{rules}
use Rattle.esr_turns.proofs.Keeps.{draws}
use Rattle.esr_turns.proofs.lock.TurnLock.draw.Goals as goal

pub fetch_add-requires : goal.fetch_add-requires
fetch_add-requires g c = (search rules, search rules, draws _ _ _ _ _ _ c.requires.idle c.requires.left)
