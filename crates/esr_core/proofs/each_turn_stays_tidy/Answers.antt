use Rattle.esr_core.proofs.TidyTurns.{turn_tidy}
use Rattle.esr_core.proofs.each_turn_stays_tidy.Goals as goal

pub returns : goal.returns
returns c = λ f w new shelf l tidy turn. turn_tidy f w new shelf l tidy turn
