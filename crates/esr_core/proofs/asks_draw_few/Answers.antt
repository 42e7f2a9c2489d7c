use Rattle.esr_core.proofs.AskedNumbers.{asks_draw}
use Rattle.esr_core.proofs.asks_draw_few.Goals as goal

pub returns : goal.returns
returns c = asks_draw
