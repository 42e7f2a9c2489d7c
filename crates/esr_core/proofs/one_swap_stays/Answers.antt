use Rattle.esr_core.proofs.Turning.{turn_law}
use Rattle.esr_core.proofs.one_swap_stays.Goals as goal

pub returns : goal.returns
returns c = λ f w new shelf l d turn. (turn_law f w new shelf l d turn).lawful.queue.one_swap
