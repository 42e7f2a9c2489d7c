use Rattle.esr_core.proofs.Turning.{turn_law}
use Rattle.esr_core.proofs.queue_stays.Goals as goal

pub returns : goal.returns
returns c = λ f w new shelf l d turn. (turn_law f w new shelf l d turn).lawful.queue
