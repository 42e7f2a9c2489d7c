use Rattle.esr_core.proofs.Turning.{turn_law}
use Rattle.esr_core.proofs.ids_stay_below.Goals as goal

pub returns : goal.returns
returns c = λ f w new shelf l d turn. let h = turn_law f w new shelf l d turn in (h.ids, h.in_term)
