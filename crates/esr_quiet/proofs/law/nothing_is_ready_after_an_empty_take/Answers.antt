use Rattle.esr_quiet.proofs.Taking.{nothing_ready}
use Rattle.esr_quiet.proofs.law.nothing_is_ready_after_an_empty_take.Goals as goal

pub returns : goal.returns
returns c = nothing_ready
