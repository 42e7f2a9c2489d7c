use Rattle.esr_core.specs.Laws.TakeAnswers.{take_gave}
use Rattle.esr_core.proofs.Causes.{settle_did, restore_began}
use Rattle.esr_core.proofs.answers_tell_their_steps.Goals as goal

pub returns : goal.returns
returns c = record { gave = take_gave; settled = settle_did; began = restore_began }
