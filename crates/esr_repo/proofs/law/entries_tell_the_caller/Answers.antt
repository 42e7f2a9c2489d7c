use Rattle.esr_repo.proofs.Callers.{added_caller}
use Rattle.esr_repo.proofs.law.entries_tell_the_caller.Goals as goal

pub returns : goal.returns
returns c = added_caller
