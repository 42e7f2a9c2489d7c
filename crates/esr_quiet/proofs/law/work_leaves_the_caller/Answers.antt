use Rattle.esr_quiet.specs.CallerSteps.{caller_stays}
use Rattle.esr_quiet.proofs.law.work_leaves_the_caller.Goals as goal

pub returns : goal.returns
returns c = caller_stays
