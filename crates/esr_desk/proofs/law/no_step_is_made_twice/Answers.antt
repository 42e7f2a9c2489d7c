use Rattle.esr_desk.proofs.Twice.{none_twice}
use Rattle.esr_desk.proofs.law.no_step_is_made_twice.Goals as goal

pub returns : goal.returns
returns c = none_twice
