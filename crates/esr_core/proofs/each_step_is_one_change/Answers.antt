use Rattle.esr_core.specs.Laws.ChangeLaws.{change_of}
use Rattle.esr_core.proofs.each_step_is_one_change.Goals as goal

pub returns : goal.returns
returns c = change_of
