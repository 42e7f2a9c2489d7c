use Rattle.esr_core.specs.Laws.Makers.{maker}
use Rattle.esr_core.proofs.each_step_has_its_maker.Goals as goal

pub returns : goal.returns
returns c = maker
