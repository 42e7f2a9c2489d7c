use Rattle.esr_quiet.proofs.Undeleted.{none_undeleted}
use Rattle.esr_quiet.proofs.law.no_delete_fails.Goals as goal

pub returns : goal.returns
returns c b = λ counts s log faults smooth shown. none_undeleted s log smooth (b.each_world_is_free.ensures s log smooth) counts faults shown
