use Rattle.esr_core.proofs.Lists.{turns_lawful}
use Rattle.esr_core.proofs.each_list_is_lawful.Goals as goal

pub returns : goal.returns
returns c = turns_lawful
