use Rattle.esr_quiet.proofs.Untaken.{none_taken}
use Rattle.esr_quiet.proofs.damage.no_name_is_taken.Goals as goal

pub returns : goal.returns
returns c = λ s log over none. none_taken s log (c.each_world_is_lawful.ensures s log over) none
