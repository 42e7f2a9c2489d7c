use Rattle.esr_law.proofs.Reach.{listed_reach, whole_reach}
use Rattle.esr_law.proofs.the_reach_is_there.Goals as goal

pub returns-clause-listed : goal.returns-clause-listed
returns-clause-listed c = listed_reach

pub returns-clause-all : goal.returns-clause-all
returns-clause-all c = whole_reach
