use Rattle.esr_core.proofs.Recording.{record_stays}
use Rattle.esr_core.proofs.the_record_stays.Goals as goal

pub returns : goal.returns
returns c = record_stays
