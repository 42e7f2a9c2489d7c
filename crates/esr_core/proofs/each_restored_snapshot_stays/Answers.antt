use Rattle.esr_core.proofs.Shelving.{reads_on}
use Rattle.esr_core.proofs.each_restored_snapshot_stays.Goals as goal

pub returns : goal.returns
returns c = reads_on
