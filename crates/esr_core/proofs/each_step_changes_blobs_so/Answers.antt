use Rattle.esr_core.proofs.BlobChanges.{blobs_change}
use Rattle.esr_core.proofs.each_step_changes_blobs_so.Goals as goal

pub returns : goal.returns
returns c = blobs_change
