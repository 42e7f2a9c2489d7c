use Rattle.esr_core.proofs.OpSources.{after_no_uploads}
use Rattle.esr_core.proofs.only_asks_open_uploads.Goals as goal

pub returns : goal.returns
returns c = after_no_uploads
