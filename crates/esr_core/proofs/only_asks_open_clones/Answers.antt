use Rattle.esr_core.proofs.OpSources.{after_no_clones}
use Rattle.esr_core.proofs.only_asks_open_clones.Goals as goal

pub returns : goal.returns
returns c = after_no_clones
