use Rattle.esr_core.proofs.ReadHistories.{read_legal}
use Rattle.esr_core.proofs.each_history_keeps_restores.Goals as goal

pub returns : goal.returns
returns c = λ f size shelf w log law read legal told. read_legal f size log w shelf law read legal told
