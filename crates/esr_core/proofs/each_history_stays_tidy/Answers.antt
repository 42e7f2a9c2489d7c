use Rattle.esr_core.proofs.TidyHistories.{legal_tidy}
use Rattle.esr_core.proofs.each_history_stays_tidy.Goals as goal

pub returns : goal.returns
returns c = λ f size shelf w log l tidy legal told. legal_tidy f size log w shelf l tidy legal told
