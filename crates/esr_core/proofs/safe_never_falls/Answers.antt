use Rattle.esr_core.proofs.Histories.{lasts}
use Rattle.esr_core.proofs.safe_never_falls.Goals as goal

pub returns : goal.returns
returns c = λ f size shelf w log l legal told. lasts f size log w shelf l legal told
