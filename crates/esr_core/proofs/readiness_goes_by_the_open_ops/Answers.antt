use Rattle.esr_core.proofs.ReadyAgain.{ready_again, client_leaves}
use Rattle.esr_core.proofs.readiness_goes_by_the_open_ops.Goals as goal

pub returns : goal.returns
returns c = record { again = ready_again; leaves = client_leaves }
