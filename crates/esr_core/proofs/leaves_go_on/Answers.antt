use Rattle.esr_core.proofs.Left.{left_longer, left_later, left_now, left_by_call, left_told}
use Rattle.esr_core.proofs.leaves_go_on.Goals as goal

pub returns : goal.returns
returns c = record { longer = left_longer; later = left_later; now = left_now; by_call = left_by_call; told = left_told }
