use Rattle.esr_core.proofs.Refusing.{deposed_after}
use Rattle.esr_core.proofs.only_failed_swaps_depose.Goals as goal

pub returns : goal.returns
returns c = λ f w log alive dead. deposed_after f log w alive dead
