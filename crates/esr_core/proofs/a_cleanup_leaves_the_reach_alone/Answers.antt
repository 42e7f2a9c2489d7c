use Rattle.esr_core.proofs.Exact.{opened_reach_alone}
use Rattle.esr_core.proofs.a_cleanup_leaves_the_reach_alone.Goals as goal

pub returns : goal.returns
returns c = opened_reach_alone
