use Rattle.esr_core.proofs.Ranking.{ranked_step}
use Rattle.esr_core.proofs.each_step_is_ranked.Goals as goal

pub returns : goal.returns
returns c = ranked_step
