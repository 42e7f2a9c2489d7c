use Rattle.esr_core.proofs.Ranking.{ranked_history}
use Rattle.esr_core.proofs.each_history_is_ranked.Goals as goal

pub returns : goal.returns
returns c = λ f size w log. ranked_history f size log w
