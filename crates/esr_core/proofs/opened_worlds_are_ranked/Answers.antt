use Rattle.esr_core.proofs.Ranking.{ranked_opened}
use Rattle.esr_core.proofs.opened_worlds_are_ranked.Goals as goal

pub returns : goal.returns
returns c = ranked_opened
