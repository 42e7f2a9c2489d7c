use Rattle.esr_complete.proofs.Lengths.{lost_none}
use Rattle.esr_complete.proofs.short.smooth_runs_lose_nothing.Goals as goal

pub returns : goal.returns
returns c = λ s log smooth. lost_none log (c.each_fetch_finds_its_blob.ensures s log smooth)
