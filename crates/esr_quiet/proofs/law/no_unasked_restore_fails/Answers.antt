use Rattle.esr_quiet.proofs.Unasked.{none_unasked}
use Rattle.esr_quiet.proofs.law.no_unasked_restore_fails.Goals as goal

pub returns : goal.returns
returns c = λ s log smooth asks. none_unasked s log smooth (c.each_world_is_free.ensures s log smooth) asks
