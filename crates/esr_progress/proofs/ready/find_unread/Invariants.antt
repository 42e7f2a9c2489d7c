use Rattle.esr_progress.specs.Choice.{NoneUnread}
use Rattle.esr_progress.proofs.ready.find_unread.Given as goal

abbrev pub invariant-loop-at : goal.invariant-loop-at
invariant-loop-at l = NoneUnread l.restores l.at
