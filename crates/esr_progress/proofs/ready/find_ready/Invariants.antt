use Rattle.esr_progress.specs.Choice.{NoneBefore}
use Rattle.esr_progress.proofs.ready.find_ready.Given as goal

abbrev pub invariant-loop-at : goal.invariant-loop-at
invariant-loop-at l = NoneBefore l.ops l.deletes l.completed l.tickets l.restores l.term l.at
