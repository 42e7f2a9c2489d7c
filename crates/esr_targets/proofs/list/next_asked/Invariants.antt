use Rattle.std.proofs.Common.{◌≡◌, length}
use Rattle.esr_targets.specs.Lines.{asked_entries}
use Rattle.esr_targets.proofs.list.next_asked.Given as goal

abbrev pub invariant-loop-rest : goal.invariant-loop-rest
invariant-loop-rest l = asked_entries l.fn.entries ≡ asked_entries l.rest

abbrev pub decreases-loop-rest : goal.decreases-loop-rest
decreases-loop-rest l = length l.rest
