use Rattle.std.proofs.Common.{◌≡◌, drop}
use Rattle.esr_memdepot.specs.Plan.{planned}
use Rattle.esr_memdepot.proofs.plan.planned_failure.Given as goal

-- to go on from here gives what all of the plan gives
abbrev pub invariant-loop-entry : goal.invariant-loop-entry
invariant-loop-entry l = planned (drop l.entry-index l.entry-items) l.call l.nth ≡ planned l.fn.plan l.call l.nth
