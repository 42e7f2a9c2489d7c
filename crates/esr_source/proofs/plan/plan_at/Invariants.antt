use Rattle.std.proofs.Common.{◌≡◌, ◌++◌, drop}
use Rattle.esr_source.specs.Plan.{plan_at}
use Rattle.esr_source.proofs.plan.plan_at.Given as goal

abbrev pub invariant-loop-entry : goal.invariant-loop-entry
invariant-loop-entry l = l.calls ++ plan_at l.address (drop l.entry-index l.plan) ≡ plan_at l.fn.address l.fn.plan
