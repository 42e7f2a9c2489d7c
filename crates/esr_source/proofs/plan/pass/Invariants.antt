use Rattle.std.proofs.Common.{◌≡◌, ◌++◌, map, take, drop}
use Rattle.esr_source.specs.Plan.{passed}
use Rattle.esr_source.proofs.plan.pass.Given as goal

abbrev pub invariant-loop-entry : goal.invariant-loop-entry
invariant-loop-entry l = l.failing ≡ map (passed l.call) (take l.entry-index l.fn.failing) ++ drop l.entry-index l.fn.failing
