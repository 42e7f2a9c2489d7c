use Rattle.std.proofs.Common.{◌≡◌, ◌++◌, drop}
use Rattle.esr_memdepot.specs.Plan.{numbers_of}
use Rattle.esr_memdepot.proofs.plan.failing_numbers.Given as goal

-- the numbers so far, and those of the rest
abbrev pub invariant-loop-entry : goal.invariant-loop-entry
invariant-loop-entry l = l.numbers ++ numbers_of (drop l.entry-index l.entry-items) l.call ≡ numbers_of l.fn.plan l.call
