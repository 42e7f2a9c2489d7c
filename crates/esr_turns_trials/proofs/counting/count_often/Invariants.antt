use Rattle.std.proofs.Common.{◌≡◌, ◌+◌}
use Rattle.esr_turns_trials.proofs.counting.count_often.Given as goal

abbrev pub invariant-loop : goal.invariant-loop
invariant-loop g l = (l.pass.lock ≡ l.lock) × (l.pass.left + l.pass.used ≡ l.fn.pass.left + l.fn.pass.used)
