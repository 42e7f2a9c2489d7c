use Rattle.std.proofs.Common.{◌≡◌, length}
use Rattle.esr_run.specs.Script.{have_own_names}
use Rattle.esr_run.proofs.line.have_own_names.Given as goal

abbrev pub invariant-loop-left : goal.invariant-loop-left
invariant-loop-left l = have_own_names l.fn.indices ≡ have_own_names l.left

abbrev pub decreases-loop-left : goal.decreases-loop-left
decreases-loop-left l = length l.left
