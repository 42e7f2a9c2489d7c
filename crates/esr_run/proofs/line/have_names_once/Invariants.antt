use Rattle.std.proofs.Common.{◌≡◌, length}
use Rattle.esr_run.specs.Script.{have_names_once}
use Rattle.esr_run.proofs.line.have_names_once.Given as goal

abbrev pub invariant-loop-left : goal.invariant-loop-left
invariant-loop-left l = have_names_once l.fn.names ≡ have_names_once l.left

abbrev pub decreases-loop-left : goal.decreases-loop-left
decreases-loop-left l = length l.left
