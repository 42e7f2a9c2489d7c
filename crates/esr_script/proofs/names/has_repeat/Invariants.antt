use Rattle.std.proofs.Common.{◌≡◌, length}
use Rattle.esr_script.specs.Items.{has_repeat}
use Rattle.esr_script.proofs.names.has_repeat.Given as goal

abbrev pub invariant-loop-rest : goal.invariant-loop-rest
invariant-loop-rest l = has_repeat l.fn.names ≡ has_repeat l.rest

abbrev pub decreases-loop-rest : goal.decreases-loop-rest
decreases-loop-rest l = length l.rest
