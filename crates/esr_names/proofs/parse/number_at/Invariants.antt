use Rattle.std.proofs.Common.{◌≡◌, length}
use Rattle.esr_names.specs.Reading.{number_from}
use Rattle.esr_names.proofs.parse.number_at.Given as goal

abbrev pub invariant-loop-rest : goal.invariant-loop-rest
invariant-loop-rest l = number_from l.n l.rest ≡ number_from 0 l.fn.bytes

abbrev pub decreases-loop-rest : goal.decreases-loop-rest
decreases-loop-rest l = length l.rest
