use Rattle.std.proofs.Common.{take}
use Rattle.esr_reach.specs.NameSets.{IsSetOf}
use Rattle.esr_reach.proofs.doomed.set_of.Given as goal

abbrev pub invariant-loop-name : goal.invariant-loop-name
invariant-loop-name l = IsSetOf l.set (take l.name-index l.names)
