use Rattle.std.proofs.Common.{take, map}
use Rattle.esr_formats.specs.Names.{name_of}
use Rattle.esr_reach.specs.Names.{IsWithout}
use Rattle.esr_reach.proofs.doomed.doomed_by_delete.Given as goal

abbrev pub invariant-loop-name : goal.invariant-loop-name
invariant-loop-name l = IsWithout (map name_of l.new) (map name_of (take l.name-index l.name-items)) (map name_of l.doomed)
