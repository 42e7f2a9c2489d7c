use Rattle.std.proofs.Common.{take, map}
use Rattle.esr_formats.specs.Ids.{number_of}
use Rattle.esr_dooming.proofs.Numbers.{IsAlso}
use Rattle.esr_dooming.proofs.sets.add_ids.Given as goal

abbrev pub invariant-loop-id : goal.invariant-loop-id
invariant-loop-id l = IsAlso l.fn.set l.set (map number_of (take l.id-index l.ids))
