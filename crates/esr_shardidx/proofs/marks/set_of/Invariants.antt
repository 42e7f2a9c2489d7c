use Rattle.std.proofs.Common.{take}
use Rattle.esr_names.specs.declared.ids.Id.{Id}
use Rattle.esr_shardidx.proofs.Repeats.{Holds}
use Rattle.esr_shardidx.proofs.marks.set_of.Given as goal

abbrev pub invariant-loop-id : goal.invariant-loop-id
invariant-loop-id l = Holds (λ (u : Id). u.number) l.set (take l.id-index l.ids)
