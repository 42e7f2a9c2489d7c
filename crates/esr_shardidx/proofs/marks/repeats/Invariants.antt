use Rattle.std.proofs.Common.{◌≡◌, false, take}
use Rattle.esr_names.specs.declared.ids.Id.{Id}
use Rattle.esr_shardidx.specs.Indices.{repeats}
use Rattle.esr_shardidx.proofs.Repeats.{Holds}
use Rattle.esr_shardidx.proofs.marks.repeats.Given as goal

abbrev pub invariant-loop-id : goal.invariant-loop-id
invariant-loop-id l = Holds (λ (u : Id). u.number) l.before (take l.id-index l.ids) × (repeats (take l.id-index l.ids) ≡ false)
