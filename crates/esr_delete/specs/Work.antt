-- The units of this crate, and the root on which they are made.
use Rattle.std.specs.Prelude.{ℕ, ℤ, pos, negsuc, Option, Some, None}
use Rattle.esr_ops.specs.declared.unit.Work.{Work}
use Rattle.esr_ops.specs.declared.unit.Work.TheVariants.{Delete, Cleanup}

-- the unit is that of a delete or cleanup
abbrev pub IsPruning : Work → Type 0
IsPruning (Delete uuids) = Unit {0}
IsPruning Cleanup = Unit {0}
IsPruning work = ⊥

-- the generation of the safe root, or none
abbrev pub last_root : ℤ → Option ℕ
last_root (pos n) = Some n
last_root (negsuc n) = None
