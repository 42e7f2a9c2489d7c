-- The units of this crate.
use Rattle.esr_ops.specs.declared.unit.Work.{Work}
use Rattle.esr_ops.specs.declared.unit.Work.TheVariants.{Finalize}

-- the unit is a finalization
abbrev pub IsFinalize : Work → Type 0
IsFinalize (Finalize info shards) = Unit {0}
IsFinalize work = ⊥
