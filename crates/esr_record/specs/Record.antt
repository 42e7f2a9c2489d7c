-- The cluster record.
use Rattle.std.specs.Prelude.{◌<◌, ◌-◌, ◌^◌, ◌≤ℤ◌, ℕ, ℤ, pos, negsuc, List}
use Rattle.esr_record.specs.declared.op.RecordOp.{RecordOp}
use Rattle.esr_record.specs.Op.{AreOps}

-- a cluster's record
pub record Record : Type 0 where
  pub ops : List RecordOp
  pub pending : ℤ
  pub safe : ℤ
  pub term : ℕ

-- what holds of the numbers of every record
pub record AreNumbers (pending safe : ℤ) (term : ℕ) : Type 0 where
  pub least : negsuc 0 ≤ℤ safe
  pub order : safe ≤ℤ pending
  pub most : pending ≤ℤ pos (2 ^ 63 - 1)
  pub below : term < 2 ^ 63

-- what holds of every record
pub record IsRecord (r : Record) : Type 0 where
  pub numbers : AreNumbers r.pending r.safe r.term
  pub ops : AreOps 0 r.ops
