-- The ops that a record can have.
use Rattle.std.specs.Prelude.{◌≡◌, ◌<◌, ◌≤◌, ◌^◌, ◌==◌, ◌++◌, ℕ, Bool, false, List, [], ◌∷◌, None}
use Rattle.std.specs.List.{list_any}
use Rattle.esr_names.specs.NameRule.{snap_name_fault}
use Rattle.esr_names.specs.declared.ids.Id.{Id}
use Rattle.esr_names.specs.Indices.{AreRefs}
use Rattle.esr_record.specs.declared.op.Making.{Making}
use Rattle.esr_record.specs.declared.op.OpWork.{OpWork}
use Rattle.esr_record.specs.declared.op.OpWork.TheVariants.{Create, Clone, Delete, Cleanup}
use Rattle.esr_record.specs.declared.op.RecordOp.{RecordOp}

-- what is told of a snapshot that is made
pub record IsMaking (m : Making) : Type 0 where
  pub indices : AreRefs [] m.indices
  pub moment : m.moment < 2 ^ 64
  pub name : snap_name_fault m.name ≡ None
  pub uuid : m.uuid.number < 2 ^ 128

-- whether the second id is the first
abbrev pub is_id : Id → Id → Bool
is_id u v = v.number == u.number

-- the uuids differ, from those before too
abbrev pub AreUuids : List Id → List Id → Type 0
AreUuids before [] = Unit {0}
AreUuids before (u ∷ us) = (u.number < 2 ^ 128) × (list_any (is_id u) before ≡ false) × AreUuids (before ++ u ∷ []) us

-- what an op may do
abbrev pub IsWork : OpWork → Type 0
IsWork (Create info) = IsMaking info
IsWork (Clone info source) = IsMaking info × (source.number < 2 ^ 128)
IsWork (Delete uuids) = AreUuids [] uuids
IsWork Cleanup = Unit {0}

-- an op whose number is above the last
pub record IsOp (last : ℕ) (o : RecordOp) : Type 0 where
  pub above : last < o.op
  pub most : o.op ≤ 2 ^ 62
  pub work : IsWork o.work

-- ops whose numbers rise from above the last on
abbrev pub AreOps : ℕ → List RecordOp → Type 0
AreOps last [] = Unit {0}
AreOps last (o ∷ os) = IsOp last o × AreOps o.op os

-- the last of the ops' numbers, or the number given where there is none
abbrev pub last_from : ℕ → List RecordOp → ℕ
last_from last [] = last
last_from last (o ∷ os) = last_from o.op os

-- the number of the last op, or 0
abbrev pub last_op : List RecordOp → ℕ
last_op os = last_from 0 os
