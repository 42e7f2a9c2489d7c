-- An open restore, as the definitions see it.
use Rattle.std.specs.Prelude.{◌≡◌, ◌<◌, Bool, List, map, length, slice_get}
use Rattle.std.specs.List.{AllByRecursion}
use Rattle.esr_names.specs.declared.ids.Id.{Id}
use Rattle.esr_names.specs.declared.index_ref.IndexRef.{IndexRef as CodeRef}
use Rattle.esr_model.specs.Values.{Bytes}
use Rattle.esr_core.specs.World.{ShardWork}
use Rattle.esr_ops.specs.declared.shard.OpenShard.{OpenShard}
use Rattle.esr_ops.specs.declared.unit.Work.{Work}
use Rattle.esr_ops.specs.declared.unit.Work.TheVariants as works
use Rattle.esr_ops.specs.Plan.{RestorePlan}
use Rattle.esr_ops.specs.Shards.{state_of, name_or_none, count_or_none, is_pending, waits, AreAlike}

-- a shard of a restore of these indices
abbrev pub work_of_read : List CodeRef → Bytes → OpenShard → ShardWork
work_of_read refs place s =
    record { ref = record { id = s.shard.index.number; name = name_or_none (slice_get refs s.at); shards = count_or_none (slice_get refs s.at) }; number = s.shard.number; place = place; state = state_of s.state }

abbrev pub restore_with : Id → Bytes → List CodeRef → List OpenShard → RestorePlan
restore_with uuid place refs shards = record { uuid = uuid.number; shards = map (work_of_read refs place) shards }

-- the shard names an index of the list, and its number is one of the layout
abbrev pub LiesIn : List CodeRef → OpenShard → Type 0
LiesIn refs s = (s.at < length refs) × (s.shard.number < 1024)

-- what holds of every open restore
pub record IsOpenRestore (refs : List CodeRef) (shards : List OpenShard) : Type 0 where
  pub within : AllByRecursion (LiesIn refs) shards
  pub alike : AreAlike shards

-- the shard is unread; it is unread or being read
abbrev pub is_unread : ShardWork → Bool
is_unread s = is_pending s.state

abbrev pub is_waiting : ShardWork → Bool
is_waiting s = waits s.state

-- the work on a shard of the restore
abbrev pub IsRestoreWork : RestorePlan → ShardWork → Work → Type 0
IsRestoreWork r s (works.RestoreShard uuid shard index place) = (uuid.number ≡ r.uuid) × (shard.index.number ≡ s.ref.id) × (shard.number ≡ s.number) × (index ≡ s.ref.name) × (place ≡ s.place)
IsRestoreWork r s work = ⊥
