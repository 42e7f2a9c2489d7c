-- An open op, as the definitions see it.
use Rattle.std.specs.Prelude.{◌≡◌, ◌<◌, ◌≤◌, ◌||◌, ◌&&◌, not, ℕ, Bool, List, Option, Some, None, is_some, option_map, map, length, max}
use Rattle.std.specs.List.{AllByRecursion}
use Rattle.esr_names.specs.declared.ids.Id.{Id}
use Rattle.esr_names.specs.declared.blob.ShardId.{ShardId}
use Rattle.esr_record.specs.declared.op.Making.{Making}
use Rattle.esr_record.specs.Op.{IsMaking}
use Rattle.esr_model.specs.Values.{Bytes, Has, ShardResult, RecordWork, Creating, Cloning}
use Rattle.esr_core.specs.World.{Op, ShardWork, Done, AllDone, info_of}
use Rattle.esr_formats.specs.Ids.{number_of}
use Rattle.esr_formats.specs.Refs.{ref_of_code}
use Rattle.esr_formats.specs.Infos.{info_of_code}
use Rattle.esr_ops.specs.declared.shard.OpenShard.{OpenShard}
use Rattle.esr_ops.specs.declared.unit.Work.{Work}
use Rattle.esr_ops.specs.declared.unit.Work.TheVariants as works
use Rattle.esr_results.specs.Results.{result_of}
use Rattle.esr_ops.specs.Plan.{RestorePlan}
use Rattle.esr_ops.specs.Shards.{work_of_shard, is_pending, op_before, restore_before, AreAlike}

-- what an open op makes, how far it is, and the snapshot that it copies where it is a clone
abbrev pub op_with : Making → List Bytes → List OpenShard → Bool → Option Id → Option ℕ → Op
op_with m places shards failed source aborted =
    record {
      name = m.name;
      uuid = m.uuid.number;
      moment = m.moment;
      indices = map ref_of_code m.indices;
      shards = map (work_of_shard m.indices places) shards;
      failed = failed;
      source = option_map number_of source;
      aborted = aborted;
    }

-- what is made, as the cluster record tells it: of a clone with its source
abbrev pub making_told : Making → Option ℕ → RecordWork
making_told m None = Creating m.name m.uuid.number m.moment (map ref_of_code m.indices)
making_told m (Some source) = Cloning m.name m.uuid.number m.moment (map ref_of_code m.indices) source

-- the shard names an index of the list, and its number is one of the layout
abbrev pub Within : List Bytes → OpenShard → Type 0
Within places s = (s.at < length places) × (s.shard.number < 1024)

-- what holds of every open op: it can be told in a record, and each shard has its index and place
pub record IsOpenOp (m : Making) (places : List Bytes) (shards : List OpenShard) : Type 0 where
  pub making : IsMaking m
  pub placed : length places ≡ length m.indices
  pub within : AllByRecursion (Within places) shards
  pub alike : AreAlike shards

-- what it makes
pub record IsMakingOf (m : Making) (op : Op) : Type 0 where
  pub name : op.name ≡ m.name
  pub uuid : op.uuid ≡ m.uuid.number
  pub moment : op.moment ≡ m.moment
  pub indices : op.indices ≡ map ref_of_code m.indices

-- it failed or was aborted
abbrev pub has_stopped : Op → Bool
has_stopped op = op.failed || is_some op.aborted

-- the shard of the op of this number is pending, and no op and no restore before it waits on one of its id and number
abbrev pub is_free : List (ℕ × Op) → List (ℕ × RestorePlan) → ℕ → ShardWork → Bool
is_free ops restores o s = (is_pending s.state && not (op_before ops o s.ref.id s.number)) && not (restore_before restores o s.ref.id s.number)

-- these are the shard, the name of its index and the place of its files
abbrev pub AreParts : ShardWork → ShardId → Bytes → Bytes → Type 0
AreParts s shard name place = (shard.index.number ≡ s.ref.id) × (shard.number ≡ s.number) × (name ≡ s.ref.name) × (place ≡ s.place)

-- the unit of a shard: of a clone it lists what its source has, else it stores the files at the place
abbrev pub work_by_source : Option Id → Id → ShardId → Bytes → Bytes → Work
work_by_source None uuid shard index place = works.Shard uuid shard index place
work_by_source (Some source) uuid shard index place = works.CloneShard source uuid shard index

-- the work on a shard of the op, of a clone with its source
abbrev pub IsShardWork : Op → ShardWork → Work → Type 0
IsShardWork op s (works.Shard uuid shard index place) = (op.source ≡ None) × (uuid.number ≡ op.uuid) × (shard.index.number ≡ s.ref.id) × (shard.number ≡ s.number) × (index ≡ s.ref.name) × (place ≡ s.place)
IsShardWork op s (works.CloneShard source uuid shard index) = (op.source ≡ Some source.number) × (uuid.number ≡ op.uuid) × (shard.index.number ≡ s.ref.id) × (shard.number ≡ s.number) × (index ≡ s.ref.name)
IsShardWork op s work = ⊥

-- the op's shards are done with these results, of which the info tells
abbrev pub IsFinalWork : Op → Work → Type 0
IsFinalWork op (works.Finalize info shards) = AllDone op.shards (map result_of shards) × (info_of_code info ≡ info_of op (map result_of shards))
IsFinalWork op work = ⊥

-- the shard is of this id and number, and done at the generation
pub record IsDoneAt (index number : ℕ) (s : ShardWork) (generation : ℕ) : Type 0 where
  pub r : ShardResult
  pub state : s.state ≡ Done r
  pub index_is : s.ref.id ≡ index
  pub number_is : s.number ≡ number
  pub generation_is : r.generation ≡ generation

-- P holds of some member and the number
abbrev pub Among : {A : Type 0} → List A → (A → ℕ → Type 0) → ℕ → Type 0
Among {A} xs P n = (x : A) × Has xs x × P x n

-- the largest number of which P holds, or none where there is none
abbrev pub IsMost : (ℕ → Type 0) → Option ℕ → Type 0
IsMost P None = (g : ℕ) → P g → ⊥
IsMost P (Some most) = P most × ((g : ℕ) → P g → g ≤ most)

-- the larger of two, or the one that is there
abbrev pub later_of : Option ℕ → Option ℕ → Option ℕ
later_of None b = b
later_of (Some x) None = Some x
later_of (Some x) (Some y) = Some (max x y)
