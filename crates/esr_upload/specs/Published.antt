-- What a shard's ticket is, and what it has read and planned.
use Rattle.std.specs.Prelude.{◌≡◌, ◌⊎◌, ℕ, ◌+◌, ◌-◌, ◌<◌, ◌^◌, min, sum_by, Bool, true, false, List, [], ◌∷◌, map, find, length, Option, Some, None}
use Rattle.std.specs.List.{AllByRecursion}
use Rattle.esr_names.specs.declared.ids.Id.{Id}
use Rattle.esr_names.specs.declared.blob.ShardId.{ShardId}
use Rattle.esr_model.specs.Names.{BlobName, ShardSnap, ShardIndex}
use Rattle.esr_model.specs.Values.{Bytes}
use Rattle.esr_core.specs.World.{Ticket}
use Rattle.esr_core.specs.Allowed.{Based}
use Rattle.esr_shardidx.specs.Snapshots.{SnapValue}
use Rattle.esr_shardidx.specs.Indices.{IndexValue, has_uuid, IsShardIndex}
use Rattle.esr_source.specs.declared.files.ListedFile.{ListedFile}
use Rattle.esr_source.specs.Files.{is_rising}
use Rattle.esr_formats.specs.Ids.{id_of}
use Rattle.esr_results.specs.declared.result.ShardResult.{ShardResult as CodeResult}
use Rattle.esr_formats.specs.Shards.{shard_snap_of, shard_snap_kind, shard_index_of, shard_index_kind}
use Rattle.esr_reuse.specs.declared.reuse.Planned.{Planned}
use Rattle.esr_reuse.specs.Plans.{file_planned, Reuses}
use Rattle.esr_desk.specs.declared.refusal.StepRefusal.TheVariants as steps
use Rattle.esr_desk.specs.Start.{Start, formats_of}
use Rattle.esr_desk.specs.Sources.{TellSame}
use Rattle.esr_unit.specs.declared.trouble.Trouble.{Trouble}
use Rattle.esr_unit.specs.declared.trouble.Trouble.TheVariants as troubles
use Rattle.esr_upload.specs.Base.{HasBase}
use Rattle.esr_upload.specs.Entries.{new_count, len_planned}
use Rattle.esr_upload.specs.Stored.{IsAt}
use Rattle.esr_upload.specs.Surveyed.{printed, TellsAll, IsShort, ListsAsMany, names_rise}

-- the ticket of a shard that has drawn nothing yet; where the files of its address are known, they are told, or the place isn't there
pub record IsUnit (s : Start) (told : Option (List (Bytes × Bytes))) (is_there : Option Bool) (index number uuid : ℕ) (base : Option ℕ) (t : Ticket) : Type 0 where
  pub at : IsAt t index number
  pub undrawn : t.drawn ≡ 0
  pub unnoted : t.noted ≡ []
  pub unwritten : t.wrote ≡ []
  pub uuid_is : t.uuid ≡ uuid
  pub base_is : t.base ≡ base
  pub source_is : t.source ≡ None
  pub tells : s.known t.place t.name number ≡ true → TellSame told (s.told t.place t.name number) ⊎ (is_there ≡ Some false)

-- the files were read and planned
pub record IsPlanned (told : Option (List (Bytes × Bytes))) (listed : Option (List ListedFile)) (base : IndexValue) (ps : List Planned) : Type 0 where
  pub files : List (Bytes × Bytes)
  pub named : map file_planned ps ≡ map printed files
  pub tells : TellsAll told files
  pub short : AllByRecursion IsShort files
  pub few : length files < 2 ^ 32
  pub many : ListsAsMany listed files
  pub rising : is_rising None (names_rise files) ≡ true
  pub each : AllByRecursion (Reuses (shard_index_of base).files) ps

-- what the snapshot has of the shard, and the index of the shard under its generation
abbrev pub snap_blob : ShardId → SnapValue → BlobName × Bytes
snap_blob at snap = (ShardSnap at.index.number at.number snap.uuid.number, shard_snap_kind.text (shard_snap_of snap))

abbrev pub index_blob : ShardId → Id → IndexValue → BlobName × Bytes
index_blob at generation index = (ShardIndex at.index.number at.number generation.number, shard_index_kind.text (shard_index_of index))

abbrev pub last_blobs : ShardId → Id → SnapValue → IndexValue → List (BlobName × Bytes)
last_blobs at generation snap index = snap_blob at snap ∷ index_blob at generation index ∷ []

-- what shows the trouble of a first reading
abbrev pub ReadShown : {S F : Type 0} → ℕ → Trouble S F → Type 0
ReadShown faults (troubles.Step steps.Memory) = Unit {0}
ReadShown faults troubles.Own = 0 < faults
ReadShown faults trouble = ⊥

-- the base was read, without a list of the snapshot; it is empty where there is none
pub record HasIndex (s : Start) (index number : ℕ) (uuid : Id) (old new : Ticket) (base : IndexValue) : Type 0 where
  pub has_base : HasBase s old new index number (shard_index_of base)
  pub none : new.base ≡ None → base ≡ record { files = []; snapshots = [] }
  pub whole : IsShardIndex base
  pub unlisted : find (has_uuid uuid) base.snapshots ≡ None

-- The ticket of a shard has drawn an id for each file that reuses nothing and one more, and has committed nothing yet.
pub record HasDrawn (s : Start) (told : Option (List (Bytes × Bytes))) (listed : Option (List ListedFile)) (index number : ℕ) (uuid : Id) (base : IndexValue) (ps : List Planned) (first : ℕ) (t : Ticket) : Type 0 where
  pub at : IsAt t index number
  pub uuid_is : t.uuid ≡ uuid.number
  pub from : t.first ≡ first
  pub drawn : t.drawn ≡ new_count ps + 1
  pub unnoted : t.noted ≡ []
  pub unwritten : t.wrote ≡ []
  pub source_is : t.source ≡ None
  pub based : s.tells ≡ true → Based (formats_of s) t index number t.base (shard_index_of base)
  pub none : t.base ≡ None → base ≡ record { files = []; snapshots = [] }
  pub whole : IsShardIndex base
  pub unlisted : find (has_uuid uuid) base.snapshots ≡ None
  pub planned : IsPlanned told listed base ps
  pub tells : s.known t.place t.name number ≡ true → TellSame told (s.told t.place t.name number)

-- the sum of the lengths, at most 2^64 - 1
abbrev pub sum_planned : List Planned → ℕ
sum_planned ps = min (sum_by len_planned ps) (2 ^ 64 - 1)

-- what is reported of the shard
abbrev pub outcome_of : ShardId → ℕ → List Planned → CodeResult
outcome_of at first ps = record { shard = at; generation = id_of (first + new_count ps); files = length ps; bytes = sum_planned ps }
