-- What the ticket of a clone's shard is, and what it has read.
use Rattle.std.specs.Prelude.{◌≡◌, ℕ, ◌-◌, ◌^◌, min, sum_by, true, List, [], find, Option, Some, None}
use Rattle.esr_names.specs.declared.ids.Id.{Id}
use Rattle.esr_model.specs.Names.{BlobName, ShardSnap}
use Rattle.esr_model.specs.Values.{Bytes, ShardSnapshot}
use Rattle.esr_model.specs.Image.{Reads}
use Rattle.esr_core.specs.World.{Ticket}
use Rattle.esr_core.specs.Restores.{WasRead}
use Rattle.esr_core.specs.Allowed.{Based}
use Rattle.esr_shardidx.specs.declared.entry.FileEntry.{FileEntry as CodeEntry}
use Rattle.esr_shardidx.specs.Snapshots.{SnapValue}
use Rattle.esr_shardidx.specs.Indices.{IndexValue, IsShardIndex, has_uuid}
use Rattle.esr_formats.specs.Shards.{shard_snap_of, shard_index_of}
use Rattle.esr_ops.specs.declared.unit.Work.{Work}
use Rattle.esr_ops.specs.declared.unit.Work.TheVariants as works
use Rattle.esr_desk.specs.Start.{Start, formats_of}
use Rattle.esr_upload.specs.Stored.{IsAt}

-- the unit is of a clone's shard
abbrev pub IsOfClone : Work → Type 0
IsOfClone (works.CloneShard source uuid shard index) = Unit {0}
IsOfClone work = ⊥

-- the ticket of a clone's shard, which has done nothing yet but that it may have read
pub record IsCopy (index number uuid source : ℕ) (base : Option ℕ) (t : Ticket) : Type 0 where
  pub at : IsAt t index number
  pub undrawn : t.drawn ≡ 0
  pub unnoted : t.noted ≡ []
  pub unwritten : t.wrote ≡ []
  pub uuid_is : t.uuid ≡ uuid
  pub source_is : t.source ≡ Some source
  pub base_is : t.base ≡ base

-- the ticket is out for the shard, on this base
pub record IsOn (index number : ℕ) (base : Option ℕ) (t : Ticket) : Type 0 where
  pub at : IsAt t index number
  pub base_is : t.base ≡ base

-- this is what the ticket read as what the source has of the shard
abbrev pub ReadAs : Start → Ticket → ℕ → ℕ → ℕ → ShardSnapshot → Type 0
ReadAs s t index number source snap = s.tells ≡ true → Reads (WasRead t.read) (ShardSnap index number source) (formats_of s).shard_snap snap

-- the ticket has read it, at most
pub record HasSource (s : Start) (old new : Ticket) (index number source : ℕ) (snap : ShardSnapshot) : Type 0 where
  pub read : List (BlobName × Bytes)
  pub is : new ≡ record old { read = read }
  pub read_as : ReadAs s new index number source snap

-- The ticket has read what its source has of the shard, and its base, which doesn't list the clone, has drawn this id alone, and has
-- committed nothing yet.
pub record HasRead (s : Start) (index number : ℕ) (uuid : Id) (base : IndexValue) (snap : SnapValue) (first : ℕ) (t : Ticket) : Type 0 where
  pub at : IsAt t index number
  pub uuid_is : t.uuid ≡ uuid.number
  pub source : ℕ
  pub source_is : t.source ≡ Some source
  pub from : t.first ≡ first
  pub drawn : t.drawn ≡ 1
  pub unnoted : t.noted ≡ []
  pub unwritten : t.wrote ≡ []
  pub read_as : ReadAs s t index number source (shard_snap_of snap)
  pub based : s.tells ≡ true → Based (formats_of s) t index number t.base (shard_index_of base)
  pub whole : IsShardIndex base
  pub unlisted : find (has_uuid uuid) base.snapshots ≡ None

-- the length of the file of an entry
abbrev pub len_of : CodeEntry → ℕ
len_of e = e.print.len

-- the sum of the lengths, at most 2^64 - 1
abbrev pub sum_entries : List CodeEntry → ℕ
sum_entries es = min (sum_by len_of es) (2 ^ 64 - 1)
