-- The files of a shard, from their parts.
use Rattle.std.specs.Prelude.{◌≡◌, ℕ, List}
use Rattle.esr_model.specs.Names.{BlobName, ShardSnap, ShardIndex}
use Rattle.esr_model.specs.Values.{Bytes, FileEntry, ShardSnapshot, ShardFiles, Formats}
use Rattle.esr_model.specs.Parts.{part_names, AreFull}
use Rattle.esr_model.specs.Image.{AllPairs, concat, Reads, FileStands, Lists}

-- the parts of a file are there, cut at the part size, and joined they are these bytes
pub record IsJoined (has : BlobName → Bytes → Type 0) (index shard : ℕ) (entry : FileEntry) (bytes : Bytes) : Type 0 where
  pub parts : List Bytes
  pub there : AllPairs has (part_names index shard entry) parts
  pub full : AreFull entry.part_size parts
  pub joined : concat parts ≡ bytes

-- the file of an entry, with its name and its bytes
abbrev pub IsStored : (f : Formats) → (BlobName → Bytes → Type 0) → ℕ → ℕ → FileEntry → Bytes × Bytes → Type 0
IsStored f has index shard e file = (e.physical ≡ file.0) × FileStands f has index shard e file.1

-- the files that a snapshot has of a shard, by the index of the shard under a generation
pub record HasFiles (f : Formats) (has : BlobName → Bytes → Type 0) (index shard generation uuid : ℕ) (files : List (Bytes × Bytes)) : Type 0 where
  pub snap : ShardSnapshot
  pub snap_reads : Reads has (ShardSnap index shard uuid) f.shard_snap snap
  pub held : ShardFiles
  pub held_reads : Reads has (ShardIndex index shard generation) f.shard_index held
  pub lists : Lists held uuid snap.files
  pub stored : AllPairs (IsStored f has index shard) snap.files files
