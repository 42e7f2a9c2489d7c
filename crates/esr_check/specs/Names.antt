-- Names by what they are of, and which of them a check has fetched.
use Rattle.std.specs.Prelude.{◌≡◌, ◌⊎◌, ℕ, List}
use Rattle.esr_model.specs.Names.{BlobName, Snap, Meta, IndexMeta, ShardSnap, ShardIndex, File, Part}
use Rattle.esr_model.specs.Values.{Has}
use Rattle.esr_core.specs.World.{Caller}
use Rattle.esr_core.specs.Entry.{Moment}
use Rattle.esr_desk.specs.Start.{Start}
use Rattle.esr_desk.specs.Own.{caller_of}

-- whichever
abbrev pub IsAny : BlobName → Type 0
IsAny name = Unit {0}

-- this very name
abbrev pub Just : BlobName → BlobName → Type 0
Just name n = n ≡ name

-- of a snapshot: its info, its global metadata, and the metadata of its indices
abbrev pub IsOfSnap : ℕ → BlobName → Type 0
IsOfSnap uuid (Snap u) = u ≡ uuid
IsOfSnap uuid (Meta u) = u ≡ uuid
IsOfSnap uuid (IndexMeta i u) = u ≡ uuid
IsOfSnap uuid name = ⊥

-- of some snapshot
abbrev pub IsOfAnySnap : BlobName → Type 0
IsOfAnySnap name = (uuid : ℕ) × IsOfSnap uuid name

-- the metadata of some index in a snapshot
abbrev pub IsMetaIn : ℕ → BlobName → Type 0
IsMetaIn uuid name = (index : ℕ) × (name ≡ IndexMeta index uuid)

-- of a shard: its index, what snapshots have of it, and its files
abbrev pub IsOfShard : ℕ → ℕ → BlobName → Type 0
IsOfShard index shard (ShardSnap i k u) = (i ≡ index) × (k ≡ shard)
IsOfShard index shard (ShardIndex i k g) = (i ≡ index) × (k ≡ shard)
IsOfShard index shard (File i k x) = (i ≡ index) × (k ≡ shard)
IsOfShard index shard (Part i k x p) = (i ≡ index) × (k ≡ shard)
IsOfShard index shard name = ⊥

-- what some snapshot has of the shard
abbrev pub IsSnapOf : ℕ → ℕ → BlobName → Type 0
IsSnapOf index shard name = (uuid : ℕ) × (name ≡ ShardSnap index shard uuid)

-- of a file of a shard
abbrev pub IsOfFile : ℕ → ℕ → ℕ → BlobName → Type 0
IsOfFile index shard file (File i k x) = (i ≡ index) × (k ≡ shard) × (x ≡ file)
IsOfFile index shard file (Part i k x p) = (i ≡ index) × (k ≡ shard) × (x ≡ file)
IsOfFile index shard file name = ⊥

-- of some file of the shard
abbrev pub IsPieceOf : ℕ → ℕ → BlobName → Type 0
IsPieceOf index shard name = (file : ℕ) × IsOfFile index shard file name

-- of one of the shards of an index
abbrev pub IsOfShards : ℕ → BlobName → Type 0
IsOfShards index name = (shard : ℕ) × IsOfShard index shard name

-- of a shard of some index
abbrev pub IsOfAnyShard : BlobName → Type 0
IsOfAnyShard name = (index : ℕ) × IsOfShards index name

-- ---- what a check has fetched

-- none of these blobs
abbrev pub AreUnfetched : Caller → (BlobName → Type 0) → Type 0
AreUnfetched c P = (name : BlobName) → P name → Has c.fetched name → ⊥

-- since then only such blobs
abbrev pub FetchesOnly : Start → List Moment → List Moment → (BlobName → Type 0) → Type 0
FetchesOnly s old new P = (name : BlobName) → Has (caller_of s new).fetched name → Has (caller_of s old).fetched name ⊎ P name
