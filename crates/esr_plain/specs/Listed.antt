-- What the listed snapshots have of a shard.
use Rattle.std.specs.Prelude.{◌≡◌, ℕ, List}
use Rattle.esr_model.specs.Names.{BlobName, ShardSnap}
use Rattle.esr_model.specs.Values.{Bytes, Has, RootSnap, RootData, ShardSnapshot, SnapList, Formats}
use Rattle.esr_model.specs.Image.{Reads}

-- where the root lists a snapshot of this uuid, what it has of the shard reads
abbrev pub HasSnap : (f : Formats) → (BlobName → Bytes → Type 0) → RootData → ℕ → ℕ → ℕ → Type 0
HasSnap f has root index shard uuid = (s : RootSnap) → Has root.snapshots s → uuid ≡ s.uuid → (v : ShardSnapshot) × Reads has (ShardSnap index shard s.uuid) f.shard_snap v

-- the same of each of these lists
abbrev pub HaveSnaps : (f : Formats) → (BlobName → Bytes → Type 0) → RootData → ℕ → ℕ → List SnapList → Type 0
HaveSnaps f has root index shard lists = (l : SnapList) → Has lists l → HasSnap f has root index shard l.uuid
