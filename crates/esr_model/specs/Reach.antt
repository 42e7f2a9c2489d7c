-- The reach of a root, and what a delete or cleanup may doom.
use Rattle.std.specs.Prelude.{◌≡◌, ℕ}
use Rattle.esr_model.specs.Names.{BlobName, Snap, Meta, IndexMeta, ShardSnap, ShardIndex}
use Rattle.esr_model.specs.Values.{Bytes, Has, RootSnap, RootIndex, RootData, FileEntry, SnapList, ShardFiles, Formats}
use Rattle.esr_model.specs.Parts.{part_names}
use Rattle.esr_model.specs.Image.{Reads, Generation}

-- the names that a root reaches, its own aside
pub data Reached (f : Formats) (has : BlobName → Bytes → Type 0) (root : RootData) : BlobName → Type 0 where
  ReachSnap : (s : RootSnap) → Has root.snapshots s → Reached f has root (Snap s.uuid)
  ReachMeta : (s : RootSnap) → Has root.snapshots s → Reached f has root (Meta s.uuid)
  ReachIndexMeta : (x : RootIndex) (u : ℕ) → Has root.indices x → Has x.snapshots u → Reached f has root (IndexMeta x.id u)
  ReachIndex : (i k g : ℕ) → Generation root i k g → Reached f has root (ShardIndex i k g)
  ReachShardSnap : (i k g : ℕ) (s : RootSnap) (held : ShardFiles) (l : SnapList) → Generation root i k g → Reads has (ShardIndex i k g) f.shard_index held → Has held.snapshots l → Has root.snapshots s → l.uuid ≡ s.uuid
      → Reached f has root (ShardSnap i k s.uuid)
  ReachPart : (i k g : ℕ) (held : ShardFiles) (e : FileEntry) (name : BlobName) → Generation root i k g → Reads has (ShardIndex i k g) f.shard_index held → Has held.files e → Has (part_names i k e) name → Reached f has root name
