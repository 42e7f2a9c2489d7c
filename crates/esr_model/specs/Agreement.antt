-- A root that is whole: it is there with all that it reaches, and no two of these blobs disagree. What keeps a repository asks more
-- of a root (that it stands for a shelf, and that uuids in an index of a shard are below its generation), so a root that stands agrees;
-- a check finds just this.
use Rattle.std.specs.Prelude.{◌≡◌, ℕ, ◌<◌}
use Rattle.esr_model.specs.Names.{BlobName, Root, Snap, Meta, IndexMeta, ShardSnap, ShardIndex}
use Rattle.esr_model.specs.Values.{Bytes, Has, IndexRef, RootSnap, RootIndex, RootData, SnapInfo, FileEntry, ShardSnapshot, SnapList, ShardFiles, Formats}
use Rattle.esr_model.specs.Image.{Reads, FileStands, ListsAs, Generation, global_of}

-- the info of a snapshot beside the root that lists it: it has the root's name, uuid and state, and exactly the indices that have
-- the snapshot, each with a generation of each of its shards
pub record Agrees (root : RootData) (snap : RootSnap) (info : SnapInfo) : Type 0 where
  pub name_is : info.name ≡ snap.name
  pub uuid_is : info.uuid ≡ snap.uuid
  pub state_is : info.state ≡ snap.state
  pub listed : (r : IndexRef) → Has info.indices r → (x : RootIndex) × Has root.indices x × (x.name ≡ r.name) × (x.id ≡ r.id) × Has x.snapshots snap.uuid
  pub exact : (x : RootIndex) → Has root.indices x → Has x.snapshots snap.uuid → (r : IndexRef) × Has info.indices r × (r.name ≡ x.name) × (r.id ≡ x.id)
  pub generations : (r : IndexRef) (k : ℕ) → Has info.indices r → k < r.shards → (g : ℕ) × Generation root r.id k g

-- a listed snapshot: its info agrees with the root, its metadata with its info, and the index of each of its shards lists it with the
-- files that it has of the shard
pub record SnapAgrees (f : Formats) (has : BlobName → Bytes → Type 0) (root : RootData) (snap : RootSnap) : Type 0 where
  pub info : SnapInfo
  pub info_reads : Reads has (Snap snap.uuid) f.info info
  pub agrees : Agrees root snap info
  pub global_reads : Reads has (Meta snap.uuid) f.global (global_of info)
  pub metas : (r : IndexRef) → Has info.indices r → Reads has (IndexMeta r.id snap.uuid) f.index_meta (record { index = r; uuid = snap.uuid })
  pub shards : (r : IndexRef) (k g : ℕ) → Has info.indices r → k < r.shards → Generation root r.id k g → ListsAs f has r.id k g snap.uuid

-- the index of a shard reads, each file that it lists stands, and what a listed snapshot that it lists has of the shard reads
pub record IndexAgrees (f : Formats) (has : BlobName → Bytes → Type 0) (root : RootData) (index shard generation : ℕ) : Type 0 where
  pub held : ShardFiles
  pub held_reads : Reads has (ShardIndex index shard generation) f.shard_index held
  pub files : (e : FileEntry) → Has held.files e → (bytes : Bytes) × FileStands f has index shard e bytes
  pub snaps : (l : SnapList) (s : RootSnap) → Has held.snapshots l → Has root.snapshots s → l.uuid ≡ s.uuid → (v : ShardSnapshot) × Reads has (ShardSnap index shard s.uuid) f.shard_snap v

-- the root N is there with all that it reaches, and no two of these blobs disagree
pub record RootAgrees (f : Formats) (has : BlobName → Bytes → Type 0) (n : ℕ) : Type 0 where
  pub root : RootData
  pub root_reads : Reads has (Root n) f.root root
  pub snapshots : (s : RootSnap) → Has root.snapshots s → SnapAgrees f has root s
  pub indices : (index shard generation : ℕ) → Generation root index shard generation → IndexAgrees f has root index shard generation

-- the index of a shard has a list of the snapshot
abbrev pub IsListOf : ShardFiles → ℕ → Type 0
IsListOf held uuid = (l : SnapList) × Has held.snapshots l × (l.uuid ≡ uuid)
