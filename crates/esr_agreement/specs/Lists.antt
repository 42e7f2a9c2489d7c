-- Infos of snapshots, and what snapshots have of a shard, beside the index of the shard.
use Rattle.std.specs.Prelude.{◌≡◌, ℕ, ◌<◌, List}
use Rattle.esr_model.specs.Values.{Has, IndexRef, RootSnap, RootData, SnapInfo, FileEntry, SnapList, ShardFiles}
use Rattle.esr_model.specs.Image.{AllPairs}
pub use Rattle.esr_model.specs.Agreement.{IsListOf}

-- ---- infos

-- the root lists the snapshot
abbrev pub IsListed : RootData → ℕ → Type 0
IsListed root uuid = (snap : RootSnap) × Has root.snapshots snap × (snap.uuid ≡ uuid)

-- the index is that of the shard, and has it
abbrev pub IsAt : IndexRef → ℕ → ℕ → Type 0
IsAt r index shard = (r.id ≡ index) × (shard < r.shards)

-- the shard is one of the snapshot of this info
abbrev pub IsOf : SnapInfo → ℕ → ℕ → Type 0
IsOf info index shard = (r : IndexRef) × Has info.indices r × (r.id ≡ index) × (shard < r.shards)

-- one of these infos is that of the snapshot, and has the shard
abbrev pub IsOwn : ℕ → ℕ → ℕ → SnapInfo → Type 0
IsOwn uuid index shard info = (info.uuid ≡ uuid) × IsOf info index shard

abbrev pub HaveShard : List SnapInfo → ℕ → ℕ → ℕ → Type 0
HaveShard infos uuid index shard = (info : SnapInfo) × Has infos info × IsOwn uuid index shard info

-- the index of the shard lists the snapshot of this info, if that has the shard
abbrev pub IsKept : ℕ → ℕ → ShardFiles → SnapInfo → Type 0
IsKept index shard held info = IsOf info index shard → IsListOf held info.uuid

-- so it does with each of these
abbrev pub AreKept : List SnapInfo → ℕ → ℕ → ShardFiles → Type 0
AreKept infos index shard held = (info : SnapInfo) → Has infos info → IsKept index shard held info

-- it doesn't, though the shard is one of the snapshot
pub record IsLost (index shard : ℕ) (held : ShardFiles) (info : SnapInfo) : Type 0 where
  pub of : IsOf info index shard
  pub unlisted : IsListOf held info.uuid → ⊥

-- so it is with one of these infos
pub record IsUnlisted (infos : List SnapInfo) (index shard : ℕ) (held : ShardFiles) (uuid : ℕ) : Type 0 where
  pub info : SnapInfo
  pub there : Has infos info
  pub uuid_is : info.uuid ≡ uuid
  pub lost : IsLost index shard held info

-- ---- lists of files

-- the id is that of the entry, which is one of these
abbrev pub Names : List FileEntry → ℕ → FileEntry → Type 0
Names entries id e = (e.name ≡ id) × Has entries e

-- the list is that of the snapshot, with these files
abbrev pub ListsFiles : List FileEntry → ℕ → List FileEntry → SnapList → Type 0
ListsFiles entries uuid files l = (l.uuid ≡ uuid) × AllPairs (Names entries) l.files files
