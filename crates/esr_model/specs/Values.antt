-- What the texts of a repository hold, and how they are read. The texts themselves, the digest and what the sources tell are parameters:
-- the definitions and the law hold of any.
use Rattle.std.specs.Prelude.{◌≡◌, ◌⊎◌, ℕ, Bool, List, [], ◌∷◌, Option, Some, None}
use Rattle.esr_model.specs.Names.{BlobName}

abbrev pub Bytes : Type 0
Bytes = List ℕ

-- x is a member of xs
abbrev pub Has : {A : Type 0} → List A → A → Type 0
Has [] y = ⊥
Has (x ∷ xs) y = (x ≡ y) ⊎ Has xs y

pub record IndexRef : Type 0 where
  pub id : ℕ
  pub name : Bytes
  pub shards : ℕ

pub record RootSnap : Type 0 where
  pub name : Bytes
  pub uuid : ℕ
  pub state : ℕ

pub record RootIndex : Type 0 where
  pub name : Bytes
  pub id : ℕ
  pub snapshots : List ℕ
  pub generations : List (Option ℕ)

pub record RootData : Type 0 where
  pub snapshots : List RootSnap
  pub indices : List RootIndex

pub record SnapInfo : Type 0 where
  pub name : Bytes
  pub uuid : ℕ
  pub state : ℕ
  pub moment : ℕ
  pub indices : List IndexRef
  pub files : ℕ
  pub bytes : ℕ

pub record GlobalMeta : Type 0 where
  pub name : Bytes
  pub uuid : ℕ
  pub moment : ℕ

pub record IndexMetadata : Type 0 where
  pub index : IndexRef
  pub uuid : ℕ

pub record FileEntry : Type 0 where
  pub name : ℕ
  pub physical : Bytes
  pub len : ℕ
  pub digest : Bytes
  pub part_size : ℕ

pub record ShardSnapshot : Type 0 where
  pub uuid : ℕ
  pub files : List FileEntry

pub record SnapList : Type 0 where
  pub uuid : ℕ
  pub files : List ℕ

pub record ShardFiles : Type 0 where
  pub files : List FileEntry
  pub snapshots : List SnapList

pub record ShardResult : Type 0 where
  pub index : ℕ
  pub shard : ℕ
  pub generation : ℕ
  pub files : ℕ
  pub bytes : ℕ

-- what an open op does, as the cluster record tells it
pub data RecordWork : Type 0 where
  Creating : (name : Bytes) (uuid moment : ℕ) (indices : List IndexRef) → RecordWork
  Cloning : (name : Bytes) (uuid moment : ℕ) (indices : List IndexRef) (source : ℕ) → RecordWork
  DeletingOf : (uuids : List ℕ) → RecordWork
  Cleaning : RecordWork

-- `safe` and `pending` count roots: the safe root is the last of the first `safe` ones, and the next to be begun is `pending`
pub record Ledger : Type 0 where
  pub safe : ℕ
  pub pending : ℕ
  pub term : ℕ

-- the ops stand by number
pub record ClusterRecord : Type 0 where
  pub ledger : Ledger
  pub ops : List (ℕ × RecordWork)

-- how values of one kind are written and read
pub record Kind (V : Type 0) : Type 0 where
  pub text : V → Bytes
  pub read : Bytes → Option V

-- the value can be written: its text reads as it
abbrev pub ReadsBack : {V : Type 0} → Kind V → V → Type 0
ReadsBack kind v = kind.read (kind.text v) ≡ Some v

-- an index is listed once
abbrev pub IsOneEach : List RootIndex → Type 0
IsOneEach indices = (x y : RootIndex) → Has indices x → Has indices y → x.id ≡ y.id → x ≡ y

-- the texts of names and values, the digest, and what the sources tell
pub record Formats : Type 0 where
  pub names : Kind BlobName
  pub root : Kind RootData
  pub info : Kind SnapInfo
  pub global : Kind GlobalMeta
  pub index_meta : Kind IndexMetadata
  pub shard_snap : Kind ShardSnapshot
  pub shard_index : Kind ShardFiles
  pub cluster : Kind ClusterRecord
  -- what reads as a root lists each index once
  pub one_each : (bytes : Bytes) (r : RootData) → root.read bytes ≡ Some r → IsOneEach r.indices
  pub digest : Bytes → Bytes
  -- whether the sources tell the files for a place, an index name and a number, and which they are; none are told of a place that
  -- doesn't exist
  pub known : Bytes → Bytes → ℕ → Bool
  pub told : Bytes → Bytes → ℕ → Option (List (Bytes × Bytes))

abbrev pub or_no_files : Option (List (Bytes × Bytes)) → List (Bytes × Bytes)
or_no_files None = []
or_no_files (Some files) = files

-- the files that the sources tell
abbrev pub files_told : Formats → Bytes → Bytes → ℕ → List (Bytes × Bytes)
files_told f place name number = or_no_files (f.told place name number)
