-- What stands in a container: whole roots, the shelf of a root, and what opening can rely on.
use Rattle.std.specs.Prelude.{◌≡◌, ◌≢◌, ℕ, zero, suc, ◌<◌, ◌≤◌, List, [], ◌∷◌, ◌++◌, Option, Some, None, length, ◌==◌, if◌then◌else◌}
use Rattle.std.specs.Ordering.{nat_cmp}
use Rattle.std.specs.Cmp.Lexicographic.{slice_cmp}
use Rattle.std.specs.FinMap.{FinMap}
use Rattle.std.specs.FinMap as map
use Rattle.esr_model.specs.Names.{BlobName, Root, Latest, Snap, Meta, IndexMeta, ShardSnap, ShardIndex}
use Rattle.esr_model.specs.Values.{Bytes, IndexRef, RootSnap, RootIndex, RootData, SnapInfo, GlobalMeta, FileEntry, ShardSnapshot, SnapList, ShardFiles, Ledger, Kind, ReadsBack, Formats}
use Rattle.esr_model.specs.Parts.{part_names, AreFull}
use Rattle.esr_model.specs.Places.{shelf_places}
pub use Rattle.esr_model.specs.Values.{Has}
use Rattle.esr_model.specs.Shelf.{ShelfShard, Shelved}

abbrev pub Blobs : Type 0
Blobs = FinMap (slice_cmp nat_cmp) Bytes

-- the blobs, and the text of the cluster record where there is one
pub record Image : Type 0 where
  pub blobs : Blobs
  pub text : Option Bytes

-- the lists are equally long, and R holds pair by pair
abbrev pub AllPairs : {A B : Type 0} → (A → B → Type 0) → List A → List B → Type 0
AllPairs R [] [] = Unit {0}
AllPairs R [] (y ∷ ys) = ⊥
AllPairs R (x ∷ xs) [] = ⊥
AllPairs R (x ∷ xs) (y ∷ ys) = R x y × AllPairs R xs ys

-- a name of the layout, `index.latest` aside, which nothing reads
abbrev pub IsStored : Formats → BlobName → Type 0
IsStored f name = ReadsBack f.names name × (name ≢ Latest)

-- the blob is there with these bytes
abbrev pub At : Formats → Blobs → BlobName → Bytes → Type 0
At f blobs name bytes = (map.get blobs (f.names.text name) ≡ Some bytes) × IsStored f name

-- a name has one content
abbrev pub IsOne : (BlobName → Bytes → Type 0) → Type 0
IsOne has = (name : BlobName) (a b : Bytes) → has name a → has name b → a ≡ b

abbrev pub Present : Formats → Blobs → BlobName → Type 0
Present f blobs name = (bytes : Bytes) × At f blobs name bytes

abbrev pub concat : List Bytes → Bytes
concat [] = []
concat (x ∷ xs) = x ++ concat xs

-- a blob reads as this value of the kind
pub record Reads {V : Type 0} (has : BlobName → Bytes → Type 0) (name : BlobName) (kind : Kind V) (v : V) : Type 0 where
  pub bytes : Bytes
  pub there : has name bytes
  pub reads : kind.read bytes ≡ Some v

-- the parts of a file are there, cut at the part size, and their join has the length and digest of its entry
pub record FileStands (f : Formats) (has : BlobName → Bytes → Type 0) (index shard : ℕ) (entry : FileEntry) (bytes : Bytes) : Type 0 where
  pub parts : List Bytes
  pub there : AllPairs has (part_names index shard entry) parts
  pub full : AreFull entry.part_size parts
  pub joined : concat parts ≡ bytes
  pub len : length bytes ≡ entry.len
  pub digest : f.digest bytes ≡ entry.digest

-- a shard index lists the snapshot with these files
pub record Lists (held : ShardFiles) (uuid : ℕ) (files : List FileEntry) : Type 0 where
  pub list : SnapList
  pub there : Has held.snapshots list
  pub uuid_is : list.uuid ≡ uuid
  pub entries : AllPairs (λ id e. (e.name ≡ id) × Has held.files e) list.files files

-- the shard index under this generation lists the snapshot with the files of its shard snapshot
pub record ListsAs (f : Formats) (has : BlobName → Bytes → Type 0) (index shard generation uuid : ℕ) : Type 0 where
  pub snap : ShardSnapshot
  pub snap_reads : Reads has (ShardSnap index shard uuid) f.shard_snap snap
  pub held : ShardFiles
  pub held_reads : Reads has (ShardIndex index shard generation) f.shard_index held
  pub lists : Lists held uuid snap.files

-- the entry of an index, by its id
abbrev pub index_at : List RootIndex → ℕ → Option RootIndex
index_at [] id = None
index_at (x ∷ xs) id = if x.id == id then Some x else index_at xs id

-- a list of generations at a shard: none where the list is shorter
abbrev pub at_shard : List (Option ℕ) → ℕ → Option ℕ
at_shard [] k = None
at_shard (g ∷ gs) zero = g
at_shard (g ∷ gs) (suc k) = at_shard gs k

abbrev pub at_shard_of : Option RootIndex → ℕ → Option ℕ
at_shard_of None k = None
at_shard_of (Some x) k = at_shard x.generations k

-- the root gives the shard this generation
abbrev pub Generation : RootData → ℕ → ℕ → ℕ → Type 0
Generation root index shard generation = at_shard_of (index_at root.indices index) shard ≡ Some generation

-- the shard of a snapshot stands, with these files
pub record ShardStands (f : Formats) (has : BlobName → Bytes → Type 0) (root : RootData) (uuid : ℕ) (place : IndexRef × ℕ) (shard : ShelfShard) : Type 0 where
  pub name_is : shard.index ≡ place.0.name
  pub number_is : shard.number ≡ place.1
  pub generation : ℕ
  pub in_root : Generation root place.0.id place.1 generation
  pub snap : ShardSnapshot
  pub snap_reads : Reads has (ShardSnap place.0.id place.1 uuid) f.shard_snap snap
  pub index : ShardFiles
  pub index_reads : Reads has (ShardIndex place.0.id place.1 generation) f.shard_index index
  pub lists : Lists index uuid snap.files
  pub files : AllPairs (λ e file. (e.physical ≡ file.0) × FileStands f has place.0.id place.1 e file.1) snap.files shard.files

abbrev pub global_of : SnapInfo → GlobalMeta
global_of info = record { name = info.name; uuid = info.uuid; moment = info.moment }

-- a listed snapshot stands
pub record SnapStands (f : Formats) (has : BlobName → Bytes → Type 0) (root : RootData) (snap : RootSnap) (shelved : Shelved) : Type 0 where
  pub name_is : shelved.name ≡ snap.name
  pub uuid_is : shelved.uuid ≡ snap.uuid
  pub info : SnapInfo
  pub info_reads : Reads has (Snap snap.uuid) f.info info
  pub info_name : info.name ≡ snap.name
  pub info_uuid : info.uuid ≡ snap.uuid
  pub info_state : info.state ≡ snap.state
  pub global_reads : Reads has (Meta snap.uuid) f.global (global_of info)
  pub metas : (r : IndexRef) → Has info.indices r → Reads has (IndexMeta r.id snap.uuid) f.index_meta (record { index = r; uuid = snap.uuid })
  -- exactly the indices that have it
  pub listed : (r : IndexRef) → Has info.indices r → (x : RootIndex) × Has root.indices x × (x.name ≡ r.name) × (x.id ≡ r.id) × Has x.snapshots snap.uuid
  pub exact : (x : RootIndex) → Has root.indices x → Has x.snapshots snap.uuid → (r : IndexRef) × Has info.indices r × (r.name ≡ x.name) × (r.id ≡ x.id)
  pub shards : AllPairs (ShardStands f has root snap.uuid) (shelf_places info.indices) shelved.shards

-- a shard index of the root reads, each file that it lists stands, and what a listed snapshot that it lists has of the shard reads
pub record IndexStands (f : Formats) (has : BlobName → Bytes → Type 0) (root : RootData) (index shard generation : ℕ) : Type 0 where
  pub held : ShardFiles
  pub held_reads : Reads has (ShardIndex index shard generation) f.shard_index held
  pub files : (e : FileEntry) → Has held.files e → (bytes : Bytes) × FileStands f has index shard e bytes
  pub snaps : (l : SnapList) (s : RootSnap) → Has held.snapshots l → Has root.snapshots s → l.uuid ≡ s.uuid → (v : ShardSnapshot) × Reads has (ShardSnap index shard s.uuid) f.shard_snap v
  pub below : (l : SnapList) → Has held.snapshots l → l.uuid < generation

-- all that a root reaches is there, and its snapshots are the shelf
pub record RootStands (f : Formats) (has : BlobName → Bytes → Type 0) (root : RootData) (shelf : List Shelved) : Type 0 where
  pub snapshots : AllPairs (SnapStands f has root) root.snapshots shelf
  pub indices : (index shard generation : ℕ) → Generation root index shard generation → IndexStands f has root index shard generation

-- the root N is there, and all that it reaches
pub record Stands (f : Formats) (has : BlobName → Bytes → Type 0) (n : ℕ) (shelf : List Shelved) : Type 0 where
  pub root : RootData
  pub root_reads : Reads has (Root n) f.root root
  pub stands : RootStands f has root shelf

abbrev pub Whole : (f : Formats) → (BlobName → Bytes → Type 0) → ℕ → Type 0
Whole f has n = (shelf : List Shelved) × Stands f has n shelf

-- a count of roots, of which the last is the safe one; with none the shelf is empty
abbrev pub Picked : (f : Formats) → (BlobName → Bytes → Type 0) → ℕ → List Shelved → Type 0
Picked f has zero shelf = shelf ≡ []
Picked f has (suc n) shelf = Stands f has n shelf

-- what is known of the blobs of an image whose record reads as this, and of its shelf
pub record KeptBy (f : Formats) (has : BlobName → Bytes → Type 0) (blobs : Blobs) (ledger : Ledger) (shelf : List Shelved) : Type 0 where
  pub ordered : ledger.safe ≤ ledger.pending
  pub picked : Picked f has ledger.safe shelf
  pub begun : (n : ℕ) → Present f blobs (Root n) → n < ledger.pending
  pub whole : (n : ℕ) → Present f blobs (Root n) → ledger.safe ≤ n → Whole f has n
  pub named : (text bytes : Bytes) → map.get blobs text ≡ Some bytes → (name : BlobName) × (f.names.text name ≡ text) × ReadsBack f.names name

abbrev pub KeptAt : Formats → Blobs → Ledger → List Shelved → Type 0
KeptAt f blobs ledger shelf = KeptBy f (At f blobs) blobs ledger shelf

-- what the safe root, the last of so many, reads as
abbrev pub RootIs : Formats → (BlobName → Bytes → Type 0) → ℕ → RootData → Type 0
RootIs f has zero root = root ≡ record { snapshots = []; indices = [] }
RootIs f has (suc n) root = Reads has (Root n) f.root root
