-- What a check has found of each piece of the safe root, by the blobs that it read.
use Rattle.std.specs.Prelude.{◌≡◌, ◌<◌, ℕ, suc, true, List, Option, Some}
use Rattle.esr_model.specs.Names.{BlobName, Root, Snap, Meta, IndexMeta, ShardSnap, ShardIndex}
use Rattle.esr_model.specs.Values.{Bytes, Has, IndexRef, RootSnap, RootIndex, RootData, SnapInfo, FileEntry, ShardSnapshot, SnapList, ShardFiles}
use Rattle.esr_model.specs.Image.{AllPairs, FileStands, Generation, Lists, at_shard, global_of}
use Rattle.esr_model.specs.Parts.{part_names}
use Rattle.esr_model.specs.Agreement.{Agrees}
use Rattle.esr_core.specs.World.{Caller}
use Rattle.esr_core.specs.Restores.{WasRead}
use Rattle.esr_core.specs.Entry.{Moment}
use Rattle.esr_desk.specs.Start.{Start, formats_of, world_of}
use Rattle.esr_desk.specs.Own.{caller_of}
use Rattle.esr_desk.specs.Check.Shown.{ReadAs}
use Rattle.esr_agreement.specs.Lists.{IsOf, AreKept}

-- the safe root, of this generation, was read, and is this
pub record HasRoot (s : Start) (log : List Moment) (n : ℕ) (root : RootData) : Type 0 where
  pub safe : (world_of s log).safe ≡ suc n
  pub read : ReadAs s (caller_of s log) (Root n) (formats_of s).root root

-- the safe root was read, and is this
abbrev pub HasSafe : Start → List Moment → RootData → Type 0
HasSafe s log root = (n : ℕ) × HasRoot s log n root

-- the safe root, of this generation, lists the snapshot
pub record IsSnapOfRoot (s : Start) (log : List Moment) (n : ℕ) (root : RootData) (snap : RootSnap) : Type 0 where
  pub safe : HasRoot s log n root
  pub listed : Has root.snapshots snap

-- the metadata of an index in a snapshot was read, and is what the snapshot's info says
abbrev pub HasMeta : Start → Caller → ℕ → IndexRef → Type 0
HasMeta s c uuid r = ReadAs s c (IndexMeta r.id uuid) (formats_of s).index_meta (record { index = r; uuid = uuid })

-- so was that of each of these
abbrev pub HasMetas : Start → Caller → ℕ → List IndexRef → Type 0
HasMetas s c uuid refs = (r : IndexRef) → Has refs r → HasMeta s c uuid r

-- the info of a listed snapshot was read and agrees with the root, and its metadata with it
pub record HasInfo (s : Start) (c : Caller) (root : RootData) (snap : RootSnap) (info : SnapInfo) : Type 0 where
  pub read : ReadAs s c (Snap snap.uuid) (formats_of s).info info
  pub agrees : Agrees root snap info
  pub global : ReadAs s c (Meta snap.uuid) (formats_of s).global (global_of info)
  pub metas : HasMetas s c snap.uuid info.indices

-- these are the infos of these snapshots, in their order
abbrev pub HasInfosOf : Start → Caller → RootData → List RootSnap → List SnapInfo → Type 0
HasInfosOf s c root snaps infos = AllPairs (HasInfo s c root) snaps infos

-- of all listed snapshots
abbrev pub HasInfos : Start → Caller → RootData → List SnapInfo → Type 0
HasInfos s c root infos = HasInfosOf s c root root.snapshots infos

-- the shard is one of the safe root, under this generation, and these are the infos of the listed snapshots
pub record IsShardOfRoot (s : Start) (log : List Moment) (root : RootData) (infos : List SnapInfo) (index number generation : ℕ) : Type 0 where
  pub safe : HasSafe s log root
  pub listed : HasInfos s (caller_of s log) root infos
  pub few : number < 1024
  pub there : Generation root index number generation

-- the index of a shard was read, and is this
abbrev pub HasHeld : Start → Caller → ℕ → ℕ → ℕ → ShardFiles → Type 0
HasHeld s c index shard generation held = ReadAs s c (ShardIndex index shard generation) (formats_of s).shard_index held

-- the index of a shard was read, and lists this file
pub record HasEntry (s : Start) (c : Caller) (index shard generation : ℕ) (e : FileEntry) : Type 0 where
  pub held : ShardFiles
  pub read : HasHeld s c index shard generation held
  pub listed : Has held.files e

-- all parts of a file were read, and it has the stated length and digest, cut at the stated part size
pub record HasFile (s : Start) (c : Caller) (index shard : ℕ) (e : FileEntry) : Type 0 where
  pub found : (name : BlobName) → Has (part_names index shard e) name → Has c.found name
  pub stands : s.tells ≡ true → (bytes : Bytes) × FileStands (formats_of s) (WasRead c.read) index shard e bytes

-- so were those of each of these
abbrev pub HasFiles : Start → Caller → ℕ → ℕ → List FileEntry → Type 0
HasFiles s c index shard files = (e : FileEntry) → Has files e → HasFile s c index shard e

-- what a listed snapshot has of a shard was read; where the shard is one of the snapshot, the index of the shard lists these files
pub record HasSnap (s : Start) (c : Caller) (infos : List SnapInfo) (index shard : ℕ) (held : ShardFiles) (uuid : ℕ) : Type 0 where
  pub snap : ShardSnapshot
  pub read : ReadAs s c (ShardSnap index shard uuid) (formats_of s).shard_snap snap
  pub lists : (info : SnapInfo) → Has infos info → info.uuid ≡ uuid → IsOf info index shard → Lists held uuid snap.files

-- so was what the snapshot of this list has, if the root lists it
abbrev pub HasListed : Start → Caller → RootData → List SnapInfo → ℕ → ℕ → ShardFiles → SnapList → Type 0
HasListed s c root infos index shard held l = (snap : RootSnap) → Has root.snapshots snap → l.uuid ≡ snap.uuid → HasSnap s c infos index shard held snap.uuid

-- and of each of these lists
abbrev pub HasLists : Start → Caller → RootData → List SnapInfo → ℕ → ℕ → ShardFiles → List SnapList → Type 0
HasLists s c root infos index shard held lists = (l : SnapList) → Has lists l → HasListed s c root infos index shard held l

-- the index of a shard was read, with all that it lists, and lists each snapshot that has the shard
pub record HasShard (s : Start) (c : Caller) (root : RootData) (infos : List SnapInfo) (index shard generation : ℕ) : Type 0 where
  pub held : ShardFiles
  pub read : HasHeld s c index shard generation held
  pub kept : AreKept infos index shard held
  pub snaps : HasLists s c root infos index shard held held.snapshots
  pub files : HasFiles s c index shard held.files

-- so was that of the shard, if it has a generation
abbrev pub HasPlace : Start → Caller → RootData → List SnapInfo → ℕ → ℕ → Option ℕ → Type 0
HasPlace s c root infos index shard place = (generation : ℕ) → place ≡ Some generation → HasShard s c root infos index shard generation

-- and of each shard of an index that has one
abbrev pub HasShards : Start → Caller → RootData → List SnapInfo → RootIndex → Type 0
HasShards s c root infos x = (shard generation : ℕ) → at_shard x.generations shard ≡ Some generation → HasShard s c root infos x.id shard generation

-- and of each of these indices
abbrev pub HasIndices : Start → Caller → RootData → List SnapInfo → List RootIndex → Type 0
HasIndices s c root infos indices = (x : RootIndex) → Has indices x → HasShards s c root infos x
