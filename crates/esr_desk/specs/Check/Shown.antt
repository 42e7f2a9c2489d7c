-- What shows why a check failed.
use Rattle.std.specs.Prelude.{◌≡◌, ℕ, ◌<◌, true, List, [], ◌∷◌, ◌++◌, length, Some}
use Rattle.esr_model.specs.Names.{BlobName, Root, Snap, Meta, IndexMeta, ShardSnap, ShardIndex, File}
use Rattle.esr_model.specs.Values.{Bytes, Has, IndexRef, RootSnap, RootData, SnapInfo, GlobalMeta, IndexMetadata, FileEntry, ShardSnapshot, ShardFiles, Kind}
use Rattle.std.specs.List.{concat}
use Rattle.esr_model.specs.Image.{Lists, global_of}
use Rattle.esr_model.specs.Parts.{part_names}
use Rattle.esr_model.specs.Agreement.{Agrees, IsListOf}
use Rattle.esr_core.specs.World.{Caller}
use Rattle.esr_core.specs.Restores.{WasRead}
use Rattle.esr_core.specs.Allowed.{IsChecking}
use Rattle.esr_core.specs.Entry.{Reason, Why, OfDepot, OfAbsence, OfUnreadable, OfPrint, OfDisagreement, LookStep, ReadStep, ReadBlob, WasAbsent, Reply, Refused, DepotFault, Moment}
use Rattle.esr_formats.specs.Reasons.{unreadable}
use Rattle.esr_desk.specs.declared.fault.By.{By}
use Rattle.esr_desk.specs.Start.{Start, formats_of, world_of}
use Rattle.esr_desk.specs.Own.{caller_of}
use Rattle.esr_desk.specs.Evidence.{Evidence, HadReply, FetchShown, ReadShown}
use Rattle.esr_desk.specs.Restore.Parts.{AreFronts, AreExact}

-- ---- what was asked and answered

-- each of these steps is a fetch of who 0
abbrev pub AllFetches : List Moment → Type 0
AllFetches [] = Unit {0}
AllFetches (m ∷ more) = (m.entry.who ≡ 0) × ((name : BlobName) × (m.entry.step ≡ ReadStep (ReadBlob name))) × AllFetches more

-- a look began the check, and since then who 0 has made fetches alone, and no other step was made
pub record SinceLook (log : List Moment) : Type 0 where
  pub before : List Moment
  pub look : Moment
  pub fetches : List Moment
  pub is : log ≡ before ++ look ∷ fetches
  pub looker : look.entry.who ≡ 0
  pub looks : look.entry.step ≡ LookStep
  pub all : AllFetches fetches

-- since then a fetch of this blob was answered so
abbrev pub HadFetchIn : List Moment → BlobName → Reply → Type 0
HadFetchIn fetches name reply = HadReply fetches 0 (ReadStep (ReadBlob name)) reply

-- the blob was fetched and was there; where the container tells, these are its bytes
pub record HasFetched (s : Start) (c : Caller) (name : BlobName) (bytes : Bytes) : Type 0 where
  pub found : Has c.found name
  pub read : s.tells ≡ true → WasRead c.read name bytes

-- and they read as this value
pub record ReadAs {V : Type 0} (s : Start) (c : Caller) (name : BlobName) (kind : Kind V) (v : V) : Type 0 where
  pub bytes : Bytes
  pub fetched : HasFetched s c name bytes
  pub reads : kind.read bytes ≡ Some v

-- ---- unreadable

-- what was fetched of a reached blob doesn't read as the kind of its name: this is the first reason
abbrev pub DoesNotRead : Start → Caller → BlobName → Reason → Type 0
DoesNotRead s c name reason = (bytes : Bytes) × HasFetched s c name bytes × (unreadable name bytes ≡ Some reason)

-- ---- prints

-- The index of a shard, as it was read, lists the file whose blob without a part number has this name, and this was read of its parts.
pub record HasReadFile (s : Start) (c : Caller) (name : BlobName) (fronts : List Bytes) : Type 0 where
  pub index : ℕ
  pub shard : ℕ
  pub generation : ℕ
  pub held : ShardFiles
  pub held_read : ReadAs s c (ShardIndex index shard generation) (formats_of s).shard_index held
  pub e : FileEntry
  pub listed : Has held.files e
  pub name_is : name ≡ File index shard e.name
  pub found : (part : BlobName) → Has (part_names index shard e) part → Has c.found part
  pub read : s.tells ≡ true → AreFronts (WasRead c.read) index shard e fronts

-- the print of what was read of a file isn't the stated one
pub record IsMisprinted (s : Start) (c : Caller) (name : BlobName) (stated_len : ℕ) (stated_digest : Bytes) (found_len : ℕ) (found_digest : Bytes) : Type 0 where
  pub fronts : List Bytes
  pub file : HasReadFile s c name fronts
  pub stated_len_is : stated_len ≡ file.e.len
  pub stated_digest_is : stated_digest ≡ file.e.digest
  pub found_len_is : found_len ≡ length (concat fronts)
  pub found_digest_is : found_digest ≡ (formats_of s).digest (concat fronts)
  pub differ : stated_len ≡ found_len → stated_digest ≡ found_digest → ⊥

-- ---- two blobs that disagree

-- Two blobs that were read disagree, the second one being that which was read before.
pub data Disagree (s : Start) (c : Caller) : BlobName → BlobName → Type 0 where
  -- the info of a listed snapshot, beside the root
  InfoBeside : (n : ℕ) (root : RootData) (snap : RootSnap) (info : SnapInfo) → ReadAs s c (Root n) (formats_of s).root root → Has root.snapshots snap → ReadAs s c (Snap snap.uuid) (formats_of s).info info → (Agrees root snap info → ⊥)
      → Disagree s c (Snap snap.uuid) (Root n)
  -- its metadata, beside its info
  GlobalBeside : (uuid : ℕ) (info : SnapInfo) (meta : GlobalMeta) → ReadAs s c (Snap uuid) (formats_of s).info info → ReadAs s c (Meta uuid) (formats_of s).global meta → (meta ≡ global_of info → ⊥)
      → Disagree s c (Meta uuid) (Snap uuid)
  IndexMetaBeside : (uuid : ℕ) (info : SnapInfo) (r : IndexRef) (meta : IndexMetadata) → ReadAs s c (Snap uuid) (formats_of s).info info → Has info.indices r → ReadAs s c (IndexMeta r.id uuid) (formats_of s).index_meta meta
      → (meta ≡ record { index = r; uuid = uuid } → ⊥) → Disagree s c (IndexMeta r.id uuid) (Snap uuid)
  -- the index of a shard that its info has, beside its info: it doesn't list the snapshot
  IndexBeside : (uuid : ℕ) (info : SnapInfo) (r : IndexRef) (index shard generation : ℕ) (held : ShardFiles) → ReadAs s c (Snap uuid) (formats_of s).info info → Has info.indices r → r.id ≡ index → shard < r.shards
      → ReadAs s c (ShardIndex index shard generation) (formats_of s).shard_index held → (IsListOf held uuid → ⊥) → Disagree s c (ShardIndex index shard generation) (Snap uuid)
  -- what the snapshot has of a shard of its info, beside the index of the shard: other files are listed
  SnapBeside : (uuid : ℕ) (info : SnapInfo) (r : IndexRef) (index shard generation : ℕ) (held : ShardFiles) (snap : ShardSnapshot) → ReadAs s c (Snap uuid) (formats_of s).info info → Has info.indices r → r.id ≡ index → shard < r.shards
      → ReadAs s c (ShardIndex index shard generation) (formats_of s).shard_index held → ReadAs s c (ShardSnap index shard uuid) (formats_of s).shard_snap snap → (Lists held uuid snap.files → ⊥)
      → Disagree s c (ShardSnap index shard uuid) (ShardIndex index shard generation)
  -- a file of the stated print, beside the index of its shard: its parts are cut otherwise
  FileBeside : (name : BlobName) (fronts : List Bytes) (file : HasReadFile s c name fronts) → length (concat fronts) ≡ file.e.len → (formats_of s).digest (concat fronts) ≡ file.e.digest
      → (AreExact file.index file.shard file.e fronts → ⊥) → Disagree s c name (ShardIndex file.index file.shard file.generation)

-- ---- by its cause

abbrev pub IsShownBy : {S F H T : Type 0} → Evidence S F H T → Start → List Moment → Caller → Why → By S F H T → Type 0
IsShownBy e s fetches c OfDepot b = FetchShown e s ((name : BlobName) × HadFetchIn fetches name (Refused DepotFault)) b
IsShownBy e s fetches c (OfAbsence name) b = ReadShown b (HadFetchIn fetches name WasAbsent)
IsShownBy e s fetches c (OfUnreadable name reason) b = ReadShown b (DoesNotRead s c name reason)
IsShownBy e s fetches c (OfPrint name stated_len stated_digest found_len found_digest) b = ReadShown b (IsMisprinted s c name stated_len stated_digest found_len found_digest)
IsShownBy e s fetches c (OfDisagreement name other) b = ReadShown b (Disagree s c name other)
-- the others are of snapshots, restores and verifications
IsShownBy e s fetches c why b = ⊥

-- A check is open, begun by a look after which there are fetches alone, and its failure is shown: an object that failed, or a fetch; or a
-- reached blob was absent, or doesn't read for this reason; or a file has another print than is stated; or two blobs disagree.
pub record IsCheckShown {S F H T : Type 0} (e : Evidence S F H T) (s : Start) (log : List Moment) (who : ℕ) (why : Why) (b : By S F H T) : Type 0 where
  pub client : who ≡ 0
  pub is_open : IsChecking (world_of s log)
  pub since : SinceLook log
  pub shown : IsShownBy e s since.fetches (caller_of s log) why b
