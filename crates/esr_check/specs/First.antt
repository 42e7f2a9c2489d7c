-- Which blob a failed check names: in the order in which a check reads, the first that is damaged. All before it were read and agree.
use Rattle.std.specs.Prelude.{◌≡◌, ◌<◌, ℕ, suc, List, ◌∷◌, ◌++◌, Option, Some}
use Rattle.esr_model.specs.Names.{BlobName, Root, Snap, Meta, IndexMeta, ShardSnap, ShardIndex, File, Part}
use Rattle.esr_model.specs.Values.{Has, IndexRef, RootSnap, RootIndex, RootData, SnapInfo, FileEntry, SnapList, ShardFiles}
use Rattle.esr_model.specs.Image.{at_shard, global_of}
use Rattle.esr_model.specs.Parts.{part_names}
use Rattle.esr_model.specs.Agreement.{Agrees}
use Rattle.esr_core.specs.World.{Caller}
use Rattle.esr_core.specs.Allowed.{IsChecking}
use Rattle.esr_core.specs.Entry.{ReadFails, ReadStep, HasEnded, Moment, Why, OfAbsence, OfUnreadable, OfPrint, OfDisagreement}
use Rattle.esr_desk.specs.Entries.{why_of}
use Rattle.esr_desk.specs.Start.{Start, formats_of, world_of}
use Rattle.esr_desk.specs.Own.{caller_of}
use Rattle.esr_desk.specs.Check.Shown.{ReadAs}
use Rattle.esr_agreement.specs.Lists.{AreKept}
use Rattle.esr_unit.specs.declared.trouble.Trouble.{Trouble}
use Rattle.esr_unit.specs.declared.trouble.Trouble.TheVariants as troubles
use Rattle.esr_check.specs.Pieces.{HasSafe, HasMetas, HasInfosOf, HasInfos, HasHeld, HasFiles, HasLists, HasShard, HasIndices}

-- the list has this item after these
pub record IsNext {A : Type 0} (xs before : List A) (x : A) : Type 0 where
  pub after : List A
  pub is : xs ≡ before ++ x ∷ after

-- ---- what a cause names

-- a blob that was damaged; it is such a one
abbrev pub NamesOne : (BlobName → Type 0) → Why → Type 0
NamesOne P (OfAbsence name) = P name
NamesOne P (OfUnreadable name reason) = P name
NamesOne P (OfPrint name stated_len stated_digest found_len found_digest) = P name
NamesOne P (OfDisagreement name other) = P name
-- the container failed
NamesOne P why = Unit {0}

-- what was read shows that such a one is damaged; or it is no damage
abbrev pub TellsOne : {S F : Type 0} → (BlobName → Type 0) → Trouble S F → Type 0
TellsOne P (troubles.Found why) = NamesOne P (why_of why)
TellsOne P trouble = Unit {0}

-- ---- of a listed snapshot: its info, its global metadata, and the metadata of its indices

-- the metadata of an index in a snapshot: those of the indices before it agree
pub record FirstOfMetas (s : Start) (c : Caller) (uuid : ℕ) (refs : List IndexRef) (name : BlobName) : Type 0 where
  pub before : List IndexRef
  pub r : IndexRef
  pub next : IsNext refs before r
  pub agree : HasMetas s c uuid before
  pub names : name ≡ IndexMeta r.id uuid

pub data FirstOfSnap (s : Start) (c : Caller) (root : RootData) (snap : RootSnap) (name : BlobName) : Type 0 where
  AtInfo : name ≡ Snap snap.uuid → FirstOfSnap s c root snap name
  AtGlobal : (info : SnapInfo) → ReadAs s c (Snap snap.uuid) (formats_of s).info info → Agrees root snap info → name ≡ Meta snap.uuid → FirstOfSnap s c root snap name
  AtMeta : (info : SnapInfo) → ReadAs s c (Snap snap.uuid) (formats_of s).info info → Agrees root snap info → ReadAs s c (Meta snap.uuid) (formats_of s).global (global_of info)
      → FirstOfMetas s c snap.uuid info.indices name → FirstOfSnap s c root snap name

-- of the listed snapshots, in the order of the root
pub record FirstOfSnaps (s : Start) (c : Caller) (root : RootData) (name : BlobName) : Type 0 where
  pub before : List RootSnap
  pub snap : RootSnap
  pub infos : List SnapInfo
  pub next : IsNext root.snapshots before snap
  pub agree : HasInfosOf s c root before infos
  pub first : FirstOfSnap s c root snap name

-- ---- of a shard: its index, what the snapshots have of it, and its files

-- what a snapshot has of it, in the order of its index
pub record FirstOfLists (s : Start) (c : Caller) (root : RootData) (infos : List SnapInfo) (index shard : ℕ) (held : ShardFiles) (name : BlobName) : Type 0 where
  pub before : List SnapList
  pub l : SnapList
  pub next : IsNext held.snapshots before l
  pub agree : HasLists s c root infos index shard held before
  pub names : name ≡ ShardSnap index shard l.uuid

-- a part of a file, those of lower numbers being there; or the file, of which all parts are there
pub data FirstOfFile (s : Start) (c : Caller) (index shard : ℕ) (e : FileEntry) (name : BlobName) : Type 0 where
  AtPart : Has (part_names index shard e) name → ((p q : ℕ) → name ≡ Part index shard e.name p → q < p → Has c.found (Part index shard e.name q)) → FirstOfFile s c index shard e name
  AtWhole : ((part : BlobName) → Has (part_names index shard e) part → Has c.found part) → name ≡ File index shard e.name → FirstOfFile s c index shard e name

-- of its files, in the order of its index
pub record FirstOfFiles (s : Start) (c : Caller) (index shard : ℕ) (files : List FileEntry) (name : BlobName) : Type 0 where
  pub before : List FileEntry
  pub e : FileEntry
  pub next : IsNext files before e
  pub agree : HasFiles s c index shard before
  pub first : FirstOfFile s c index shard e name

pub data FirstOfShard (s : Start) (c : Caller) (root : RootData) (infos : List SnapInfo) (index shard generation : ℕ) (name : BlobName) : Type 0 where
  AtHeld : name ≡ ShardIndex index shard generation → FirstOfShard s c root infos index shard generation name
  AtList : (held : ShardFiles) → HasHeld s c index shard generation held → AreKept infos index shard held → FirstOfLists s c root infos index shard held name → FirstOfShard s c root infos index shard generation name
  AtFile : (held : ShardFiles) → HasHeld s c index shard generation held → AreKept infos index shard held → HasLists s c root infos index shard held held.snapshots → FirstOfFiles s c index shard held.files name
      → FirstOfShard s c root infos index shard generation name

-- of a shard that has a generation
pub record FirstOfPlace (s : Start) (c : Caller) (root : RootData) (infos : List SnapInfo) (index shard : ℕ) (place : Option ℕ) (name : BlobName) : Type 0 where
  pub generation : ℕ
  pub is : place ≡ Some generation
  pub first : FirstOfShard s c root infos index shard generation name

-- of the shards of an index, by number
pub record FirstOfShards (s : Start) (c : Caller) (root : RootData) (infos : List SnapInfo) (x : RootIndex) (name : BlobName) : Type 0 where
  pub shard : ℕ
  pub agree : (k generation : ℕ) → k < shard → at_shard x.generations k ≡ Some generation → HasShard s c root infos x.id k generation
  pub first : FirstOfPlace s c root infos x.id shard (at_shard x.generations shard) name

-- of the indices, in the order of the root
pub record FirstOfIndices (s : Start) (c : Caller) (root : RootData) (infos : List SnapInfo) (name : BlobName) : Type 0 where
  pub before : List RootIndex
  pub x : RootIndex
  pub next : IsNext root.indices before x
  pub agree : HasIndices s c root infos before
  pub first : FirstOfShards s c root infos x name

-- ---- of all

-- the safe root; or a blob of the listed snapshots; or, where these all agree, one of the shards
pub data FirstOf (s : Start) (log : List Moment) (name : BlobName) : Type 0 where
  AtRoot : (n : ℕ) → (world_of s log).safe ≡ suc n → name ≡ Root n → FirstOf s log name
  AtSnap : (root : RootData) → HasSafe s log root → FirstOfSnaps s (caller_of s log) root name → FirstOf s log name
  AtShard : (root : RootData) (infos : List SnapInfo) → HasSafe s log root → HasInfos s (caller_of s log) root infos → FirstOfIndices s (caller_of s log) root infos name → FirstOf s log name

-- each check that failed names the first blob that is damaged
abbrev pub AreFirst : Start → List Moment → Type 0
AreFirst s log = (front back : List Moment) (m : Moment) (why : Why) → log ≡ front ++ m ∷ back → m.entry.who ≡ 0 → m.entry.step ≡ ReadStep (ReadFails why) → m.entry.reply ≡ HasEnded → IsChecking (world_of s front)
    → NamesOne (FirstOf s front) why
