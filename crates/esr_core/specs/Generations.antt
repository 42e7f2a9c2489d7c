-- What holds of shards, their generations and the open ops.
use Rattle.std.specs.Prelude.{◌≡◌, ◌≢◌, ℕ, ◌+◌, ◌^◌, ◌<◌, ◌≤◌, ◌⊎◌, true, false, List, Option, Some, None, map}
use Rattle.std.specs.Ordering.{nat_cmp}
use Rattle.std.specs.FinMap.{FinMap}
use Rattle.std.specs.FinMap as fin
use Rattle.esr_model.specs.Names.{BlobName, Snap, ShardSnap, ShardIndex}
use Rattle.esr_model.specs.Values.{Bytes, IndexRef, RootSnap, RootIndex, RootData, SnapInfo, FileEntry, ShardSnapshot, SnapList, ShardFiles, ShardResult, ReadsBack, Formats}
use Rattle.esr_model.specs.Shelf.{Command}
use Rattle.esr_model.specs.Places.{places, shelf_places}
use Rattle.esr_model.specs.Image.{Blobs, Has, AllPairs, RootIs, Reads, Generation, ListsAs, IndexStands, FileStands}
use Rattle.esr_core.specs.World.{Op, ShardWork, Ticket, Swap, Shard, Finalize, Deleting, Done, Out, AllDone, info_of, made_of}
use Rattle.esr_core.specs.Restores.{AreOnce, AreApart}

-- an open op has done the shard at this generation
pub record DoneAt (ops : FinMap nat_cmp Op) (uuid index shard generation : ℕ) : Type 0 where
  pub number : ℕ
  pub op : Op
  pub there : fin.get ops number ≡ Some op
  pub uuid_is : op.uuid ≡ uuid
  pub s : ShardWork
  pub s_there : Has op.shards s
  pub r : ShardResult
  pub state : s.state ≡ Done r
  pub index_is : s.ref.id ≡ index
  pub shard_is : s.number ≡ shard
  pub generation_is : r.generation ≡ generation

-- the safe root has the generation, or an open op
abbrev pub IsLive : RootData → FinMap nat_cmp Op → ℕ → ℕ → ℕ → Type 0
IsLive root ops index shard generation = Generation root index shard generation ⊎ ((uuid : ℕ) × DoneAt ops uuid index shard generation)

-- the snapshot has the shard, by its info
pub record IsOfShard (f : Formats) (has : BlobName → Bytes → Type 0) (uuid index shard : ℕ) : Type 0 where
  pub info : SnapInfo
  pub info_reads : Reads has (Snap uuid) f.info info
  pub place : IndexRef × ℕ
  pub there : Has (shelf_places info.indices) place
  pub index_is : place.0.id ≡ index
  pub shard_is : place.1 ≡ shard

-- the op has the shard
abbrev pub HasShard : Op → ℕ → ℕ → Type 0
HasShard op index shard = (s : ShardWork) × Has op.shards s × (s.ref.id ≡ index) × (s.number ≡ shard)

-- of the open ops an index of a shard lists such alone as have the shard
abbrev pub ListsOwn : FinMap nat_cmp Op → ℕ → ℕ → ShardFiles → Type 0
ListsOwn ops index shard held = (l : SnapList) → Has held.snapshots l → (o : ℕ) (op : Op) → fin.get ops o ≡ Some op → op.uuid ≡ l.uuid → HasShard op index shard

-- so does the index of the shard under this generation
abbrev pub IsOwn : Formats → (BlobName → Bytes → Type 0) → FinMap nat_cmp Op → ℕ → ℕ → ℕ → Type 0
IsOwn f has ops index shard generation = (held : ShardFiles) → Reads has (ShardIndex index shard generation) f.shard_index held → ListsOwn ops index shard held

-- the generation of the shard serves each open op that is done at none above it and, where it isn't below the root's, each listed snapshot (the order law)
pub record Carries (f : Formats) (has : BlobName → Bytes → Type 0) (root : RootData) (ops : FinMap nat_cmp Op) (index shard generation : ℕ) : Type 0 where
  pub stands : IndexStands f has root index shard generation
  pub own : IsOwn f has ops index shard generation
  pub done : (uuid g : ℕ) → DoneAt ops uuid index shard g → g ≤ generation → ListsAs f has index shard generation uuid
  pub listed : ((g : ℕ) → Generation root index shard g → g ≤ generation) → (snap : RootSnap) → Has root.snapshots snap → IsOfShard f has snap.uuid index shard
      → ListsAs f has index shard generation snap.uuid

-- the files of a shard: each stands, or of a clone they are those that another snapshot has of it
abbrev pub AreFilesOf : Formats → (BlobName → Bytes → Type 0) → Option ℕ → ℕ → ℕ → List FileEntry → Type 0
AreFilesOf f has None index shard files = (stored : List (Bytes × Bytes)) × AllPairs (λ (e : FileEntry) (file : Bytes × Bytes). (e.physical ≡ file.0) × FileStands f has index shard e file.1) files stored
AreFilesOf f has (Some source) index shard files = (was : ShardSnapshot) × Reads has (ShardSnap index shard source) f.shard_snap was × (was.files ≡ files)

-- a done shard of an op that copies this snapshot, or none
pub record DoneStands (f : Formats) (has : BlobName → Bytes → Type 0) (source : Option ℕ) (uuid : ℕ) (s : ShardWork) (r : ShardResult) : Type 0 where
  pub index_is : r.index ≡ s.ref.id
  pub shard_is : r.shard ≡ s.number
  pub snap : ShardSnapshot
  pub snap_reads : Reads has (ShardSnap s.ref.id s.number uuid) f.shard_snap snap
  pub files : AreFilesOf f has source s.ref.id s.number snap.files

-- what a finalization of the op writes beside the root reads back, whatever its sums
pub record WritesBack (f : Formats) (name : Bytes) (uuid moment : ℕ) (indices : List IndexRef) : Type 0 where
  pub info : (files bytes : ℕ) → files < 2 ^ 63 → bytes < 2 ^ 63 → ReadsBack f.info (record { name = name; uuid = uuid; state = 1; moment = moment; indices = indices; files = files; bytes = bytes })
  pub global : ReadsBack f.global (record { name = name; uuid = uuid; moment = moment })
  pub index : (r : IndexRef) → Has indices r → ReadsBack f.index_meta (record { index = r; uuid = uuid })

abbrev pub OpTexts : Formats → Op → Type 0
OpTexts f op = WritesBack f op.name op.uuid op.moment op.indices

-- an index is told by its name
abbrev pub AreNamedOnce : List IndexRef → Type 0
AreNamedOnce refs = (r q : IndexRef) → Has refs r → Has refs q → r.name ≡ q.name → r ≡ q

-- these are indices of the snapshot, by its info, each once
pub record AreIndicesBy (f : Formats) (has : BlobName → Bytes → Type 0) (source : ℕ) (indices : List IndexRef) : Type 0 where
  pub info : SnapInfo
  pub info_reads : Reads has (Snap source) f.info info
  pub apart : AreApart info.indices
  pub named_once : AreNamedOnce info.indices
  pub among : (r : IndexRef) → Has indices r → Has info.indices r
  pub once : AreOnce indices

-- the snapshot that a clone of these indices copies is listed, and has them
pub record CopiesFrom (f : Formats) (has : BlobName → Bytes → Type 0) (root : RootData) (source : ℕ) (indices : List IndexRef) : Type 0 where
  pub listed : (z : RootSnap) × Has root.snapshots z × (z.uuid ≡ source)
  pub by_info : AreIndicesBy f has source indices

-- what holds of an open op
pub record OpLaw (f : Formats) (has : BlobName → Bytes → Type 0) (root : RootData) (op : Op) : Type 0 where
  -- its texts can be written
  pub texts : OpTexts f op
  pub places : map (λ (s : ShardWork). (s.ref, s.number)) op.shards ≡ places op.indices
  pub done : (s : ShardWork) (r : ShardResult) → Has op.shards s → s.state ≡ Done r → DoneStands f has op.source op.uuid s r
  pub copies : (u : ℕ) → op.source ≡ Some u → CopiesFrom f has root u op.indices
  -- its uuid is new
  pub unlisted : (snap : RootSnap) → Has root.snapshots snap → snap.uuid ≢ op.uuid
  pub unused : (x : RootIndex) → Has root.indices x → Has x.snapshots op.uuid → ⊥
  -- one id to each index name, its own
  pub one_id : (r q : IndexRef) → Has op.indices r → Has op.indices q → r.id ≡ q.id → r ≡ q
  pub distinct : (s z : ShardWork) → Has op.shards s → Has op.shards z → s.ref.id ≡ z.ref.id → s.number ≡ z.number → s ≡ z
  pub same_name : (r : IndexRef) (x : RootIndex) → Has op.indices r → Has root.indices x → r.id ≡ x.id → r.name ≡ x.name

-- what holds of two open ops: one id to each index name, and uuids of their own
pub record Together (a b : Op) : Type 0 where
  pub uuids : a.uuid ≢ b.uuid
  pub same_name : (r q : IndexRef) → Has a.indices r → Has b.indices q → r.id ≡ q.id → r.name ≡ q.name

-- what holds of a base: no live generation of the shard is above it; without one there is none
abbrev pub Base : Formats → (BlobName → Bytes → Type 0) → RootData → FinMap nat_cmp Op → ℕ → ℕ → Option ℕ → Type 0
Base f has root ops index shard None = (g : ℕ) → IsLive root ops index shard g → ⊥
Base f has root ops index shard (Some base) = ((g : ℕ) → IsLive root ops index shard g → g ≤ base) × Carries f has root ops index shard base

-- an id that the ticket drew lies above its base
abbrev pub BaseBelow : Option ℕ → ℕ → Type 0
BaseBelow None id = Unit {0}
BaseBelow (Some base) id = base < id

-- what holds of a shard ticket that is out
pub record ShardLaw (f : Formats) (has : BlobName → Bytes → Type 0) (root : RootData) (ops : FinMap nat_cmp Op) (k : ℕ) (t : Ticket) (index shard : ℕ) : Type 0 where
  pub op : Op
  pub op_there : fin.get ops t.op ≡ Some op
  pub uuid_is : op.uuid ≡ t.uuid
  pub source_is : t.source ≡ op.source
  pub s : ShardWork
  pub s_there : Has op.shards s
  pub state : s.state ≡ Out k
  pub index_is : s.ref.id ≡ index
  pub shard_is : s.number ≡ shard
  pub base : Base f has root ops index shard t.base
  pub ids : (id : ℕ) → t.first ≤ id → id < t.first + t.drawn → (t.uuid < id) × BaseBelow t.base id

-- what holds of the finalization of the present term
pub record FinalLaw (f : Formats) (root : RootData) (ops : FinMap nat_cmp Op) (t : Ticket) (info : SnapInfo) (results : List ShardResult) (made : Command) : Type 0 where
  pub op : Op
  pub op_there : fin.get ops t.op ≡ Some op
  pub done : AllDone op.shards results
  pub info_is : info ≡ info_of op results
  -- of what was stored when it was given
  pub made_is : (blobs : Blobs) × (made ≡ made_of f blobs op)
  pub root_is : t.root ≡ root

-- one of the indices of shards that a delete or cleanup writes
pub record IsNewIndex (f : Formats) (ops : FinMap nat_cmp Op) (own : List (BlobName × Bytes)) (index shard generation : ℕ) : Type 0 where
  pub index_of : ShardFiles
  pub there : Has own (ShardIndex index shard generation, f.shard_index.text index_of)
  pub back : ReadsBack f.shard_index index_of
  pub below : (l : SnapList) → Has index_of.snapshots l → l.uuid < generation
  pub lists : ListsOwn ops index shard index_of

-- each index of a shard that its root has is one of the safe root, or one that it writes
abbrev pub PlanLaw : Formats → RootData → FinMap nat_cmp Op → Swap → Type 0
PlanLaw f root ops s = (index shard g : ℕ) → Generation s.root index shard g → Generation root index shard g ⊎ IsNewIndex f ops s.own index shard g

-- the ticket holds the shard of the op
pub record IsHeldBy (tickets : FinMap nat_cmp Ticket) (o : ℕ) (s : ShardWork) (k : ℕ) : Type 0 where
  pub t : Ticket
  pub there : fin.get tickets k ≡ Some t
  pub out : t.out ≡ true
  pub op_is : t.op ≡ o
  pub work : t.work ≡ Shard s.ref.id s.number

-- what holds of the safe root, the open ops and the tickets for their shards
pub record Carried (f : Formats) (has : BlobName → Bytes → Type 0) (safe term : ℕ) (root : RootData) (open_ops : FinMap nat_cmp Op) (tickets : FinMap nat_cmp Ticket) : Type 0 where
  pub root_is : RootIs f has safe root
  pub ops : (o : ℕ) (op : Op) → fin.get open_ops o ≡ Some op → OpLaw f has root op
  pub together : (o p : ℕ) (a b : Op) → o ≢ p → fin.get open_ops o ≡ Some a → fin.get open_ops p ≡ Some b → Together a b
  pub carries : (index shard g : ℕ) → IsLive root open_ops index shard g → Carries f has root open_ops index shard g
  pub shards : (k : ℕ) (t : Ticket) → fin.get tickets k ≡ Some t → t.out ≡ true → (index shard : ℕ) → t.work ≡ Shard index shard → ShardLaw f has root open_ops k t index shard
  -- one ticket at most is out for a shard
  pub one_shard : (j k : ℕ) (t u : Ticket) → fin.get tickets j ≡ Some t → fin.get tickets k ≡ Some u → t.out ≡ true → u.out ≡ true
      → (index shard : ℕ) → t.work ≡ Shard index shard → u.work ≡ Shard index shard → j ≡ k
  pub finals : (k : ℕ) (t : Ticket) → fin.get tickets k ≡ Some t → t.out ≡ true → t.settled ≡ false → t.term ≡ term
      → (info : SnapInfo) (results : List ShardResult) (made : Command) → t.work ≡ Finalize info results made → FinalLaw f root open_ops t info results made
  pub held : (o : ℕ) (op : Op) (s : ShardWork) (k : ℕ) → fin.get open_ops o ≡ Some op → Has op.shards s → s.state ≡ Out k → IsHeldBy tickets o s k
  -- of a delete or cleanup of the present term that has drawn
  pub plans : (k : ℕ) (t : Ticket) → fin.get tickets k ≡ Some t → t.out ≡ true → t.settled ≡ false → t.term ≡ term → (uuids : List ℕ) (s : Swap) → t.work ≡ Deleting uuids (Some s) → PlanLaw f root open_ops s
