-- The steps of units by readiness, and the law's turns: what each asks, and the world that it leaves.
use Rattle.std.specs.Prelude.{◌≡◌, ◌≢◌, Bool, ℕ, suc, ◌+◌, ◌<◌, ◌≤◌, ◌⊎◌, true, false, List, [], ◌∷◌, ◌++◌, Option, Some, None, map, ◌==◌, if◌then◌else◌}
use Rattle.std.specs.Ordering.{nat_cmp}
use Rattle.std.specs.FinMap.{FinMap}
use Rattle.std.specs.FinMap as fin
use Rattle.esr_model.specs.Names.{BlobName, Root, Snap, ShardIndex, ShardSnap}
use Rattle.esr_model.specs.Values.{Bytes, IndexRef, RootSnap, RootIndex, RootData, SnapInfo, FileEntry, ShardFiles, ShardSnapshot, ShardResult, ReadsBack, Formats}
use Rattle.esr_model.specs.Shelf.{Command, Delete}
use Rattle.esr_model.specs.Image.{Blobs, IsStored, Has, At, Generation, Reads}
use Rattle.esr_model.specs.Delete.{Deletes, left_snaps}
use Rattle.esr_model.specs.Shelf.{names_uuid}
use Rattle.esr_model.specs.Kept.{first_id, IdsBelow}
use Rattle.esr_model.specs.Cleanup.{BlobSize}
use Rattle.esr_model.specs.Finalize.{finalized_root}
use Rattle.esr_model.specs.Reach.{Reached}
use Rattle.esr_model.specs.Places.{places}
use Rattle.esr_core.specs.Generations.{OpTexts, Together, AreFilesOf, AreIndicesBy}
use Rattle.esr_core.specs.Swaps.{SwapShape}
use Rattle.esr_core.specs.World.{World, Ticket, Op, Deletion, ShardWork, ShardState, Pending, Out, Done, GivenUp, ReadState, RestoreShard, Restoring, Reader, Caller, Shard, Finalize, Deleting, Drop, Swap, marked, info_of, HeldIn}
use Rattle.esr_core.specs.Ready.{IsShard, IsMaster, ReadyShard, ReadyFinalize, ReadyDrop, ReadyDelete, ReadyCleanup, ReadyRestore}
use Rattle.esr_core.specs.Entry.{Entry}
use Rattle.esr_core.specs.Restores.{IsTestOf, AreApart, IsReading, ListsPiece, waits, restore_opened, shard_handed, more_read, shard_ended}
use Rattle.esr_core.specs.Queue.{Lists}
use Rattle.esr_core.specs.Pruning.{IsPlanned, dooms}
use Rattle.esr_core.specs.Steps.{IsOut, Largest, given, plain_ticket, shard_ticket, final_ticket, completing, settled, MaySettle, CommitDone, CommitFault, CommitExists, Raise, Elect, TryLatest, FetchFound, Drew, ExtendsBase, Ends, Removes, Remove, ListMore}

-- take: the four kinds of unit
pub record TakeReadyShard (w : World) (o : ℕ) (op : Op) (s : ShardWork) (base : Option ℕ) (new : World) : Type 0 where
  pub ready : ReadyShard w o op s
  pub largest : Largest w s.ref.id s.number base
  pub new_is : new ≡ record w { ops = fin.insert w.ops o (record op { shards = map (given w.next_ticket s.ref.id s.number) op.shards }); tickets = fin.insert w.tickets w.next_ticket (shard_ticket w o op s base); next_ticket = suc w.next_ticket }

pub record TakeReadyFinal (f : Formats) (w : World) (o : ℕ) (op : Op) (results : List ShardResult) (new : World) : Type 0 where
  pub ready : ReadyFinalize w o op results
  -- its root can be written
  pub root_back : ReadsBack f.root (finalized_root w.root (info_of op results) results)
  pub new_is : new ≡ record w { tickets = fin.insert w.tickets w.next_ticket (final_ticket f w o op results); next_ticket = suc w.next_ticket }

-- of a cleanup, which names none
abbrev pub cleaning_ticket : World → ℕ → Ticket
cleaning_ticket w o = record (plain_ticket w o (Deleting [] None)) { clean = true }

pub record TakeDrop (w : World) (o : ℕ) (new : World) : Type 0 where
  pub ready : ReadyDrop w o
  pub new_is : new ≡ record w { tickets = fin.insert w.tickets w.next_ticket (plain_ticket w o Drop); next_ticket = suc w.next_ticket }

pub record TakeDelete (w : World) (d : ℕ) (x : Deletion) (new : World) : Type 0 where
  pub ready : ReadyDelete w d x
  pub new_is : new ≡ record w { tickets = fin.insert w.tickets w.next_ticket (plain_ticket w d (Deleting x.uuids None)); next_ticket = suc w.next_ticket }

pub record TakeCleanup (w : World) (d : ℕ) (x : Deletion) (new : World) : Type 0 where
  pub ready : ReadyCleanup w d x
  pub new_is : new ≡ record w { tickets = fin.insert w.tickets w.next_ticket (cleaning_ticket w d); next_ticket = suc w.next_ticket }

-- draw: of a shard unit, and of a delete, which makes its swap with it
pub record DrawShard (w : World) (k n : ℕ) (new : World) : Type 0 where
  pub t : Ticket
  pub out : IsOut w k t
  pub shard : IsShard t.work
  pub once : t.drawn ≡ 0
  -- the term has so many ids left
  pub fits : w.next_id + n < first_id (suc w.term)
  pub new_is : new ≡ record w { next_id = w.next_id + n; tickets = fin.insert w.tickets k (record t { first = w.next_id; drawn = n }) }

-- the root without some snapshots, as far as names and ids go
pub record Without (root : RootData) (uuids : List ℕ) (fresh : ℕ → ℕ → Option (Option ℕ)) (new : RootData) : Type 0 where
  pub snapshots : new.snapshots ≡ left_snaps uuids root.snapshots
  pub from : (y : RootIndex) → Has new.indices y → (x : RootIndex) × Has root.indices x × (x.name ≡ y.name) × (x.id ≡ y.id) × ((u : ℕ) → Has y.snapshots u → Has x.snapshots u)
  pub generations : (i k g : ℕ) → Generation new i k g → Generation root i k g ⊎ (fresh i k ≡ Some (Some g))

pub record DrawPlan (f : Formats) (w : World) (k n : ℕ) (new : World) : Type 0 where
  pub t : Ticket
  pub out : IsOut w k t
  pub named : List ℕ
  pub work : t.work ≡ Deleting named None
  -- a delete prunes what it names, and what isn't listed; a cleanup what isn't listed, and has no command
  pub uuids : List ℕ
  pub commands : List Command
  pub prunes : ((t.clean ≡ false) × ((s : RootSnap) → Has t.root.snapshots s → names_uuid uuids s.uuid ≡ names_uuid named s.uuid) × (commands ≡ Delete named ∷ []))
      ⊎ ((t.clean ≡ true) × (commands ≡ []) × ((s : RootSnap) → Has t.root.snapshots s → names_uuid uuids s.uuid ≡ false))
  pub fits : w.next_id + n < first_id (suc w.term)
  pub unsettled : t.settled ≡ false
  pub unraised : t.raised ≡ None
  pub unnoted : t.noted ≡ []
  pub root : RootData
  pub own : List (BlobName × Bytes)
  pub fresh : ℕ → ℕ → Option (Option ℕ)
  pub deletes : t.term ≡ w.term → Deletes f (HeldIn f w) t.root uuids fresh own root
  pub shape : SwapShape f (record { root = root; own = own; commands = commands })
  -- it follows from what it read
  pub planned : IsPlanned f t.clean t.root t.read w.next_id named (record { root = root; own = own; commands = commands })
  -- the new root is the old one without the snapshots, and its new generations are ids of the draw, also where the term is an older one
  pub without : Without t.root uuids fresh root
  pub fresh_drawn : (i s g : ℕ) → fresh i s ≡ Some (Some g) → (w.next_id ≤ g) × (g < w.next_id + n)
  pub own_drawn : (name : BlobName) (b : Bytes) → Has own (name, b) → (i : ℕ) × (s : ℕ) × (g : ℕ) × (name ≡ ShardIndex i s g) × (w.next_id ≤ g) × (g < w.next_id + n) × ((x : RootIndex) × Has t.root.indices x × (x.id ≡ i))
  pub new_is : new ≡ record w { next_id = w.next_id + n; tickets = fin.insert w.tickets k (record t { first = w.next_id; drawn = n; work = Deleting named (Some (record { root = root; own = own; commands = commands })) }) }

-- done, with what is there: that nothing of it is doomed follows from ids
abbrev pub InBase : Formats → (BlobName → Bytes → Type 0) → ℕ → ℕ → Option ℕ → FileEntry → Type 0
InBase f has i s None e = ⊥
InBase f has i s (Some base) e = (was : ShardFiles) × Reads has (ShardIndex i s base) f.shard_index was × Has was.files e

pub record DoneFound (f : Formats) (w : World) (k : ℕ) (r : ShardResult) (new : World) : Type 0 where
  pub t : Ticket
  pub out : IsOut w k t
  pub is : t.work ≡ Shard r.index r.shard
  pub op : Op
  pub op_there : fin.get w.ops t.op ≡ Some op
  pub drew : Drew t r.generation
  pub snap : ShardSnapshot
  pub snap_reads : Reads (At f w.blobs) (ShardSnap r.index r.shard t.uuid) f.shard_snap snap
  pub held : ShardFiles
  pub held_reads : Reads (At f w.blobs) (ShardIndex r.index r.shard r.generation) f.shard_index held
  pub extends : ExtendsBase f (At f w.blobs) r.index r.shard t.base held t.uuid snap.files
  -- each file is uploaded under an id of the draw, or one of the base
  pub reused : (e : FileEntry) → Has snap.files e → Drew t e.name ⊎ InBase f (At f w.blobs) r.index r.shard t.base e
  pub s : ShardWork
  pub s_there : Has op.shards s
  pub state : s.state ≡ Out k
  pub files : AreFilesOf f (At f w.blobs) op.source r.index r.shard snap.files
  pub new_is : new ≡ record w {
    ops = fin.insert w.ops t.op (record op { shards = map (marked k (Done r)) op.shards });
    tickets = fin.insert w.tickets k (record t { out = false });
    completed = completing w.completed t.op (map (marked k (Done r)) op.shards);
  }

-- its ids lie below the next one, and a root of this name was begun
pub record IsOfPast (w : World) (name : BlobName) : Type 0 where
  pub below : IdsBelow name w.next_id
  pub begun : (n : ℕ) → name ≡ Root n → n < w.pending

-- settle: of a finalization, and of a delete with the names that it dooms
pub record SettleFinal (f : Formats) (w : World) (k n : ℕ) (t : Ticket) (swapped : Swap) (new : World) : Type 0 where
  pub info : SnapInfo
  pub results : List ShardResult
  pub made : Command
  pub work : t.work ≡ Finalize info results made
  pub may : MaySettle f w k n t swapped
  pub present : t.term ≡ w.term
  pub new_is : new ≡ record (settled w k t n swapped.root) { deletes = fin.remove w.deletes t.op }

pub record SettleDelete (f : Formats) (w : World) (k n : ℕ) (t : Ticket) (swapped : Swap) (new : World) : Type 0 where
  pub uuids : List ℕ
  pub work : t.work ≡ Deleting uuids (Some swapped)
  pub may : MaySettle f w k n t swapped
  pub present : t.term ≡ w.term
  -- what the new root doesn't reach: of the old root's reach, or for a cleanup of all that it listed
  pub names : List BlobName
  pub cleans : Bool
  pub deletion : Deletion
  pub there : fin.get w.deletes t.op ≡ Some deletion
  pub cleans_is : deletion.clean ≡ cleans
  pub root_aside : Has names (Root n) → ⊥
  pub reach : (name : BlobName) → Has names name → Reached f (HeldIn f w) w.root name ⊎ (((m : ℕ) × (name ≡ Root m) × (w.safe ≡ suc m)) ⊎ ((cleans ≡ true) × IsOfPast w name))
  pub reach_aside : (name : BlobName) → Has names name → Reached f (HeldIn f w) swapped.root name → ⊥
  -- among them all that follows from what it read
  pub gives : (name : BlobName) → Has (dooms f t) name → Has names name
  -- a cleanup's op stays
  pub new_is : new ≡ record (settled w k t n swapped.root) { deletes = if cleans then w.deletes else fin.remove w.deletes t.op; doomed = names ++ w.doomed }

-- an op that failed or was aborted leaves
pub record Dropped (w : World) (k : ℕ) (new : World) : Type 0 where
  pub t : Ticket
  pub out : IsOut w k t
  pub work : t.work ≡ Drop
  pub present : t.term ≡ w.term
  pub new_is : new ≡ record w { ops = fin.remove w.ops t.op; deletes = fin.remove w.deletes t.op; tickets = fin.insert w.tickets k (record t { out = false }) }

-- a cleanup that settled leaves with its last removal
pub record CleanDropped (w : World) (k : ℕ) (new : World) : Type 0 where
  pub t : Ticket
  pub out : IsOut w k t
  pub uuids : List ℕ
  pub plan : Option Swap
  pub work : t.work ≡ Deleting uuids plan
  pub settled : t.settled ≡ true
  pub present : t.term ≡ w.term
  pub x : Deletion
  pub there : fin.get w.deletes t.op ≡ Some x
  pub cleans : x.clean ≡ true
  pub new_is : new ≡ record w { ops = fin.remove w.ops t.op; deletes = fin.remove w.deletes t.op; tickets = fin.insert w.tickets k (record t { out = false }) }

-- the shard that failed, and the pending ones, are given up
abbrev pub fails_by : ℕ → ShardWork → ShardState → ShardWork
fails_by k s (Out j) = if j == k then record s { state = GivenUp } else s
fails_by k s Pending = record s { state = GivenUp }
fails_by k s (Done r) = s
fails_by k s GivenUp = s

abbrev pub fails : ℕ → ShardWork → ShardWork
fails k s = fails_by k s s.state

-- failed: a shard unit of any term, or a finalization of the present one
pub record Failed (w : World) (k : ℕ) (new : World) : Type 0 where
  pub t : Ticket
  pub out : IsOut w k t
  pub unsettled : t.settled ≡ false
  pub counts : IsShard t.work ⊎ ((t.term ≡ w.term) × IsMaster t.work)
  pub op : Op
  pub op_there : fin.get w.ops t.op ≡ Some op
  pub new_is : new ≡ record w { ops = fin.insert w.ops t.op (record op { shards = map (fails k) op.shards; failed = true }); tickets = fin.insert w.tickets k (record t { out = false }) }

-- a delete before its settle, a cleanup at any time
pub record FailedDelete (w : World) (k : ℕ) (new : World) : Type 0 where
  pub t : Ticket
  pub out : IsOut w k t
  pub present : t.term ≡ w.term
  pub uuids : List ℕ
  pub plan : Option Swap
  pub work : t.work ≡ Deleting uuids plan
  pub x : Deletion
  pub there : fin.get w.deletes t.op ≡ Some x
  pub may : (t.settled ≡ false) ⊎ (x.clean ≡ true)
  pub new_is : new ≡ record w { deletes = fin.insert w.deletes t.op (record x { failed = true }); tickets = fin.insert w.tickets k (record t { out = false }) }

-- the id of an index in a new snapshot: the root's of its name, an open op's, or a new one
abbrev pub IndexId : World → ℕ → IndexRef → Type 0
IndexId w drawn r =
    ((x : RootIndex) × Has w.root.indices x × (x.name ≡ r.name) × (x.id ≡ r.id))
    ⊎ (((p : ℕ) × (q : Op) × (z : IndexRef) × (fin.get w.ops p ≡ Some q) × Has q.indices z × (z.name ≡ r.name) × (z.id ≡ r.id))
    ⊎ ((w.next_id < r.id) × (r.id < w.next_id + drawn)))

-- what its indices and uuid have to do with the others
pub record IsApart (w : World) (op : Op) : Type 0 where
  pub unlisted : (snap : RootSnap) → Has w.root.snapshots snap → snap.uuid ≢ op.uuid
  pub unused : (x : RootIndex) → Has w.root.indices x → Has x.snapshots op.uuid → ⊥
  pub same_name : (r : IndexRef) (x : RootIndex) → Has op.indices r → Has w.root.indices x → r.id ≡ x.id → r.name ≡ x.name
  pub together : (p : ℕ) (q : Op) → fin.get w.ops p ≡ Some q → Together q op × Together op q

-- ask: a snapshot or a clone
pub record AskCreate (f : Formats) (w : World) (op : Op) (new : World) : Type 0 where
  -- no cleanup is open
  pub no_cleanup : (d : ℕ) (x : Deletion) → fin.get w.deletes d ≡ Some x → x.clean ≡ false
  pub pending : (s : ShardWork) → Has op.shards s → s.state ≡ Pending
  pub unfailed : op.failed ≡ false
  -- its texts can be written
  pub texts : OpTexts f op
  pub places : map (λ (s : ShardWork). (s.ref, s.number)) op.shards ≡ places op.indices
  -- the command's names are distinct, and so are the new ids
  pub one_name : (r q : IndexRef) → Has op.indices r → Has op.indices q → r.name ≡ q.name → r ≡ q
  pub one_new : (r q : IndexRef) → Has op.indices r → Has op.indices q → w.next_id < r.id → r.id ≡ q.id → r.name ≡ q.name
  pub distinct : (s z : ShardWork) → Has op.shards s → Has op.shards z → s.ref ≡ z.ref → s.number ≡ z.number → s ≡ z
  -- a clone's source is listed, and no open delete names it
  pub source : (u : ℕ) → op.source ≡ Some u → Lists w.root u × ((d : ℕ) (x : Deletion) → fin.get w.deletes d ≡ Some x → names_uuid x.uuids u ≡ false)
  -- and has the indices, by the info that is there
  pub copies : (u : ℕ) → op.source ≡ Some u → AreIndicesBy f (At f w.blobs) u op.indices
  -- it draws its uuid, and then an id for each index whose name neither the root nor an open op has
  pub uuid_is : op.uuid ≡ w.next_id
  pub drawn : ℕ
  pub fits : w.next_id + drawn < first_id (suc w.term)
  pub some_drawn : w.next_id < w.next_id + drawn
  pub ids : (r : IndexRef) → Has op.indices r → IndexId w drawn r
  pub new_is : new ≡ record w { ops = fin.insert w.ops w.next_op op; next_op = suc w.next_op; completed = completing w.completed w.next_op op.shards; next_id = w.next_id + drawn }

-- the uuid is that of a listed snapshot, or of an open op
abbrev pub IsKnown : World → ℕ → Type 0
IsKnown w u = Lists w.root u ⊎ ((o : ℕ) × (op : Op) × (fin.get w.ops o ≡ Some op) × (op.uuid ≡ u))

-- a delete aborts some open ops: each other is as it was
pub record Aborts (ops now : FinMap nat_cmp Op) (by : ℕ) : Type 0 where
  pub was : (o : ℕ) (op : Op) → fin.get now o ≡ Some op → (old : Op) × (fin.get ops o ≡ Some old) × ((op ≡ old) ⊎ (op ≡ record old { aborted = Some by }))
  pub stays : (o : ℕ) (old : Op) → fin.get ops o ≡ Some old → (op : Op) × (fin.get now o ≡ Some op) × ((op ≡ old) ⊎ (op ≡ record old { aborted = Some by }))
  pub first : (o : ℕ) (old op : Op) (b : ℕ) → fin.get ops o ≡ Some old → fin.get now o ≡ Some op → old.aborted ≡ Some b → op ≡ old

-- no open restore reads a snapshot that these uuids name
abbrev pub SparesRestores : World → List ℕ → Type 0
SparesRestores w uuids = (o : ℕ) (r : Restoring) → fin.get w.restores o ≡ Some r → names_uuid uuids r.uuid ≡ false

-- ask: a delete that is a new op, one that is merged into a waiting one; one that joins changes nothing
pub record AskDelete (w : World) (uuids : List ℕ) (new : World) : Type 0 where
  pub no_cleanup : (d : ℕ) (x : Deletion) → fin.get w.deletes d ≡ Some x → x.clean ≡ false
  -- each is that of a listed snapshot or of an open op
  pub known : (u : ℕ) → Has uuids u → IsKnown w u
  -- no open clone copies one of them
  pub spares : (o : ℕ) (op : Op) (u : ℕ) → fin.get w.ops o ≡ Some op → op.source ≡ Some u → names_uuid uuids u ≡ false
  pub spares_restores : SparesRestores w uuids
  pub ops : FinMap nat_cmp Op
  pub aborts : Aborts w.ops ops w.next_op
  -- not one whose finalization is out
  pub unfinal : (k : ℕ) (t : Ticket) → fin.get w.tickets k ≡ Some t → t.out ≡ true → t.settled ≡ false → t.term ≡ w.term → IsMaster t.work → fin.get ops t.op ≡ fin.get w.ops t.op
  pub new_is : new ≡ record w { ops = ops; deletes = fin.insert w.deletes w.next_op (record { uuids = uuids; clean = false; failed = false }); next_op = suc w.next_op }

-- ask: a cleanup, with no other op open
pub record AskCleanup (w : World) (new : World) : Type 0 where
  pub no_op : (o : ℕ) (op : Op) → fin.get w.ops o ≡ Some op → ⊥
  pub no_delete : (d : ℕ) (x : Deletion) → fin.get w.deletes d ≡ Some x → ⊥
  pub no_ticket : (k : ℕ) (t : Ticket) → fin.get w.tickets k ≡ Some t → t.out ≡ true → ⊥
  pub new_is : new ≡ record w { deletes = fin.insert w.deletes w.next_op (record { uuids = []; clean = true; failed = false }); next_op = suc w.next_op }

pub record MergeDelete (w : World) (uuids : List ℕ) (d : ℕ) (new : World) : Type 0 where
  pub ops : FinMap nat_cmp Op
  pub aborts : Aborts w.ops ops d
  pub unfinal : (k : ℕ) (t : Ticket) → fin.get w.tickets k ≡ Some t → t.out ≡ true → t.settled ≡ false → t.term ≡ w.term → IsMaster t.work → fin.get ops t.op ≡ fin.get w.ops t.op
  pub x : Deletion
  pub there : fin.get w.deletes d ≡ Some x
  pub unfailed : x.failed ≡ false
  pub waiting : (k : ℕ) (t : Ticket) → fin.get w.tickets k ≡ Some t → t.out ≡ true → t.term ≡ w.term → t.op ≡ d → ⊥
  pub more : List ℕ
  pub known : (u : ℕ) → Has more u → IsKnown w u
  -- no open clone copies one of them
  pub spares : (o : ℕ) (op : Op) (u : ℕ) → fin.get w.ops o ≡ Some op → op.source ≡ Some u → names_uuid more u ≡ false
  pub spares_restores : SparesRestores w more
  pub new_is : new ≡ record w { ops = ops; deletes = fin.insert w.deletes d (record x { uuids = x.uuids ++ more }) }

-- ---- restores, and what who 0 reads: these steps leave all else as it is, but for the numbers of ops and tickets

-- ask: a restore of a listed snapshot, whose info is there and which no open delete names
pub record OpenRestore (f : Formats) (w : World) (uuid : ℕ) (place : Bytes) (indices : List IndexRef) (new : World) : Type 0 where
  pub listed : Lists w.root uuid
  pub spared : (d : ℕ) (x : Deletion) → fin.get w.deletes d ≡ Some x → names_uuid x.uuids uuid ≡ false
  pub info : SnapInfo
  pub info_reads : Reads (At f w.blobs) (Snap uuid) f.info info
  pub indices_is : info.indices ≡ indices
  pub apart : AreApart indices
  pub new_is : new ≡ restore_opened w uuid place indices

-- take
pub record HandShard (w : World) (o : ℕ) (r : Restoring) (s : RestoreShard) (new : World) : Type 0 where
  pub ready : ReadyRestore w o r s
  pub new_is : new ≡ shard_handed w o r s

-- a blob is fetched: the snapshot of the shard, or a piece that it lists
pub record ReadMore (f : Formats) (w : World) (k : ℕ) (name : BlobName) (bytes : Bytes) (new : World) : Type 0 where
  pub q : Reader
  pub reading : IsReading w k q
  pub there : At f w.blobs name bytes
  pub may : (name ≡ ShardSnap q.index q.number q.uuid) ⊎ ListsPiece f q name
  pub new_is : new ≡ more_read w k q name bytes

-- a shard is restored, or has failed
pub record EndShard (w : World) (k : ℕ) (state : ReadState) (new : World) : Type 0 where
  pub q : Reader
  pub reading : IsReading w k q
  pub r : Restoring
  pub there : fin.get w.restores q.op ≡ Some r
  pub over : waits state ≡ false
  pub new_is : new ≡ shard_ended w k q r state

pub data ReadTurn (f : Formats) (w : World) : World → Type 0 where
  OpensRestore : (new : World) → (uuid : ℕ) (place : Bytes) (indices : List IndexRef) → OpenRestore f w uuid place indices new → ReadTurn f w new
  HandsShard : (new : World) → (o : ℕ) (r : Restoring) (s : RestoreShard) → HandShard w o r s new → ReadTurn f w new
  ReadsMore : (new : World) → (k : ℕ) (name : BlobName) (bytes : Bytes) → ReadMore f w k name bytes new → ReadTurn f w new
  EndsShard : (new : World) → (k : ℕ) (state : ReadState) → EndShard w k state new → ReadTurn f w new
  -- what was done so far
  Calls : (new : World) → (caller : Caller) (entries : List Entry) → new ≡ record w { caller = caller; entries = entries } → ReadTurn f w new

-- ---- a verification of the container

-- an id is drawn
pub record DrawTest (w : World) (new : World) : Type 0 where
  pub fits : suc w.next_id < first_id (suc w.term)
  pub new_is : new ≡ record w { next_id = suc w.next_id }

-- a test blob is added under an id that was drawn: it may be removed from then on
pub record AddTest (f : Formats) (w : World) (name : BlobName) (bytes : Bytes) (new : World) : Type 0 where
  pub named : IsStored f name
  pub id : ℕ
  pub test : IsTestOf id name
  pub drawn : id < w.next_id
  pub absent : fin.get w.blobs (f.names.text name) ≡ None
  pub new_is : new ≡ record w { blobs = fin.insert w.blobs (f.names.text name) bytes; doomed = name ∷ w.doomed }

-- test blobs are removed
pub record RemoveTests (f : Formats) (w : World) (names : List BlobName) (new : World) : Type 0 where
  pub doomed : (name : BlobName) → Has names name → Has w.doomed name
  pub now : Blobs
  pub removes : Removes f w.blobs now names
  pub new_is : new ≡ record w { blobs = now }

pub data TestTurn (f : Formats) (w : World) : World → Type 0 where
  DrawsTest : (new : World) → DrawTest w new → TestTurn f w new
  AddsTest : (new : World) → (name : BlobName) (bytes : Bytes) → AddTest f w name bytes new → TestTurn f w new
  RemovesTests : (new : World) → (names : List BlobName) → RemoveTests f w names new → TestTurn f w new

-- the steps that change the world, where they are answered Ok or the container fails in them; any other leaves it
pub data Turn (f : Formats) (w : World) : World → Type 0 where
  Stays : (new : World) → new ≡ w → Turn f w new
  Commits : (new : World) → (k : ℕ) (name : BlobName) → CommitDone f w k name new → Turn f w new
  CommitFails : (new : World) → (k : ℕ) (name : BlobName) → CommitFault f w k name new → Turn f w new
  Finds : (new : World) → (k : ℕ) (name : BlobName) → CommitExists f w k name new → Turn f w new
  Raises : (new : World) → (k : ℕ) → Raise f w k new → Turn f w new
  Latests : (new : World) → (k : ℕ) → TryLatest f w k new → Turn f w new
  Fetches : (new : World) → (k : ℕ) (name : BlobName) → FetchFound f w k name new → Turn f w new
  SettlesFinal : (new : World) → (k n : ℕ) (t : Ticket) (s : Swap) → SettleFinal f w k n t s new → Turn f w new
  SettlesDelete : (new : World) → (k n : ℕ) (t : Ticket) (s : Swap) → SettleDelete f w k n t s new → Turn f w new
  Elects : (new : World) → Elect w new → Turn f w new
  TakesShard : (new : World) → (o : ℕ) (op : Op) (s : ShardWork) (base : Option ℕ) → TakeReadyShard w o op s base new → Turn f w new
  TakesFinal : (new : World) → (o : ℕ) (op : Op) (results : List ShardResult) → TakeReadyFinal f w o op results new → Turn f w new
  TakesDrop : (new : World) → (o : ℕ) → TakeDrop w o new → Turn f w new
  TakesDelete : (new : World) → (d : ℕ) (x : Deletion) → TakeDelete w d x new → Turn f w new
  DrawsShard : (new : World) → (k n : ℕ) → DrawShard w k n new → Turn f w new
  DrawsPlan : (new : World) → (k n : ℕ) → DrawPlan f w k n new → Turn f w new
  Dones : (new : World) → (k : ℕ) (r : ShardResult) → DoneFound f w k r new → Turn f w new
  Ending : (new : World) → (k : ℕ) → Ends w k new → Turn f w new
  Fails : (new : World) → (k : ℕ) → Failed w k new → Turn f w new
  FailsDelete : (new : World) → (k : ℕ) → FailedDelete w k new → Turn f w new
  Drops : (new : World) → (k : ℕ) → Dropped w k new → Turn f w new
  TakesCleanup : (new : World) → (d : ℕ) (x : Deletion) → TakeCleanup w d x new → Turn f w new
  AsksCleanup : (new : World) → AskCleanup w new → Turn f w new
  CleanDrops : (new : World) → (k : ℕ) → CleanDropped w k new → Turn f w new
  AsksCreate : (new : World) → (op : Op) → AskCreate f w op new → Turn f w new
  AsksDelete : (new : World) → (uuids : List ℕ) → AskDelete w uuids new → Turn f w new
  Merges : (new : World) → (uuids : List ℕ) (d : ℕ) → MergeDelete w uuids d new → Turn f w new
  Removing : (new : World) → (k : ℕ) (names : List BlobName) → Remove f w k names new → Turn f w new
  Pages : (new : World) → (k : ℕ) (page : List BlobSize) → ListMore w k page new → Turn f w new
  -- a record swap that failed leaves the world as before, or as where Ok, and deposed
  Deposes : (new up : World) → Turn f w up → new ≡ record up { deposed = true } → Turn f w new
  Tests : (new : World) → TestTurn f w new → Turn f w new
  -- and then something is read
  Besides : (new up : World) → Turn f w up → ReadTurn f up new → Turn f w new

-- the commands of the settles that stand
abbrev pub commands_of : (f : Formats) (w new : World) → Turn f w new → List Command
commands_of f w new (SettlesFinal m k n t s h) = s.commands
commands_of f w new (SettlesDelete m k n t s h) = s.commands
commands_of f w new (Deposes m up h e) = commands_of f w up h
commands_of f w new (Besides m up h e) = commands_of f w up h
commands_of f w new (Tests m h) = []
commands_of f w new (Stays m e) = []
commands_of f w new (Commits m k name h) = []
commands_of f w new (CommitFails m k name h) = []
commands_of f w new (Finds m k name h) = []
commands_of f w new (Raises m k h) = []
commands_of f w new (Latests m k h) = []
commands_of f w new (Fetches m k name h) = []
commands_of f w new (Elects m h) = []
commands_of f w new (TakesShard m o op s base h) = []
commands_of f w new (TakesFinal m o op results h) = []
commands_of f w new (TakesDrop m o h) = []
commands_of f w new (TakesDelete m d x h) = []
commands_of f w new (DrawsShard m k n h) = []
commands_of f w new (DrawsPlan m k n h) = []
commands_of f w new (Dones m k r h) = []
commands_of f w new (Ending m k h) = []
commands_of f w new (Fails m k h) = []
commands_of f w new (FailsDelete m k h) = []
commands_of f w new (Drops m k h) = []
commands_of f w new (TakesCleanup m d x h) = []
commands_of f w new (AsksCleanup m h) = []
commands_of f w new (CleanDrops m k h) = []
commands_of f w new (AsksCreate m op h) = []
commands_of f w new (AsksDelete m uuids h) = []
commands_of f w new (Merges m uuids d h) = []
commands_of f w new (Removing m k names h) = []
commands_of f w new (Pages m k page h) = []

-- a list of turns, each from a world that isn't deposed
pub data Turns (f : Formats) (w : World) : World → List Command → Type 0 where
  NoTurn : Turns f w w []
  OneMore : (mid new : World) (cs : List Command) → Turns f w mid cs → mid.deposed ≡ false → (turn : Turn f mid new) → Turns f w new (cs ++ commands_of f mid new turn)
