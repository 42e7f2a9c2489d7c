-- What each step asks of the world before it, by its answer.
use Rattle.std.specs.Prelude.{◌≡◌, ◌≢◌, ◌⊎◌, ℕ, zero, suc, ◌+◌, ◌-◌, ◌^◌, ◌<◌, ◌≤◌, true, false, List, [], ◌∷◌, length, ◌++◌, sum_by, min, Option, Some, None}
use Rattle.std.specs.FinMap as fin
use Rattle.esr_model.specs.Names.{BlobName, Root, Latest, Snap, ShardSnap, ShardIndex, File, Part, TestMaster, TestNode}
use Rattle.esr_model.specs.Parts.{part_count}
use Rattle.esr_model.specs.Values.{Bytes, Has, IndexRef, RootSnap, RootIndex, RootData, SnapInfo, FileEntry, ShardSnapshot, ShardFiles, ShardResult, ReadsBack, IsOneEach, Formats, files_told}
use Rattle.esr_model.specs.Shelf.{Command, names_uuid}
use Rattle.esr_model.specs.Delete.{PrunedShard, kept_count, deleted_root}
use Rattle.esr_model.specs.Kept.{first_id}
use Rattle.esr_model.specs.Cleanup.{BlobSize, last_text, IsPage, IsPageOf}
use Rattle.esr_model.specs.Finalize.{finalized_root}
use Rattle.esr_model.specs.Image.{Blobs, Image, AllPairs, IsStored, At, Present, Reads, FileStands, Generation}
use Rattle.esr_model.specs.Agreement.{RootAgrees}
use Rattle.esr_model.specs.Reach.{Reached}
use Rattle.esr_model.specs.Uploads.{entries_from, id_after, shard_blobs, clone_blobs, with_snap, no_files}
use Rattle.esr_core.specs.World.{World, Op, Deletion, ShardWork, Out, Unread, RestoreShard, Restoring, Reader, Shard, Finalize, Deleting, Drop, Ticket, Swap, swap, info_of, metadata, record_of}
use Rattle.esr_core.specs.Past.{entries_by, removal_names, gone_names, IsRemoval, WasStale, IsNewStep}
use Rattle.esr_core.specs.Generations.{OpTexts, AreNamedOnce}
use Rattle.esr_core.specs.Ready.{IsShard, IsMaster, ReadyShard, ReadyFinalize, ReadyDrop, ReadyDelete, ReadyCleanup, ReadyRestore, AnyReady, IsOpen}
use Rattle.esr_core.specs.Pruning.{IsToRead, AreRead, pruned_shards, AreOfRoot, AreWritable, commands_by, dooms}
use Rattle.esr_core.specs.Restores.{IsTestOf, AreOnce, AreApart, IsReading, WasRead, IsPiece, ListsPiece, restore_shard}
use Rattle.esr_core.specs.Steps.{IsOut, Drew, Largest, MayCommit, MaySettle, IsToFetch, MostDrawn, Removes}
use Rattle.esr_core.specs.Texts.{IsMetaOf}
use Rattle.std.specs.Int.{w64, to_be_bytes}
use Rattle.esr_core.specs.Deletes.{named_uuids, waiting_delete, running_delete, delete_number}
use Rattle.esr_core.specs.Entry.{AskedIndex, CloneOf, Asked, Snapshot, Clone, DeleteSnapshots, Restore, Cleanup, is_recorded, TakesNothing, Given, GivenShard, GivenFinalize, GivenDrop, GivenRestore, GivenClone, GivenDelete, GivenCleanup, Why, Read, ReadBlob, RestoredShard, CheckedAll, DrawTest, BeginTest, CommitTest, RemoveTests, VerifiedAll, ReadFails, Prune, FetchShard, PlanShards, SettlePruned, RemoveDoomed, EndDelete, DeleteFails, Step, AskStep, TakeStep, DrawStep, BeginStep, CommitStep, LatestStep, FetchStep, ListStep, RaiseStep, SettleStep, DoneStep, FailedStep, FinishStep, DroppedStep, ElectStep, LookStep, ReadStep, PruneStep, CleanupRunning, NameInUse, TooMany, DeposedAt, AbortedBy, StaleTerm, GenerationsSpent, TermsSpent, IdsSpent, NameTaken, DepotFault, NoSnapshot, NoIndex, BeingDeleted, CloneRunning, RestoreRunning, BusyOp, BusyTicket, Refusal, Reply, Accepted, NothingReady, Gave, DrawnFrom, WasBegun, WasDone, WasThere, WasReplaced, WasFetched, WasAbsent, WasListed, RaisedTo, WasSettled, HasEnded, ElectedTerm, Looked, Refused, WasRemoved, AcceptedRestore, Entry, Moment}
use Rattle.esr_core.specs.After.{asked_op, new_names, chosen_refs, cloned_op, shard_of, after}

-- what `index.latest` holds: the generation as 8 bytes, the highest first
abbrev pub latest_text : ℕ → Bytes
latest_text n = to_be_bytes w64 n

-- what is told of the blobs after a step
abbrev pub Told : Option Image → (Blobs → Type 0) → Type 0
Told None P = Unit {0}
Told (Some image) P = P image.blobs

-- ---- ask

-- the names are distinct
abbrev pub AreDistinct : List AskedIndex → Type 0
AreDistinct [] = Unit {0}
AreDistinct (a ∷ asked) = ((b : AskedIndex) → Has asked b → a.name ≢ b.name) × AreDistinct asked

-- a snapshot of this name is listed, or an open one has it
abbrev pub IsNameOf : World → Bytes → ℕ → Type 0
IsNameOf w name uuid =
    ((s : RootSnap) × Has w.root.snapshots s × (s.name ≡ name) × (s.uuid ≡ uuid))
    ⊎ ((o : ℕ) × (op : Op) × (fin.get w.ops o ≡ Some op) × (op.name ≡ name) × (op.uuid ≡ uuid))

-- no cleanup is open
abbrev pub NoCleanup : World → Type 0
NoCleanup w = (d : ℕ) (x : Deletion) → fin.get w.deletes d ≡ Some x → x.clean ≡ false

abbrev pub IsUnused : World → Bytes → Type 0
IsUnused w name = (uuid : ℕ) → IsNameOf w name uuid → ⊥

-- how many ops are open
abbrev pub open_count : World → ℕ
open_count w = fin.len w.ops + fin.len w.deletes

-- a snapshot is accepted as this op
pub record Accepts (f : Formats) (w : World) (name : Bytes) (indices : List AskedIndex) (moment o : ℕ) : Type 0 where
  pub number : o ≡ w.next_op
  pub distinct : AreDistinct indices
  pub no_cleanup : NoCleanup w
  pub unused : IsUnused w name
  pub room : open_count w < 1000
  pub fits : w.next_id + suc (new_names w indices) < first_id (suc w.term)
  -- its texts can be written
  pub texts : OpTexts f (asked_op w name indices moment)

-- ---- ask: a restore

abbrev pub IsListed : World → Bytes → ℕ → Type 0
IsListed w name uuid = (s : RootSnap) × Has w.root.snapshots s × (s.name ≡ name) × (s.uuid ≡ uuid)

-- no open delete names the snapshot
abbrev pub IsSpared : World → ℕ → Type 0
IsSpared w uuid = (d : ℕ) (x : Deletion) → fin.get w.deletes d ≡ Some x → names_uuid x.uuids uuid ≡ false

-- this open delete names it, and no lower one
pub record IsBeingDeleted (w : World) (uuid d : ℕ) : Type 0 where
  pub x : Deletion
  pub there : fin.get w.deletes d ≡ Some x
  pub names : names_uuid x.uuids uuid ≡ true
  pub lowest : (e : ℕ) (y : Deletion) → e < d → fin.get w.deletes e ≡ Some y → names_uuid y.uuids uuid ≡ false

-- a finalization is of this snapshot, with these indices
pub record WasMade (f : Formats) (w : World) (uuid : ℕ) (indices : List IndexRef) : Type 0 where
  pub number : ℕ
  pub t : Ticket
  pub there : fin.get w.tickets number ≡ Some t
  pub info : SnapInfo
  pub results : List ShardResult
  pub made : Command
  pub work : t.work ≡ Finalize info results made
  pub uuid_is : info.uuid ≡ uuid
  pub indices_is : info.indices ≡ indices
  pub back : ReadsBack f.info info

-- these are exactly the indices of the root that have the snapshot
pub record AreIndicesIn (root : RootData) (uuid : ℕ) (indices : List IndexRef) : Type 0 where
  pub listed : (r : IndexRef) → Has indices r → (x : RootIndex) × Has root.indices x × (x.name ≡ r.name) × (x.id ≡ r.id) × Has x.snapshots uuid
  pub exact : (x : RootIndex) → Has root.indices x → Has x.snapshots uuid → (r : IndexRef) × Has indices r × (r.name ≡ x.name) × (r.id ≡ x.id)
  pub apart : AreApart indices

-- no ticket of a delete was given
abbrev pub NoDeleting : World → Type 0
NoDeleting w = (k : ℕ) (t : Ticket) (uuids : List ℕ) (plan : Option Swap) → fin.get w.tickets k ≡ Some t → t.work ≡ Deleting uuids plan → ⊥

-- each shard of these indices has a generation in the root
abbrev pub HaveGenerations : RootData → List IndexRef → Type 0
HaveGenerations root indices = (r : IndexRef) (k : ℕ) → Has indices r → k < r.shards → (g : ℕ) × Generation root r.id k g

-- the info of the snapshot is there, and has these indices
abbrev pub IsInInfo : Formats → World → ℕ → List IndexRef → Type 0
IsInInfo f w uuid indices = (info : SnapInfo) × Reads (At f w.blobs) (Snap uuid) f.info info × (info.indices ≡ indices)

-- The indices of a listed snapshot: those of its finalization, or, where the container tells, those of the info that is there. Each
-- shard has a generation; once a delete was given this follows from the law alone.
pub record AreIndicesOf (f : Formats) (w : World) (uuid : ℕ) (indices : List IndexRef) (image : Option Image) : Type 0 where
  pub within : AreIndicesIn w.root uuid indices
  pub generations : NoDeleting w → HaveGenerations w.root indices
  pub told : WasMade f w uuid indices ⊎ Told image (λ blobs. IsInInfo f w uuid indices)

-- a restore is accepted as this op
pub record AcceptsRestore (f : Formats) (w : World) (name : Bytes) (o uuid : ℕ) (indices : List IndexRef) (image : Option Image) : Type 0 where
  pub number : o ≡ w.next_op
  pub listed : IsListed w name uuid
  pub spared : IsSpared w uuid
  pub room : fin.len w.restores < 1000
  pub indices_of : AreIndicesOf f w uuid indices image

-- ---- ask: a clone

-- the snapshot has an index of this name, by the root
abbrev pub HasIndexNamed : World → ℕ → Bytes → Type 0
HasIndexNamed w uuid name = (x : RootIndex) × Has w.root.indices x × (x.name ≡ name) × Has x.snapshots uuid

abbrev pub HaveIndices : World → ℕ → List Bytes → Type 0
HaveIndices w uuid names = (name : Bytes) → Has names name → HasIndexNamed w uuid name

-- the name at this place is the first of which the snapshot has no index
pub record IsFirstMissing (w : World) (uuid : ℕ) (names : List Bytes) (place : ℕ) : Type 0 where
  pub front : List Bytes
  pub name : Bytes
  pub back : List Bytes
  pub is : names ≡ front ++ name ∷ back
  pub place_is : place ≡ length front
  pub before : HaveIndices w uuid front
  pub missing : HasIndexNamed w uuid name → ⊥

-- the rules of a clone up to its name, up to the deletes of its source, and up to its indices
pub record MayName (w : World) (name : Bytes) : Type 0 where
  pub no_cleanup : NoCleanup w
  pub unused : IsUnused w name

pub record MayCopy (w : World) (source name : Bytes) (uuid : ℕ) : Type 0 where
  pub named : MayName w name
  pub listed : IsListed w source uuid
  pub spared : IsSpared w uuid

pub record MayClone (w : World) (source name : Bytes) (names : List Bytes) (uuid : ℕ) : Type 0 where
  pub copies : MayCopy w source name uuid
  pub there : HaveIndices w uuid names

-- a clone is accepted as this op, and takes this
pub record AcceptsClone (f : Formats) (w : World) (source name : Bytes) (names : List Bytes) (moment o : ℕ) (taken : CloneOf) (image : Option Image) : Type 0 where
  pub number : o ≡ w.next_op
  pub may : MayClone w source name names taken.source
  pub once : AreOnce names
  pub room : open_count w < 1000
  pub fits : suc w.next_id < first_id (suc w.term)
  -- the indices of its source
  pub all : List IndexRef
  pub all_of : AreIndicesOf f w taken.source all image
  pub named_once : AreNamedOnce all
  pub chosen_is : taken.indices ≡ chosen_refs all names
  -- its texts can be written
  pub texts : OpTexts f (cloned_op w name moment taken)

-- ---- ask: a delete

-- each of these names is that of a listed snapshot or of an open op
abbrev pub AreNamed : World → List Bytes → Type 0
AreNamed w names = (name : Bytes) → Has names name → (uuid : ℕ) × IsNameOf w name uuid

-- the name at this place is the first that is none
pub record IsFirstUnused (w : World) (names : List Bytes) (place : ℕ) : Type 0 where
  pub front : List Bytes
  pub name : Bytes
  pub back : List Bytes
  pub is : names ≡ front ++ name ∷ back
  pub place_is : place ≡ length front
  pub before : AreNamed w front
  pub unused : IsUnused w name

-- this open clone copies one of them
pub record Copies (w : World) (uuids : List ℕ) (o : ℕ) : Type 0 where
  pub op : Op
  pub there : fin.get w.ops o ≡ Some op
  pub source : ℕ
  pub source_is : op.source ≡ Some source
  pub names : names_uuid uuids source ≡ true

-- this open restore reads one of them
pub record ReadsOne (w : World) (uuids : List ℕ) (o : ℕ) : Type 0 where
  pub r : Restoring
  pub there : fin.get w.restores o ≡ Some r
  pub names : names_uuid uuids r.uuid ≡ true

-- of a number, and of no lower one
abbrev pub IsLowest : (ℕ → Type 0) → ℕ → Type 0
IsLowest P o = P o × ((p : ℕ) → p < o → P p → ⊥)

-- no rule on what it names refuses the delete
pub record MayDelete (w : World) (names : List Bytes) : Type 0 where
  pub no_cleanup : NoCleanup w
  pub named : AreNamed w names
  pub no_clone : (o : ℕ) → Copies w (named_uuids w names) o → ⊥
  pub no_restore : (o : ℕ) → ReadsOne w (named_uuids w names) o → ⊥

-- it needs an op of its own
abbrev pub IsNewDelete : World → List Bytes → Type 0
IsNewDelete w names = (waiting_delete w ≡ None) × (running_delete w (named_uuids w names) ≡ None)

-- a new op needs room
pub record AcceptsDelete (w : World) (names : List Bytes) : Type 0 where
  pub may : MayDelete w names
  pub room : IsNewDelete w names → open_count w < 1000

-- ---- ask: a cleanup

-- a ticket is out under this number; those of restores are others
abbrev pub HasTicket : World → ℕ → Type 0
HasTicket w k = (t : Ticket) × IsOut w k t

-- neither a snapshot, a clone nor a delete is open
abbrev pub NoneOpen : World → Type 0
NoneOpen w = (o : ℕ) → IsOpen w o → ⊥

-- and no ticket but those of restores is out
pub record AcceptsCleanup (w : World) : Type 0 where
  pub none_open : NoneOpen w
  pub no_ticket : (k : ℕ) → HasTicket w k → ⊥

-- ---- ask: a refusal by a rule

-- By the first rule that stands against it a command is refused. None that is recorded is accepted while a cleanup is open, so it takes nothing.
pub data RefusedBy (w : World) : Asked → Refusal → Type 0 where
  Cleaning : (command : Asked) (d : ℕ) (x : Deletion) → is_recorded command ≡ true → TakesNothing command → fin.get w.deletes d ≡ Some x → x.clean ≡ true → RefusedBy w command (CleanupRunning d)
  Used : (name : Bytes) (indices : List AskedIndex) (moment uuid : ℕ) → NoCleanup w → IsNameOf w name uuid → RefusedBy w (Snapshot name indices moment) (NameInUse uuid)
  Full : (name : Bytes) (indices : List AskedIndex) (moment : ℕ) → NoCleanup w → IsUnused w name → 1000 ≤ open_count w → RefusedBy w (Snapshot name indices moment) (TooMany 1000)
  AskSpent : (name : Bytes) (indices : List AskedIndex) (moment : ℕ) → NoCleanup w → IsUnused w name → open_count w < 1000 → first_id (suc w.term) ≤ w.next_id + suc (new_names w indices)
      → RefusedBy w (Snapshot name indices moment) (IdsSpent w.next_id)
  NotListed : (name place : Bytes) → ((uuid : ℕ) → IsListed w name uuid → ⊥) → RefusedBy w (Restore name place) (NoSnapshot 0)
  NamedByDelete : (name place : Bytes) (uuid d : ℕ) → IsListed w name uuid → IsBeingDeleted w uuid d → RefusedBy w (Restore name place) (BeingDeleted d)
  FullOfRestores : (name place : Bytes) (uuid : ℕ) → IsListed w name uuid → IsSpared w uuid → 1000 ≤ fin.len w.restores → RefusedBy w (Restore name place) (TooMany 1000)
  CloneUsed : (source name : Bytes) (names : List Bytes) (moment uuid : ℕ) → NoCleanup w → IsNameOf w name uuid → RefusedBy w (Clone source name names moment None) (NameInUse uuid)
  SourceNotListed : (source name : Bytes) (names : List Bytes) (moment : ℕ) → MayName w name → ((uuid : ℕ) → IsListed w source uuid → ⊥) → RefusedBy w (Clone source name names moment None) (NoSnapshot 0)
  SourceDeleted : (source name : Bytes) (names : List Bytes) (moment uuid d : ℕ) → MayName w name → IsListed w source uuid → IsBeingDeleted w uuid d → RefusedBy w (Clone source name names moment None) (BeingDeleted d)
  IndexMissing : (source name : Bytes) (names : List Bytes) (moment uuid place : ℕ) → MayCopy w source name uuid → IsFirstMissing w uuid names place → RefusedBy w (Clone source name names moment None) (NoIndex place)
  FullOfClones : (source name : Bytes) (names : List Bytes) (moment uuid : ℕ) → MayClone w source name names uuid → 1000 ≤ open_count w → RefusedBy w (Clone source name names moment None) (TooMany 1000)
  CloneSpent : (source name : Bytes) (names : List Bytes) (moment uuid : ℕ) → MayClone w source name names uuid → open_count w < 1000 → first_id (suc w.term) ≤ suc w.next_id
      → RefusedBy w (Clone source name names moment None) (IdsSpent w.next_id)
  NotNamed : (names : List Bytes) (place : ℕ) → NoCleanup w → IsFirstUnused w names place → RefusedBy w (DeleteSnapshots names) (NoSnapshot place)
  CloneStands : (names : List Bytes) (o : ℕ) → NoCleanup w → AreNamed w names → IsLowest (Copies w (named_uuids w names)) o → RefusedBy w (DeleteSnapshots names) (CloneRunning o)
  RestoreStands : (names : List Bytes) (o : ℕ) → NoCleanup w → AreNamed w names → ((p : ℕ) → Copies w (named_uuids w names) p → ⊥) → IsLowest (ReadsOne w (named_uuids w names)) o
      → RefusedBy w (DeleteSnapshots names) (RestoreRunning o)
  FullOfOps : (names : List Bytes) → MayDelete w names → IsNewDelete w names → 1000 ≤ open_count w → RefusedBy w (DeleteSnapshots names) (TooMany 1000)
  OpStands : (o : ℕ) → NoCleanup w → IsLowest (IsOpen w) o → RefusedBy w Cleanup (BusyOp o)
  TicketStands : (k : ℕ) → NoneOpen w → IsLowest (HasTicket w) k → RefusedBy w Cleanup (BusyTicket k)

-- ---- take

-- some unit of this op is ready
abbrev pub HasReady : World → ℕ → Type 0
HasReady w o =
    ((op : Op) × (s : ShardWork) × ReadyShard w o op s)
    ⊎ (((op : Op) × (results : List ShardResult) × ReadyFinalize w o op results)
    ⊎ (ReadyDrop w o ⊎ (((x : Deletion) × (ReadyDelete w o x ⊎ ReadyCleanup w o x)) ⊎ ((r : Restoring) × (s : RestoreShard) × ReadyRestore w o r s))))

-- a stands before the first b in the list
abbrev pub StandsBefore : {A : Type 0} → List A → A → A → Type 0
StandsBefore [] a b = ⊥
StandsBefore (x ∷ xs) a b = (x ≢ b) × (((x ≡ a) × Has xs b) ⊎ StandsBefore xs a b)

-- the shard of an op that copies this snapshot, or none, is given, on the largest live generation
pub record GivesShard (w : World) (o index number : ℕ) (source base : Option ℕ) : Type 0 where
  pub op : Op
  pub source_is : op.source ≡ source
  pub s : ShardWork
  pub found : shard_of op.shards index number ≡ Some s
  pub ready : ReadyShard w o op s
  -- the first of its op that is ready
  pub first : (z : ShardWork) → StandsBefore op.shards z s → ReadyShard w o op z → ⊥
  pub largest : Largest w s.ref.id s.number base

pub record GivesFinalize (f : Formats) (w : World) (o : ℕ) (info : SnapInfo) (results : List ShardResult) : Type 0 where
  pub op : Op
  pub ready : ReadyFinalize w o op results
  pub info_is : info ≡ info_of op results
  pub root_back : ReadsBack f.root (finalized_root w.root (info_of op results) results)

pub record GivesRestore (w : World) (o index number uuid : ℕ) : Type 0 where
  pub r : Restoring
  pub s : RestoreShard
  pub found : restore_shard r.shards index number ≡ Some s
  pub ready : ReadyRestore w o r s
  -- the first of its op that is unread
  pub first : (z : RestoreShard) → StandsBefore r.shards z s → z.state ≡ Unread → ⊥
  pub uuid_is : uuid ≡ r.uuid

abbrev pub Gives : Formats → World → ℕ → Given → Type 0
Gives f w o (GivenShard index number base) = GivesShard w o index number None base
Gives f w o (GivenFinalize info results) = GivesFinalize f w o info results
Gives f w o GivenDrop = ReadyDrop w o
Gives f w o (GivenRestore index number uuid) = GivesRestore w o index number uuid
Gives f w o (GivenClone index number source base) = GivesShard w o index number (Some source) base
Gives f w o (GivenDelete uuids) = (x : Deletion) × ReadyDelete w o x × (uuids ≡ x.uuids)
Gives f w o GivenCleanup = (x : Deletion) × ReadyCleanup w o x

-- ---- steps of a ticket

-- a shard's ticket may draw once: at least one id, and no more than it needs
pub record MayDraw (f : Formats) (w : World) (k n : ℕ) : Type 0 where
  pub t : Ticket
  pub out : IsOut w k t
  pub shard : IsShard t.work
  pub once : t.drawn ≡ 0
  pub some : 1 ≤ n
  pub most : (index number : ℕ) → t.work ≡ Shard index number → MostDrawn f t number n t.source
  pub few : n ≤ 2 ^ 32

pub record Draws (f : Formats) (w : World) (k n first : ℕ) : Type 0 where
  pub may : MayDraw f w k n
  pub first_is : first ≡ w.next_id
  pub fits : w.next_id + n < first_id (suc w.term)

-- a file of one part is one blob without a number, and a part of a longer one has the number of one of its parts
abbrev pub IsPartOfOne : ℕ → List (Bytes × Bytes) → BlobName → Type 0
IsPartOfOne part_size files (File i k x) = (file : Bytes × Bytes) × Has files file × (length file.1 ≤ part_size)
IsPartOfOne part_size files (Part i k x p) = (file : Bytes × Bytes) × Has files file × (part_size < length file.1) × (p < part_count (length file.1) part_size)
IsPartOfOne part_size files name = Unit {0}

abbrev pub IsNoPart : BlobName → Type 0
IsNoPart (File i k x) = ⊥
IsNoPart (Part i k x p) = ⊥
IsNoPart name = Unit {0}

-- where the source tells its files, a part is that of one of them; a clone's ticket has no part
abbrev pub IsNumbered : Formats → ℕ → Ticket → ℕ → BlobName → Option ℕ → Type 0
IsNumbered f part_size t number name None = f.known t.place t.name number ≡ true → IsPartOfOne part_size (files_told f t.place t.name number) name
IsNumbered f part_size t number name (Some source) = IsNoPart name

-- nothing was listed so far
pub record IsUnlisted (t : Ticket) : Type 0 where
  pub listed : t.listed ≡ []
  pub whole : t.whole ≡ false

-- a ticket commits a blob of its unit, before its settle; once a cleanup has listed it commits no other name than its root's
pub record Commits (f : Formats) (part_size : ℕ) (w : World) (k : ℕ) (name : BlobName) : Type 0 where
  pub t : Ticket
  pub out : IsOut w k t
  pub unsettled : t.settled ≡ false
  pub bytes : Bytes
  pub named : IsStored f name
  pub may : MayCommit f t name bytes
  pub numbered : (index number : ℕ) → t.work ≡ Shard index number → IsNumbered f part_size t number name t.source
  pub late : t.clean ≡ true → IsUnlisted t ⊎ ((n : ℕ) × (name ≡ Root n))

-- a finalization's name may be there already, before its settle
pub record Refinds (f : Formats) (w : World) (k : ℕ) (name : BlobName) : Type 0 where
  pub t : Ticket
  pub out : IsOut w k t
  pub unsettled : t.settled ≡ false
  pub info : SnapInfo
  pub results : List ShardResult
  pub made : Command
  pub work : t.work ≡ Finalize info results made
  pub bytes : Bytes
  pub own : Has (metadata f info) (name, bytes)

-- a shard's ticket fetches its base, and what it copies
pub record Fetches (f : Formats) (w : World) (k : ℕ) (name : BlobName) : Type 0 where
  pub t : Ticket
  pub out : IsOut w k t
  pub stored : IsStored f name
  pub to_fetch : IsToFetch t name

-- `index.latest` is written by an unsettled swap that has committed its root
pub record Puts (f : Formats) (w : World) (k : ℕ) : Type 0 where
  pub t : Ticket
  pub out : IsOut w k t
  pub s : Swap
  pub is : swap f t ≡ Some s
  pub unsettled : t.settled ≡ false
  pub n : ℕ
  pub raised : t.raised ≡ Some n
  pub written : Has t.noted (Root n)

-- a ticket with an unsettled swap may raise once
pub record MayRaise (f : Formats) (w : World) (k : ℕ) : Type 0 where
  pub t : Ticket
  pub out : IsOut w k t
  pub s : Swap
  pub is : swap f t ≡ Some s
  pub unsettled : t.settled ≡ false
  pub once : t.raised ≡ None

pub record Raises (f : Formats) (w : World) (k n : ℕ) : Type 0 where
  pub may : MayRaise f w k
  pub present : may.t.term ≡ w.term
  pub n_is : n ≡ w.pending
  pub room : w.pending < 2 ^ 63

pub record Settles (f : Formats) (w : World) (k : ℕ) : Type 0 where
  pub t : Ticket
  pub s : Swap
  pub n : ℕ
  pub may : MaySettle f w k n t s
  pub present : t.term ≡ w.term
  pub info : SnapInfo
  pub results : List ShardResult
  pub made : Command
  pub work : t.work ≡ Finalize info results made

-- the base, as the ticket fetched it
abbrev pub Based : Formats → Ticket → ℕ → ℕ → Option ℕ → ShardFiles → Type 0
Based f t index shard None base = base ≡ no_files
Based f t index shard (Some g) base = (bytes : Bytes) × Has t.read (ShardIndex index shard g, bytes) × (f.shard_index.read bytes ≡ Some base)

-- A shard is done: its ticket wrote the parts of the files that the base doesn't have, the snapshot of the shard and the
-- index under the last id that it drew, and nothing else. The files are those that the source tells, where it tells them; of a place
-- that doesn't exist it tells none, and no shard of it is done.
pub record DoneBy (f : Formats) (part_size : ℕ) (t : Ticket) (r : ShardResult) : Type 0 where
  pub size : 0 < part_size
  pub base : ShardFiles
  pub based : Based f t r.index r.shard t.base base
  pub files : List (Bytes × Bytes)
  -- those of a place that exists
  pub told : f.known t.place t.name r.shard ≡ true → f.told t.place t.name r.shard ≡ Some files
  pub generation : r.generation ≡ id_after f base t.first files
  pub drew : t.first + t.drawn ≡ suc r.generation
  pub wrote : (name : BlobName) (bytes : Bytes) → Has (shard_blobs f part_size base r.index r.shard t.uuid t.first files) (name, bytes) → Has t.wrote (name, bytes)
  pub only : (name : BlobName) (bytes : Bytes) → Has t.wrote (name, bytes) → Has (shard_blobs f part_size base r.index r.shard t.uuid t.first files) (name, bytes)
  pub snap_back : ReadsBack f.shard_snap (record { uuid = t.uuid; files = entries_from f part_size base t.first files })
  pub index_back : ReadsBack f.shard_index (with_snap base t.uuid (entries_from f part_size base t.first files))
  pub count : r.files ≡ length files
  pub bytes : r.bytes ≡ min (sum_by (λ (file : Bytes × Bytes). length file.1) files) (2 ^ 64 - 1)

-- A shard of a clone is done: its ticket has read what the source has of it, and wrote the same files under its own uuid, and the
-- index under the one id that it drew, and nothing else.
pub record ClonedBy (f : Formats) (t : Ticket) (source : ℕ) (r : ShardResult) : Type 0 where
  pub base : ShardFiles
  pub based : Based f t r.index r.shard t.base base
  pub was : ShardSnapshot
  pub was_read : Reads (WasRead t.read) (ShardSnap r.index r.shard source) f.shard_snap was
  pub generation : r.generation ≡ t.first
  pub drew : t.first + t.drawn ≡ suc r.generation
  pub wrote : (name : BlobName) (bytes : Bytes) → Has (clone_blobs f base r.index r.shard t.uuid t.first was.files) (name, bytes) → Has t.wrote (name, bytes)
  pub only : (name : BlobName) (bytes : Bytes) → Has t.wrote (name, bytes) → Has (clone_blobs f base r.index r.shard t.uuid t.first was.files) (name, bytes)
  pub snap_back : ReadsBack f.shard_snap (record { uuid = t.uuid; files = was.files })
  pub index_back : ReadsBack f.shard_index (with_snap base t.uuid was.files)
  pub count : r.files ≡ length was.files
  pub bytes : r.bytes ≡ min (sum_by (λ (e : FileEntry). e.len) was.files) (2 ^ 64 - 1)

-- a shard is done, of a clone of this snapshot or of none
abbrev pub DoneAs : Formats → ℕ → Ticket → ShardResult → Option ℕ → Type 0
DoneAs f part_size t r None = DoneBy f part_size t r
DoneAs f part_size t r (Some source) = ClonedBy f t source r

pub record Dones (f : Formats) (part_size : ℕ) (w : World) (k : ℕ) (r : ShardResult) (image : Option Image) : Type 0 where
  pub t : Ticket
  pub out : IsOut w k t
  pub is : t.work ≡ Shard r.index r.shard
  pub op : Op
  pub op_there : fin.get w.ops t.op ≡ Some op
  pub s : ShardWork
  pub s_there : Has op.shards s
  pub state : s.state ≡ Out k
  pub place_is : s.place ≡ t.place
  pub name_is : s.ref.name ≡ t.name
  pub source_is : op.source ≡ t.source
  -- it drew the generation last, and committed the snapshot of the shard and the index under it
  pub drew : Drew t r.generation
  pub last : t.first + t.drawn ≡ suc r.generation
  pub snap_noted : Has t.noted (ShardSnap r.index r.shard t.uuid)
  pub index_noted : Has t.noted (ShardIndex r.index r.shard r.generation)
  pub done : Told image (λ blobs. DoneAs f part_size t r t.source)

-- a unit fails: a shard's at any term, a finalization before its settle; what a stale master ticket tells ends it alone
pub record Fails (w : World) (k : ℕ) : Type 0 where
  pub t : Ticket
  pub out : IsOut w k t
  pub unsettled : t.settled ≡ false
  pub unit : IsShard t.work ⊎ IsMaster t.work
  pub op : Op
  pub op_there : (IsShard t.work ⊎ (t.term ≡ w.term)) → fin.get w.ops t.op ≡ Some op

-- the ticket is of an older term, and a step of its own was refused so
abbrev pub IsStale : World → ℕ → Ticket → Type 0
IsStale w k t = (t.term ≢ w.term) × WasStale w k

-- a settled finalization ends, or a master ticket after its own refusal as stale; a settled delete ends by a step of its own
pub record Finishes (w : World) (k : ℕ) : Type 0 where
  pub t : Ticket
  pub out : IsOut w k t
  pub no_shard : IsShard t.work → ⊥
  pub done : ((t.settled ≡ true) × ((uuids : List ℕ) (plan : Option Swap) → t.work ≡ Deleting uuids plan → ⊥)) ⊎ IsStale w k t

-- `index.latest` was replaced by the ticket
pub record HasPutLatest (w : World) (k : ℕ) : Type 0 where
  pub entry : Entry
  pub there : Has (entries_by w.entries k) entry
  pub step_is : entry.step ≡ LatestStep
  pub reply_is : entry.reply ≡ WasReplaced

-- a cleanup has settled, its op is open, and its `latest` and its removals were answered Ok; where the container tells, these have
-- named all that it doomed
pub record HasCleaned (f : Formats) (w : World) (k : ℕ) (t : Ticket) (image : Option Image) : Type 0 where
  pub uuids : List ℕ
  pub s : Swap
  pub work : t.work ≡ Deleting uuids (Some s)
  pub clean : t.clean ≡ true
  pub settled : t.settled ≡ true
  pub open_op : t.term ≡ w.term → (x : Deletion) × (fin.get w.deletes t.op ≡ Some x) × (x.clean ≡ true)
  pub latest : HasPutLatest w k
  pub removals : (e : Entry) → Has (entries_by w.entries k) e → IsRemoval e.step → e.reply ≡ WasRemoved
  pub removed : Told image (λ blobs. (name : BlobName) → Has (dooms f t) name → Has (gone_names (entries_by w.entries k)) name)

-- an op leaves: by its drop, or by a cleanup that has come to its end
pub record MayDrop (f : Formats) (w : World) (k : ℕ) (image : Option Image) : Type 0 where
  pub t : Ticket
  pub out : IsOut w k t
  pub unit : (t.work ≡ Drop) ⊎ HasCleaned f w k t image

pub record Drops (f : Formats) (w : World) (k : ℕ) (image : Option Image) : Type 0 where
  pub may : MayDrop f w k image
  pub present : may.t.term ≡ w.term

-- ---- a listing

-- before its settle a cleanup lists page after page, each after the last name of the one before, until a page ends the listing
pub record ListsPage (w : World) (k : ℕ) (from : Option Bytes) : Type 0 where
  pub t : Ticket
  pub out : IsOut w k t
  pub uuids : List ℕ
  pub plan : Option Swap
  pub work : t.work ≡ Deleting uuids plan
  pub clean : t.clean ≡ true
  pub unsettled : t.settled ≡ false
  pub unended : t.whole ≡ false
  pub from_is : from ≡ last_text t.listed

-- the name is that of a finalization's metadata
abbrev pub IsMetadata : BlobName → Type 0
IsMetadata name = (u : ℕ) × IsMetaOf u name

-- ---- steps that read

-- a restore's ticket fetches the snapshot of its shard, and then the pieces that it lists
abbrev pub MayRead : Formats → Reader → BlobName → Option Image → Type 0
MayRead f q name image = (name ≡ ShardSnap q.index q.number q.uuid) ⊎ (IsPiece q.index q.number name × Told image (λ blobs. ListsPiece f q name))

-- a check is open: a look has begun it, and no verification is open
pub record IsChecking (w : World) : Type 0 where
  pub looked : w.caller.looked ≡ true
  pub undrawn : w.caller.drawn ≡ None
  pub unspent : w.caller.spent ≡ false

-- what the safe root reaches, its own name with it: by the root that is read under that name, and by the indices of its shards as
-- they are read
abbrev pub InReach : Formats → World → BlobName → Type 0
InReach f w name =
    (n : ℕ) × (w.safe ≡ suc n) × ((name ≡ Root n) ⊎ ((root : RootData) × Reads (At f w.blobs) (Root n) f.root root × Reached f (At f w.blobs) root name))

-- a check fetches each of these once
pub record MayCheck (f : Formats) (w : World) (name : BlobName) (image : Option Image) : Type 0 where
  pub is_open : IsChecking w
  pub unfetched : Has w.caller.fetched name → ⊥
  pub reached : Told image (λ blobs. InReach f w name)

-- a verification what it committed and hasn't removed, once
pub record MayVerify (w : World) (name : BlobName) : Type 0 where
  pub committed : Has w.caller.committed name
  pub unremoved : Has w.caller.removed name → ⊥
  pub once : Has w.caller.fetched name → ⊥

pub data Fetcher (f : Formats) (w : World) (name : BlobName) (image : Option Image) : ℕ → Type 0 where
  ByReader : (k : ℕ) (q : Reader) → IsReading w k q → MayRead f q name image → Fetcher f w name image k
  ByCheck : MayCheck f w name image → Fetcher f w name image 0
  ByVerify : MayVerify w name → Fetcher f w name image 0

-- The ticket read all of its shard's snapshot: each file has the stated length and digest, cut at the stated part size.
pub record RestoredBy (f : Formats) (q : Reader) (files bytes : ℕ) : Type 0 where
  pub snap : ShardSnapshot
  pub snap_read : Reads (WasRead q.read) (ShardSnap q.index q.number q.uuid) f.shard_snap snap
  pub contents : List Bytes
  pub stand : AllPairs (FileStands f (WasRead q.read) q.index q.number) snap.files contents
  pub count : files ≡ length snap.files
  pub sum : bytes ≡ min (sum_by (λ (b : Bytes). length b) contents) (2 ^ 64 - 1)

-- the safe root is whole, where there is one
abbrev pub IsWhole : Formats → Blobs → ℕ → Type 0
IsWhole f blobs zero = Unit {0}
IsWhole f blobs (suc n) = RootAgrees f (At f blobs) n

-- a check has read the safe root and all that it reaches, and nothing else; what it read is whole
pub record CheckedBy (f : Formats) (w : World) : Type 0 where
  pub whole : IsWhole f w.blobs w.safe
  pub all : (name : BlobName) → InReach f w name → Has w.caller.found name × ((bytes : Bytes) × WasRead w.caller.read name bytes)
  pub only : (name : BlobName) → Has w.caller.fetched name → InReach f w name

-- so many snapshots are listed, and it fetched so many blobs, each of which was there
pub record Checks (f : Formats) (w : World) (snapshots blobs : ℕ) (image : Option Image) : Type 0 where
  pub is_open : IsChecking w
  pub snapshots_is : snapshots ≡ length w.root.snapshots
  pub blobs_is : blobs ≡ length w.caller.found
  pub present : (name : BlobName) → Has w.caller.fetched name → Has w.caller.found name
  pub told : Told image (λ now. CheckedBy f w)

-- Who may answer a step that reads so. Each leaves the blobs.
pub data ReadAllows (f : Formats) (w : World) : ℕ → Read → Reply → Option Image → Type 0 where
  ReadFound : (k : ℕ) (name : BlobName) (image : Option Image) → IsStored f name → Fetcher f w name image k → Told image (λ blobs. (bytes : Bytes) × (fin.get w.blobs (f.names.text name) ≡ Some bytes))
      → ReadAllows f w k (ReadBlob name) WasFetched image
  ReadMissing : (k : ℕ) (name : BlobName) (image : Option Image) → IsStored f name → Fetcher f w name image k → Told image (λ blobs. fin.get w.blobs (f.names.text name) ≡ None) → ReadAllows f w k (ReadBlob name) WasAbsent image
  ReadFault : (k : ℕ) (name : BlobName) (image : Option Image) → IsStored f name → Fetcher f w name image k → ReadAllows f w k (ReadBlob name) (Refused DepotFault) image
  RestoringShard : (k files bytes : ℕ) (image : Option Image) (q : Reader) → IsReading w k q → Told image (λ blobs. RestoredBy f q files bytes) → ReadAllows f w k (RestoredShard files bytes) HasEnded image
  ReaderFailing : (k : ℕ) (why : Why) (image : Option Image) (q : Reader) → IsReading w k q → ReadAllows f w k (ReadFails why) HasEnded image
  CheckingAll : (snapshots blobs : ℕ) (image : Option Image) → Checks f w snapshots blobs image → ReadAllows f w 0 (CheckedAll snapshots blobs) HasEnded image
  CheckFailing : (why : Why) (image : Option Image) → IsChecking w → ReadAllows f w 0 (ReadFails why) HasEnded image

-- the blobs are as they were
abbrev pub SameBlobs : World → Option Image → Type 0
SameBlobs w image = Told image (λ blobs. blobs ≡ w.blobs)

-- a blob more, under a name that was free
abbrev pub Adds : Formats → World → BlobName → Bytes → Blobs → Type 0
Adds f w name bytes blobs = (fin.get w.blobs (f.names.text name) ≡ None) × (blobs ≡ fin.insert w.blobs (f.names.text name) bytes)

-- ---- a verification of the container

-- no verification is open, so that one may begin by drawing an id
pub record MayDrawTest (w : World) : Type 0 where
  pub undrawn : w.caller.drawn ≡ None
  pub unspent : w.caller.spent ≡ false

-- a verification is open: it drew an id, or found that there was none left
abbrev pub IsVerifying : World → Type 0
IsVerifying w = ((id : ℕ) × (w.caller.drawn ≡ Some id)) ⊎ (w.caller.spent ≡ true)

-- the name is that of a test blob under the id that was drawn; of workers there are at most 64
pub record IsOwnTest (f : Formats) (w : World) (name : BlobName) : Type 0 where
  pub id : ℕ
  pub drawn : w.caller.drawn ≡ Some id
  pub below : id < w.next_id
  pub test : IsTestOf id name
  pub worker : (v n : ℕ) → name ≡ TestNode v n → n < 64
  pub stored : IsStored f name

-- some test blobs that were committed, and may be removed
pub record MayRemoveTests (w : World) (names : List BlobName) : Type 0 where
  pub few : length names ≤ 1000
  pub committed : (name : BlobName) → Has names name → Has w.caller.committed name
  pub doomed : (name : BlobName) → Has names name → Has w.doomed name

-- the master's test blob was committed, and each one was fetched, was there, and then was removed
pub record Verifies (w : World) : Type 0 where
  pub id : ℕ
  pub drawn : w.caller.drawn ≡ Some id
  pub master : Has w.caller.committed (TestMaster id)
  pub found : (name : BlobName) → Has w.caller.committed name → Has w.caller.found name
  pub removed : (name : BlobName) → Has w.caller.committed name → Has w.caller.removed name

-- How a step of a verification may be answered, who 0 being the caller.
pub data VerifyAllows (f : Formats) (w : World) : Read → Reply → Option Image → Type 0 where
  DrawingTest : (image : Option Image) → MayDrawTest w → suc w.next_id < first_id (suc w.term) → SameBlobs w image → VerifyAllows f w DrawTest (DrawnFrom w.next_id) image
  TestSpent : (image : Option Image) → MayDrawTest w → first_id (suc w.term) ≤ suc w.next_id → SameBlobs w image → VerifyAllows f w DrawTest (Refused (IdsSpent w.next_id)) image
  BeginningTest : (name : BlobName) (image : Option Image) → IsOwnTest f w name → SameBlobs w image → VerifyAllows f w (BeginTest name) WasBegun image
  BeginTestFails : (name : BlobName) (image : Option Image) → IsOwnTest f w name → SameBlobs w image → VerifyAllows f w (BeginTest name) (Refused DepotFault) image
  CommittingTest : (name : BlobName) (bytes : Bytes) (image : Option Image) → IsOwnTest f w name → (Has w.caller.committed name → ⊥) → Told image (Adds f w name bytes) → VerifyAllows f w (CommitTest name) WasDone image
  TestTaken : (name : BlobName) (image : Option Image) → IsOwnTest f w name → Told image (λ blobs. Present f w.blobs name × (blobs ≡ w.blobs)) → VerifyAllows f w (CommitTest name) (Refused (NameTaken name)) image
  CommitTestFails : (name : BlobName) (bytes : Bytes) (image : Option Image) → IsOwnTest f w name → Told image (λ blobs. (blobs ≡ w.blobs) ⊎ Adds f w name bytes blobs) → VerifyAllows f w (CommitTest name) (Refused DepotFault) image
  RemovingTests : (names : List BlobName) (image : Option Image) → MayRemoveTests w names → Told image (λ blobs. Removes f w.blobs blobs names × ((name : BlobName) → Has names name → fin.get blobs (f.names.text name) ≡ None))
      → VerifyAllows f w (RemoveTests names) WasRemoved image
  RemoveTestsFails : (names : List BlobName) (image : Option Image) → MayRemoveTests w names → Told image (λ blobs. Removes f w.blobs blobs names) → VerifyAllows f w (RemoveTests names) (Refused DepotFault) image
  VerifyingAll : (image : Option Image) → Verifies w → SameBlobs w image → VerifyAllows f w VerifiedAll HasEnded image
  VerifyFailing : (why : Why) (image : Option Image) → IsVerifying w → SameBlobs w image → VerifyAllows f w (ReadFails why) HasEnded image

-- ---- steps of the ticket of a delete or cleanup

-- A ticket of a delete with these uuids is out, or of a cleanup, which has none. Its op is a cleanup exactly where it is a cleanup's.
pub record IsDeleting (w : World) (k : ℕ) (t : Ticket) (uuids : List ℕ) (plan : Option Swap) : Type 0 where
  pub out : IsOut w k t
  pub work : t.work ≡ Deleting uuids plan
  pub bare : t.clean ≡ true → uuids ≡ []
  pub mode : (x : Deletion) → fin.get w.deletes t.op ≡ Some x → x.clean ≡ t.clean

-- before its plan it fetches the indices of shards of the root that it copied
pub record FetchesShard (f : Formats) (w : World) (k : ℕ) (name : BlobName) : Type 0 where
  pub t : Ticket
  pub uuids : List ℕ
  pub deleting : IsDeleting w k t uuids None
  pub unsettled : t.settled ≡ false
  pub stored : IsStored f name
  pub index : ℕ
  pub number : ℕ
  pub generation : ℕ
  pub to_read : IsToRead t.clean t.root uuids index number generation
  pub name_is : name ≡ ShardIndex index number generation

-- It plans once: over a container that tells exactly the shards that follow from what it read, all that were to be read, and what is
-- left of each of them can be written.
pub record MayPlan (f : Formats) (w : World) (k : ℕ) (shards : List PrunedShard) (image : Option Image) : Type 0 where
  pub t : Ticket
  pub uuids : List ℕ
  pub deleting : IsDeleting w k t uuids None
  pub unsettled : t.settled ≡ false
  pub unraised : t.raised ≡ None
  pub unnoted : t.noted ≡ []
  -- the root that it copied lists each index once
  pub one_each : IsOneEach t.root.indices
  pub of_root : AreOfRoot t.root shards
  pub are_read : Told image (λ blobs. AreRead f t.clean t.root uuids t.read)
  pub exact : Told image (λ blobs. shards ≡ pruned_shards f t.clean t.root uuids t.read)
  pub writable : Told image (λ blobs. AreWritable f t.root uuids t.read shards)

-- a cleanup settles once it has listed to the last page
pub record SettlesDeletion (f : Formats) (w : World) (k : ℕ) : Type 0 where
  pub t : Ticket
  pub s : Swap
  pub n : ℕ
  pub uuids : List ℕ
  pub may : MaySettle f w k n t s
  pub deleting : IsDeleting w k t uuids (Some s)
  pub commands : s.commands ≡ commands_by t.clean uuids
  pub listed : t.clean ≡ true → t.whole ≡ true

-- at most 1,000 names at once, each doomed by its own settle
pub record RemovesDoomed (f : Formats) (w : World) (k : ℕ) (names : List BlobName) (image : Option Image) : Type 0 where
  pub t : Ticket
  pub uuids : List ℕ
  pub s : Swap
  pub deleting : IsDeleting w k t uuids (Some s)
  pub settled : t.settled ≡ true
  pub few : length names ≤ 1000
  pub doomed : Told image (λ blobs. (name : BlobName) → Has names name → Has (dooms f t) name)

-- a delete ends once its removals have named all that it doomed
pub record EndsDelete (f : Formats) (w : World) (k : ℕ) (image : Option Image) : Type 0 where
  pub t : Ticket
  pub uuids : List ℕ
  pub s : Swap
  pub deleting : IsDeleting w k t uuids (Some s)
  pub deletes : t.clean ≡ false
  pub settled : t.settled ≡ true
  pub removed : Told image (λ blobs. (name : BlobName) → Has (dooms f t) name → Has (removal_names (entries_by w.entries k)) name)

-- a delete fails before its settle, a cleanup also later on, while its op is open; what a stale one tells ends it alone
pub record FailsDeletion (w : World) (k : ℕ) : Type 0 where
  pub t : Ticket
  pub uuids : List ℕ
  pub plan : Option Swap
  pub deleting : IsDeleting w k t uuids plan
  pub may : (t.settled ≡ false) ⊎ ((t.clean ≡ true) × (t.term ≡ w.term → (x : Deletion) × (fin.get w.deletes t.op ≡ Some x)))

-- How a step of the ticket of a delete or cleanup may be answered.
pub data PruneAllows (f : Formats) (w : World) : ℕ → Prune → Reply → Option Image → Type 0 where
  FetchingShard : (k : ℕ) (name : BlobName) (image : Option Image) → FetchesShard f w k name → Told image (λ blobs. (bytes : Bytes) × (fin.get w.blobs (f.names.text name) ≡ Some bytes) × (blobs ≡ w.blobs))
      → PruneAllows f w k (FetchShard name) WasFetched image
  ShardMissing : (k : ℕ) (name : BlobName) (image : Option Image) → FetchesShard f w k name → Told image (λ blobs. (fin.get w.blobs (f.names.text name) ≡ None) × (blobs ≡ w.blobs)) → PruneAllows f w k (FetchShard name) WasAbsent image
  FetchShardFails : (k : ℕ) (name : BlobName) (image : Option Image) → FetchesShard f w k name → SameBlobs w image → PruneAllows f w k (FetchShard name) (Refused DepotFault) image
  Planning : (k : ℕ) (shards : List PrunedShard) (image : Option Image) (p : MayPlan f w k shards image) → w.next_id + kept_count shards < first_id (suc w.term) → ReadsBack f.root (deleted_root p.t.root p.uuids shards w.next_id)
      → SameBlobs w image → PruneAllows f w k (PlanShards shards) (DrawnFrom w.next_id) image
  PlanSpent : (k : ℕ) (shards : List PrunedShard) (image : Option Image) → MayPlan f w k shards image → first_id (suc w.term) ≤ w.next_id + kept_count shards → SameBlobs w image
      → PruneAllows f w k (PlanShards shards) (Refused (IdsSpent w.next_id)) image
  SettlingDelete : (k : ℕ) (image : Option Image) (s : SettlesDeletion f w k) → s.t.term ≡ w.term → SameBlobs w image → PruneAllows f w k SettlePruned WasSettled image
  SettleDeleteStale : (k : ℕ) (image : Option Image) (s : SettlesDeletion f w k) → s.t.term ≢ w.term → SameBlobs w image → PruneAllows f w k SettlePruned (Refused (StaleTerm s.t.term w.term)) image
  SettleDeleteFails : (k : ℕ) (image : Option Image) (s : SettlesDeletion f w k) → s.t.term ≡ w.term → SameBlobs w image → PruneAllows f w k SettlePruned (Refused DepotFault) image
  RemovingDoomed : (k : ℕ) (names : List BlobName) (image : Option Image) → RemovesDoomed f w k names image
      → Told image (λ blobs. Removes f w.blobs blobs names × ((name : BlobName) → Has names name → fin.get blobs (f.names.text name) ≡ None)) → PruneAllows f w k (RemoveDoomed names) WasRemoved image
  RemoveDoomedFails : (k : ℕ) (names : List BlobName) (image : Option Image) → RemovesDoomed f w k names image → Told image (λ blobs. Removes f w.blobs blobs names) → PruneAllows f w k (RemoveDoomed names) (Refused DepotFault) image
  EndingDelete : (k : ℕ) (image : Option Image) → EndsDelete f w k image → SameBlobs w image → PruneAllows f w k EndDelete HasEnded image
  FailingDelete : (k : ℕ) (why : Why) (image : Option Image) → FailsDeletion w k → SameBlobs w image → PruneAllows f w k (DeleteFails why) HasEnded image

-- ---- all steps

-- Who may answer a step so, in a world that isn't deposed. A case each for an answer; a further step is a further case.
pub data Allows (f : Formats) (part_size : ℕ) (w : World) : ℕ → Step → Reply → Option Image → Type 0 where
  Accepting : (name : Bytes) (indices : List AskedIndex) (moment o : ℕ) (image : Option Image) → Accepts f w name indices moment o → SameBlobs w image → Allows f part_size w 0 (AskStep (Snapshot name indices moment)) (Accepted o) image
  GivingNothing : (image : Option Image) → (AnyReady w → ⊥) → SameBlobs w image → Allows f part_size w 0 TakeStep NothingReady image
  Giving : (k o : ℕ) (unit : Given) (image : Option Image) → k ≡ w.next_ticket → ((p : ℕ) → p < o → HasReady w p → ⊥) → Gives f w o unit → SameBlobs w image → Allows f part_size w 0 TakeStep (Gave k o unit) image
  Drawing : (k n first : ℕ) (image : Option Image) → Draws f w k n first → SameBlobs w image → Allows f part_size w k (DrawStep n) (DrawnFrom first) image
  Beginning : (k : ℕ) (name : BlobName) (image : Option Image) → Commits f part_size w k name → SameBlobs w image → Allows f part_size w k (BeginStep name) WasBegun image
  BeginningLatest : (k : ℕ) (image : Option Image) → Puts f w k → SameBlobs w image → Allows f part_size w k (BeginStep Latest) WasBegun image
  Committing : (k : ℕ) (name : BlobName) (image : Option Image) (c : Commits f part_size w k name) → Told image (Adds f w name c.bytes) → Allows f part_size w k (CommitStep name) WasDone image
  Finding : (k : ℕ) (name : BlobName) (image : Option Image) → Refinds f w k name → Told image (λ blobs. Present f w.blobs name × (blobs ≡ w.blobs)) → Allows f part_size w k (CommitStep name) WasThere image
  Replacing : (k : ℕ) (image : Option Image) (p : Puts f w k) → ReadsBack f.names Latest → Told image (λ blobs. blobs ≡ fin.insert w.blobs (f.names.text Latest) (latest_text p.n)) → Allows f part_size w k LatestStep WasReplaced image
  Fetching : (k : ℕ) (name : BlobName) (image : Option Image) → Fetches f w k name → Told image (λ blobs. (bytes : Bytes) × (fin.get w.blobs (f.names.text name) ≡ Some bytes) × (blobs ≡ w.blobs))
      → Allows f part_size w k (FetchStep name) WasFetched image
  Missing : (k : ℕ) (name : BlobName) (image : Option Image) → Fetches f w k name → Told image (λ blobs. (fin.get w.blobs (f.names.text name) ≡ None) × (blobs ≡ w.blobs)) → Allows f part_size w k (FetchStep name) WasAbsent image
  Listing : (k : ℕ) (from : Option Bytes) (page : List BlobSize) (image : Option Image) → ListsPage w k from → IsPage from page → Told image (λ blobs. IsPageOf w.blobs from page × (blobs ≡ w.blobs))
      → Allows f part_size w k (ListStep from) (WasListed page) image
  Raising : (k n : ℕ) (image : Option Image) → Raises f w k n → SameBlobs w image → Allows f part_size w k RaiseStep (RaisedTo n) image
  Settling : (k : ℕ) (image : Option Image) → Settles f w k → SameBlobs w image → Allows f part_size w k SettleStep WasSettled image
  Doing : (k : ℕ) (r : ShardResult) (image : Option Image) → Dones f part_size w k r image → SameBlobs w image → Allows f part_size w k (DoneStep r) HasEnded image
  Failing : (k : ℕ) (why : Why) (image : Option Image) → Fails w k → SameBlobs w image → Allows f part_size w k (FailedStep why) HasEnded image
  Finishing : (k : ℕ) (image : Option Image) → Finishes w k → SameBlobs w image → Allows f part_size w k FinishStep HasEnded image
  Dropping : (k : ℕ) (image : Option Image) → Drops f w k image → SameBlobs w image → Allows f part_size w k DroppedStep HasEnded image
  Electing : (image : Option Image) → suc w.term < 2 ^ 63 → SameBlobs w image → Allows f part_size w 0 ElectStep (ElectedTerm (suc w.term)) image
  Looking : (image : Option Image) → SameBlobs w image → Allows f part_size w 0 LookStep (Looked w.root.snapshots w.safe) image
  OpeningRestore : (name place : Bytes) (o uuid : ℕ) (indices : List IndexRef) (image : Option Image) → AcceptsRestore f w name o uuid indices image → SameBlobs w image
      → Allows f part_size w 0 (AskStep (Restore name place)) (AcceptedRestore o uuid indices) image
  OpeningClone : (source name : Bytes) (names : List Bytes) (moment o : ℕ) (taken : CloneOf) (image : Option Image) → AcceptsClone f w source name names moment o taken image → SameBlobs w image
      → Allows f part_size w 0 (AskStep (Clone source name names moment (Some taken))) (Accepted o) image
  -- it goes into its own op or into one that is open
  GoingInto : (names : List Bytes) (image : Option Image) → AcceptsDelete w names → SameBlobs w image → Allows f part_size w 0 (AskStep (DeleteSnapshots names)) (Accepted (delete_number w names)) image
  OpeningCleanup : (image : Option Image) → AcceptsCleanup w → SameBlobs w image → Allows f part_size w 0 (AskStep Cleanup) (Accepted w.next_op) image
  Verifying : (read : Read) (reply : Reply) (image : Option Image) → VerifyAllows f w read reply image → Allows f part_size w 0 (ReadStep read) reply image
  Reading : (k : ℕ) (read : Read) (reply : Reply) (image : Option Image) → ReadAllows f w k read reply image → SameBlobs w image → Allows f part_size w k (ReadStep read) reply image
  Pruning : (k : ℕ) (prune : Prune) (reply : Reply) (image : Option Image) → PruneAllows f w k prune reply image → Allows f part_size w k (PruneStep prune) reply image
  -- refusals by rule
  Ruled : (command : Asked) (refusal : Refusal) (image : Option Image) → RefusedBy w command refusal → SameBlobs w image → Allows f part_size w 0 (AskStep command) (Refused refusal) image
  DrawSpent : (k n : ℕ) (image : Option Image) → MayDraw f w k n → first_id (suc w.term) ≤ w.next_id + n → SameBlobs w image → Allows f part_size w k (DrawStep n) (Refused (IdsSpent w.next_id)) image
  RaiseStale : (k : ℕ) (image : Option Image) (may : MayRaise f w k) → may.t.term ≢ w.term → SameBlobs w image → Allows f part_size w k RaiseStep (Refused (StaleTerm may.t.term w.term)) image
  SettleStale : (k n : ℕ) (t : Ticket) (s : Swap) (image : Option Image) → MaySettle f w k n t s → t.term ≢ w.term → SameBlobs w image → Allows f part_size w k SettleStep (Refused (StaleTerm t.term w.term)) image
  DropStale : (k : ℕ) (image : Option Image) (may : MayDrop f w k image) → may.t.term ≢ w.term → SameBlobs w image → Allows f part_size w k DroppedStep (Refused (StaleTerm may.t.term w.term)) image
  RaiseSpent : (k : ℕ) (image : Option Image) (may : MayRaise f w k) → may.t.term ≡ w.term → 2 ^ 63 ≤ w.pending → SameBlobs w image → Allows f part_size w k RaiseStep (Refused (GenerationsSpent w.pending)) image
  ElectSpent : (image : Option Image) → 2 ^ 63 ≤ suc w.term → SameBlobs w image → Allows f part_size w 0 ElectStep (Refused (TermsSpent w.term)) image
  Taken : (k : ℕ) (name : BlobName) (image : Option Image) → Commits f part_size w k name → (IsMetadata name → ⊥) → Told image (λ blobs. Present f w.blobs name × (blobs ≡ w.blobs))
      → Allows f part_size w k (CommitStep name) (Refused (NameTaken name)) image
  -- calls that fail: of a commit nothing or the whole blob is left, of a replacement nothing or the blob, of a record swap the old record or the new one
  BeginFails : (k : ℕ) (name : BlobName) (image : Option Image) → Commits f part_size w k name → SameBlobs w image → Allows f part_size w k (BeginStep name) (Refused DepotFault) image
  BeginLatestFails : (k : ℕ) (image : Option Image) → Puts f w k → SameBlobs w image → Allows f part_size w k (BeginStep Latest) (Refused DepotFault) image
  CommitFails : (k : ℕ) (name : BlobName) (image : Option Image) (c : Commits f part_size w k name) → Told image (λ blobs. (blobs ≡ w.blobs) ⊎ Adds f w name c.bytes blobs)
      → Allows f part_size w k (CommitStep name) (Refused DepotFault) image
  ReplaceFails : (k : ℕ) (image : Option Image) (p : Puts f w k) → ReadsBack f.names Latest → Told image (λ blobs. (blobs ≡ w.blobs) ⊎ (blobs ≡ fin.insert w.blobs (f.names.text Latest) (latest_text p.n)))
      → Allows f part_size w k LatestStep (Refused DepotFault) image
  FetchFails : (k : ℕ) (name : BlobName) (image : Option Image) → Fetches f w k name → SameBlobs w image → Allows f part_size w k (FetchStep name) (Refused DepotFault) image
  ListFails : (k : ℕ) (from : Option Bytes) (image : Option Image) → ListsPage w k from → SameBlobs w image → Allows f part_size w k (ListStep from) (Refused DepotFault) image
  AskFails : (name : Bytes) (indices : List AskedIndex) (moment : ℕ) (image : Option Image) → Accepts f w name indices moment w.next_op → SameBlobs w image
      → Allows f part_size w 0 (AskStep (Snapshot name indices moment)) (Refused DepotFault) image
  AskCloneFails : (source name : Bytes) (names : List Bytes) (moment : ℕ) (taken : CloneOf) (image : Option Image) → AcceptsClone f w source name names moment w.next_op taken image → SameBlobs w image
      → Allows f part_size w 0 (AskStep (Clone source name names moment (Some taken))) (Refused DepotFault) image
  AskDeleteFails : (names : List Bytes) (image : Option Image) → AcceptsDelete w names → SameBlobs w image → Allows f part_size w 0 (AskStep (DeleteSnapshots names)) (Refused DepotFault) image
  AskCleanupFails : (image : Option Image) → AcceptsCleanup w → SameBlobs w image → Allows f part_size w 0 (AskStep Cleanup) (Refused DepotFault) image
  RaiseFails : (k : ℕ) (image : Option Image) → Raises f w k w.pending → SameBlobs w image → Allows f part_size w k RaiseStep (Refused DepotFault) image
  SettleFails : (k : ℕ) (image : Option Image) → Settles f w k → SameBlobs w image → Allows f part_size w k SettleStep (Refused DepotFault) image
  DropFails : (k : ℕ) (image : Option Image) → Drops f w k image → SameBlobs w image → Allows f part_size w k DroppedStep (Refused DepotFault) image
  ElectFails : (image : Option Image) → suc w.term < 2 ^ 63 → SameBlobs w image → Allows f part_size w 0 ElectStep (Refused DepotFault) image

-- ---- steps that are refused before they are looked at

abbrev pub IsFailure : Step → Type 0
IsFailure (FailedStep why) = Unit {0}
IsFailure step = ⊥

-- this delete aborted the op of the ticket: the ticket can only fail, unless it is the op's drop
pub record IsAborted (w : World) (who : ℕ) (step : Step) (by : ℕ) : Type 0 where
  pub t : Ticket
  pub out : IsOut w who t
  pub op : Op
  pub op_there : fin.get w.ops t.op ≡ Some op
  pub by_is : op.aborted ≡ Some by
  pub no_drop : t.work ≢ Drop
  pub no_failure : IsFailure step → ⊥

-- since a record swap failed, or else since a delete aborted the op of the ticket
pub data Blocks (w : World) (who : ℕ) (step : Step) : Refusal → Type 0 where
  ByFailedSwap : (place : ℕ) → w.deposed ≡ true → Blocks w who step (DeposedAt place)
  ByDelete : (by : ℕ) → w.deposed ≡ false → IsAborted w who step by → Blocks w who step (AbortedBy by)

pub record IsBlocked (w : World) (m : Moment) : Type 0 where
  pub refusal : Refusal
  pub blocks : Blocks w m.entry.who m.entry.step refusal
  pub refused : m.entry.reply ≡ Refused refusal
  pub same : SameBlobs w m.image

-- the moment is a step from this world, and the record's text is that of the world after it
pub record Allowed (f : Formats) (part_size : ℕ) (w : World) (m : Moment) : Type 0 where
  pub answered : ((w.deposed ≡ false) × Allows f part_size w m.entry.who m.entry.step m.entry.reply m.image) ⊎ IsBlocked w m
  -- a step of an aborted op's ticket has no other answer
  pub aborted : (by : ℕ) → w.deposed ≡ false → IsAborted w m.entry.who m.entry.step by → m.entry.reply ≡ Refused (AbortedBy by)
  -- no step is made twice
  pub once : w.deposed ≡ false → IsNewStep w m.entry.who m.entry.step
  pub record_back : ReadsBack f.cluster (record_of (after f w m))
  pub text : (image : Image) → m.image ≡ Some image → image.text ≡ Some (f.cluster.text (record_of (after f w m)))
