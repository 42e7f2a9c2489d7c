-- A step of the repository as the history tells it: who made it, what was asked, and what was answered.
use Rattle.std.specs.Prelude.{◌≡◌, ◌≢◌, ℕ, ℤ, Bool, true, false, List, Option, Some, refl}
use Rattle.esr_model.specs.Names.{BlobName}
use Rattle.esr_model.specs.Values.{Bytes, IndexRef, RootSnap, SnapInfo, ShardResult}
use Rattle.esr_model.specs.Delete.{PrunedShard}
use Rattle.esr_model.specs.Cleanup.{BlobSize}
use Rattle.esr_model.specs.Image.{Image}

-- an index that a snapshot is to hold, with the place of its files
pub record AskedIndex : Type 0 where
  pub name : Bytes
  pub shards : ℕ
  pub place : Bytes

-- what a clone takes: the snapshot that it copies, and these of its indices
pub record CloneOf : Type 0 where
  pub source : ℕ
  pub indices : List IndexRef

-- a command as it is asked
pub data Asked : Type 0 where
  Snapshot : (name : Bytes) (indices : List AskedIndex) (moment : ℕ) → Asked
  -- of these indices of a listed snapshot, of all where none is named; with what it takes, unless a rule refuses it
  Clone : (source name : Bytes) (indices : List Bytes) (moment : ℕ) (taken : Option CloneOf) → Asked
  DeleteSnapshots : (names : List Bytes) → Asked
  Restore : (name place : Bytes) → Asked
  Cleanup : Asked

-- the cluster record has the op
abbrev pub is_recorded : Asked → Bool
is_recorded (Snapshot name indices moment) = true
is_recorded (Clone source name indices moment taken) = true
is_recorded (DeleteSnapshots names) = true
is_recorded (Restore name place) = false
is_recorded Cleanup = true

-- of a restore alone it has none
pub unrecorded : (command : Asked) → is_recorded command ≡ false → (name : Bytes) × (place : Bytes) × (command ≡ Restore name place)
unrecorded (Restore name place) none = (name, place, refl)
unrecorded command none = absurd cc

-- it tells nothing that it takes
abbrev pub TakesNothing : Asked → Type 0
TakesNothing (Clone source name indices moment (Some taken)) = ⊥
TakesNothing command = Unit {0}

-- the unit that a ticket was given
pub data Given : Type 0 where
  GivenShard : (index number : ℕ) (base : Option ℕ) → Given
  GivenFinalize : (info : SnapInfo) (results : List ShardResult) → Given
  GivenDrop : Given
  -- a shard of a restore
  GivenRestore : (index number uuid : ℕ) → Given
  -- a shard of a clone of the snapshot `source`
  GivenClone : (index number source : ℕ) (base : Option ℕ) → Given
  -- an open delete of the snapshots with these uuids
  GivenDelete : (uuids : List ℕ) → Given
  -- an open cleanup
  GivenCleanup : Given

-- why bytes don't read as their kind: the first rule that they break
pub data Reason : Type 0 where
  NoJson : Reason
  -- the member under this key is absent, or of another kind, or a number that breaks this bound
  NoMember : (key : Bytes) → Reason
  OtherKind : (key : Bytes) → Reason
  OutOfRange : (key : Bytes) (limit : ℤ) → Reason
  -- a text breaks a rule of names, or isn't that of an id or of a digest
  BadName : Reason
  BadId : Reason
  -- what stands there stood before, or isn't listed
  Duplicate : Reason
  Unlisted : Reason

-- why a unit failed
pub data Why : Type 0 where
  -- a call of the container, a stage or a fetch failed
  OfDepot : Why
  OfSource : Why
  -- the two prints of one file
  OfChange : (first_len : ℕ) (first_digest : Bytes) (second_len : ℕ) (second_digest : Bytes) → Why
  -- a blob was absent
  OfAbsence : (name : BlobName) → Why
  -- what was fetched of a blob doesn't read, for this reason
  OfUnreadable : (name : BlobName) (reason : Reason) → Why
  -- the index on which a shard builds reads, but has this id, which it can't have yet
  OfAhead : (name : BlobName) (id : ℕ) → Why
  -- a blob that it was to commit was there already
  OfTaken : (name : BlobName) → Why
  -- this delete aborted its op
  OfAbort : (by : ℕ) → Why
  -- the ids of the term, or the generations, end here
  OfIdsSpent : (next : ℕ) → Why
  OfGenerationsSpent : (pending : ℕ) → Why
  OfTarget : Why
  -- a file, of which this is a part, has another print than is stated
  OfPrint : (name : BlobName) (stated_len : ℕ) (stated_digest : Bytes) (found_len : ℕ) (found_digest : Bytes) → Why
  -- two blobs that read, but don't agree
  OfDisagreement : (name other : BlobName) → Why

-- a step of a restore's ticket, or of who 0 that checks the repository or verifies the container
pub data Read : Type 0 where
  ReadBlob : (name : BlobName) → Read
  -- a shard is restored: so many files, of so many bytes
  RestoredShard : (files bytes : ℕ) → Read
  -- a check has read all: so many snapshots and blobs
  CheckedAll : (snapshots blobs : ℕ) → Read
  -- a verification of the container: an id is drawn, test blobs are committed under it, fetched and removed
  DrawTest : Read
  BeginTest : (name : BlobName) → Read
  CommitTest : (name : BlobName) → Read
  RemoveTests : (names : List BlobName) → Read
  VerifiedAll : Read
  ReadFails : (why : Why) → Read

-- a step of the ticket of a delete or cleanup, its writing and listing aside
pub data Prune : Type 0 where
  -- the index of a shard is fetched
  FetchShard : (name : BlobName) → Prune
  -- the shards whose generation goes; ids are drawn for those of which something is left
  PlanShards : (shards : List PrunedShard) → Prune
  SettlePruned : Prune
  RemoveDoomed : (names : List BlobName) → Prune
  -- all that a delete doomed was named in a removal
  EndDelete : Prune
  DeleteFails : (why : Why) → Prune

pub data Step : Type 0 where
  AskStep : (command : Asked) → Step
  TakeStep : Step
  DrawStep : (count : ℕ) → Step
  BeginStep : (name : BlobName) → Step
  CommitStep : (name : BlobName) → Step
  LatestStep : Step
  FetchStep : (name : BlobName) → Step
  -- a page of the listing, after this name
  ListStep : (from : Option Bytes) → Step
  RaiseStep : Step
  SettleStep : Step
  DoneStep : (result : ShardResult) → Step
  FailedStep : (why : Why) → Step
  FinishStep : Step
  DroppedStep : Step
  ElectStep : Step
  LookStep : Step
  ReadStep : (read : Read) → Step
  PruneStep : (prune : Prune) → Step

-- it asks for no clone
abbrev pub AsksNoClone : Step → Type 0
AsksNoClone step = (source name : Bytes) (indices : List Bytes) (moment : ℕ) (taken : Option CloneOf) → step ≢ AskStep (Clone source name indices moment taken)

-- it asks for no snapshot
abbrev pub AsksNoSnapshot : Step → Type 0
AsksNoSnapshot step = (name : Bytes) (indices : List AskedIndex) (moment : ℕ) → step ≢ AskStep (Snapshot name indices moment)

pub data Refusal : Type 0 where
  CleanupRunning : (op : ℕ) → Refusal
  NameInUse : (uuid : ℕ) → Refusal
  TooMany : (limit : ℕ) → Refusal
  -- the record swap at this place of the history failed
  DeposedAt : (place : ℕ) → Refusal
  -- this delete aborted the op of the ticket
  AbortedBy : (op : ℕ) → Refusal
  StaleTerm : (own now : ℕ) → Refusal
  GenerationsSpent : (pending : ℕ) → Refusal
  TermsSpent : (term : ℕ) → Refusal
  IdsSpent : (next : ℕ) → Refusal
  NameTaken : (name : BlobName) → Refusal
  DepotFault : Refusal
  -- no snapshot is listed under the name that stands at this place of the command, from 0 on
  NoSnapshot : (place : ℕ) → Refusal
  -- the snapshot has no index of the name that stands at this place of the command
  NoIndex : (place : ℕ) → Refusal
  BeingDeleted : (op : ℕ) → Refusal
  CloneRunning : (op : ℕ) → Refusal
  RestoreRunning : (op : ℕ) → Refusal
  -- a cleanup waits for no other op, and for no ticket
  BusyOp : (op : ℕ) → Refusal
  BusyTicket : (ticket : ℕ) → Refusal

pub data Reply : Type 0 where
  Accepted : (op : ℕ) → Reply
  NothingReady : Reply
  Gave : (ticket op : ℕ) (unit : Given) → Reply
  DrawnFrom : (first : ℕ) → Reply
  WasBegun : Reply
  -- a commit: the blob was added, or one of its name was there
  WasDone : Reply
  WasThere : Reply
  WasReplaced : Reply
  WasFetched : Reply
  WasAbsent : Reply
  WasListed : (page : List BlobSize) → Reply
  RaisedTo : (generation : ℕ) → Reply
  WasSettled : Reply
  HasEnded : Reply
  ElectedTerm : (term : ℕ) → Reply
  Looked : (snapshots : List RootSnap) (safe : ℕ) → Reply
  Refused : (refusal : Refusal) → Reply
  WasRemoved : Reply
  -- a restore of the snapshot with this uuid, which has these indices
  AcceptedRestore : (op uuid : ℕ) (indices : List IndexRef) → Reply

-- who: a ticket from 1 on, else 0
pub record Entry : Type 0 where
  pub who : ℕ
  pub step : Step
  pub reply : Reply

-- an entry, and the image after it where the container tells
pub record Moment : Type 0 where
  pub entry : Entry
  pub image : Option Image
