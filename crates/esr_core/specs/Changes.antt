-- What a step changes, whoever makes it and whatever it is answered: one case for each kind of change, so that a fact over all steps goes
-- over these alone.
use Rattle.std.specs.Prelude.{◌≡◌, ◌≢◌, ℕ, suc, ◌≤◌, ◌⊎◌, true, false, List, [], ◌∷◌, ◌++◌, Option, Some, None}
use Rattle.std.specs.Ordering.{nat_cmp}
use Rattle.std.specs.FinMap.{FinMap}
use Rattle.std.specs.FinMap as fin
use Rattle.esr_model.specs.Names.{BlobName, Latest}
use Rattle.esr_model.specs.Values.{Bytes, Has, ReadsBack, Formats}
use Rattle.esr_model.specs.Image.{Blobs, IsStored}
use Rattle.esr_model.specs.Kept.{first_id}
use Rattle.esr_core.specs.World.{World, Op, Deletion, Deleting, Ticket, ReadState, RestoreShard, Restoring, Reader, Swap, swap}
use Rattle.esr_core.specs.Restores.{IsReading, put_restore, shard_handed, more_read, shard_ended}
use Rattle.esr_core.specs.Steps.{IsOut, settled, Removes}
use Rattle.esr_core.specs.Turns.{Aborts}
use Rattle.esr_core.specs.Entry.{ReadBlob, RestoredShard, CommitTest, RemoveTests, ReadFails, RemoveDoomed, Cleanup, Step, AskStep, TakeStep, CommitStep, LatestStep, DroppedStep, ElectStep, LookStep, ReadStep, PruneStep}
use Rattle.esr_core.specs.After.{swaps_record}
use Rattle.esr_core.specs.History.{is_settle}

abbrev pub IsAsk : Step → Type 0
IsAsk (AskStep command) = Unit {0}
IsAsk step = ⊥

-- a ticket that was given just now
pub record IsNewTicket (w : World) (t : Ticket) : Type 0 where
  pub term : t.term ≡ w.term
  pub safe : t.safe ≡ w.safe
  pub root : t.root ≡ w.root
  pub drawn : t.drawn ≡ 0
  pub noted : (name : BlobName) → Has t.noted name → ⊥
  pub wrote : (name : BlobName) (bytes : Bytes) → Has t.wrote (name, bytes) → ⊥
  pub read : (name : BlobName) (bytes : Bytes) → Has t.read (name, bytes) → ⊥
  pub raised : t.raised ≡ None
  pub settled : t.settled ≡ false
  pub out : t.out ≡ true
  pub listed : t.listed ≡ []
  pub whole : t.whole ≡ false

-- the ticket later on: its unit and its copies are the same, a delete's has its plan; what it has noted, written and read it keeps
pub record SameUnit (t v : Ticket) : Type 0 where
  pub work : (v.work ≡ t.work) ⊎ ((uuids : List ℕ) × (plan : Option Swap) × (s : Swap) × (t.work ≡ Deleting uuids plan) × (v.work ≡ Deleting uuids (Some s)))
  pub op : v.op ≡ t.op
  pub uuid : v.uuid ≡ t.uuid
  pub place : v.place ≡ t.place
  pub name : v.name ≡ t.name
  pub source : v.source ≡ t.source
  pub term : v.term ≡ t.term
  pub safe : v.safe ≡ t.safe
  pub root : v.root ≡ t.root
  pub base : v.base ≡ t.base
  pub clean : v.clean ≡ t.clean
  pub noted : (name : BlobName) → Has t.noted name → Has v.noted name
  pub wrote : (name : BlobName) (bytes : Bytes) → Has t.wrote (name, bytes) → Has v.wrote (name, bytes)
  pub read : (name : BlobName) (bytes : Bytes) → Has t.read (name, bytes) → Has v.read (name, bytes)
  pub settled : t.settled ≡ true → v.settled ≡ true
  -- it never comes back
  pub out : v.out ≡ true → t.out ≡ true

-- the op later on, the state of its shards and its failure aside
pub record SameOp (op v : Op) : Type 0 where
  pub name : v.name ≡ op.name
  pub uuid : v.uuid ≡ op.uuid
  pub moment : v.moment ≡ op.moment
  pub indices : v.indices ≡ op.indices
  pub source : v.source ≡ op.source
  pub aborted : v.aborted ≡ op.aborted
  pub failed : op.failed ≡ true → v.failed ≡ true

-- the ops as they were, or one of them later on
pub data SameOps (ops : FinMap nat_cmp Op) : FinMap nat_cmp Op → Type 0 where
  AsBefore : SameOps ops ops
  OneAnew : (o : ℕ) (op v : Op) → fin.get ops o ≡ Some op → SameOp op v → SameOps ops (fin.insert ops o v)

-- What the step of who makes of the world, its blobs and what was done so far aside.
pub data StepChange (f : Formats) (w : World) (who : ℕ) (step : Step) : World → Type 0 where
  NoChange : StepChange f w who step w
  -- it is asked for: a snapshot or a clone, a cleanup or a delete of its own, one that goes into another, a restore
  NewOp : IsAsk step → (op : Op) (completed : List ℕ) (next_id : ℕ) → op.uuid ≡ w.next_id → w.next_id ≤ next_id
      → StepChange f w who step (record w { ops = fin.insert w.ops w.next_op op; next_op = suc w.next_op; completed = completed; next_id = next_id })
  NewDeletion : IsAsk step → (ops : FinMap nat_cmp Op) (x : Deletion) → Aborts w.ops ops w.next_op → (x.clean ≡ false) ⊎ (step ≡ AskStep Cleanup)
      → StepChange f w who step (record w { ops = ops; deletes = fin.insert w.deletes w.next_op x; next_op = suc w.next_op })
  MergedDeletion : IsAsk step → (ops : FinMap nat_cmp Op) (d : ℕ) (x v : Deletion) → Aborts w.ops ops d → fin.get w.deletes d ≡ Some x → v.clean ≡ x.clean → v.failed ≡ x.failed
      → StepChange f w who step (record w { ops = ops; deletes = fin.insert w.deletes d v })
  NewRestore : IsAsk step → (r : Restoring) → StepChange f w who step (record w { restores = put_restore w.restores w.next_op r; next_op = suc w.next_op })
  -- a ticket is given, or a restore's
  NewTicket : step ≡ TakeStep → (t : Ticket) → IsNewTicket w t → (ops : FinMap nat_cmp Op) → SameOps w.ops ops
      → StepChange f w who step (record w { ops = ops; tickets = fin.insert w.tickets w.next_ticket t; next_ticket = suc w.next_ticket })
  NewReader : step ≡ TakeStep → (o : ℕ) (r : Restoring) (s : RestoreShard) → fin.get w.restores o ≡ Some r → StepChange f w who step (shard_handed w o r s)
  -- its ticket goes on, or ends alone: it has drawn, noted, fetched, planned, raised, or is over
  OwnTicket : (t v : Ticket) → fin.get w.tickets who ≡ Some t → SameUnit t v → v.settled ≡ t.settled → (next_id pending : ℕ) → w.next_id ≤ next_id → w.pending ≤ pending
      → StepChange f w who step (record w { tickets = fin.insert w.tickets who v; next_id = next_id; pending = pending })
  -- the op of a cleanup stays
  Settlement : is_settle step ≡ true → (t : Ticket) (s : Swap) (n : ℕ) (names : List BlobName) (deletes : FinMap nat_cmp Deletion) → fin.get w.tickets who ≡ Some t → swap f t ≡ Some s → t.raised ≡ Some n
      → (deletes ≡ fin.remove w.deletes t.op) ⊎ ((t.clean ≡ true) × (deletes ≡ w.deletes)) → StepChange f w who step (record (settled w who t n s.root) { deletes = deletes; doomed = names ++ w.doomed })
  -- its ticket ends with its shard, or since it failed
  UnitEnd : (t : Ticket) (op v : Op) (completed : List ℕ) → fin.get w.tickets who ≡ Some t → fin.get w.ops t.op ≡ Some op → SameOp op v
      → StepChange f w who step (record w { ops = fin.insert w.ops t.op v; tickets = fin.insert w.tickets who (record t { out = false }); completed = completed })
  DeletionFailure : (t : Ticket) (x : Deletion) → fin.get w.tickets who ≡ Some t → fin.get w.deletes t.op ≡ Some x
      → StepChange f w who step (record w { deletes = fin.insert w.deletes t.op (record x { failed = true }); tickets = fin.insert w.tickets who (record t { out = false }) })
  OpDrop : step ≡ DroppedStep → (t : Ticket) → fin.get w.tickets who ≡ Some t
      → StepChange f w who step (record w { ops = fin.remove w.ops t.op; deletes = fin.remove w.deletes t.op; tickets = fin.insert w.tickets who (record t { out = false }) })
  Election : step ≡ ElectStep → StepChange f w who step (record w { term = suc w.term; next_id = first_id (suc w.term) })
  -- a restore's ticket has read a blob, or ends
  ReaderFetch : (q : Reader) (name : BlobName) (bytes : Bytes) → fin.get w.readers who ≡ Some q → StepChange f w who step (more_read w who q name bytes)
  ReaderEnd : (q : Reader) (r : Restoring) (state : ReadState) → fin.get w.readers who ≡ Some q → fin.get w.restores q.op ≡ Some r → StepChange f w who step (shard_ended w who q r state)
  -- ids are drawn for no ticket, and test blobs are doomed
  PlainDraw : (next_id pending : ℕ) → w.next_id ≤ next_id → w.pending ≤ pending → StepChange f w who step (record w { next_id = next_id; pending = pending })
  TestBlob : (name : BlobName) → step ≡ ReadStep (CommitTest name) → StepChange f w who step (record w { doomed = name ∷ w.doomed })
  -- a record swap failed, which leaves the world as it was or as where it is answered Ok
  SwapFault : swaps_record step ≡ true → (up : World) → StepChange f w who step up → StepChange f w who step (record up { deposed = true })

-- ---- what follows for every step

-- a ticket that is there was there as the same unit, or was given just now
abbrev pub TicketsCome : World → FinMap nat_cmp Ticket → Type 0
TicketsCome w now = (k : ℕ) (v : Ticket) → fin.get now k ≡ Some v → ((t : Ticket) × (fin.get w.tickets k ≡ Some t) × SameUnit t v) ⊎ ((k ≡ w.next_ticket) × IsNewTicket w v)

-- and one that was there is there as the same unit
abbrev pub TicketsStay : World → FinMap nat_cmp Ticket → Type 0
TicketsStay w now = (k : ℕ) (t : Ticket) → k ≢ w.next_ticket → fin.get w.tickets k ≡ Some t → (v : Ticket) × (fin.get now k ≡ Some v) × SameUnit t v

-- What the step of who leaves, whatever it is.
pub record StepFrame (w new : World) (who : ℕ) (step : Step) : Type 0 where
  -- all tickets but its own and the one that it gives
  pub others : (k : ℕ) → k ≢ who → k ≢ w.next_ticket → fin.get new.tickets k ≡ fin.get w.tickets k
  pub readers : (k : ℕ) → k ≢ who → k ≢ w.next_ticket → fin.get new.readers k ≡ fin.get w.readers k
  pub come : TicketsCome w new.tickets
  pub stay : TicketsStay w new.tickets
  -- the term changes with an election alone, the safe root with a settle alone
  pub term : (new.term ≡ w.term) ⊎ (step ≡ ElectStep)
  pub root : ((new.safe ≡ w.safe) × (new.root ≡ w.root)) ⊎ (is_settle step ≡ true)
  pub next_op : w.next_op ≤ new.next_op
  pub next_ticket : w.next_ticket ≤ new.next_ticket
  pub pending : w.pending ≤ new.pending
  -- what was doomed stays so
  pub doomed : (name : BlobName) → Has w.doomed name → Has new.doomed name

-- ---- the blobs, where the container tells

pub data BlobsChange (f : Formats) (w : World) (step : Step) (now : Blobs) : Type 0 where
  NoBlobChange : now ≡ w.blobs → BlobsChange f w step now
  -- a commit adds a blob under a name that was free
  NewBlob : (name : BlobName) (bytes : Bytes) → (step ≡ CommitStep name) ⊎ (step ≡ ReadStep (CommitTest name)) → IsStored f name → fin.get w.blobs (f.names.text name) ≡ None → now ≡ fin.insert w.blobs (f.names.text name) bytes
      → BlobsChange f w step now
  NewLatest : (bytes : Bytes) → step ≡ LatestStep → ReadsBack f.names Latest → now ≡ fin.insert w.blobs (f.names.text Latest) bytes → BlobsChange f w step now
  Removal : (names : List BlobName) → (step ≡ PruneStep (RemoveDoomed names)) ⊎ (step ≡ ReadStep (RemoveTests names)) → Removes f w.blobs now names → BlobsChange f w step now

-- ---- who makes a step

-- who 0: it asks, takes, elects and looks, checks the repository and verifies the container
abbrev pub IsClients : Step → Type 0
IsClients (AskStep command) = Unit {0}
IsClients TakeStep = Unit {0}
IsClients ElectStep = Unit {0}
IsClients LookStep = Unit {0}
IsClients (ReadStep (RestoredShard files bytes)) = ⊥
IsClients (ReadStep read) = Unit {0}
IsClients step = ⊥

-- a restore's ticket
abbrev pub IsReaders : Step → Type 0
IsReaders (ReadStep (ReadBlob name)) = Unit {0}
IsReaders (ReadStep (RestoredShard files bytes)) = Unit {0}
IsReaders (ReadStep (ReadFails why)) = Unit {0}
IsReaders step = ⊥

-- the ticket of any other unit
abbrev pub IsUnits : Step → Type 0
IsUnits (AskStep command) = ⊥
IsUnits TakeStep = ⊥
IsUnits ElectStep = ⊥
IsUnits LookStep = ⊥
IsUnits (ReadStep read) = ⊥
IsUnits step = Unit {0}

pub data Maker (w : World) (who : ℕ) (step : Step) : Type 0 where
  ClientStep : who ≡ 0 → IsClients step → Maker w who step
  ReaderStep : (q : Reader) → IsReading w who q → IsReaders step → Maker w who step
  UnitStep : (t : Ticket) → IsOut w who t → IsUnits step → Maker w who step
