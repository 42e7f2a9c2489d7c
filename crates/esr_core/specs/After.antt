-- The world after a step.
use Rattle.std.specs.Prelude.{ℕ, zero, suc, ◌+◌, Bool, true, false, List, [], ◌∷◌, ◌++◌, Option, Some, None, map, ◌==◌, ◌&&◌, if◌then◌else◌}
use Rattle.std.specs.Ordering.{nat_cmp}
use Rattle.std.specs.FinMap.{FinMap}
use Rattle.std.specs.FinMap as fin
use Rattle.esr_model.specs.Names.{BlobName, Latest}
use Rattle.esr_model.specs.Values.{Bytes, IndexRef, RootIndex, ShardResult, Formats}
use Rattle.esr_model.specs.Uploads.{same_bytes}
use Rattle.esr_model.specs.Kept.{first_id}
use Rattle.esr_model.specs.Places.{places}
use Rattle.esr_model.specs.Delete.{kept_count}
use Rattle.esr_model.specs.Image.{Blobs, Image}
use Rattle.esr_core.specs.World.{World, Op, Deletion, ShardWork, Pending, Done, ReadState, Restored, NotRestored, RestoreShard, Restoring, Reader, Caller, no_caller, Work, Shard, Finalize, Deleting, Drop, Ticket, Swap, swap, marked, record_of}
use Rattle.esr_core.specs.Past.{with_entry}
use Rattle.esr_core.specs.Restores.{restore_shard, restore_opened, shard_handed, more_read, shard_ended}
use Rattle.esr_core.specs.Steps.{with_ticket, noting, writing, reading, given, completing, settled, shard_ticket, final_ticket, listing, plain_ticket}
use Rattle.esr_core.specs.Turns.{cleaning_ticket, fails}
use Rattle.esr_core.specs.Pruning.{planned, dooms}
use Rattle.esr_core.specs.Deletes.{asked_delete}
use Rattle.esr_core.specs.Entry.{AskedIndex, CloneOf, Asked, Snapshot, Clone, DeleteSnapshots, Restore, Cleanup, is_recorded, Given, GivenShard, GivenFinalize, GivenDrop, GivenRestore, GivenClone, GivenDelete, GivenCleanup, Read, ReadBlob, RestoredShard, CheckedAll, DrawTest, CommitTest, RemoveTests, VerifiedAll, ReadFails, Prune, FetchShard, PlanShards, SettlePruned, RemoveDoomed, EndDelete, DeleteFails, Step, AskStep, TakeStep, DrawStep, BeginStep, CommitStep, LatestStep, FetchStep, ListStep, RaiseStep, SettleStep, DoneStep, FailedStep, FinishStep, DroppedStep, ElectStep, LookStep, ReadStep, PruneStep, StaleTerm, AbortedBy, IdsSpent, DeposedAt, DepotFault, Reply, Gave, DrawnFrom, WasRemoved, WasDone, WasThere, WasFetched, WasAbsent, WasListed, HasEnded, Refused, AcceptedRestore, Moment}

abbrev pub or_else : {A : Type 0} → Option A → Option A → Option A
or_else None b = b
or_else (Some a) b = Some a

-- ---- ask

-- the id of an index by its name: in a root, in the indices of an op, in the open ops
abbrev pub root_index_id : List RootIndex → Bytes → Option ℕ
root_index_id [] name = None
root_index_id (x ∷ xs) name = if same_bytes x.name name then Some x.id else root_index_id xs name

abbrev pub index_id : List IndexRef → Bytes → Option ℕ
index_id [] name = None
index_id (r ∷ refs) name = if same_bytes r.name name then Some r.id else index_id refs name

abbrev pub open_index_id : List (ℕ × Op) → Bytes → Option ℕ
open_index_id [] name = None
open_index_id (e ∷ ops) name = or_else (index_id e.1.indices name) (open_index_id ops name)

abbrev pub known_id : World → Bytes → Option ℕ
known_id w name = or_else (root_index_id w.root.indices name) (open_index_id (fin.entries w.ops) name)

abbrev pub ref_by : AskedIndex → Option ℕ → ℕ → IndexRef
ref_by a None next = record { id = next; name = a.name; shards = a.shards }
ref_by a (Some id) next = record { id = id; name = a.name; shards = a.shards }

-- one more where the name is new
abbrev pub next_by : Option ℕ → ℕ → ℕ
next_by None next = suc next
next_by (Some id) next = next

-- the indices with their ids, where new ones are drawn one after another
abbrev pub refs_from : World → ℕ → List AskedIndex → List IndexRef
refs_from w next [] = []
refs_from w next (a ∷ asked) = ref_by a (known_id w a.name) next ∷ refs_from w (next_by (known_id w a.name) next) asked

-- how many names are new
abbrev pub new_names : World → List AskedIndex → ℕ
new_names w [] = 0
new_names w (a ∷ asked) = next_by (known_id w a.name) (new_names w asked)

abbrev pub pending_shards : AskedIndex → IndexRef → ℕ → ℕ → List ShardWork
pending_shards a r first zero = []
pending_shards a r first (suc n) = record { ref = r; number = first; place = a.place; state = Pending } ∷ pending_shards a r (suc first) n

abbrev pub all_pending : List AskedIndex → List IndexRef → List ShardWork
all_pending [] refs = []
all_pending (a ∷ asked) [] = []
all_pending (a ∷ asked) (r ∷ refs) = pending_shards a r 0 r.shards ++ all_pending asked refs

-- the op of a snapshot: it draws its uuid, then an id for each index whose name is new
abbrev pub asked_op : World → Bytes → List AskedIndex → ℕ → Op
asked_op w name indices moment =
    record {
      name = name;
      uuid = w.next_id;
      moment = moment;
      indices = refs_from w (suc w.next_id) indices;
      shards = all_pending indices (refs_from w (suc w.next_id) indices);
      failed = false;
      source = None;
      aborted = None;
    }

-- the index of this name
abbrev pub ref_by_name : List IndexRef → Bytes → Option IndexRef
ref_by_name [] name = None
ref_by_name (r ∷ refs) name = if same_bytes r.name name then Some r else ref_by_name refs name

abbrev pub and_ref : Option IndexRef → List IndexRef → List IndexRef
and_ref None refs = refs
and_ref (Some r) refs = r ∷ refs

abbrev pub named_refs : List IndexRef → List Bytes → List IndexRef
named_refs all [] = []
named_refs all (name ∷ names) = and_ref (ref_by_name all name) (named_refs all names)

-- a clone takes the named indices in the order of their names, all in the order of the info where none is named
abbrev pub chosen_refs : List IndexRef → List Bytes → List IndexRef
chosen_refs all [] = all
chosen_refs all (name ∷ names) = named_refs all (name ∷ names)

-- a shard of a clone, whose files are at no place
abbrev pub copied_shard : IndexRef × ℕ → ShardWork
copied_shard p = record { ref = p.0; number = p.1; place = []; state = Pending }

-- the op of a clone: it draws its uuid alone
abbrev pub cloned_op : World → Bytes → ℕ → CloneOf → Op
cloned_op w name moment taken =
    record {
      name = name;
      uuid = w.next_id;
      moment = moment;
      indices = taken.indices;
      shards = map copied_shard (places taken.indices);
      failed = false;
      source = Some taken.source;
      aborted = None;
    }

abbrev pub clone_opened : World → Bytes → ℕ → CloneOf → World
clone_opened w name moment taken =
    let op : Op = cloned_op w name moment taken in
    record w { ops = fin.insert w.ops w.next_op op; next_op = suc w.next_op; completed = completing w.completed w.next_op op.shards; next_id = suc w.next_id }

abbrev pub cleanup_opened : World → World
cleanup_opened w = record w { deletes = fin.insert w.deletes w.next_op (record { uuids = []; clean = true; failed = false }); next_op = suc w.next_op }

abbrev pub asked : World → Asked → World
asked w (Snapshot name indices moment) =
    let op : Op = asked_op w name indices moment in
    record w { ops = fin.insert w.ops w.next_op op; next_op = suc w.next_op; completed = completing w.completed w.next_op op.shards; next_id = w.next_id + suc (new_names w indices) }
asked w (DeleteSnapshots names) = asked_delete w names
asked w (Clone source name indices moment None) = w
asked w (Clone source name indices moment (Some taken)) = clone_opened w name moment taken
asked w Cleanup = cleanup_opened w
-- what a restore reads its acceptance tells
asked w (Restore name place) = w

-- ---- take

-- the shard of an op that is of this index and number
abbrev pub shard_of : List ShardWork → ℕ → ℕ → Option ShardWork
shard_of [] index number = None
shard_of (s ∷ shards) index number = if (s.ref.id == index) && (s.number == number) then Some s else shard_of shards index number

abbrev pub taken_shard : World → ℕ → Op → Option ℕ → Option ShardWork → World
taken_shard w o op base None = w
taken_shard w o op base (Some s) =
    record w { ops = fin.insert w.ops o (record op { shards = map (given w.next_ticket s.ref.id s.number) op.shards }); tickets = fin.insert w.tickets w.next_ticket (shard_ticket w o op s base); next_ticket = suc w.next_ticket }

-- a shard of a restore
abbrev pub taken_restore_shard : World → ℕ → Restoring → Option RestoreShard → World
taken_restore_shard w o r None = w
taken_restore_shard w o r (Some s) = shard_handed w o r s

abbrev pub taken_restore : World → ℕ → ℕ → ℕ → Option Restoring → World
taken_restore w o index number None = w
taken_restore w o index number (Some r) = taken_restore_shard w o r (restore_shard r.shards index number)

abbrev pub taken_by : Formats → World → ℕ → Given → Option Op → World
taken_by f w o (GivenShard index number base) (Some op) = taken_shard w o op base (shard_of op.shards index number)
taken_by f w o (GivenShard index number base) None = w
taken_by f w o (GivenClone index number source base) (Some op) = taken_shard w o op base (shard_of op.shards index number)
taken_by f w o (GivenClone index number source base) None = w
taken_by f w o (GivenFinalize info results) (Some op) = record w { tickets = fin.insert w.tickets w.next_ticket (final_ticket f w o op results); next_ticket = suc w.next_ticket }
taken_by f w o (GivenFinalize info results) None = w
taken_by f w o GivenDrop op = record w { tickets = fin.insert w.tickets w.next_ticket (plain_ticket w o Drop); next_ticket = suc w.next_ticket }
taken_by f w o (GivenRestore index number uuid) op = taken_restore w o index number (fin.get w.restores o)
taken_by f w o (GivenDelete uuids) op = record w { tickets = fin.insert w.tickets w.next_ticket (plain_ticket w o (Deleting uuids None)); next_ticket = suc w.next_ticket }
taken_by f w o GivenCleanup op = record w { tickets = fin.insert w.tickets w.next_ticket (cleaning_ticket w o); next_ticket = suc w.next_ticket }

-- ---- steps of a ticket

abbrev pub with_given : World → ℕ → (Ticket → Ticket) → Option Ticket → World
with_given w k g None = w
with_given w k g (Some t) = with_ticket w k (g t)

-- the ticket given anew
abbrev pub change : World → ℕ → (Ticket → Ticket) → World
change w k g = with_given w k g (fin.get w.tickets k)

-- the bytes of a blob, where they are told
abbrev pub told_blob : Formats → Option Image → BlobName → Option Bytes
told_blob f None name = None
told_blob f (Some image) name = fin.get image.blobs (f.names.text name)

abbrev pub committing : BlobName → Option Bytes → Ticket → Ticket
committing name None t = noting t name
committing name (Some bytes) t = writing t name bytes

abbrev pub fetching : BlobName → Option Bytes → Ticket → Ticket
fetching name None t = t
fetching name (Some bytes) t = reading t name bytes

abbrev pub raised : World → ℕ → World
raised w k = record (change w k (λ t. record t { raised = Some w.pending })) { pending = suc w.pending }

-- the new root of a ticket's swap
abbrev pub settled_by : Formats → World → ℕ → Ticket → Option Swap → Option ℕ → World
settled_by f w k t (Some s) (Some n) = record (settled w k t n s.root) { deletes = fin.remove w.deletes t.op }
settled_by f w k t (Some s) None = w
settled_by f w k t None n = w

abbrev pub settled_of : Formats → World → ℕ → Option Ticket → World
settled_of f w k None = w
settled_of f w k (Some t) = settled_by f w k t (swap f t) t.raised

abbrev pub done_by : World → ℕ → ShardResult → Ticket → Option Op → World
done_by w k r t None = w
done_by w k r t (Some op) =
    let shards : List ShardWork = map (marked k (Done r)) op.shards in
    record w { ops = fin.insert w.ops t.op (record op { shards = shards }); tickets = fin.insert w.tickets k (record t { out = false }); completed = completing w.completed t.op shards }

abbrev pub done_of : World → ℕ → ShardResult → Option Ticket → World
done_of w k r None = w
done_of w k r (Some t) = done_by w k r t (fin.get w.ops t.op)

-- what a stale master ticket reports as failed ends that ticket alone
abbrev pub is_stale : World → Ticket → Work → Bool
is_stale w t (Shard index number) = false
is_stale w t (Finalize info results made) = if t.term == w.term then false else true
is_stale w t (Deleting uuids plan) = if t.term == w.term then false else true
is_stale w t Drop = if t.term == w.term then false else true

abbrev pub failed_by : World → ℕ → Ticket → Option Op → World
failed_by w k t None = w
failed_by w k t (Some op) = record w { ops = fin.insert w.ops t.op (record op { shards = map (fails k) op.shards; failed = true }); tickets = fin.insert w.tickets k (record t { out = false }) }

abbrev pub failed_of : World → ℕ → Option Ticket → World
failed_of w k None = w
failed_of w k (Some t) = if is_stale w t t.work then with_ticket w k (record t { out = false }) else failed_by w k t (fin.get w.ops t.op)

abbrev pub dropped_of : World → ℕ → Option Ticket → World
dropped_of w k None = w
dropped_of w k (Some t) = record w { ops = fin.remove w.ops t.op; deletes = fin.remove w.deletes t.op; tickets = fin.insert w.tickets k (record t { out = false }) }

-- ---- steps of the ticket of a delete or cleanup

-- the op of a delete leaves with its settle, that of a cleanup stays
abbrev pub deletes_left : World → Ticket → FinMap nat_cmp Deletion
deletes_left w t = if t.clean then w.deletes else fin.remove w.deletes t.op

-- the new root, and the names that it dooms
abbrev pub delete_settled_by : Formats → World → ℕ → Ticket → Option Swap → Option ℕ → World
delete_settled_by f w k t (Some s) (Some n) = record (settled w k t n s.root) { deletes = deletes_left w t; doomed = dooms f t ++ w.doomed }
delete_settled_by f w k t (Some s) None = w
delete_settled_by f w k t None n = w

abbrev pub delete_settled : Formats → World → ℕ → Option Ticket → World
delete_settled f w k None = w
delete_settled f w k (Some t) = delete_settled_by f w k t (swap f t) t.raised

abbrev pub delete_failed_by : World → ℕ → Ticket → Option Deletion → World
delete_failed_by w k t None = w
delete_failed_by w k t (Some x) = record w { deletes = fin.insert w.deletes t.op (record x { failed = true }); tickets = fin.insert w.tickets k (record t { out = false }) }

-- what a stale ticket tells ends it alone
abbrev pub delete_failed : World → ℕ → Option Ticket → World
delete_failed w k None = w
delete_failed w k (Some t) = if is_stale w t t.work then with_ticket w k (record t { out = false }) else delete_failed_by w k t (fin.get w.deletes t.op)

abbrev pub prune_step : Formats → World → ℕ → Prune → Reply → Option Image → World
prune_step f w k (FetchShard name) WasFetched image = change w k (fetching name (told_blob f image name))
prune_step f w k (FetchShard name) reply image = w
prune_step f w k (PlanShards shards) reply image = record (change w k (planned f shards w.next_id)) { next_id = w.next_id + kept_count shards }
prune_step f w k SettlePruned reply image = delete_settled f w k (fin.get w.tickets k)
prune_step f w k (RemoveDoomed names) reply image = w
prune_step f w k EndDelete reply image = change w k (λ t. record t { out = false })
prune_step f w k (DeleteFails why) reply image = delete_failed w k (fin.get w.tickets k)

-- ---- steps that read: of a restore's ticket, where it is one

abbrev pub read_told : World → ℕ → BlobName → Option Bytes → Option Reader → World
read_told w k name bytes None = w
read_told w k name None (Some q) = w
read_told w k name (Some bytes) (Some q) = more_read w k q name bytes

abbrev pub shard_over : World → ℕ → ReadState → Reader → Option Restoring → World
shard_over w k state q None = w
shard_over w k state q (Some r) = shard_ended w k q r state

abbrev pub read_over : World → ℕ → ReadState → Option Reader → World
read_over w k state None = w
read_over w k state (Some q) = shard_over w k state q (fin.get w.restores q.op)

abbrev pub read_step : Formats → World → ℕ → Read → Reply → Option Image → World
read_step f w k (ReadBlob name) WasFetched image = read_told w k name (told_blob f image name) (fin.get w.readers k)
read_step f w k (ReadBlob name) reply image = w
read_step f w k (RestoredShard files bytes) reply image = read_over w k (Restored files bytes) (fin.get w.readers k)
read_step f w k (CheckedAll snapshots blobs) reply image = w
read_step f w k (ReadFails why) reply image = read_over w k (NotRestored why) (fin.get w.readers k)
read_step f w k read reply image = w

-- of who 0, which has no ticket: a test blob may be removed once it is there
abbrev pub read_by : Formats → World → ℕ → Read → Reply → Option Image → World
read_by f w zero DrawTest (DrawnFrom first) image = record w { next_id = suc w.next_id }
read_by f w zero (CommitTest name) WasDone image = record w { doomed = name ∷ w.doomed }
read_by f w zero read reply image = w
read_by f w (suc k) read reply image = read_step f w (suc k) read reply image

-- ---- all steps

-- the world after a step that was answered Ok, its blobs aside
abbrev pub done_step : Formats → World → ℕ → Step → Reply → Option Image → World
done_step f w k (AskStep (Snapshot name indices moment)) reply image = asked w (Snapshot name indices moment)
done_step f w k (AskStep (Clone source name indices moment taken)) reply image = asked w (Clone source name indices moment taken)
done_step f w k (AskStep (DeleteSnapshots names)) reply image = asked w (DeleteSnapshots names)
done_step f w k (AskStep (Restore name place)) (AcceptedRestore o uuid indices) image = restore_opened w uuid place indices
done_step f w k (AskStep Cleanup) reply image = asked w Cleanup
done_step f w k TakeStep (Gave ticket op unit) image = taken_by f w op unit (fin.get w.ops op)
done_step f w k (DrawStep n) reply image = record (change w k (λ t. record t { first = w.next_id; drawn = n })) { next_id = w.next_id + n }
done_step f w k (CommitStep name) WasDone image = change w k (committing name (told_blob f image name))
done_step f w k (CommitStep name) WasThere image = change w k (λ t. noting t name)
done_step f w k LatestStep reply image = change w k (λ t. record t { tried_latest = true })
done_step f w k (FetchStep name) WasFetched image = change w k (fetching name (told_blob f image name))
done_step f w k (ListStep from) (WasListed page) image = change w k (λ t. listing t page)
done_step f w k RaiseStep reply image = raised w k
done_step f w k SettleStep reply image = settled_of f w k (fin.get w.tickets k)
done_step f w k (DoneStep result) reply image = done_of w k result (fin.get w.tickets k)
done_step f w k (FailedStep why) reply image = failed_of w k (fin.get w.tickets k)
done_step f w k FinishStep reply image = change w k (λ t. record t { out = false })
done_step f w k DroppedStep reply image = dropped_of w k (fin.get w.tickets k)
done_step f w k ElectStep reply image = record w { term = suc w.term; next_id = first_id (suc w.term) }
done_step f w k (ReadStep read) reply image = read_by f w k read reply image
done_step f w k (PruneStep prune) reply image = prune_step f w k prune reply image
done_step f w k step reply image = w

-- a step that swaps the record
abbrev pub swaps_record : Step → Bool
swaps_record (AskStep command) = is_recorded command
swaps_record RaiseStep = true
swaps_record SettleStep = true
swaps_record DroppedStep = true
swaps_record ElectStep = true
swaps_record (PruneStep SettlePruned) = true
swaps_record step = false

abbrev pub text_is : Option Bytes → Bytes → Bool
text_is None text = false
text_is (Some have) text = same_bytes have text

abbrev pub has_text : Option Image → Bytes → Bool
has_text None text = false
has_text (Some image) text = text_is image.text text

-- a record swap that failed leaves the world as before, or as where Ok, and deposed
abbrev pub fallen : Formats → World → World → Option Image → World
fallen f w up image = record (if has_text image (f.cluster.text (record_of up)) then up else w) { deposed = true }

abbrev pub is_latest : BlobName → Bool
is_latest Latest = true
is_latest name = false

-- `index.latest` was tried where its replacement failed, or a begin for it
abbrev pub tried : World → ℕ → World
tried w k = change w k (λ t. record t { tried_latest = true })

-- a commit of a test blob that failed, and left it
abbrev pub test_left : World → BlobName → Option Bytes → Option Bytes → World
test_left w name None (Some bytes) = record w { doomed = name ∷ w.doomed }
test_left w name None None = w
test_left w name (Some was) now = w

abbrev pub faulted : Formats → World → ℕ → Step → Option Image → World
faulted f w k LatestStep image = tried w k
faulted f w k (BeginStep name) image = if is_latest name then tried w k else w
faulted f w k (ReadStep (CommitTest name)) image = test_left w name (fin.get w.blobs (f.names.text name)) (told_blob f image name)
faulted f w k step image = if swaps_record step then fallen f w (done_step f w k step HasEnded image) image else w

abbrev pub answered : Formats → World → ℕ → Step → Reply → Option Image → World
answered f w k step (Refused DepotFault) image = faulted f w k step image
answered f w k step (Refused refusal) image = w
answered f w k step reply image = done_step f w k step reply image

abbrev pub blobs_in : Option Image → Blobs → Blobs
blobs_in None blobs = blobs
blobs_in (Some image) blobs = image.blobs

-- what who 0 has done is forgotten where it asks or looks; a step that was refused in a deposed world, as stale or as aborted, changes nothing
abbrev pub is_heard : Reply → Bool
is_heard (Refused (DeposedAt place)) = false
is_heard (Refused (StaleTerm own now)) = false
is_heard (Refused (AbortedBy op)) = false
is_heard reply = true

abbrev pub caller_told : Caller → BlobName → Option Bytes → Caller
caller_told c name None = record c { fetched = name ∷ c.fetched; found = name ∷ c.found }
caller_told c name (Some bytes) = record c { fetched = name ∷ c.fetched; found = name ∷ c.found; read = (name, bytes) ∷ c.read }

abbrev pub caller_wrote : Caller → BlobName → Option Bytes → Caller
caller_wrote c name None = record c { committed = name ∷ c.committed }
caller_wrote c name (Some bytes) = record c { committed = name ∷ c.committed; wrote = (name, bytes) ∷ c.wrote }

abbrev pub caller_ended : Caller → Reply → Caller
caller_ended c HasEnded = no_caller
caller_ended c reply = c

abbrev pub caller_read : Formats → Caller → Read → Reply → Option Image → Caller
caller_read f c (ReadBlob name) WasFetched image = caller_told c name (told_blob f image name)
caller_read f c (ReadBlob name) WasAbsent image = record c { fetched = name ∷ c.fetched }
caller_read f c (ReadBlob name) reply image = c
caller_read f c (RestoredShard files bytes) reply image = c
caller_read f c (CheckedAll snapshots blobs) reply image = caller_ended c reply
caller_read f c DrawTest (DrawnFrom first) image = record c { drawn = Some first }
caller_read f c DrawTest (Refused (IdsSpent next)) image = record c { spent = true }
caller_read f c (CommitTest name) WasDone image = caller_wrote c name (told_blob f image name)
caller_read f c (RemoveTests names) WasRemoved image = record c { removed = names ++ c.removed }
caller_read f c VerifiedAll reply image = caller_ended c reply
caller_read f c (ReadFails why) reply image = caller_ended c reply
caller_read f c read reply image = c

abbrev pub caller_by : Formats → Caller → ℕ → Read → Reply → Option Image → Caller
caller_by f c zero read reply image = caller_read f c read reply image
caller_by f c (suc k) read reply image = c

abbrev pub caller_after : Formats → Caller → ℕ → Step → Reply → Option Image → Caller
caller_after f c who (AskStep command) reply image = if is_heard reply then no_caller else c
caller_after f c who LookStep reply image = if is_heard reply then record no_caller { looked = true } else c
caller_after f c who (ReadStep read) reply image = caller_by f c who read reply image
caller_after f c who step reply image = c

-- the world after a moment, what was done so far aside
abbrev pub stepped : Formats → World → Moment → World
stepped f w m = record (answered f w m.entry.who m.entry.step m.entry.reply m.image) { blobs = blobs_in m.image w.blobs }

abbrev pub heard : Formats → World → Moment → World
heard f v m = record v { caller = caller_after f v.caller m.entry.who m.entry.step m.entry.reply m.image }

-- the world after a moment
abbrev pub after : Formats → World → Moment → World
after f w m = record (heard f (stepped f w m) m) { entries = with_entry w.entries m.entry }
