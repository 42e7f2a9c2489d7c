-- What each step leaves of the tickets of deletes and cleanups, of the uuids of open ops and of the numbers, and what a step without a record swap leaves.
use Rattle.std.proofs.Common.{◌≡◌, ℕ, suc, ◌+◌, ◌<◌, ◌≤◌, Bool, true, false, zero, List, [], ◌∷◌, map, Option, Some, None, refl, arith, true≢false, le_refl, le-add_right}
use Rattle.std.specs.Prelude.{if◌then◌else◌}
use Rattle.std.specs.FinMap as fin
use Rattle.esr_model.specs.Names.{BlobName}
use Rattle.esr_model.specs.Values.{Bytes, SnapInfo, ShardResult, Formats}
use Rattle.esr_model.specs.Shelf.{Command}
use Rattle.esr_model.specs.Image.{Image}
use Rattle.esr_model.specs.Kept.{first_id}
use Rattle.esr_model.specs.Delete.{PrunedShard, kept_count}
use Rattle.esr_core.specs.World.{World, Op, Deletion, ShardWork, Done, Finalize, Deleting, Shard, Drop, Swap, Ticket, ReadState, Restored, NotRestored, RestoreShard, Restoring, Reader, swap, marked, info_of, made_of, record_of}
use Rattle.esr_core.specs.Restores.{restore_shard}
use Rattle.esr_core.specs.Pruning.{planned}
use Rattle.esr_core.specs.Deletes.{named_uuids, waiting_delete, running_delete, aborted_ops, delete_opened, delete_merged, delete_by, asked_delete}
use Rattle.esr_core.specs.Ids.{InTerm}
use Rattle.esr_core.specs.Steps.{with_ticket, noting, listing, given, completing, shard_ticket, final_ticket, plain_ticket}
use Rattle.esr_core.specs.Turns.{cleaning_ticket, fails}
use Rattle.esr_core.specs.Entry.{Asked, Snapshot, Clone, DeleteSnapshots, Restore, Cleanup, Given, GivenShard, GivenFinalize, GivenDrop, GivenRestore, GivenClone, GivenDelete, GivenCleanup, Read, ReadBlob, RestoredShard, DrawTest, CommitTest, ReadFails, Prune, FetchShard, PlanShards, SettlePruned, EndDelete, DeleteFails, Step, AskStep, TakeStep, DrawStep, BeginStep, CommitStep, LatestStep, FetchStep, ListStep, RaiseStep, SettleStep, DoneStep, FailedStep, FinishStep, DroppedStep, ElectStep, ReadStep, PruneStep, DepotFault, Reply, AcceptedRestore, DrawnFrom, Gave, WasDone, WasThere, WasFetched, WasListed, HasEnded, Refused, Moment}
use Rattle.esr_core.specs.After.{asked_op, new_names, cloned_op, asked, taken_shard, taken_restore_shard, taken_restore, taken_by, shard_of, with_given, committing, told_blob, fetching, settled_by, settled_of, done_by, done_of, is_stale, failed_by, failed_of, dropped_of, delete_settled_by, delete_settled, delete_failed_by, delete_failed, prune_step, read_told, shard_over, read_over, read_step, read_by, done_step, swaps_record, has_text, fallen, is_latest, test_left, faulted, answered, stepped}
use Rattle.esr_core.specs.Laws.DeleteAsks.{aborts}
use Rattle.esr_repo.specs.Log.{asks_container, calls}
use Rattle.esr_repo.proofs.Coming.{DeletesCome, come_same, come_again, come_settled, come_plain, come_given, come_planned, OpsCome, ops_same, ops_put, ops_new, ops_less, ops_aborted}

pub le_next : (n : ℕ) → n ≤ suc n
le_next n = omega arith

-- ---- every step

-- who settles by the step
abbrev pub settler : Step → ℕ → Option ℕ
settler SettleStep who = Some who
settler (PruneStep SettlePruned) who = Some who
settler step who = None

-- what a step keeps, and where what it leaves comes from
pub record Frame (settles : Option ℕ) (w new : World) : Type 0 where
  pub come : DeletesCome settles w.tickets new.tickets
  pub uuids : OpsCome w.ops new.ops w.next_id
  pub next : InTerm w → w.next_id ≤ new.next_id
  pub ops : new.next_op ≤ suc w.next_op
  pub tickets : new.next_ticket ≤ suc w.next_ticket
  -- what who 0 has done is told by the moment
  pub caller : new.caller ≡ w.caller

frame_same : (b : Option ℕ) (w : World) → Frame b w w
frame_same b w = record { come = come_same b w.tickets; uuids = ops_same w.ops w.next_id; next = λ t. le_refl w.next_id; ops = le_next w.next_op; tickets = le_next w.next_ticket; caller = refl }

-- a ticket is put
frame_put : (b : Option ℕ) (w : World) (k : ℕ) (v : Ticket) → DeletesCome b w.tickets (fin.insert w.tickets k v) → Frame b w (with_ticket w k v)
frame_put b w k v come = record { come = come; uuids = ops_same w.ops w.next_id; next = λ t. le_refl w.next_id; ops = le_next w.next_op; tickets = le_next w.next_ticket; caller = refl }

-- the work, the root and the settle of a ticket stay
abbrev StaysSo : Ticket → Ticket → Type 0
StaysSo t v = (v.work ≡ t.work) × (v.root ≡ t.root) × (v.settled ≡ t.settled)

frame_again : (w : World) (k : ℕ) (t v : Ticket) → fin.get w.tickets k ≡ Some t → StaysSo t v → Frame None w (with_ticket w k v)
frame_again w k t v there same = frame_put None w k v (come_again None w.tickets k t v there same.0 same.1 same.2)

frame_change : (w : World) (k : ℕ) (g : Ticket → Ticket) (o : Option Ticket) → fin.get w.tickets k ≡ o → ((t : Ticket) → StaysSo t (g t)) → Frame None w (with_given w k g o)
frame_change w k g None there same = frame_same None w
frame_change w k g (Some t) there same = frame_again w k t (g t) there (same t)

-- ---- ask

-- a delete that waits names more
frame_merged : (w : World) (names : List Bytes) (d : ℕ) (x : Option Deletion) → Frame None w (delete_merged w names d x)
frame_merged w names d None = frame_same None w
frame_merged w names d (Some x) =
    record {
      come = come_same None w.tickets;
      uuids = ops_aborted w.ops (aborted_ops w (named_uuids w names) d) d w.next_id (aborts w (named_uuids w names) d);
      next = λ t. le_refl w.next_id;
      ops = le_next w.next_op;
      tickets = le_next w.next_ticket;
      caller = refl;
    }

-- a delete more
frame_opened : (w : World) (uuids : List ℕ) → Frame None w (delete_opened w uuids)
frame_opened w uuids =
    record {
      come = come_same None w.tickets;
      uuids = ops_aborted w.ops (aborted_ops w uuids w.next_op) w.next_op w.next_id (aborts w uuids w.next_op);
      next = λ t. le_refl w.next_id;
      ops = le_refl (suc w.next_op);
      tickets = le_next w.next_ticket;
      caller = refl;
    }

frame_delete : (w : World) (names : List Bytes) → Frame None w (asked_delete w names)
frame_delete w names = by (waiting_delete w) (running_delete w (named_uuids w names))
  where
    by : (waiting running : Option ℕ) → Frame None w (delete_by w names waiting running)
    by (Some d) running = frame_merged w names d (fin.get w.deletes d)
    by None (Some d) = frame_same None w
    by None None = frame_opened w (named_uuids w names)

frame_asked : (w : World) (command : Asked) → Frame None w (asked w command)
frame_asked w (Snapshot name indices moment) =
    record {
      come = come_same None w.tickets;
      uuids = ops_new w.ops w.next_op (asked_op w name indices moment) w.next_id refl;
      next = λ t. le-add_right w.next_id (suc (new_names w indices));
      ops = le_refl (suc w.next_op);
      tickets = le_next w.next_ticket;
      caller = refl;
    }
frame_asked w (Clone source name indices moment (Some taken)) =
    record {
      come = come_same None w.tickets;
      uuids = ops_new w.ops w.next_op (cloned_op w name moment taken) w.next_id refl;
      next = λ t. le_next w.next_id;
      ops = le_refl (suc w.next_op);
      tickets = le_next w.next_ticket;
      caller = refl;
    }
frame_asked w (DeleteSnapshots names) = frame_delete w names
frame_asked w Cleanup = record { come = come_same None w.tickets; uuids = ops_same w.ops w.next_id; next = λ t. le_refl w.next_id; ops = le_refl (suc w.next_op); tickets = le_next w.next_ticket; caller = refl }
frame_asked w command = frame_same None w

-- ---- take

-- a ticket more
frame_given : (w : World) (v : Ticket) → DeletesCome None w.tickets (fin.insert w.tickets w.next_ticket v) → Frame None w (record w { tickets = fin.insert w.tickets w.next_ticket v; next_ticket = suc w.next_ticket })
frame_given w v come = record { come = come; uuids = ops_same w.ops w.next_id; next = λ t. le_refl w.next_id; ops = le_next w.next_op; tickets = le_refl (suc w.next_ticket); caller = refl }

shard_plain : (index number : ℕ) (uuids : List ℕ) (plan : Option Swap) → Shard index number ≡ Deleting uuids plan → ⊥
shard_plain index number uuids plan e = cc

drop_plain : (uuids : List ℕ) (plan : Option Swap) → Drop ≡ Deleting uuids plan → ⊥
drop_plain uuids plan e = cc

pub final_plain : (info : SnapInfo) (results : List ShardResult) (made : Command) (uuids : List ℕ) (plan : Option Swap) → Finalize info results made ≡ Deleting uuids plan → ⊥
final_plain info results made uuids plan e = cc

frame_shard : (w : World) (o : ℕ) (op : Op) (base : Option ℕ) (s : Option ShardWork) → fin.get w.ops o ≡ Some op → Frame None w (taken_shard w o op base s)
frame_shard w o op base None there = frame_same None w
frame_shard w o op base (Some s) there =
    record {
      come = come_plain None w.tickets w.next_ticket (shard_ticket w o op s base) (shard_plain s.ref.id s.number);
      uuids = ops_put w.ops o op (record op { shards = map (given w.next_ticket s.ref.id s.number) op.shards }) w.next_id there refl;
      next = λ t. le_refl w.next_id;
      ops = le_next w.next_op;
      tickets = le_refl (suc w.next_ticket);
      caller = refl;
    }

frame_restore_shard : (w : World) (o : ℕ) (r : Restoring) (s : Option RestoreShard) → Frame None w (taken_restore_shard w o r s)
frame_restore_shard w o r None = frame_same None w
frame_restore_shard w o r (Some s) = record { come = come_same None w.tickets; uuids = ops_same w.ops w.next_id; next = λ t. le_refl w.next_id; ops = le_next w.next_op; tickets = le_refl (suc w.next_ticket); caller = refl }

frame_restore : (w : World) (o index number : ℕ) (r : Option Restoring) → Frame None w (taken_restore w o index number r)
frame_restore w o index number None = frame_same None w
frame_restore w o index number (Some r) = frame_restore_shard w o r (restore_shard r.shards index number)

frame_taken : (f : Formats) (w : World) (o : ℕ) (unit : Given) (op : Option Op) → fin.get w.ops o ≡ op → Frame None w (taken_by f w o unit op)
frame_taken f w o (GivenShard index number base) (Some op) there = frame_shard w o op base (shard_of op.shards index number) there
frame_taken f w o (GivenClone index number source base) (Some op) there = frame_shard w o op base (shard_of op.shards index number) there
frame_taken f w o (GivenFinalize info results) (Some op) there = frame_given w (final_ticket f w o op results) (come_plain None w.tickets w.next_ticket (final_ticket f w o op results) (final_plain (info_of op results) results (made_of f w.blobs op)))
frame_taken f w o (GivenRestore index number uuid) op there = frame_restore w o index number (fin.get w.restores o)
frame_taken f w o GivenDrop op there = frame_given w (plain_ticket w o Drop) (come_plain None w.tickets w.next_ticket (plain_ticket w o Drop) drop_plain)
frame_taken f w o (GivenDelete uuids) op there = frame_given w (plain_ticket w o (Deleting uuids None)) (come_given None w.tickets w.next_ticket (plain_ticket w o (Deleting uuids None)) uuids refl refl)
frame_taken f w o GivenCleanup op there = frame_given w (cleaning_ticket w o) (come_given None w.tickets w.next_ticket (cleaning_ticket w o) [] refl refl)
frame_taken f w o unit op there = frame_same None w

-- ---- steps of a ticket

-- so many ids are drawn
frame_drawn_by : (w new : World) (n : ℕ) → Frame None w new → Frame None w (record new { next_id = w.next_id + n })
frame_drawn_by w new n h = record { come = h.come; uuids = h.uuids; next = λ t. le-add_right w.next_id n; ops = h.ops; tickets = h.tickets; caller = h.caller }

frame_drawn : (w : World) (k n : ℕ) (o : Option Ticket) → fin.get w.tickets k ≡ o → Frame None w (record (with_given w k (λ t. record t { first = w.next_id; drawn = n }) o) { next_id = w.next_id + n })
frame_drawn w k n o there = frame_drawn_by w (with_given w k (λ t. record t { first = w.next_id; drawn = n }) o) n (frame_change w k (λ t. record t { first = w.next_id; drawn = n }) o there (λ t. (refl, refl, refl)))

frame_raised : (w : World) (k : ℕ) (o : Option Ticket) → fin.get w.tickets k ≡ o → Frame None w (record (with_given w k (λ t. record t { raised = Some w.pending }) o) { pending = suc w.pending })
frame_raised w k o there =
    let h = frame_change w k (λ t. record t { raised = Some w.pending }) o there (λ t. (refl, refl, refl)) in
    record { come = h.come; uuids = h.uuids; next = h.next; ops = h.ops; tickets = h.tickets; caller = h.caller }

frame_settled_by : (f : Formats) (w : World) (k : ℕ) (t : Ticket) → fin.get w.tickets k ≡ Some t → (s : Option Swap) (n : Option ℕ) → Frame (Some k) w (settled_by f w k t s n)
frame_settled_by f w k t there (Some s) (Some n) =
    record { come = come_settled w.tickets k t (record t { settled = true }) there refl refl; uuids = ops_less w.ops t.op w.next_id; next = λ h. le_refl w.next_id; ops = le_next w.next_op; tickets = le_next w.next_ticket; caller = refl }
frame_settled_by f w k t there s n = frame_same (Some k) w

pub frame_settled : (f : Formats) (w : World) (k : ℕ) (o : Option Ticket) → fin.get w.tickets k ≡ o → Frame (Some k) w (settled_of f w k o)
frame_settled f w k None there = frame_same (Some k) w
frame_settled f w k (Some t) there = frame_settled_by f w k t there (swap f t) t.raised

-- an op and its ticket
frame_op : (w : World) (k : ℕ) (t v : Ticket) (op new : Op) (completed : List ℕ) → fin.get w.tickets k ≡ Some t → StaysSo t v → fin.get w.ops t.op ≡ Some op → new.uuid ≡ op.uuid
    → Frame None w (record w { ops = fin.insert w.ops t.op new; tickets = fin.insert w.tickets k v; completed = completed })
frame_op w k t v op new completed there same op_there uuid =
    record {
      come = come_again None w.tickets k t v there same.0 same.1 same.2;
      uuids = ops_put w.ops t.op op new w.next_id op_there uuid;
      next = λ h. le_refl w.next_id;
      ops = le_next w.next_op;
      tickets = le_next w.next_ticket;
      caller = refl;
    }

frame_done_by : (w : World) (k : ℕ) (r : ShardResult) (t : Ticket) → fin.get w.tickets k ≡ Some t → (op : Option Op) → fin.get w.ops t.op ≡ op → Frame None w (done_by w k r t op)
frame_done_by w k r t there None is = frame_same None w
frame_done_by w k r t there (Some op) is =
    let shards : List ShardWork = map (marked k (Done r)) op.shards in
    frame_op w k t (record t { out = false }) op (record op { shards = shards }) (completing w.completed t.op shards) there (refl, refl, refl) is refl

frame_done : (w : World) (k : ℕ) (r : ShardResult) (o : Option Ticket) → fin.get w.tickets k ≡ o → Frame None w (done_of w k r o)
frame_done w k r None there = frame_same None w
frame_done w k r (Some t) there = frame_done_by w k r t there (fin.get w.ops t.op) refl

frame_failed_by : (w : World) (k : ℕ) (t : Ticket) → fin.get w.tickets k ≡ Some t → (op : Option Op) → fin.get w.ops t.op ≡ op → Frame None w (failed_by w k t op)
frame_failed_by w k t there None is = frame_same None w
frame_failed_by w k t there (Some op) is = frame_op w k t (record t { out = false }) op (record op { shards = map (fails k) op.shards; failed = true }) w.completed there (refl, refl, refl) is refl

frame_ended : (w : World) (k : ℕ) (t : Ticket) → fin.get w.tickets k ≡ Some t → Frame None w (with_ticket w k (record t { out = false }))
frame_ended w k t there = frame_again w k t (record t { out = false }) there (refl, refl, refl)

frame_either : (s : Option ℕ) (w a b : World) (first : Bool) → Frame s w a → Frame s w b → Frame s w (if first then a else b)
frame_either s w a b true p q = p
frame_either s w a b false p q = q

frame_failed : (w : World) (k : ℕ) (o : Option Ticket) → fin.get w.tickets k ≡ o → Frame None w (failed_of w k o)
frame_failed w k None there = frame_same None w
frame_failed w k (Some t) there = frame_either None w (with_ticket w k (record t { out = false })) (failed_by w k t (fin.get w.ops t.op)) (is_stale w t t.work) (frame_ended w k t there) (frame_failed_by w k t there (fin.get w.ops t.op) refl)

frame_dropped : (w : World) (k : ℕ) (o : Option Ticket) → fin.get w.tickets k ≡ o → Frame None w (dropped_of w k o)
frame_dropped w k None there = frame_same None w
frame_dropped w k (Some t) there =
    record {
      come = come_again None w.tickets k t (record t { out = false }) there refl refl refl;
      uuids = ops_less w.ops t.op w.next_id;
      next = λ h. le_refl w.next_id;
      ops = le_next w.next_op;
      tickets = le_next w.next_ticket;
      caller = refl;
    }

committing_stays : (name : BlobName) (o : Option Bytes) (t : Ticket) → StaysSo t (committing name o t)
committing_stays name None t = (refl, refl, refl)
committing_stays name (Some bytes) t = (refl, refl, refl)

fetching_stays : (name : BlobName) (o : Option Bytes) (t : Ticket) → StaysSo t (fetching name o t)
fetching_stays name None t = (refl, refl, refl)
fetching_stays name (Some bytes) t = (refl, refl, refl)

-- ---- steps of a delete's ticket

frame_planned : (f : Formats) (w : World) (k : ℕ) (shards : List PrunedShard) (o : Option Ticket) → fin.get w.tickets k ≡ o → Frame None w (with_given w k (planned f shards w.next_id) o)
frame_planned f w k shards None there = frame_same None w
frame_planned f w k shards (Some t) there = frame_put None w k (planned f shards w.next_id t) (come_planned f None w.tickets k t shards w.next_id there)

frame_pruned_by : (f : Formats) (w : World) (k : ℕ) (t : Ticket) → fin.get w.tickets k ≡ Some t → (s : Option Swap) (n : Option ℕ) → Frame (Some k) w (delete_settled_by f w k t s n)
frame_pruned_by f w k t there (Some s) (Some n) =
    record { come = come_settled w.tickets k t (record t { settled = true }) there refl refl; uuids = ops_less w.ops t.op w.next_id; next = λ h. le_refl w.next_id; ops = le_next w.next_op; tickets = le_next w.next_ticket; caller = refl }
frame_pruned_by f w k t there s n = frame_same (Some k) w

pub frame_pruned : (f : Formats) (w : World) (k : ℕ) (o : Option Ticket) → fin.get w.tickets k ≡ o → Frame (Some k) w (delete_settled f w k o)
frame_pruned f w k None there = frame_same (Some k) w
frame_pruned f w k (Some t) there = frame_pruned_by f w k t there (swap f t) t.raised

frame_unpruned_by : (w : World) (k : ℕ) (t : Ticket) → fin.get w.tickets k ≡ Some t → (x : Option Deletion) → Frame None w (delete_failed_by w k t x)
frame_unpruned_by w k t there None = frame_same None w
frame_unpruned_by w k t there (Some x) =
    record {
      come = come_again None w.tickets k t (record t { out = false }) there refl refl refl;
      uuids = ops_same w.ops w.next_id;
      next = λ h. le_refl w.next_id;
      ops = le_next w.next_op;
      tickets = le_next w.next_ticket;
      caller = refl;
    }

frame_unpruned : (w : World) (k : ℕ) (o : Option Ticket) → fin.get w.tickets k ≡ o → Frame None w (delete_failed w k o)
frame_unpruned w k None there = frame_same None w
frame_unpruned w k (Some t) there =
    frame_either None w (with_ticket w k (record t { out = false })) (delete_failed_by w k t (fin.get w.deletes t.op)) (is_stale w t t.work) (frame_ended w k t there) (frame_unpruned_by w k t there (fin.get w.deletes t.op))

frame_prune : (f : Formats) (w : World) (k : ℕ) (prune : Prune) (reply : Reply) (image : Option Image) → Frame (settler (PruneStep prune) k) w (prune_step f w k prune reply image)
frame_prune f w k (FetchShard name) WasFetched image = frame_change w k (fetching name (told_blob f image name)) (fin.get w.tickets k) refl (fetching_stays name (told_blob f image name))
frame_prune f w k (PlanShards shards) reply image =
    frame_drawn_by w (with_given w k (planned f shards w.next_id) (fin.get w.tickets k)) (kept_count shards) (frame_planned f w k shards (fin.get w.tickets k) refl)
frame_prune f w k SettlePruned reply image = frame_pruned f w k (fin.get w.tickets k) refl
frame_prune f w k EndDelete reply image = frame_change w k (λ t. record t { out = false }) (fin.get w.tickets k) refl (λ t. (refl, refl, refl))
frame_prune f w k (DeleteFails why) reply image = frame_unpruned w k (fin.get w.tickets k) refl
frame_prune f w k prune reply image = frame_same None w

-- ---- steps that read

frame_told : (w : World) (k : ℕ) (name : BlobName) (bytes : Option Bytes) (q : Option Reader) → Frame None w (read_told w k name bytes q)
frame_told w k name bytes None = frame_same None w
frame_told w k name None (Some q) = frame_same None w
frame_told w k name (Some bytes) (Some q) = record { come = come_same None w.tickets; uuids = ops_same w.ops w.next_id; next = λ t. le_refl w.next_id; ops = le_next w.next_op; tickets = le_next w.next_ticket; caller = refl }

frame_shard_over : (w : World) (k : ℕ) (state : ReadState) (q : Reader) (r : Option Restoring) → Frame None w (shard_over w k state q r)
frame_shard_over w k state q None = frame_same None w
frame_shard_over w k state q (Some r) = record { come = come_same None w.tickets; uuids = ops_same w.ops w.next_id; next = λ t. le_refl w.next_id; ops = le_next w.next_op; tickets = le_next w.next_ticket; caller = refl }

frame_over : (w : World) (k : ℕ) (state : ReadState) (q : Option Reader) → Frame None w (read_over w k state q)
frame_over w k state None = frame_same None w
frame_over w k state (Some q) = frame_shard_over w k state q (fin.get w.restores q.op)

frame_reading : (f : Formats) (w : World) (k : ℕ) (read : Read) (reply : Reply) (image : Option Image) → Frame None w (read_step f w k read reply image)
frame_reading f w k (ReadBlob name) WasFetched image = frame_told w k name (told_blob f image name) (fin.get w.readers k)
frame_reading f w k (RestoredShard files bytes) reply image = frame_over w k (Restored files bytes) (fin.get w.readers k)
frame_reading f w k (ReadFails why) reply image = frame_over w k (NotRestored why) (fin.get w.readers k)
frame_reading f w k read reply image = frame_same None w

-- the names that may be removed
frame_doomed : (w : World) (doomed : List BlobName) → Frame None w (record w { doomed = doomed })
frame_doomed w doomed = record { come = come_same None w.tickets; uuids = ops_same w.ops w.next_id; next = λ t. le_refl w.next_id; ops = le_next w.next_op; tickets = le_next w.next_ticket; caller = refl }

-- who 0 has no ticket
frame_read : (f : Formats) (w : World) (k : ℕ) (read : Read) (reply : Reply) (image : Option Image) → Frame None w (read_by f w k read reply image)
frame_read f w zero DrawTest (DrawnFrom first) image = record { come = come_same None w.tickets; uuids = ops_same w.ops w.next_id; next = λ t. le_next w.next_id; ops = le_next w.next_op; tickets = le_next w.next_ticket; caller = refl }
frame_read f w zero (CommitTest name) WasDone image = frame_doomed w (name ∷ w.doomed)
frame_read f w zero read reply image = frame_same None w
frame_read f w (suc k) read reply image = frame_reading f w (suc k) read reply image

-- ---- all steps

later_term : (a b : ℕ) → a < b → a ≤ b
later_term a b lt = omega (arith, lt)

frame_step : (f : Formats) (w : World) (k : ℕ) (step : Step) (reply : Reply) (image : Option Image) → Frame (settler step k) w (done_step f w k step reply image)
frame_step f w k (AskStep (Snapshot name indices moment)) reply image = frame_asked w (Snapshot name indices moment)
frame_step f w k (AskStep (Clone source name indices moment taken)) reply image = frame_asked w (Clone source name indices moment taken)
frame_step f w k (AskStep (DeleteSnapshots names)) reply image = frame_asked w (DeleteSnapshots names)
frame_step f w k (AskStep (Restore name place)) (AcceptedRestore o uuid indices) image =
    record { come = come_same None w.tickets; uuids = ops_same w.ops w.next_id; next = λ t. le_refl w.next_id; ops = le_refl (suc w.next_op); tickets = le_next w.next_ticket; caller = refl }
frame_step f w k (AskStep Cleanup) reply image = frame_asked w Cleanup
frame_step f w k TakeStep (Gave ticket op unit) image = frame_taken f w op unit (fin.get w.ops op) refl
frame_step f w k (DrawStep n) reply image = frame_drawn w k n (fin.get w.tickets k) refl
frame_step f w k (CommitStep name) WasDone image = frame_change w k (committing name (told_blob f image name)) (fin.get w.tickets k) refl (committing_stays name (told_blob f image name))
frame_step f w k (CommitStep name) WasThere image = frame_change w k (λ t. noting t name) (fin.get w.tickets k) refl (λ t. (refl, refl, refl))
frame_step f w k LatestStep reply image = frame_change w k (λ t. record t { tried_latest = true }) (fin.get w.tickets k) refl (λ t. (refl, refl, refl))
frame_step f w k (FetchStep name) WasFetched image = frame_change w k (fetching name (told_blob f image name)) (fin.get w.tickets k) refl (fetching_stays name (told_blob f image name))
frame_step f w k (ListStep from) (WasListed page) image = frame_change w k (λ t. listing t page) (fin.get w.tickets k) refl (λ t. (refl, refl, refl))
frame_step f w k RaiseStep reply image = frame_raised w k (fin.get w.tickets k) refl
frame_step f w k SettleStep reply image = frame_settled f w k (fin.get w.tickets k) refl
frame_step f w k (DoneStep result) reply image = frame_done w k result (fin.get w.tickets k) refl
frame_step f w k (FailedStep why) reply image = frame_failed w k (fin.get w.tickets k) refl
frame_step f w k FinishStep reply image = frame_change w k (λ t. record t { out = false }) (fin.get w.tickets k) refl (λ t. (refl, refl, refl))
frame_step f w k DroppedStep reply image = frame_dropped w k (fin.get w.tickets k) refl
frame_step f w k (ReadStep read) reply image = frame_read f w k read reply image
frame_step f w k ElectStep reply image =
    record { come = come_same None w.tickets; uuids = ops_same w.ops w.next_id; next = λ t. later_term w.next_id (first_id (suc w.term)) t.below; ops = le_next w.next_op; tickets = le_next w.next_ticket; caller = refl }
frame_step f w k (PruneStep prune) reply image = frame_prune f w k prune reply image
frame_step f w k step reply image = frame_same None w

frame_tried : (w : World) (k : ℕ) → Frame None w (with_given w k (λ t. record t { tried_latest = true }) (fin.get w.tickets k))
frame_tried w k = frame_change w k (λ t. record t { tried_latest = true }) (fin.get w.tickets k) refl (λ t. (refl, refl, refl))

frame_fallen : (s : Option ℕ) (f : Formats) (w up : World) (image : Option Image) → Frame s w up → Frame s w (fallen f w up image)
frame_fallen s f w up image p =
    let q = frame_either s w up w (has_text image (f.cluster.text (record_of up))) p (frame_same s w) in
    record { come = q.come; uuids = q.uuids; next = q.next; ops = q.ops; tickets = q.tickets; caller = q.caller }

frame_test : (w : World) (name : BlobName) (was now : Option Bytes) → Frame None w (test_left w name was now)
frame_test w name None (Some bytes) = frame_doomed w (name ∷ w.doomed)
frame_test w name was now = frame_same None w

frame_prune_fault : (f : Formats) (w : World) (k : ℕ) (prune : Prune) (image : Option Image) → Frame (settler (PruneStep prune) k) w (faulted f w k (PruneStep prune) image)
frame_prune_fault f w k SettlePruned image = frame_fallen (Some k) f w (delete_settled f w k (fin.get w.tickets k)) image (frame_pruned f w k (fin.get w.tickets k) refl)
frame_prune_fault f w k prune image = frame_same None w

frame_fault : (f : Formats) (w : World) (k : ℕ) (step : Step) (image : Option Image) → Frame (settler step k) w (faulted f w k step image)
frame_fault f w k LatestStep image = frame_tried w k
frame_fault f w k (BeginStep name) image = frame_either None w _ w (is_latest name) (frame_tried w k) (frame_same None w)
frame_fault f w k (AskStep (Restore name place)) image = frame_same None w
frame_fault f w k (AskStep command) image = frame_fallen None f w (done_step f w k (AskStep command) HasEnded image) image (frame_step f w k (AskStep command) HasEnded image)
frame_fault f w k RaiseStep image = frame_fallen None f w _ image (frame_step f w k RaiseStep HasEnded image)
frame_fault f w k SettleStep image = frame_fallen (Some k) f w _ image (frame_step f w k SettleStep HasEnded image)
frame_fault f w k DroppedStep image = frame_fallen None f w _ image (frame_step f w k DroppedStep HasEnded image)
frame_fault f w k ElectStep image = frame_fallen None f w _ image (frame_step f w k ElectStep HasEnded image)
frame_fault f w k (ReadStep (CommitTest name)) image = frame_test w name (fin.get w.blobs (f.names.text name)) (told_blob f image name)
frame_fault f w k (PruneStep prune) image = frame_prune_fault f w k prune image
frame_fault f w k step image = frame_same None w

pub frame_answered : (f : Formats) (w : World) (k : ℕ) (step : Step) (reply : Reply) (image : Option Image) → Frame (settler step k) w (answered f w k step reply image)
frame_answered f w k step (Refused DepotFault) image = frame_fault f w k step image
frame_answered f w k step (Refused refusal) image = frame_same (settler step k) w
frame_answered f w k step reply image = frame_step f w k step reply image

pub frame_after : (f : Formats) (w : World) (m : Moment) → Frame (settler m.entry.step m.entry.who) w (stepped f w m)
frame_after f w m =
    let q = frame_answered f w m.entry.who m.entry.step m.entry.reply m.image in
    record { come = q.come; uuids = q.uuids; next = q.next; ops = q.ops; tickets = q.tickets; caller = q.caller }

-- what who 0 has done is told by the moment
pub caller_stays : (f : Formats) (w : World) (k : ℕ) (step : Step) (reply : Reply) (image : Option Image) → (answered f w k step reply image).caller ≡ w.caller
caller_stays f w k step reply image = (frame_answered f w k step reply image).caller

-- ---- a step without a record swap

-- the safe root stays, and that no record swap has failed
pub record Rests (w new : World) : Type 0 where
  pub root : new.root ≡ w.root
  pub deposed : new.deposed ≡ w.deposed

pub rests_same : (w : World) → Rests w w
rests_same w = record { root = refl; deposed = refl }

rests_change : (w : World) (k : ℕ) (g : Ticket → Ticket) (o : Option Ticket) → Rests w (with_given w k g o)
rests_change w k g None = rests_same w
rests_change w k g (Some t) = record { root = refl; deposed = refl }

rests_shard : (w : World) (o : ℕ) (op : Op) (base : Option ℕ) (s : Option ShardWork) → Rests w (taken_shard w o op base s)
rests_shard w o op base None = rests_same w
rests_shard w o op base (Some s) = record { root = refl; deposed = refl }

rests_restore_shard : (w : World) (o : ℕ) (r : Restoring) (s : Option RestoreShard) → Rests w (taken_restore_shard w o r s)
rests_restore_shard w o r None = rests_same w
rests_restore_shard w o r (Some s) = record { root = refl; deposed = refl }

rests_restore : (w : World) (o index number : ℕ) (r : Option Restoring) → Rests w (taken_restore w o index number r)
rests_restore w o index number None = rests_same w
rests_restore w o index number (Some r) = rests_restore_shard w o r (restore_shard r.shards index number)

rests_taken : (f : Formats) (w : World) (o : ℕ) (unit : Given) (op : Option Op) → Rests w (taken_by f w o unit op)
rests_taken f w o (GivenShard index number base) (Some op) = rests_shard w o op base (shard_of op.shards index number)
rests_taken f w o (GivenShard index number base) None = rests_same w
rests_taken f w o (GivenClone index number source base) (Some op) = rests_shard w o op base (shard_of op.shards index number)
rests_taken f w o (GivenClone index number source base) None = rests_same w
rests_taken f w o (GivenFinalize info results) None = rests_same w
rests_taken f w o (GivenRestore index number uuid) op = rests_restore w o index number (fin.get w.restores o)
rests_taken f w o unit op = record { root = refl; deposed = refl }

rests_drawn : (w : World) (k n : ℕ) (g : Ticket → Ticket) (o : Option Ticket) → Rests w (record (with_given w k g o) { next_id = w.next_id + n })
rests_drawn w k n g None = record { root = refl; deposed = refl }
rests_drawn w k n g (Some t) = record { root = refl; deposed = refl }

rests_done_by : (w : World) (k : ℕ) (r : ShardResult) (t : Ticket) (op : Option Op) → Rests w (done_by w k r t op)
rests_done_by w k r t None = rests_same w
rests_done_by w k r t (Some op) = record { root = refl; deposed = refl }

rests_done : (w : World) (k : ℕ) (r : ShardResult) (o : Option Ticket) → Rests w (done_of w k r o)
rests_done w k r None = rests_same w
rests_done w k r (Some t) = rests_done_by w k r t (fin.get w.ops t.op)

rests_failed_by : (w : World) (k : ℕ) (t : Ticket) (op : Option Op) → Rests w (failed_by w k t op)
rests_failed_by w k t None = rests_same w
rests_failed_by w k t (Some op) = record { root = refl; deposed = refl }

rests_either : (w a b : World) (first : Bool) → Rests w a → Rests w b → Rests w (if first then a else b)
rests_either w a b true p q = p
rests_either w a b false p q = q

rests_failed : (w : World) (k : ℕ) (o : Option Ticket) → Rests w (failed_of w k o)
rests_failed w k None = rests_same w
rests_failed w k (Some t) = rests_either w (with_ticket w k (record t { out = false })) (failed_by w k t (fin.get w.ops t.op)) (is_stale w t t.work) (record { root = refl; deposed = refl }) (rests_failed_by w k t (fin.get w.ops t.op))

rests_delete_failed_by : (w : World) (k : ℕ) (t : Ticket) (x : Option Deletion) → Rests w (delete_failed_by w k t x)
rests_delete_failed_by w k t None = rests_same w
rests_delete_failed_by w k t (Some x) = record { root = refl; deposed = refl }

rests_delete_failed : (w : World) (k : ℕ) (o : Option Ticket) → Rests w (delete_failed w k o)
rests_delete_failed w k None = rests_same w
rests_delete_failed w k (Some t) =
    rests_either w (with_ticket w k (record t { out = false })) (delete_failed_by w k t (fin.get w.deletes t.op)) (is_stale w t t.work) (record { root = refl; deposed = refl }) (rests_delete_failed_by w k t (fin.get w.deletes t.op))

pub rests_prune : (f : Formats) (w : World) (k : ℕ) (prune : Prune) (reply : Reply) (image : Option Image) → swaps_record (PruneStep prune) ≡ false → Rests w (prune_step f w k prune reply image)
rests_prune f w k (FetchShard name) WasFetched image e = rests_change w k (fetching name (told_blob f image name)) (fin.get w.tickets k)
rests_prune f w k (PlanShards shards) reply image e = rests_drawn w k (kept_count shards) (planned f shards w.next_id) (fin.get w.tickets k)
rests_prune f w k SettlePruned reply image e = absurd (true≢false e)
rests_prune f w k EndDelete reply image e = rests_change w k (λ t. record t { out = false }) (fin.get w.tickets k)
rests_prune f w k (DeleteFails why) reply image e = rests_delete_failed w k (fin.get w.tickets k)
rests_prune f w k prune reply image e = rests_same w

rests_told : (w : World) (k : ℕ) (name : BlobName) (bytes : Option Bytes) (q : Option Reader) → Rests w (read_told w k name bytes q)
rests_told w k name bytes None = rests_same w
rests_told w k name None (Some q) = rests_same w
rests_told w k name (Some bytes) (Some q) = record { root = refl; deposed = refl }

rests_shard_over : (w : World) (k : ℕ) (state : ReadState) (q : Reader) (r : Option Restoring) → Rests w (shard_over w k state q r)
rests_shard_over w k state q None = rests_same w
rests_shard_over w k state q (Some r) = record { root = refl; deposed = refl }

rests_over : (w : World) (k : ℕ) (state : ReadState) (q : Option Reader) → Rests w (read_over w k state q)
rests_over w k state None = rests_same w
rests_over w k state (Some q) = rests_shard_over w k state q (fin.get w.restores q.op)

rests_reading : (f : Formats) (w : World) (k : ℕ) (read : Read) (reply : Reply) (image : Option Image) → Rests w (read_step f w k read reply image)
rests_reading f w k (ReadBlob name) WasFetched image = rests_told w k name (told_blob f image name) (fin.get w.readers k)
rests_reading f w k (RestoredShard files bytes) reply image = rests_over w k (Restored files bytes) (fin.get w.readers k)
rests_reading f w k (ReadFails why) reply image = rests_over w k (NotRestored why) (fin.get w.readers k)
rests_reading f w k read reply image = rests_same w

rests_read : (f : Formats) (w : World) (k : ℕ) (read : Read) (reply : Reply) (image : Option Image) → Rests w (read_by f w k read reply image)
rests_read f w zero DrawTest (DrawnFrom first) image = record { root = refl; deposed = refl }
rests_read f w zero (CommitTest name) WasDone image = record { root = refl; deposed = refl }
rests_read f w zero read reply image = rests_same w
rests_read f w (suc k) read reply image = rests_reading f w (suc k) read reply image

rests_test : (w : World) (name : BlobName) (was now : Option Bytes) → Rests w (test_left w name was now)
rests_test w name None (Some bytes) = record { root = refl; deposed = refl }
rests_test w name was now = rests_same w

rests_step : (f : Formats) (w : World) (k : ℕ) (step : Step) (reply : Reply) (image : Option Image) → swaps_record step ≡ false → Rests w (done_step f w k step reply image)
rests_step f w k (AskStep (Restore name place)) (AcceptedRestore o uuid indices) image e = record { root = refl; deposed = refl }
rests_step f w k (AskStep (Restore name place)) reply image e = rests_same w
rests_step f w k (AskStep command) reply image e = absurd (true≢false e)
rests_step f w k (ReadStep read) reply image e = rests_read f w k read reply image
rests_step f w k RaiseStep reply image e = absurd (true≢false e)
rests_step f w k SettleStep reply image e = absurd (true≢false e)
rests_step f w k DroppedStep reply image e = absurd (true≢false e)
rests_step f w k ElectStep reply image e = absurd (true≢false e)
rests_step f w k TakeStep (Gave ticket op unit) image e = rests_taken f w op unit (fin.get w.ops op)
rests_step f w k (DrawStep n) reply image e = rests_drawn w k n (λ t. record t { first = w.next_id; drawn = n }) (fin.get w.tickets k)
rests_step f w k (CommitStep name) WasDone image e = rests_change w k (committing name (told_blob f image name)) (fin.get w.tickets k)
rests_step f w k (CommitStep name) WasThere image e = rests_change w k (λ t. noting t name) (fin.get w.tickets k)
rests_step f w k LatestStep reply image e = rests_change w k (λ t. record t { tried_latest = true }) (fin.get w.tickets k)
rests_step f w k (FetchStep name) WasFetched image e = rests_change w k (fetching name (told_blob f image name)) (fin.get w.tickets k)
rests_step f w k (ListStep from) (WasListed page) image e = rests_change w k (λ t. listing t page) (fin.get w.tickets k)
rests_step f w k (DoneStep result) reply image e = rests_done w k result (fin.get w.tickets k)
rests_step f w k (FailedStep why) reply image e = rests_failed w k (fin.get w.tickets k)
rests_step f w k FinishStep reply image e = rests_change w k (λ t. record t { out = false }) (fin.get w.tickets k)
rests_step f w k (PruneStep prune) reply image e = rests_prune f w k prune reply image e
rests_step f w k step reply image e = rests_same w

rests_fault : (f : Formats) (w : World) (k : ℕ) (step : Step) (image : Option Image) → swaps_record step ≡ false → Rests w (faulted f w k step image)
rests_fault f w k LatestStep image e = rests_change w k (λ t. record t { tried_latest = true }) (fin.get w.tickets k)
rests_fault f w k (BeginStep name) image e = rests_either w _ w (is_latest name) (rests_change w k (λ t. record t { tried_latest = true }) (fin.get w.tickets k)) (rests_same w)
rests_fault f w k (AskStep (Restore name place)) image e = rests_same w
rests_fault f w k (AskStep command) image e = absurd (true≢false e)
rests_fault f w k (ReadStep (CommitTest name)) image e = rests_test w name (fin.get w.blobs (f.names.text name)) (told_blob f image name)
rests_fault f w k RaiseStep image e = absurd (true≢false e)
rests_fault f w k SettleStep image e = absurd (true≢false e)
rests_fault f w k DroppedStep image e = absurd (true≢false e)
rests_fault f w k ElectStep image e = absurd (true≢false e)
rests_fault f w k (PruneStep SettlePruned) image e = absurd (true≢false e)
rests_fault f w k step image e = rests_same w

pub rests_answered : (f : Formats) (w : World) (k : ℕ) (step : Step) (reply : Reply) (image : Option Image) → swaps_record step ≡ false → Rests w (answered f w k step reply image)
rests_answered f w k step (Refused DepotFault) image e = rests_fault f w k step image e
rests_answered f w k step (Refused refusal) image e = rests_same w
rests_answered f w k step reply image e = rests_step f w k step reply image e

-- a step without a call of the container doesn't swap the record, or is refused by a rule, which changes nothing
pub data IsPlain (f : Formats) (w : World) (k : ℕ) (step : Step) (reply : Reply) (image : Option Image) : Type 0 where
  NoSwap : swaps_record step ≡ false → IsPlain f w k step reply image
  ByRule : answered f w k step reply image ≡ w → IsPlain f w k step reply image

no_swap : (step : Step) → asks_container step ≡ false → swaps_record step ≡ false
no_swap (AskStep command) e = e
no_swap RaiseStep e = e
no_swap SettleStep e = e
no_swap DroppedStep e = e
no_swap ElectStep e = e
no_swap (PruneStep SettlePruned) e = e
no_swap step e = refl

pub plain_is : (f : Formats) (w : World) (k : ℕ) (step : Step) (reply : Reply) (image : Option Image) → calls step reply ≡ false → IsPlain f w k step reply image
plain_is f w k step (Refused DepotFault) image e = absurd (true≢false e)
plain_is f w k step (Refused refusal) image e = ByRule refl
plain_is f w k step reply image e = NoSwap (no_swap step e)
