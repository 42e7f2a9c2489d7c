-- What a step that has nothing to do with restores leaves of them, of the numbers of ops and tickets, and of who has which.
use Rattle.std.proofs.Common.{◌≡◌, ◌⊎◌, ℕ, suc, ◌+◌, ◌≤◌, Bool, true, false, Option, Some, None, refl, ap, ◌∙◌, inl, inr, arith, nat_cmp, List}
use Rattle.std.specs.Prelude.{T, if◌then◌else◌}
use Rattle.std.specs.FinMap.{FinMap}
use Rattle.std.specs.FinMap as fin
use Rattle.esr_core.specs.Laws.NumberMaps.{was_in, left_in}
use Rattle.esr_model.specs.Values.{Bytes, Has, ShardResult, Formats}
use Rattle.esr_model.specs.Kept.{first_id}
use Rattle.esr_model.specs.Names.{BlobName}
use Rattle.esr_model.specs.Delete.{kept_count}
use Rattle.esr_model.specs.Image.{Image}
use Rattle.esr_core.specs.World.{World, Op, ShardWork, Drop, Swap, Ticket, swap, record_of, Deletion, Deleting}
use Rattle.esr_core.specs.Steps.{noting, listing, with_ticket, shard_ticket, final_ticket, plain_ticket}
use Rattle.esr_core.specs.Turns.{cleaning_ticket}
use Rattle.esr_core.specs.Pruning.{planned, dooms}
use Rattle.esr_core.specs.Entry.{CloneOf, Snapshot, Restore, Given, GivenShard, GivenClone, GivenFinalize, GivenDrop, GivenRestore, Step, AskStep, TakeStep, ListStep, WasListed, DrawStep, BeginStep, CommitStep, LatestStep, FetchStep, RaiseStep, SettleStep, DoneStep, FailedStep, FinishStep, DroppedStep, ElectStep, ReadStep, DepotFault, Reply, Gave, WasDone, WasThere, WasFetched, HasEnded, Refused, Clone, DeleteSnapshots, Cleanup, GivenDelete, GivenCleanup, Prune, FetchShard, PlanShards, SettlePruned, EndDelete, DeleteFails, PruneStep, is_recorded}
use Rattle.esr_core.specs.After.{asked, asked_op, cleanup_opened, cloned_op, taken_shard, taken_by, shard_of, with_given, committing, told_blob, fetching, settled_by, settled_of, done_by, done_of, is_stale, failed_by, failed_of, dropped_of, done_step, has_text, fallen, is_latest, tried, faulted, answered, delete_settled_by, delete_settled, delete_failed_by, delete_failed, prune_step}
use Rattle.esr_core.specs.Deletes.{named_uuids, waiting_delete, running_delete, aborted_ops, delete_merged, delete_by, asked_delete}
use Rattle.esr_core.specs.Laws.DeleteAsks.{aborts}
use Rattle.esr_model.specs.Lists.{Has-right}

-- ---- maps

-- what it has it had, or it has a number from this one on
abbrev pub OldOrNew : {X : Type 0} → FinMap nat_cmp X → ℕ → FinMap nat_cmp X → Type 0
OldOrNew {X} was next now = (k : ℕ) (x : X) → fin.get now k ≡ Some x → ((y : X) × (fin.get was k ≡ Some y)) ⊎ (next ≤ k)

as_was : {X : Type 0} (m : FinMap nat_cmp X) (next : ℕ) → OldOrNew m next m
as_was m next k x e = inl (x, e)

again : {X : Type 0} (m : FinMap nat_cmp X) (next j : ℕ) (old v : X) → fin.get m j ≡ Some old → OldOrNew m next (fin.insert m j v)
again m next j old v there k x e = elim (was_in m j v k x e) [ inl h ↦ inl (old, ap (fin.get m) h.0 ∙ there) | inr h ↦ inl (x, h.1) ]

more : {X : Type 0} (m : FinMap nat_cmp X) (next : ℕ) (v : X) → OldOrNew m next (fin.insert m next v)
more m next v k x e = elim (was_in m next v k x e) [ inl h ↦ let same : k ≡ next = h.0 in inr (omega (arith, same)) | inr h ↦ inl (x, h.1) ]

less : {X : Type 0} (m : FinMap nat_cmp X) (next j : ℕ) → OldOrNew m next (fin.remove m j)
less m next j k x e = inl (x, (left_in m j k x e).1)

-- ---- worlds

pub record Goes (w new : World) : Type 0 where
  pub restores : new.restores ≡ w.restores
  pub readers : new.readers ≡ w.readers
  pub caller : new.caller ≡ w.caller
  pub doomed : (name : BlobName) → Has w.doomed name → Has new.doomed name
  pub next_id : w.next_id ≤ new.next_id
  pub next_op : w.next_op ≤ new.next_op
  pub next_ticket : w.next_ticket ≤ new.next_ticket
  pub ops : OldOrNew w.ops w.next_op new.ops
  pub deletes : OldOrNew w.deletes w.next_op new.deletes
  pub tickets : OldOrNew w.tickets w.next_ticket new.tickets

-- restores, readers and the caller are as they were, no number falls, and no doomed name goes
goes_on : (w new : World) → new ≡ record new { restores = w.restores; readers = w.readers; caller = w.caller }
    → ((name : BlobName) → Has w.doomed name → Has new.doomed name) → w.next_id ≤ new.next_id → w.next_op ≤ new.next_op → w.next_ticket ≤ new.next_ticket
    → OldOrNew w.ops w.next_op new.ops → OldOrNew w.deletes w.next_op new.deletes → OldOrNew w.tickets w.next_ticket new.tickets → Goes w new
goes_on w new is doomed next_id next_op next_ticket ops deletes tickets =
    record {
      restores = ap (λ (x : World). x.restores) is;
      readers = ap (λ (x : World). x.readers) is;
      caller = ap (λ (x : World). x.caller) is;
      doomed = doomed;
      next_id = next_id;
      next_op = next_op;
      next_ticket = next_ticket;
      ops = ops;
      deletes = deletes;
      tickets = tickets;
    }

goes_same : (w : World) → Goes w w
goes_same w =
    goes_on w _ refl (λ name m. m) (omega arith) (omega arith) (omega arith) (as_was w.ops w.next_op) (as_was w.deletes w.next_op) (as_was w.tickets w.next_ticket)

-- a ticket that is given anew
goes_ticket : (w : World) (k : ℕ) (old t : Ticket) → fin.get w.tickets k ≡ Some old → Goes w (record w { tickets = fin.insert w.tickets k t })
goes_ticket w k old t there =
    goes_on w _ refl (λ name m. m) (omega arith) (omega arith) (omega arith) (as_was w.ops w.next_op) (as_was w.deletes w.next_op) (again w.tickets w.next_ticket k old t there)

goes_new : (w : World) (t : Ticket) (ops : FinMap nat_cmp Op) → OldOrNew w.ops w.next_op ops → Goes w (record w { ops = ops; tickets = fin.insert w.tickets w.next_ticket t; next_ticket = suc w.next_ticket })
goes_new w t ops a =
    record { restores = refl; readers = refl; caller = refl; doomed = λ name m. m; next_op = omega arith; next_ticket = omega arith; next_id = omega arith; ops = a; deletes = as_was w.deletes w.next_op; tickets = more w.tickets w.next_ticket t }

goes_change : (w : World) (k : ℕ) (g : Ticket → Ticket) (o : Option Ticket) → fin.get w.tickets k ≡ o → Goes w (with_given w k g o)
goes_change w k g None is = goes_same w
goes_change w k g (Some t) is = goes_ticket w k t (g t) is

-- it moves the counters of ids and generations, too
goes_past : (w mid : World) (next_id pending : ℕ) → Goes w mid → w.next_id ≤ next_id → Goes w (record mid { next_id = next_id; pending = pending })
goes_past w mid next_id pending h more =
    record { restores = h.restores; readers = h.readers; caller = h.caller; doomed = h.doomed; next_op = h.next_op; next_ticket = h.next_ticket; next_id = more; ops = h.ops; deletes = h.deletes; tickets = h.tickets }

goes_drawn : (w : World) (k n : ℕ) (g : Ticket → Ticket) (o : Option Ticket) → fin.get w.tickets k ≡ o → Goes w (record (with_given w k g o) { next_id = w.next_id + n })
goes_drawn w k n g o is = goes_past w (with_given w k g o) (w.next_id + n) _ (goes_change w k g o is) (omega arith)

goes_raised : (w : World) (k : ℕ) (g : Ticket → Ticket) (o : Option Ticket) → fin.get w.tickets k ≡ o → Goes w (record (with_given w k g o) { pending = suc w.pending })
goes_raised w k g o is = let h = goes_change w k g o is in goes_past w (with_given w k g o) _ (suc w.pending) h h.next_id

goes_shard : (w : World) (o : ℕ) (op : Op) (base : Option ℕ) (s : Option ShardWork) → fin.get w.ops o ≡ Some op → Goes w (taken_shard w o op base s)
goes_shard w o op base None there = goes_same w
goes_shard w o op base (Some s) there = goes_new w (shard_ticket w o op s base) _ (again w.ops w.next_op o op _ there)

-- neither a restore is asked or given, nor anything read
abbrev pub IsOldUnit : Given → Type 0
IsOldUnit (GivenShard index number base) = Unit {0}
IsOldUnit (GivenFinalize info results) = Unit {0}
IsOldUnit GivenDrop = Unit {0}
IsOldUnit (GivenRestore index number uuid) = ⊥
IsOldUnit unit = Unit {0}

abbrev pub IsOld : Step → Reply → Type 0
IsOld (AskStep command) reply = T (is_recorded command)
IsOld (ReadStep read) reply = ⊥
IsOld TakeStep (Gave k o unit) = IsOldUnit unit
IsOld step reply = Unit {0}

goes_taken : (f : Formats) (w : World) (o : ℕ) (unit : Given) (op : Option Op) → IsOldUnit unit → fin.get w.ops o ≡ op → Goes w (taken_by f w o unit op)
goes_taken f w o (GivenShard index number base) (Some op) old is = goes_shard w o op base (shard_of op.shards index number) is
goes_taken f w o (GivenClone index number source base) (Some op) old is = goes_shard w o op base (shard_of op.shards index number) is
goes_taken f w o (GivenFinalize info results) (Some op) old is = goes_new w (final_ticket f w o op results) w.ops (as_was w.ops w.next_op)
goes_taken f w o GivenDrop op old is = goes_new w (plain_ticket w o Drop) w.ops (as_was w.ops w.next_op)
goes_taken f w o (GivenRestore index number uuid) op old is = absurd old
goes_taken f w o (GivenDelete uuids) op old is = goes_new w (plain_ticket w o (Deleting uuids None)) w.ops (as_was w.ops w.next_op)
goes_taken f w o GivenCleanup op old is = goes_new w (cleaning_ticket w o) w.ops (as_was w.ops w.next_op)
goes_taken f w o unit op old is = goes_same w

goes_settled_by : (f : Formats) (w : World) (k : ℕ) (t : Ticket) (s : Option Swap) (n : Option ℕ) → fin.get w.tickets k ≡ Some t → Goes w (settled_by f w k t s n)
goes_settled_by f w k t (Some s) (Some n) is =
    goes_on w _ refl (λ name m. m) (omega arith) (omega arith) (omega arith) (less w.ops w.next_op t.op) (less w.deletes w.next_op t.op) (again w.tickets w.next_ticket k t (record t { settled = true }) is)
goes_settled_by f w k t s n is = goes_same w

goes_settled : (f : Formats) (w : World) (k : ℕ) (o : Option Ticket) → fin.get w.tickets k ≡ o → Goes w (settled_of f w k o)
goes_settled f w k None is = goes_same w
goes_settled f w k (Some t) is = goes_settled_by f w k t (swap f t) t.raised is

goes_done_by : (w : World) (k : ℕ) (r : ShardResult) (t : Ticket) (op : Option Op) → fin.get w.tickets k ≡ Some t → fin.get w.ops t.op ≡ op → Goes w (done_by w k r t op)
goes_done_by w k r t None is there = goes_same w
goes_done_by w k r t (Some op) is there =
    goes_on w _ refl (λ name m. m) (omega arith) (omega arith) (omega arith) (again w.ops w.next_op t.op op _ there) (as_was w.deletes w.next_op) (again w.tickets w.next_ticket k t _ is)

goes_done : (w : World) (k : ℕ) (r : ShardResult) (o : Option Ticket) → fin.get w.tickets k ≡ o → Goes w (done_of w k r o)
goes_done w k r None is = goes_same w
goes_done w k r (Some t) is = goes_done_by w k r t (fin.get w.ops t.op) is refl

goes_either : (w a b : World) (first : Bool) → Goes w a → Goes w b → Goes w (if first then a else b)
goes_either w a b true p q = p
goes_either w a b false p q = q

goes_failed_by : (w : World) (k : ℕ) (t : Ticket) (op : Option Op) → fin.get w.tickets k ≡ Some t → fin.get w.ops t.op ≡ op → Goes w (failed_by w k t op)
goes_failed_by w k t None is there = goes_same w
goes_failed_by w k t (Some op) is there =
    goes_on w _ refl (λ name m. m) (omega arith) (omega arith) (omega arith) (again w.ops w.next_op t.op op _ there) (as_was w.deletes w.next_op) (again w.tickets w.next_ticket k t _ is)

goes_failed : (w : World) (k : ℕ) (o : Option Ticket) → fin.get w.tickets k ≡ o → Goes w (failed_of w k o)
goes_failed w k None is = goes_same w
goes_failed w k (Some t) is =
    goes_either w (with_ticket w k (record t { out = false })) (failed_by w k t (fin.get w.ops t.op)) (is_stale w t t.work) (goes_ticket w k t (record t { out = false }) is) (goes_failed_by w k t (fin.get w.ops t.op) is refl)

goes_dropped : (w : World) (k : ℕ) (o : Option Ticket) → fin.get w.tickets k ≡ o → Goes w (dropped_of w k o)
goes_dropped w k None is = goes_same w
goes_dropped w k (Some t) is =
    goes_on w _ refl (λ name m. m) (omega arith) (omega arith) (omega arith) (less w.ops w.next_op t.op) (less w.deletes w.next_op t.op) (again w.tickets w.next_ticket k t (record t { out = false }) is)

-- ---- a delete's

goes_delete_settled_by : (f : Formats) (w : World) (k : ℕ) (t : Ticket) (s : Option Swap) (n : Option ℕ) → fin.get w.tickets k ≡ Some t → Goes w (delete_settled_by f w k t s n)
goes_delete_settled_by f w k t (Some s) (Some n) is =
    goes_on w _ refl (λ name m. Has-right (dooms f t) w.doomed name m) (omega arith) (omega arith) (omega arith) (less w.ops w.next_op t.op) (left_or t.clean) (again w.tickets w.next_ticket k t (record t { settled = true }) is)
  where
    left_or : (b : Bool) → OldOrNew w.deletes w.next_op (if b then w.deletes else fin.remove w.deletes t.op)
    left_or true = as_was w.deletes w.next_op
    left_or false = less w.deletes w.next_op t.op
goes_delete_settled_by f w k t s n is = goes_same w

goes_delete_settled : (f : Formats) (w : World) (k : ℕ) (o : Option Ticket) → fin.get w.tickets k ≡ o → Goes w (delete_settled f w k o)
goes_delete_settled f w k None is = goes_same w
goes_delete_settled f w k (Some t) is = goes_delete_settled_by f w k t (swap f t) t.raised is

goes_delete_failed_by : (w : World) (k : ℕ) (t : Ticket) (x : Option Deletion) → fin.get w.tickets k ≡ Some t → fin.get w.deletes t.op ≡ x → Goes w (delete_failed_by w k t x)
goes_delete_failed_by w k t None is there = goes_same w
goes_delete_failed_by w k t (Some x) is there =
    goes_on w _ refl (λ name m. m) (omega arith) (omega arith) (omega arith) (as_was w.ops w.next_op) (again w.deletes w.next_op t.op x (record x { failed = true }) there) (again w.tickets w.next_ticket k t (record t { out = false }) is)

goes_delete_failed : (w : World) (k : ℕ) (o : Option Ticket) → fin.get w.tickets k ≡ o → Goes w (delete_failed w k o)
goes_delete_failed w k None is = goes_same w
goes_delete_failed w k (Some t) is =
    goes_either w (with_ticket w k (record t { out = false })) (delete_failed_by w k t (fin.get w.deletes t.op)) (is_stale w t t.work) (goes_ticket w k t (record t { out = false }) is) (goes_delete_failed_by w k t (fin.get w.deletes t.op) is refl)

goes_prune : (f : Formats) (w : World) (k : ℕ) (prune : Prune) (reply : Reply) (image : Option Image) → Goes w (prune_step f w k prune reply image)
goes_prune f w k (FetchShard name) WasFetched image = goes_change w k (fetching name (told_blob f image name)) (fin.get w.tickets k) refl
goes_prune f w k (PlanShards shards) reply image = goes_drawn w k (kept_count shards) (planned f shards w.next_id) (fin.get w.tickets k) refl
goes_prune f w k SettlePruned reply image = goes_delete_settled f w k (fin.get w.tickets k) refl
goes_prune f w k EndDelete reply image = goes_change w k (λ t. record t { out = false }) (fin.get w.tickets k) refl
goes_prune f w k (DeleteFails why) reply image = goes_delete_failed w k (fin.get w.tickets k) refl
goes_prune f w k prune reply image = goes_same w

-- ---- a delete that is asked

goes_aborted : (w : World) (uuids : List ℕ) (by : ℕ) → OldOrNew w.ops w.next_op (aborted_ops w uuids by)
goes_aborted w uuids by k x e = let (old, there, how) = (aborts w uuids by).was k x e in inl (old, there)

goes_merged : (w : World) (names : List Bytes) (d : ℕ) (x : Option Deletion) → fin.get w.deletes d ≡ x → Goes w (delete_merged w names d x)
goes_merged w names d None is = goes_same w
goes_merged w names d (Some x) is =
    goes_on w _ refl (λ name m. m) (omega arith) (omega arith) (omega arith) (goes_aborted w (named_uuids w names) d) (again w.deletes w.next_op d x _ is) (as_was w.tickets w.next_ticket)

goes_delete_by : (w : World) (names : List Bytes) (waiting running : Option ℕ) → Goes w (delete_by w names waiting running)
goes_delete_by w names (Some d) running = goes_merged w names d (fin.get w.deletes d) refl
goes_delete_by w names None (Some d) = goes_same w
goes_delete_by w names None None =
    goes_on w _ refl (λ name m. m) (omega arith) (omega arith) (omega arith) (goes_aborted w (named_uuids w names) w.next_op) (more w.deletes w.next_op _) (as_was w.tickets w.next_ticket)

goes_delete : (w : World) (names : List Bytes) → Goes w (asked_delete w names)
goes_delete w names = goes_delete_by w names (waiting_delete w) (running_delete w (named_uuids w names))

goes_clone : (w : World) (source name : Bytes) (names : List Bytes) (moment : ℕ) (taken : Option CloneOf) → Goes w (asked w (Clone source name names moment taken))
goes_clone w source name names moment None = goes_same w
goes_clone w source name names moment (Some t) =
    goes_on w _ refl (λ name m. m) (omega arith) (omega arith) (omega arith) (more w.ops w.next_op (cloned_op w name moment t)) (as_was w.deletes w.next_op) (as_was w.tickets w.next_ticket)

-- ---- a cleanup that is asked

goes_cleanup : (w : World) → Goes w (cleanup_opened w)
goes_cleanup w =
    goes_on w _ refl (λ name m. m) (omega arith) (omega arith) (omega arith) (as_was w.ops w.next_op) (more w.deletes w.next_op _) (as_was w.tickets w.next_ticket)

-- ---- all steps

goes_step : (f : Formats) (w : World) (room : w.next_id ≤ first_id (suc w.term)) (k : ℕ) (step : Step) (reply : Reply) (image : Option Image) → IsOld step reply → Goes w (done_step f w k step reply image)
goes_step f w room k (AskStep (Snapshot name indices moment)) reply image old =
    goes_on w _ refl (λ name m. m) (omega arith) (omega arith) (omega arith) (more w.ops w.next_op (asked_op w name indices moment)) (as_was w.deletes w.next_op) (as_was w.tickets w.next_ticket)
goes_step f w room k (AskStep (Clone source name indices moment taken)) reply image old = goes_clone w source name indices moment taken
goes_step f w room k (AskStep (DeleteSnapshots names)) reply image old = goes_delete w names
goes_step f w room k (AskStep (Restore name place)) reply image old = absurd old
goes_step f w room k (AskStep Cleanup) reply image old = goes_cleanup w
goes_step f w room k TakeStep (Gave ticket op unit) image old = goes_taken f w op unit (fin.get w.ops op) old refl
goes_step f w room k (DrawStep n) reply image old = goes_drawn w k n (λ t. record t { first = w.next_id; drawn = n }) (fin.get w.tickets k) refl
goes_step f w room k (CommitStep name) WasDone image old = goes_change w k (committing name (told_blob f image name)) (fin.get w.tickets k) refl
goes_step f w room k (CommitStep name) WasThere image old = goes_change w k (λ t. noting t name) (fin.get w.tickets k) refl
goes_step f w room k LatestStep reply image old = goes_change w k (λ t. record t { tried_latest = true }) (fin.get w.tickets k) refl
goes_step f w room k (FetchStep name) WasFetched image old = goes_change w k (fetching name (told_blob f image name)) (fin.get w.tickets k) refl
goes_step f w room k (ListStep from) (WasListed page) image old = goes_change w k (λ t. listing t page) (fin.get w.tickets k) refl
goes_step f w room k RaiseStep reply image old = goes_raised w k (λ t. record t { raised = Some w.pending }) (fin.get w.tickets k) refl
goes_step f w room k SettleStep reply image old = goes_settled f w k (fin.get w.tickets k) refl
goes_step f w room k (DoneStep result) reply image old = goes_done w k result (fin.get w.tickets k) refl
goes_step f w room k (FailedStep why) reply image old = goes_failed w k (fin.get w.tickets k) refl
goes_step f w room k FinishStep reply image old = goes_change w k (λ t. record t { out = false }) (fin.get w.tickets k) refl
goes_step f w room k DroppedStep reply image old = goes_dropped w k (fin.get w.tickets k) refl
goes_step f w room k ElectStep reply image old =
    goes_on w _ refl (λ name m. m) (omega arith) (omega arith) (omega arith) (as_was w.ops w.next_op) (as_was w.deletes w.next_op) (as_was w.tickets w.next_ticket)
goes_step f w room k (ReadStep read) reply image old = absurd old
goes_step f w room k (PruneStep prune) reply image old = goes_prune f w k prune reply image
goes_step f w room k step reply image old = goes_same w

goes_fallen : (f : Formats) (w up : World) (image : Option Image) → Goes w up → Goes w (fallen f w up image)
goes_fallen f w up image h =
    let g = goes_either w up w (has_text image (f.cluster.text (record_of up))) h (goes_same w) in
    record { restores = g.restores; readers = g.readers; caller = g.caller; doomed = g.doomed; next_op = g.next_op; next_ticket = g.next_ticket; next_id = g.next_id; ops = g.ops; deletes = g.deletes; tickets = g.tickets }

goes_fault : (f : Formats) (w : World) (room : w.next_id ≤ first_id (suc w.term)) (k : ℕ) (step : Step) (image : Option Image) → IsOld step (Refused DepotFault) → Goes w (faulted f w k step image)
goes_fault f w room k LatestStep image old = goes_change w k (λ t. record t { tried_latest = true }) (fin.get w.tickets k) refl
goes_fault f w room k (BeginStep name) image old = goes_either w (tried w k) w (is_latest name) (goes_change w k (λ t. record t { tried_latest = true }) (fin.get w.tickets k) refl) (goes_same w)
goes_fault f w room k (AskStep (Restore name place)) image old = absurd old
goes_fault f w room k (AskStep command) image old = goes_fallen f w (done_step f w k (AskStep command) HasEnded image) image (goes_step f w room k (AskStep command) HasEnded image tt)
goes_fault f w room k RaiseStep image old = goes_fallen f w _ image (goes_step f w room k RaiseStep HasEnded image tt)
goes_fault f w room k SettleStep image old = goes_fallen f w _ image (goes_step f w room k SettleStep HasEnded image tt)
goes_fault f w room k DroppedStep image old = goes_fallen f w _ image (goes_step f w room k DroppedStep HasEnded image tt)
goes_fault f w room k ElectStep image old = goes_fallen f w _ image (goes_step f w room k ElectStep HasEnded image tt)
goes_fault f w room k (ReadStep read) image old = absurd old
goes_fault f w room k (PruneStep SettlePruned) image old = goes_fallen f w _ image (goes_prune f w k SettlePruned HasEnded image)
goes_fault f w room k step image old = goes_same w

pub goes_answered : (f : Formats) (w : World) (room : w.next_id ≤ first_id (suc w.term)) (k : ℕ) (step : Step) (reply : Reply) (image : Option Image) → IsOld step reply → Goes w (answered f w k step reply image)
goes_answered f w room k step (Refused DepotFault) image old = goes_fault f w room k step image old
goes_answered f w room k step (Refused refusal) image old = goes_same w
goes_answered f w room k step reply image old = goes_step f w room k step reply image old
