-- Each step is one change, and what follows for all.
use Rattle.std.proofs.Common.{◌≡◌, ◌⊎◌, ℕ, zero, suc, ◌+◌, ◌≤◌, List, [], Bool, true, false, Option, Some, None, refl, sym, ap, ◌∙◌, subst, inl, inr, arith, le_refl, le-add_right}
use Rattle.std.specs.Prelude.{if◌then◌else◌}
use Rattle.std.proofs.lemmas.Option.{same_Some}
use Rattle.std.specs.FinMap as fin
use Rattle.std.proofs.lemmas.Bool.{false≢true}
use Rattle.esr_model.specs.Names.{BlobName}
use Rattle.esr_model.specs.Values.{Bytes, Has, ShardResult, Formats}
use Rattle.esr_model.specs.Delete.{PrunedShard, kept_count}
use Rattle.esr_model.specs.Cleanup.{BlobSize}
use Rattle.esr_model.specs.Image.{Image}
use Rattle.esr_core.specs.World.{World, Op, ShardWork, Deletion, Work, Deleting, Drop, Ticket, ReadState, Restored, NotRestored, RestoreShard, Restoring, Reader, Swap, swap, record_of}
use Rattle.esr_core.specs.Restores.{restore_of, restore_shard}
use Rattle.esr_core.specs.Steps.{with_ticket, noting, listing, completing, shard_ticket, final_ticket, plain_ticket}
use Rattle.esr_core.specs.Turns.{Aborts, cleaning_ticket}
use Rattle.esr_core.specs.Pruning.{planned_work, planned, dooms}
use Rattle.esr_core.specs.Deletes.{with_named, named_uuids, waiting_delete, running_delete, aborted_ops, delete_merged, delete_by, asked_delete}
use Rattle.esr_core.specs.Entry.{CloneOf, Snapshot, Clone, DeleteSnapshots, Restore, Cleanup, Given, GivenShard, GivenClone, GivenFinalize, GivenDrop, GivenRestore, GivenDelete, GivenCleanup, Read, ReadBlob, RestoredShard, DrawTest, CommitTest, ReadFails, Prune, FetchShard, PlanShards, SettlePruned, EndDelete, DeleteFails, Step, AskStep, TakeStep, DrawStep, BeginStep, CommitStep, LatestStep, FetchStep, ListStep, RaiseStep, SettleStep, DoneStep, FailedStep, FinishStep, DroppedStep, ElectStep, ReadStep, PruneStep, DepotFault, Reply, Gave, DrawnFrom, WasDone, WasThere, WasFetched, WasListed, HasEnded, Refused, AcceptedRestore}
use Rattle.esr_core.specs.After.{asked, asked_op, new_names, cloned_op, shard_of, taken_shard, taken_restore_shard, taken_restore, taken_by, with_given, committing, told_blob, fetching, settled_by, settled_of, done_by, done_of, is_stale, failed_by, failed_of, dropped_of, deletes_left, delete_settled_by, delete_settled, delete_failed_by, delete_failed, prune_step, read_told, shard_over, read_over, read_step, read_by, done_step, swaps_record, has_text, fallen, is_latest, tried, test_left, faulted, answered}
use Rattle.esr_core.specs.History.{is_settle}
use Rattle.esr_core.specs.Changes.{IsAsk, IsNewTicket, SameUnit, SameOp, AsBefore, OneAnew, StepChange, NoChange, NewOp, NewDeletion, MergedDeletion, NewRestore, NewTicket, NewReader, OwnTicket, Settlement, UnitEnd, DeletionFailure, OpDrop, Election, ReaderFetch, ReaderEnd, PlainDraw, TestBlob, SwapFault}
use Rattle.esr_core.specs.Laws.DeleteAsks.{aborts}

same_op : (op : Op) (shards : List ShardWork) → SameOp op (record op { shards = shards })
same_op op shards = record { name = refl; uuid = refl; moment = refl; indices = refl; source = refl; aborted = refl; failed = λ e. e }

failed_op : (op : Op) (shards : List ShardWork) → SameOp op (record op { shards = shards; failed = true })
failed_op op shards = record { name = refl; uuid = refl; moment = refl; indices = refl; source = refl; aborted = refl; failed = λ e. refl }

-- ---- a ticket later on

-- what its steps leave is new, and all else is as it was: an end is never taken back
unit_left : (t v : Ticket)
    → v ≡ record t { first = v.first; drawn = v.drawn; noted = v.noted; wrote = v.wrote; read = v.read; raised = v.raised; tried_latest = v.tried_latest; settled = v.settled; out = v.out; listed = v.listed; whole = v.whole }
    → ((n : BlobName) → Has t.noted n → Has v.noted n) → ((n : BlobName) (b : Bytes) → Has t.wrote (n, b) → Has v.wrote (n, b)) → ((n : BlobName) (b : Bytes) → Has t.read (n, b) → Has v.read (n, b))
    → (t.settled ≡ true → v.settled ≡ true) → (v.out ≡ true → t.out ≡ true) → SameUnit t v
unit_left t v is noted wrote read settled out =
    record {
      work = inl (ap (λ (x : Ticket). x.work) is);
      op = ap (λ (x : Ticket). x.op) is;
      uuid = ap (λ (x : Ticket). x.uuid) is;
      place = ap (λ (x : Ticket). x.place) is;
      name = ap (λ (x : Ticket). x.name) is;
      source = ap (λ (x : Ticket). x.source) is;
      term = ap (λ (x : Ticket). x.term) is;
      safe = ap (λ (x : Ticket). x.safe) is;
      root = ap (λ (x : Ticket). x.root) is;
      base = ap (λ (x : Ticket). x.base) is;
      clean = ap (λ (x : Ticket). x.clean) is;
      noted = noted;
      wrote = wrote;
      read = read;
      settled = settled;
      out = out;
    }

pub same_unit : (t : Ticket) → SameUnit t t
same_unit t = unit_left t t refl (λ n h. h) (λ n b h. h) (λ n b h. h) (λ e. e) (λ e. e)

pub over_unit : (t : Ticket) → SameUnit t (record t { out = false })
over_unit t = unit_left t (record t { out = false }) refl (λ n h. h) (λ n b h. h) (λ n b h. h) (λ e. e) (λ e. absurd (false≢true e))

pub settled_unit : (t : Ticket) → SameUnit t (record t { settled = true })
settled_unit t = unit_left t (record t { settled = true }) refl (λ n h. h) (λ n b h. h) (λ n b h. h) (λ e. refl) (λ e. e)

drawn_unit : (t : Ticket) (first drawn : ℕ) → SameUnit t (record t { first = first; drawn = drawn })
drawn_unit t first drawn = unit_left t (record t { first = first; drawn = drawn }) refl (λ n h. h) (λ n b h. h) (λ n b h. h) (λ e. e) (λ e. e)

raised_unit : (t : Ticket) (n : ℕ) → SameUnit t (record t { raised = Some n })
raised_unit t n = unit_left t (record t { raised = Some n }) refl (λ n h. h) (λ n b h. h) (λ n b h. h) (λ e. e) (λ e. e)

tried_unit : (t : Ticket) → SameUnit t (record t { tried_latest = true })
tried_unit t = unit_left t (record t { tried_latest = true }) refl (λ n h. h) (λ n b h. h) (λ n b h. h) (λ e. e) (λ e. e)

noting_unit : (name : BlobName) (t : Ticket) → SameUnit t (noting t name)
noting_unit name t = unit_left t (noting t name) refl (λ n h. inr h) (λ n b h. h) (λ n b h. h) (λ e. e) (λ e. e)

committing_unit : (name : BlobName) (bytes : Option Bytes) (t : Ticket) → SameUnit t (committing name bytes t)
committing_unit name None t = noting_unit name t
committing_unit name (Some bytes) t = unit_left t (committing name (Some bytes) t) refl (λ n h. inr h) (λ n b h. inr h) (λ n b h. h) (λ e. e) (λ e. e)

fetching_unit : (name : BlobName) (bytes : Option Bytes) (t : Ticket) → SameUnit t (fetching name bytes t)
fetching_unit name None t = same_unit t
fetching_unit name (Some bytes) t = unit_left t (fetching name (Some bytes) t) refl (λ n h. h) (λ n b h. h) (λ n b h. inr h) (λ e. e) (λ e. e)

committing_settled : (name : BlobName) (bytes : Option Bytes) (t : Ticket) → (committing name bytes t).settled ≡ t.settled
committing_settled name None t = refl
committing_settled name (Some bytes) t = refl

listing_unit : (page : List BlobSize) (t : Ticket) → SameUnit t (listing t page)
listing_unit page t = unit_left t (listing t page) refl (λ n h. h) (λ n b h. h) (λ n b h. h) (λ e. e) (λ e. e)

fetching_settled : (name : BlobName) (bytes : Option Bytes) (t : Ticket) → (fetching name bytes t).settled ≡ t.settled
fetching_settled name None t = refl
fetching_settled name (Some bytes) t = refl

planned_unit : (f : Formats) (shards : List PrunedShard) (first : ℕ) (t : Ticket) → SameUnit t (planned f shards first t)
planned_unit f shards first t =
    record {
      work = by t.work refl;
      op = refl;
      uuid = refl;
      place = refl;
      name = refl;
      source = refl;
      term = refl;
      safe = refl;
      root = refl;
      base = refl;
      clean = refl;
      noted = λ n h. h;
      wrote = λ n b h. h;
      read = λ n b h. h;
      settled = λ e. e;
      out = λ e. e;
    }
  where
    by : (work : Work) → t.work ≡ work
        → (planned_work f t shards first t.work ≡ t.work) ⊎ ((uuids : List ℕ) × (plan : Option Swap) × (s : Swap) × (t.work ≡ Deleting uuids plan) × (planned_work f t shards first t.work ≡ Deleting uuids (Some s)))
    by (Deleting uuids plan) e = inr (uuids, plan, _, e, ap (planned_work f t shards first) e)
    by work e = inl (ap (planned_work f t shards first) e ∙ sym e)

-- ---- each step is one change

pub one_more : (n : ℕ) → n ≤ suc n
one_more n = omega arith

module _ (f : Formats) (w : World) (k : ℕ) (step : Step) where
  puts : (t v : Ticket) → fin.get w.tickets k ≡ Some t → SameUnit t v → v.settled ≡ t.settled → StepChange f w k step (with_ticket w k v)
  puts t v there unit settled = OwnTicket t v there unit settled w.next_id w.pending (le_refl w.next_id) (le_refl w.pending)

  changes : (g : Ticket → Ticket) → ((t : Ticket) → SameUnit t (g t)) → ((t : Ticket) → (g t).settled ≡ t.settled) → (o : Option Ticket) → fin.get w.tickets k ≡ o → StepChange f w k step (with_given w k g o)
  changes g unit settled None there = NoChange
  changes g unit settled (Some t) there = puts t (g t) there (unit t) (settled t)

  draws : (g : Ticket → Ticket) → ((t : Ticket) → SameUnit t (g t)) → ((t : Ticket) → (g t).settled ≡ t.settled) → (n : ℕ) (o : Option Ticket) → fin.get w.tickets k ≡ o
      → StepChange f w k step (record (with_given w k g o) { next_id = w.next_id + n })
  draws g unit settled n None there = PlainDraw (w.next_id + n) w.pending (le-add_right w.next_id n) (le_refl w.pending)
  draws g unit settled n (Some t) there = OwnTicket t (g t) there (unit t) (settled t) (w.next_id + n) w.pending (le-add_right w.next_id n) (le_refl w.pending)

  raises : (o : Option Ticket) → fin.get w.tickets k ≡ o → StepChange f w k step (record (with_given w k (λ t. record t { raised = Some w.pending }) o) { pending = suc w.pending })
  raises None there = PlainDraw w.next_id (suc w.pending) (le_refl w.next_id) (one_more w.pending)
  raises (Some t) there = OwnTicket t (record t { raised = Some w.pending }) there (raised_unit t w.pending) refl w.next_id (suc w.pending) (le_refl w.next_id) (one_more w.pending)

  tries : StepChange f w k step (tried w k)
  tries = changes (λ t. record t { tried_latest = true }) tried_unit (λ t. refl) (fin.get w.tickets k) refl

  ends : (o : Option Ticket) → fin.get w.tickets k ≡ o → StepChange f w k step (with_given w k (λ t. record t { out = false }) o)
  ends o there = changes (λ t. record t { out = false }) over_unit (λ t. refl) o there

  either : (b : Bool) (x y : World) → StepChange f w k step x → StepChange f w k step y → StepChange f w k step (if b then x else y)
  either true x y p q = p
  either false x y p q = q

  asks_clone : IsAsk step → (source name : Bytes) (indices : List Bytes) (moment : ℕ) (taken : Option CloneOf) → StepChange f w k step (asked w (Clone source name indices moment taken))
  asks_clone ask source name indices moment None = NoChange
  asks_clone ask source name indices moment (Some taken) = NewOp ask (cloned_op w name moment taken) (completing w.completed w.next_op (cloned_op w name moment taken).shards) (suc w.next_id) refl (one_more w.next_id)

  asks_snapshot : IsAsk step → (name : Bytes) (indices : List _) (moment : ℕ) → StepChange f w k step (asked w (Snapshot name indices moment))
  asks_snapshot ask name indices moment =
      NewOp ask (asked_op w name indices moment) (completing w.completed w.next_op (asked_op w name indices moment).shards) (w.next_id + suc (new_names w indices)) refl (le-add_right w.next_id (suc (new_names w indices)))

  merges : IsAsk step → (names : List Bytes) (d : ℕ) (x : Option Deletion) → fin.get w.deletes d ≡ x → StepChange f w k step (delete_merged w names d x)
  merges ask names d None there = NoChange
  merges ask names d (Some x) there = MergedDeletion ask (aborted_ops w (named_uuids w names) d) d x (record x { uuids = with_named w x.uuids names }) (aborts w (named_uuids w names) d) there refl refl

  asks_delete : IsAsk step → (names : List Bytes) → StepChange f w k step (asked_delete w names)
  asks_delete ask names = by (waiting_delete w) (running_delete w (named_uuids w names))
    where
      by : (waiting running : Option ℕ) → StepChange f w k step (delete_by w names waiting running)
      by (Some d) running = merges ask names d (fin.get w.deletes d) refl
      by None (Some d) = NoChange
      by None None = NewDeletion ask (aborted_ops w (named_uuids w names) w.next_op) (record { uuids = named_uuids w names; clean = false; failed = false }) (aborts w (named_uuids w names) w.next_op) (inl refl)

  asks_cleanup : IsAsk step → step ≡ AskStep Cleanup → StepChange f w k step (asked w Cleanup)
  asks_cleanup ask is = NewDeletion ask w.ops (record { uuids = []; clean = true; failed = false }) none (inr is)
    where
      none : Aborts w.ops w.ops w.next_op
      none = record { was = λ o op e. (op, e, inl refl); stays = λ o old e. (old, e, inl refl); first = λ o old op b e h a. same_Some op old (sym h ∙ e) }

  fresh : (t : Ticket) → t ≡ record t { term = w.term; safe = w.safe; root = w.root; drawn = 0; noted = []; wrote = []; read = []; raised = None; settled = false; out = true; listed = []; whole = false } → IsNewTicket w t
  fresh t is =
      record {
        term = ap (λ (x : Ticket). x.term) is;
        safe = ap (λ (x : Ticket). x.safe) is;
        root = ap (λ (x : Ticket). x.root) is;
        drawn = ap (λ (x : Ticket). x.drawn) is;
        noted = λ n h. subst (λ (x : Ticket). Has x.noted n) is h;
        wrote = λ n b h. subst (λ (x : Ticket). Has x.wrote (n, b)) is h;
        read = λ n b h. subst (λ (x : Ticket). Has x.read (n, b)) is h;
        raised = ap (λ (x : Ticket). x.raised) is;
        settled = ap (λ (x : Ticket). x.settled) is;
        out = ap (λ (x : Ticket). x.out) is;
        listed = ap (λ (x : Ticket). x.listed) is;
        whole = ap (λ (x : Ticket). x.whole) is;
      }

  gives_shard : step ≡ TakeStep → (o : ℕ) (op : Op) (base : Option ℕ) (s : Option ShardWork) → fin.get w.ops o ≡ Some op → StepChange f w k step (taken_shard w o op base s)
  gives_shard take o op base None there = NoChange
  gives_shard take o op base (Some s) there =
      NewTicket take (shard_ticket w o op s base) (fresh _ refl)
      _ (OneAnew o op _ there (same_op op _))

  gives_restore_shard : step ≡ TakeStep → (o : ℕ) (r : Restoring) (s : Option RestoreShard) → fin.get w.restores o ≡ Some r → StepChange f w k step (taken_restore_shard w o r s)
  gives_restore_shard take o r None there = NoChange
  gives_restore_shard take o r (Some s) there = NewReader take o r s there

  gives_restore : step ≡ TakeStep → (o index number : ℕ) (r : Option Restoring) → fin.get w.restores o ≡ r → StepChange f w k step (taken_restore w o index number r)
  gives_restore take o index number None there = NoChange
  gives_restore take o index number (Some r) there = gives_restore_shard take o r (restore_shard r.shards index number) there

  gives : step ≡ TakeStep → (o : ℕ) (unit : Given) (op : Option Op) → fin.get w.ops o ≡ op → StepChange f w k step (taken_by f w o unit op)
  gives take o (GivenShard index number base) (Some op) there = gives_shard take o op base (shard_of op.shards index number) there
  gives take o (GivenClone index number source base) (Some op) there = gives_shard take o op base (shard_of op.shards index number) there
  gives take o (GivenFinalize info results) (Some op) there =
      NewTicket take (final_ticket f w o op results) (fresh _ refl) w.ops AsBefore
  gives take o GivenDrop op there = NewTicket take (plain_ticket w o Drop) (fresh _ refl) w.ops AsBefore
  gives take o (GivenRestore index number uuid) op there = gives_restore take o index number (fin.get w.restores o) refl
  gives take o (GivenDelete uuids) op there = NewTicket take (plain_ticket w o (Deleting uuids None)) (fresh _ refl) w.ops AsBefore
  gives take o GivenCleanup op there =
      NewTicket take (cleaning_ticket w o) (fresh _ refl) w.ops AsBefore
  gives take o unit op there = NoChange

  settles_by : is_settle step ≡ true → (t : Ticket) → fin.get w.tickets k ≡ Some t → (s : Option Swap) → swap f t ≡ s → (n : Option ℕ) → t.raised ≡ n → StepChange f w k step (settled_by f w k t s n)
  settles_by e t there (Some s) is (Some n) raised = Settlement e t s n [] (fin.remove w.deletes t.op) there is raised (inl refl)
  settles_by e t there s is n raised = NoChange

  settles_of : is_settle step ≡ true → (o : Option Ticket) → fin.get w.tickets k ≡ o → StepChange f w k step (settled_of f w k o)
  settles_of e None there = NoChange
  settles_of e (Some t) there = settles_by e t there (swap f t) refl t.raised refl

  prunes_by : is_settle step ≡ true → (t : Ticket) → fin.get w.tickets k ≡ Some t → (s : Option Swap) → swap f t ≡ s → (n : Option ℕ) → t.raised ≡ n → StepChange f w k step (delete_settled_by f w k t s n)
  prunes_by e t there (Some s) is (Some n) raised = Settlement e t s n (dooms f t) (deletes_left w t) there is raised (left_or t.clean refl)
    where
      left_or : (b : Bool) → t.clean ≡ b → (deletes_left w t ≡ fin.remove w.deletes t.op) ⊎ ((t.clean ≡ true) × (deletes_left w t ≡ w.deletes))
      left_or false is = inl (ap (λ (c : Bool). if c then w.deletes else fin.remove w.deletes t.op) is)
      left_or true is = inr (is, ap (λ (c : Bool). if c then w.deletes else fin.remove w.deletes t.op) is)
  prunes_by e t there s is n raised = NoChange

  prunes_of : is_settle step ≡ true → (o : Option Ticket) → fin.get w.tickets k ≡ o → StepChange f w k step (delete_settled f w k o)
  prunes_of e None there = NoChange
  prunes_of e (Some t) there = prunes_by e t there (swap f t) refl t.raised refl

  dones_by : (r : ShardResult) (t : Ticket) → fin.get w.tickets k ≡ Some t → (op : Option Op) → fin.get w.ops t.op ≡ op → StepChange f w k step (done_by w k r t op)
  dones_by r t there None found = NoChange
  dones_by r t there (Some op) found = UnitEnd t op _ _ there found (same_op op _)

  dones_of : (r : ShardResult) (o : Option Ticket) → fin.get w.tickets k ≡ o → StepChange f w k step (done_of w k r o)
  dones_of r None there = NoChange
  dones_of r (Some t) there = dones_by r t there (fin.get w.ops t.op) refl

  fails_by : (t : Ticket) → fin.get w.tickets k ≡ Some t → (op : Option Op) → fin.get w.ops t.op ≡ op → StepChange f w k step (failed_by w k t op)
  fails_by t there None found = NoChange
  fails_by t there (Some op) found = UnitEnd t op _ w.completed there found (failed_op op _)

  over : (t : Ticket) → fin.get w.tickets k ≡ Some t → StepChange f w k step (with_ticket w k (record t { out = false }))
  over t there = puts t (record t { out = false }) there (over_unit t) refl

  fails_of : (o : Option Ticket) → fin.get w.tickets k ≡ o → StepChange f w k step (failed_of w k o)
  fails_of None there = NoChange
  fails_of (Some t) there = either (is_stale w t t.work) _ _ (over t there) (fails_by t there (fin.get w.ops t.op) refl)

  fails_deletion_by : (t : Ticket) → fin.get w.tickets k ≡ Some t → (x : Option Deletion) → fin.get w.deletes t.op ≡ x → StepChange f w k step (delete_failed_by w k t x)
  fails_deletion_by t there None found = NoChange
  fails_deletion_by t there (Some x) found = DeletionFailure t x there found

  fails_deletion : (o : Option Ticket) → fin.get w.tickets k ≡ o → StepChange f w k step (delete_failed w k o)
  fails_deletion None there = NoChange
  fails_deletion (Some t) there = either (is_stale w t t.work) _ _ (over t there) (fails_deletion_by t there (fin.get w.deletes t.op) refl)

  drops_of : step ≡ DroppedStep → (o : Option Ticket) → fin.get w.tickets k ≡ o → StepChange f w k step (dropped_of w k o)
  drops_of e None there = NoChange
  drops_of e (Some t) there = OpDrop e t there

  reads_told : (name : BlobName) (bytes : Option Bytes) (q : Option Reader) → fin.get w.readers k ≡ q → StepChange f w k step (read_told w k name bytes q)
  reads_told name bytes None there = NoChange
  reads_told name None (Some q) there = NoChange
  reads_told name (Some bytes) (Some q) there = ReaderFetch q name bytes there

  ends_shard : (state : ReadState) (q : Reader) → fin.get w.readers k ≡ Some q → (r : Option Restoring) → fin.get w.restores q.op ≡ r → StepChange f w k step (shard_over w k state q r)
  ends_shard state q there None found = NoChange
  ends_shard state q there (Some r) found = ReaderEnd q r state there found

  ends_reader : (state : ReadState) (q : Option Reader) → fin.get w.readers k ≡ q → StepChange f w k step (read_over w k state q)
  ends_reader state None there = NoChange
  ends_reader state (Some q) there = ends_shard state q there (fin.get w.restores q.op) refl

  reads_step : (read : Read) (reply : Reply) (image : Option Image) → StepChange f w k step (read_step f w k read reply image)
  reads_step (ReadBlob name) WasFetched image = reads_told name (told_blob f image name) (fin.get w.readers k) refl
  reads_step (RestoredShard files bytes) reply image = ends_reader (Restored files bytes) (fin.get w.readers k) refl
  reads_step (ReadFails why) reply image = ends_reader (NotRestored why) (fin.get w.readers k) refl
  reads_step read reply image = NoChange

  prunes : (prune : Prune) → step ≡ PruneStep prune → (reply : Reply) (image : Option Image) → StepChange f w k step (prune_step f w k prune reply image)
  prunes (FetchShard name) is WasFetched image = changes (fetching name (told_blob f image name)) (fetching_unit name (told_blob f image name)) (fetching_settled name (told_blob f image name)) (fin.get w.tickets k) refl
  prunes (PlanShards shards) is reply image = draws (planned f shards w.next_id) (planned_unit f shards w.next_id) (λ t. refl) (kept_count shards) (fin.get w.tickets k) refl
  prunes SettlePruned is reply image = prunes_of (ap is_settle is) (fin.get w.tickets k) refl
  prunes EndDelete is reply image = ends (fin.get w.tickets k) refl
  prunes (DeleteFails why) is reply image = fails_deletion (fin.get w.tickets k) refl
  prunes prune is reply image = NoChange

  -- a record swap that failed
  falls : swaps_record step ≡ true → (up : World) (image : Option Image) → StepChange f w k step up → StepChange f w k step (fallen f w up image)
  falls e up image h = SwapFault e _ (either (has_text image (f.cluster.text (record_of up))) up w h NoChange)

  leaves_test : (name : BlobName) → step ≡ ReadStep (CommitTest name) → (was now : Option Bytes) → StepChange f w k step (test_left w name was now)
  leaves_test name is None (Some bytes) = TestBlob name is
  leaves_test name is was now = NoChange

-- ---- steps that read

module _ (f : Formats) (w : World) where
  reads_by : (k : ℕ) (read : Read) (reply : Reply) (image : Option Image) → StepChange f w k (ReadStep read) (read_by f w k read reply image)
  reads_by zero DrawTest (DrawnFrom first) image = PlainDraw (suc w.next_id) w.pending (one_more w.next_id) (le_refl w.pending)
  reads_by zero (CommitTest name) WasDone image = TestBlob name refl
  reads_by zero read reply image = NoChange
  reads_by (suc k) read reply image = reads_step f w (suc k) (ReadStep read) read reply image

  does : (k : ℕ) (step : Step) (reply : Reply) (image : Option Image) → StepChange f w k step (done_step f w k step reply image)
  does k (AskStep (Snapshot name indices moment)) reply image = asks_snapshot f w k (AskStep (Snapshot name indices moment)) tt name indices moment
  does k (AskStep (Clone source name indices moment taken)) reply image = asks_clone f w k (AskStep (Clone source name indices moment taken)) tt source name indices moment taken
  does k (AskStep (DeleteSnapshots names)) reply image = asks_delete f w k (AskStep (DeleteSnapshots names)) tt names
  does k (AskStep (Restore name place)) (AcceptedRestore o uuid indices) image = NewRestore tt (restore_of uuid place indices)
  does k (AskStep Cleanup) reply image = asks_cleanup f w k (AskStep Cleanup) tt refl
  does k TakeStep (Gave ticket op unit) image = gives f w k TakeStep refl op unit (fin.get w.ops op) refl
  does k (DrawStep n) reply image = draws f w k (DrawStep n) (λ t. record t { first = w.next_id; drawn = n }) (λ t. drawn_unit t w.next_id n) (λ t. refl) n (fin.get w.tickets k) refl
  does k (CommitStep name) WasDone image = changes f w k (CommitStep name) (committing name (told_blob f image name)) (committing_unit name (told_blob f image name)) (committing_settled name (told_blob f image name)) (fin.get w.tickets k) refl
  does k (CommitStep name) WasThere image = changes f w k (CommitStep name) (λ t. noting t name) (noting_unit name) (λ t. refl) (fin.get w.tickets k) refl
  does k LatestStep reply image = tries f w k LatestStep
  does k (FetchStep name) WasFetched image = changes f w k (FetchStep name) (fetching name (told_blob f image name)) (fetching_unit name (told_blob f image name)) (fetching_settled name (told_blob f image name)) (fin.get w.tickets k) refl
  does k (ListStep from) (WasListed page) image = changes f w k (ListStep from) (λ t. listing t page) (listing_unit page) (λ t. refl) (fin.get w.tickets k) refl
  does k RaiseStep reply image = raises f w k RaiseStep (fin.get w.tickets k) refl
  does k SettleStep reply image = settles_of f w k SettleStep refl (fin.get w.tickets k) refl
  does k (DoneStep result) reply image = dones_of f w k (DoneStep result) result (fin.get w.tickets k) refl
  does k (FailedStep why) reply image = fails_of f w k (FailedStep why) (fin.get w.tickets k) refl
  does k FinishStep reply image = ends f w k FinishStep (fin.get w.tickets k) refl
  does k DroppedStep reply image = drops_of f w k DroppedStep refl (fin.get w.tickets k) refl
  does k ElectStep reply image = Election refl
  does k (ReadStep read) reply image = reads_by k read reply image
  does k (PruneStep prune) reply image = prunes f w k (PruneStep prune) prune refl reply image
  does k step reply image = NoChange

  faults : (k : ℕ) (step : Step) (image : Option Image) → StepChange f w k step (faulted f w k step image)
  faults k LatestStep image = tries f w k LatestStep
  faults k (BeginStep name) image = either f w k (BeginStep name) (is_latest name) (tried w k) w (tries f w k (BeginStep name)) NoChange
  faults k (AskStep (Restore name place)) image = NoChange
  faults k (AskStep command) image = falls f w k (AskStep command) refl _ image (does k (AskStep command) HasEnded image)
  faults k RaiseStep image = falls f w k _ refl _ image (does k RaiseStep HasEnded image)
  faults k SettleStep image = falls f w k _ refl _ image (does k SettleStep HasEnded image)
  faults k DroppedStep image = falls f w k _ refl _ image (does k DroppedStep HasEnded image)
  faults k ElectStep image = falls f w k _ refl _ image (does k ElectStep HasEnded image)
  faults k (PruneStep SettlePruned) image = falls f w k _ refl _ image (does k (PruneStep SettlePruned) HasEnded image)
  faults k (ReadStep (CommitTest name)) image = leaves_test f w k (ReadStep (CommitTest name)) name refl (fin.get w.blobs (f.names.text name)) (told_blob f image name)
  faults k step image = NoChange

  pub change_of : (k : ℕ) (step : Step) (reply : Reply) (image : Option Image) → StepChange f w k step (answered f w k step reply image)
  change_of k step (Refused DepotFault) image = faults k step image
  change_of k step (Refused refusal) image = NoChange
  change_of k step reply image = does k step reply image
