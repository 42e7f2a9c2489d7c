-- What a step of a ticket needs in its turn, by what it needed of the ticket as the worker had seen it.
use Rattle.std.proofs.Common.{◌≡◌, ℕ, Bool, true, false, List, ◌++◌, length, Option, Some, None, Result, inl, inr, refl, sym, ap, subst, ⊎_elim}
use Rattle.esr_model.specs.Names.{BlobName}
use Rattle.esr_model.specs.Values.{Bytes, Has, RootData, ShardResult}
use Rattle.esr_model.specs.Delete.{PrunedShard}
use Rattle.esr_core.specs.World.{Ticket, Reader, Deleting}
use Rattle.esr_core.specs.Ready.{IsShard}
use Rattle.esr_core.specs.Entry.{Step, Reply, WasRemoved, Entry, Moment}
use Rattle.esr_core.specs.Past.{Repeats, WasStale, IsRemoval, removal_names, gone_names}
use Rattle.esr_core.specs.Allowed.{HasPutLatest}
use Rattle.esr_core.specs.Pruning.{dooms}
use Rattle.esr_depot.specs.declared.depot.Commit.{Commit}
use Rattle.esr_depot.specs.declared.depot.Commit.TheVariants as commits
use Rattle.esr_desk.specs.declared.target.RestoredTarget.{RestoredTarget}
use Rattle.esr_desk.specs.Start.{Start, formats_of, ticket_of, world_of}
use Rattle.esr_desk.specs.Own.{Own, reader_of, made_of}
use Rattle.esr_desk.specs.declared.refusal.StepRefusal.{StepRefusal}
use Rattle.esr_desk.specs.Once.{IsFresh}
use Rattle.esr_desk.specs.Calls.{HasTaken}
use Rattle.esr_desk.specs.Outcome.{Waited, Outcome, commit_reply}
use Rattle.esr_desk.specs.Made.{waited_made}
use Rattle.esr_desk.specs.Evidence.{Evidence}
use Rattle.esr_desk.specs.Conditions.{CanDraw, CanCommit, CanPut, CanBegin, CanRaise, IsUnpruned, CanSettle, CanEnd, HasSettled, CanFinish, CanDrop}
use Rattle.esr_desk.specs.Delete.Conditions.{CanPlan, CanList, CanSettleDelete, CanRemove, CanEndDelete, CanEndCleanup}
use Rattle.esr_desk.specs.Restore.Conditions.{CanEndRestore}
use Rattle.esr_desk.specs.Restore.Targets.{IsFilled}
use Rattle.esr_handle.specs.Owned.{given_by, calls_in}
use Rattle.esr_handle.specs.Turned.{shared, Seen, was_told, Turned, Came, Homed}
use Rattle.esr_handle.proofs.Owned.{own_ticket}
use Rattle.esr_handle.proofs.Turns.{came, outcome, calls_ticket}

-- ---- none of them asks whether others make steps

module _ (s : Start) (t : Ticket) where
  draw_alike : (n : ℕ) → CanDraw (shared s) t n → CanDraw s t n
  draw_alike n h = record { out = h.out; shard = h.shard; once = h.once; some = h.some; most = h.most; few = h.few }

  commit_alike : (name : BlobName) (bytes : Bytes) → CanCommit (shared s) t name bytes → CanCommit s t name bytes
  commit_alike name bytes h = record { out = h.out; unsettled = h.unsettled; may = h.may; stored = h.stored; once = h.once; numbered = h.numbered; late = h.late }

  put_alike : (n : ℕ) → CanPut (shared s) t n → CanPut s t n
  put_alike n h = record { out = h.out; change = h.change; is = h.is; unsettled = h.unsettled; raised = h.raised; written = h.written }

  begin_alike : (name : BlobName) → CanBegin (shared s) t name → CanBegin s t name
  begin_alike name (inl h) = inl (h.0, commit_alike name h.0 h.1)
  begin_alike name (inr h) = inr (h.0, (h.1.0, put_alike h.1.0 h.1.1))

  raise_alike : CanRaise (shared s) t → CanRaise s t
  raise_alike h = record { out = h.out; change = h.change; is = h.is; unsettled = h.unsettled; once = h.once }

  settle_alike : (root : RootData) → CanSettle (shared s) t root → CanSettle s t root
  settle_alike root h = record { change = h.change; n = h.n; put = put_alike h.n h.put; is = h.is; root_is = h.root_is; ready = h.ready; tried = h.tried }

  end_alike : (r : ShardResult) → CanEnd (shared s) t r → CanEnd s t r
  end_alike r h = record { out = h.out; is = h.is; drew = h.drew; last = h.last; snap_noted = h.snap_noted; index_noted = h.index_noted; done = h.done }

  plan_alike : (uuids : List ℕ) (shards : List PrunedShard) → CanPlan (shared s) t uuids shards → CanPlan s t uuids shards
  plan_alike uuids shards h = record {
    out = h.out;
    unsettled = h.unsettled;
    work = h.work;
    unraised = h.unraised;
    unnoted = h.unnoted;
    one_each = h.one_each;
    of_root = h.of_root;
    are_read = h.are_read;
    exact = h.exact;
    writable = h.writable;
  }

  settle_delete_alike : (root : RootData) → CanSettleDelete (shared s) t root → CanSettleDelete s t root
  settle_delete_alike root h = record {
    settle = record { change = h.settle.change; n = h.settle.n; put = put_alike h.settle.n h.settle.put; is = h.settle.is; root_is = h.settle.root_is; ready = h.settle.ready; tried = h.settle.tried };
    uuids = h.uuids;
    work = h.work;
    commands = h.commands;
    listed = h.listed;
  }

  remove_alike : (names : List BlobName) → CanRemove (shared s) t names → CanRemove s t names
  remove_alike names h = record { out = h.out; settled = h.settled; uuids = h.uuids; plan = h.plan; work = h.work; some = h.some; few = h.few; doomed = h.doomed }

module _ (s : Start) (q : Reader) (files bytes : ℕ) where
  end_restore_alike : CanEndRestore (shared s) q files bytes → CanEndRestore s q files bytes
  end_restore_alike h = record { out = h.out; done = h.done }

  filled_alike : {S F H T : Type 0} (e : Evidence S F H T) (target : RestoredTarget T) → IsFilled e (shared s) q files bytes target → IsFilled e s q files bytes target
  filled_alike e target h = record {
    op_is = h.op_is;
    index_is = h.index_is;
    shard_is = h.shard_is;
    for_it = h.for_it;
    restored = h.restored;
    told = h.told;
    sure = h.sure;
    none_begun = h.none_begun;
    none_failed = h.none_failed;
  }

-- ---- others leave the ticket

module _ {s : Start} {before : List Moment} {pass turn : Seen} {value : List Moment} (t : Turned s before pass turn value) (who : ℕ) (mine : HasTaken (calls_in (length before) pass.seen pass.mine) who) where
  waits : Waited (shared s) (before ++ pass.seen) value who
  waits = t.waited who (λ some. own_ticket (length before) pass.seen pass.mine who mine)

  same_ticket : ticket_of s (before ++ pass.seen) who ≡ ticket_of s value who
  same_ticket = ap (λ (own : Own). own.ticket) (sym (waits.alone mine.some))

  same_reader : reader_of s (before ++ pass.seen) who ≡ reader_of s value who
  same_reader = ap (λ (own : Own). own.reader) (sym (waits.alone mine.some))

  same_made : made_of s (before ++ pass.seen) who ≡ made_of s value who
  same_made = sym (waited_made (shared s) (before ++ pass.seen) value who mine.some waits)

  pub draw_on : (n : ℕ) → CanDraw (shared s) (ticket_of s (before ++ pass.seen) who) n → CanDraw s (ticket_of s value who) n
  draw_on n h = subst (λ (u : Ticket). CanDraw s u n) same_ticket (draw_alike s (ticket_of s (before ++ pass.seen) who) n h)

  pub begin_on : (name : BlobName) → CanBegin (shared s) (ticket_of s (before ++ pass.seen) who) name → CanBegin s (ticket_of s value who) name
  begin_on name h = subst (λ (u : Ticket). CanBegin s u name) same_ticket (begin_alike s (ticket_of s (before ++ pass.seen) who) name h)

  pub commit_on : (name : BlobName) (bytes : Bytes) → CanCommit (shared s) (ticket_of s (before ++ pass.seen) who) name bytes → CanCommit s (ticket_of s value who) name bytes
  commit_on name bytes h = subst (λ (u : Ticket). CanCommit s u name bytes) same_ticket (commit_alike s (ticket_of s (before ++ pass.seen) who) name bytes h)

  pub put_on : (n : ℕ) → CanPut (shared s) (ticket_of s (before ++ pass.seen) who) n → CanPut s (ticket_of s value who) n
  put_on n h = subst (λ (u : Ticket). CanPut s u n) same_ticket (put_alike s (ticket_of s (before ++ pass.seen) who) n h)

  pub raise_on : CanRaise (shared s) (ticket_of s (before ++ pass.seen) who) → CanRaise s (ticket_of s value who)
  raise_on h = subst (λ (u : Ticket). CanRaise s u) same_ticket (raise_alike s (ticket_of s (before ++ pass.seen) who) h)

  pub settle_on : (root : RootData) → CanSettle (shared s) (ticket_of s (before ++ pass.seen) who) root → CanSettle s (ticket_of s value who) root
  settle_on root h = subst (λ (u : Ticket). CanSettle s u root) same_ticket (settle_alike s (ticket_of s (before ++ pass.seen) who) root h)

  pub unpruned_on : IsUnpruned (ticket_of s (before ++ pass.seen) who) → IsUnpruned (ticket_of s value who)
  unpruned_on h = subst IsUnpruned same_ticket h

  pub end_on : (r : ShardResult) → CanEnd (shared s) (ticket_of s (before ++ pass.seen) who) r → CanEnd s (ticket_of s value who) r
  end_on r h = subst (λ (u : Ticket). CanEnd s u r) same_ticket (end_alike s (ticket_of s (before ++ pass.seen) who) r h)

  pub plan_on : (uuids : List ℕ) (shards : List PrunedShard) → CanPlan (shared s) (ticket_of s (before ++ pass.seen) who) uuids shards → CanPlan s (ticket_of s value who) uuids shards
  plan_on uuids shards h = subst (λ (u : Ticket). CanPlan s u uuids shards) same_ticket (plan_alike s (ticket_of s (before ++ pass.seen) who) uuids shards h)

  pub root_on : (root : RootData) → root ≡ (ticket_of s (before ++ pass.seen) who).root → root ≡ (ticket_of s value who).root
  root_on root h = subst (λ (u : Ticket). root ≡ u.root) same_ticket h

  pub settle_delete_on : (root : RootData) → CanSettleDelete (shared s) (ticket_of s (before ++ pass.seen) who) root → CanSettleDelete s (ticket_of s value who) root
  settle_delete_on root h = subst (λ (u : Ticket). CanSettleDelete s u root) same_ticket (settle_delete_alike s (ticket_of s (before ++ pass.seen) who) root h)

  pub list_on : (after : Option Bytes) → CanList (ticket_of s (before ++ pass.seen) who) after → CanList (ticket_of s value who) after
  list_on after h = subst (λ (u : Ticket). CanList u after) same_ticket h

  pub remove_on : (names : List BlobName) → CanRemove (shared s) (ticket_of s (before ++ pass.seen) who) names → CanRemove s (ticket_of s value who) names
  remove_on names h = subst (λ (u : Ticket). CanRemove s u names) same_ticket (remove_alike s (ticket_of s (before ++ pass.seen) who) names h)

  pub end_restore_on : (files bytes : ℕ) → CanEndRestore (shared s) (reader_of s (before ++ pass.seen) who) files bytes → CanEndRestore s (reader_of s value who) files bytes
  end_restore_on files bytes h = subst (λ (q : Reader). CanEndRestore s q files bytes) same_reader (end_restore_alike s (reader_of s (before ++ pass.seen) who) files bytes h)

  pub filled_on : {S F H T : Type 0} (e : Evidence S F H T) (files bytes : ℕ) (target : RestoredTarget T) → IsFilled e (shared s) (reader_of s (before ++ pass.seen) who) files bytes target
      → IsFilled e s (reader_of s value who) files bytes target
  filled_on e files bytes target h = subst (λ (q : Reader). IsFilled e s q files bytes target) same_reader (filled_alike s (reader_of s (before ++ pass.seen) who) files bytes e target h)

  pub drop_on : CanDrop (ticket_of s (before ++ pass.seen) who) → CanDrop (ticket_of s value who)
  drop_on h = subst CanDrop same_ticket h

  stale_on : WasStale (world_of s (before ++ pass.seen)) who → WasStale (world_of s value) who
  stale_on h = record { entry = h.entry; there = subst (λ (entries : List Entry). Has entries h.entry) same_made h.there; own = h.own; now = h.now; refused = h.refused }

  pub finish_on : CanFinish (shared s) (before ++ pass.seen) who → CanFinish s value who
  finish_on h = record {
    out = subst (λ (u : Ticket). u.out ≡ true) same_ticket h.out;
    no_shard = subst (λ (u : Ticket). IsShard u.work → ⊥) same_ticket h.no_shard;
    done = ⊎_elim (λ (settled : HasSettled (ticket_of s (before ++ pass.seen) who)). inl (subst HasSettled same_ticket settled)) (λ (stale : WasStale (world_of s (before ++ pass.seen)) who). inr (stale_on stale)) h.done;
  }

  pub end_delete_on : CanEndDelete (shared s) (before ++ pass.seen) who → CanEndDelete s value who
  end_delete_on h = record {
    out = subst (λ (u : Ticket). u.out ≡ true) same_ticket h.out;
    settled = subst (λ (u : Ticket). u.settled ≡ true) same_ticket h.settled;
    uuids = h.uuids;
    plan = h.plan;
    work = subst (λ (u : Ticket). u.work ≡ Deleting h.uuids (Some h.plan)) same_ticket h.work;
    deletes = subst (λ (u : Ticket). u.clean ≡ false) same_ticket h.deletes;
    removed = λ tells name doomed. subst (λ (entries : List Entry). Has (removal_names entries) name) same_made
        (h.removed tells name (subst (λ (u : Ticket). Has (dooms (formats_of s) u) name) (sym same_ticket) doomed));
  }

  latest_on : HasPutLatest (world_of s (before ++ pass.seen)) who → HasPutLatest (world_of s value) who
  latest_on h = record { entry = h.entry; there = subst (λ (entries : List Entry). Has entries h.entry) same_made h.there; step_is = h.step_is; reply_is = h.reply_is }

  pub end_cleanup_on : CanEndCleanup (shared s) (before ++ pass.seen) who → CanEndCleanup s value who
  end_cleanup_on h = record {
    out = subst (λ (u : Ticket). u.out ≡ true) same_ticket h.out;
    settled = subst (λ (u : Ticket). u.settled ≡ true) same_ticket h.settled;
    uuids = h.uuids;
    plan = h.plan;
    work = subst (λ (u : Ticket). u.work ≡ Deleting h.uuids (Some h.plan)) same_ticket h.work;
    cleans = subst (λ (u : Ticket). u.clean ≡ true) same_ticket h.cleans;
    latest = latest_on h.latest;
    removals = subst (λ (entries : List Entry). (e : Entry) → Has entries e → IsRemoval e.step → e.reply ≡ WasRemoved) same_made h.removals;
    removed = λ tells name doomed. subst (λ (entries : List Entry). Has (gone_names entries) name) same_made
        (h.removed tells name (subst (λ (u : Ticket). Has (dooms (formats_of s) u) name) (sym same_ticket) doomed));
  }

  -- a step that it doesn't repeat it doesn't repeat then
  pub fresh_on : (step : Step) → IsFresh (shared s) (before ++ pass.seen) who step → IsFresh s value who step
  fresh_on step h = subst (λ (entries : List Entry). (e : Entry) → Has entries e → Repeats e.step step → ⊥) same_made h

  -- ---- what a step is, and what it makes of the ticket

  -- it adds an entry of the ticket, or none
  pub step_came : {X : Type 0} (value' : List Moment) (step : Step) (ok : X → Reply) (result : Result X StepRefusal) (told : Bool) → ((x : X) → given_by (ok x) ≡ None) → told ≡ was_told result
      → Outcome s value value' who step ok result → Came before turn value' told
  step_came value' step ok result told none is d = came s before pass turn value t value' who step ok result told (λ some. own_ticket (length before) pass.seen pass.mine who mine) none is d

  pub step_shown : {X : Type 0} {value' : List Moment} {new : Seen} → Homed before turn value' new → (step : Step) (ok : X → Reply) (result : Result X StepRefusal) → Outcome s value value' who step ok result
      → Outcome (shared s) (before ++ pass.seen) (before ++ new.seen) who step ok result
  step_shown {X} {value'} {new} h step ok result d = outcome s before pass turn value t value' new who step ok result (λ some. own_ticket (length before) pass.seen pass.mine who mine) h.whole d

  pub step_calls : {X : Type 0} {value' : List Moment} {new : Seen} → Homed before turn value' new → (step : Step) (ok : X → Reply) (result : Result X StepRefusal) → Outcome s value value' who step ok result
      → calls_in (length before) new.seen new.mine ≡ calls_in (length before) pass.seen pass.mine
  step_calls {X} {value'} {new} h step ok result d = calls_ticket s before pass turn value t value' new who step ok result mine.some h d

  -- from what it stood at to what it had seen of it
  pub ticket_back : {value' : List Moment} {new : Seen} → Homed before turn value' new → (P : Ticket → Ticket → Type 0) → P (ticket_of s value who) (ticket_of s value' who)
      → P (ticket_of s (before ++ pass.seen) who) (ticket_of s (before ++ new.seen) who)
  ticket_back {value'} {new} h P p = subst (λ (u : Ticket). P u (ticket_of s (before ++ new.seen) who)) (sym same_ticket) (subst (λ (log : List Moment). P (ticket_of s value who) (ticket_of s log who)) (sym h.whole) p)

  pub reader_back : {value' : List Moment} {new : Seen} → Homed before turn value' new → (P : Reader → Reader → Type 0) → P (reader_of s value who) (reader_of s value' who)
      → P (reader_of s (before ++ pass.seen) who) (reader_of s (before ++ new.seen) who)
  reader_back {value'} {new} h P p = subst (λ (q : Reader). P q (reader_of s (before ++ new.seen) who)) (sym same_reader) (subst (λ (log : List Moment). P (reader_of s value who) (reader_of s log who)) (sym h.whole) p)

-- ---- answers

-- a commit gives no ticket
pub commit_gives : (c : Commit) → given_by (commit_reply c) ≡ None
commit_gives commits.Done = refl
commit_gives commits.Exists = refl
