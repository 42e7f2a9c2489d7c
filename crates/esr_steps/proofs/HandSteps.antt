-- The steps that each hand makes.
use Rattle.std.proofs.Common.{◌≡◌, ℕ, zero, suc, Bool, true, false, List, Option, Some, None, Result, Ok, Err, IfOk, OnOk, OnErr, refl, sym, ap, ◌∙◌, subst}
use Rattle.std.specs.Prelude.{if◌then◌else◌}
use Rattle.std.specs.Ordering.{nat_cmp}
use Rattle.std.specs.FinMap.{FinMap}
use Rattle.std.specs.FinMap as fin
use Rattle.esr_model.specs.Names.{BlobName}
use Rattle.esr_model.specs.Values.{Bytes}
use Rattle.esr_model.specs.Image.{Image}
use Rattle.esr_core.specs.World.{World, Op, Deletion, ReadState, NotRestored, Restoring, Reader, Caller, Ticket}
use Rattle.esr_core.specs.Entry.{Why, ReadBlob, ReadFails, FetchShard, DeleteFails, Step, FetchStep, FailedStep, ReadStep, PruneStep, WasFetched, WasAbsent, HasEnded, Refused, Moment}
use Rattle.esr_core.specs.Steps.{with_ticket}
use Rattle.esr_core.specs.After.{with_given, change, fetching, told_blob, is_stale, failed_by, failed_of, delete_failed_by, delete_failed, read_told, shard_over, read_over, faulted}
use Rattle.esr_core.specs.Tracked.{Tracked}
use Rattle.esr_core.specs.ReadTracked.{ReadTracked}
use Rattle.esr_ops.specs.Plan.{Plan}
use Rattle.esr_desk.specs.declared.hand.Hand.{Hand}
use Rattle.esr_desk.specs.declared.hand.Hand.TheVariants as hands
use Rattle.esr_desk.specs.declared.refusal.StepRefusal.{StepRefusal}
use Rattle.esr_desk.specs.declared.refusal.StepRefusal.TheVariants as steps
use Rattle.esr_desk.specs.Refusals.{refusal_of}
use Rattle.esr_desk.specs.Start.{Start, formats_of, world_of, or_no_ticket, ticket_of}
use Rattle.esr_desk.specs.Own.{or_no_reader, reader_of, caller_of, as_client, own_of}
use Rattle.esr_desk.specs.Once.{IsFresh}
use Rattle.esr_desk.specs.Hands.{fetch_step, fail_step, own_fetched, own_failed, MayFail, MayFetch as MayFetchSo}
use Rattle.esr_repo.specs.Client.{ReadsOwn}
use Rattle.esr_repo.specs.Tickets.{AreOfOps}
use Rattle.esr_repo.specs.Next.{Added, CallersTold, AddedOr, Did}
use Rattle.esr_repo.specs.May.{MayNote, MayFetch}
use Rattle.esr_repo.specs.Calls.{FetchDid}
use Rattle.esr_repo.specs.Grown.{added_ticket, added_reader, reading_is, own_same}
use Rattle.esr_repo.specs.Fresh.{free_fresh}
use Rattle.esr_repo.specs.Stepping.{refused_caller}
use Rattle.esr_repo.specs.Repo.{AreTests}
use Rattle.esr_steps.specs.Hands.{IsPlanAfter}
use Rattle.esr_steps.proofs.Stepping.{kept_by}
use Rattle.esr_steps.proofs.Written.{may_fetch, fetch_from, fetched_ticket}
use Rattle.esr_steps.proofs.Ended.{may_fail, failed_ticket}
use Rattle.esr_steps.proofs.DeleteTickets.{shard_fetched, failed_ticket as failed_delete}
use Rattle.esr_steps.proofs.DeleteMays.{may_fetch_shard, may_fail_delete}
use Rattle.esr_steps.proofs.Reading.{no_zero, reader_kept_by, may_read, read_reader, may_note_unrestored, unrestored_reader}
use Rattle.esr_steps.proofs.CallerHands.{may_fetch_reached, may_note_unchecked, unchecked_caller, may_fetch_test, fetched_caller, may_note_unverified}

-- a step that neither asks, looks nor reads leaves what who 0 has done, and so do those of other numbers
abbrev LeavesCaller : ℕ → Step → Type 0
LeavesCaller who (FetchStep name) = Unit {0}
LeavesCaller who (FailedStep why) = Unit {0}
LeavesCaller who (PruneStep prune) = Unit {0}
LeavesCaller who (ReadStep (ReadBlob name)) = Unit {0}
LeavesCaller who (ReadStep (ReadFails why)) = Unit {0}
LeavesCaller who step = ⊥

refused_kept : (law : CallersTold) (s : Start) (old new : List Moment) (who : ℕ) (step : Step) (x : StepRefusal) → LeavesCaller who step → AddedOr s old new who step x → caller_of s new ≡ caller_of s old
refused_kept law s old new who (ReadStep (ReadBlob name)) x h did = refused_caller law s old new who (ReadBlob name) x (λ is. cc) did
refused_kept law s old new who (ReadStep (ReadFails why)) x h did = refused_caller law s old new who (ReadFails why) x (λ is. cc) did
refused_kept law s old new who step steps.Memory h did = ap (caller_of s) did
refused_kept law s old new who step steps.TurnsSpent h did = absurd did
refused_kept law s old new who (FetchStep name) (steps.Refused x) h did = law s old new who (FetchStep name) (Refused (refusal_of x)) did
refused_kept law s old new who (FailedStep why) (steps.Refused x) h did = law s old new who (FailedStep why) (Refused (refusal_of x)) did
refused_kept law s old new who (PruneStep prune) (steps.Refused x) h did = law s old new who (PruneStep prune) (Refused (refusal_of x)) did
refused_kept law s old new who step (steps.Refused x) h did = absurd h

-- a refusal leaves it, where a failed call of the container leaves the world
err_own : (law : CallersTold) (s : Start) (old new : List Moment) (who : ℕ) (step : Step) (x : StepRefusal) → ((image : Option Image) → faulted (formats_of s) (world_of s old) who step image ≡ world_of s old) → LeavesCaller who step
    → AddedOr s old new who step x
    → own_of s new who ≡ own_of s old who
err_own law s old new who step x still leaves did = own_same s old new who (kept_by s old new who step x still did) (reader_kept_by s old new who step x still did who) (refused_kept law s old new who step x leaves did)

fetch_leaves : (hand : Hand) (who : ℕ) (name : BlobName) → LeavesCaller who (fetch_step hand name)
fetch_leaves hands.Unit who name = tt
fetch_leaves hand who name = tt

fail_leaves : (hand : Hand) (who : ℕ) (why : Why) → LeavesCaller who (fail_step hand why)
fail_leaves hands.Unit who why = tt
fail_leaves hand who why = tt

fetch_still : (hand : Hand) (s : Start) (log : List Moment) (who : ℕ) (name : BlobName) (image : Option Image) → faulted (formats_of s) (world_of s log) who (fetch_step hand name) image ≡ world_of s log
fetch_still hands.Unit s log who name image = refl
fetch_still hand s log who name image = refl

fail_still : (hand : Hand) (s : Start) (log : List Moment) (who : ℕ) (why : Why) (image : Option Image) → faulted (formats_of s) (world_of s log) who (fail_step hand why) image ≡ world_of s log
fail_still hands.Unit s log who why image = refl
fail_still hand s log who why image = refl

-- ---- a fetch

-- a check fetches no test blob, and a verification none before its draw
pub fetch_reads : (hand : Hand) (s : Start) (log : List Moment) (who : ℕ) (name : BlobName) → ReadTracked (world_of s log) → MayFetchSo hand s log who name → ReadsOwn (caller_of s log) who (fetch_step hand name)
fetch_reads hands.Restore s log zero name tracked may = absurd (no_zero (world_of s log) (reader_of s log 0) tracked (reading_is s log 0 may.out))
fetch_reads hands.Restore s log (suc k) name tracked may = λ is. absurd (never is)
  where
    never : suc k ≡ 0 → ⊥
    never e = cc
fetch_reads hands.Check s log who name tracked may = λ is id test. absurd (may.1.untested id test)
fetch_reads hands.Verify s log who name tracked may = λ is id test. may.1.drawn
fetch_reads hand s log who name tracked may = tt

pub may_fetch_by : (hand : Hand) (s : Start) (old log : List Moment) (who : ℕ) (name : BlobName) → log ≡ old → Tracked (world_of s log) → AreOfOps (world_of s log) → AreTests (world_of s log).caller → MayFetchSo hand s old who name
    → MayFetch s log who (fetch_step hand name) name
may_fetch_by hands.Unit s old log who name e tracked of_ops tests may = may_fetch s old log who name e may
may_fetch_by hands.Delete s old log who name e tracked of_ops tests may = may_fetch_shard s old log who name e tracked of_ops may
may_fetch_by hands.Restore s old log who name e tracked of_ops tests may = may_read s old log who name e may
may_fetch_by hands.Check s old log who name e tracked of_ops tests may = subst (λ (k : ℕ). MayFetch s log k (ReadStep (ReadBlob name)) name) (sym may.0.client) (may_fetch_reached s old log name e may.1)
may_fetch_by hands.Verify s old log who name e tracked of_ops tests may = subst (λ (k : ℕ). MayFetch s log k (ReadStep (ReadBlob name)) name) (sym may.0.client) (may_fetch_test s old log name e tests may.1)

change_readers : (w : World) (k : ℕ) (g : Ticket → Ticket) → (change w k g).readers ≡ w.readers
change_readers w k g = go (fin.get w.tickets k)
  where
    go : (o : Option Ticket) → (with_given w k g o).readers ≡ w.readers
    go None = refl
    go (Some t) = refl

told_tickets : (w : World) (k : ℕ) (name : BlobName) (bytes : Option Bytes) (o : Option Reader) → (read_told w k name bytes o).tickets ≡ w.tickets
told_tickets w k name bytes None = refl
told_tickets w k name None (Some q) = refl
told_tickets w k name (Some bytes) (Some q) = refl

module _ {F : Type 0} (left : F → Option Bytes) (s : Start) (old new : List Moment) (k : ℕ) (name : BlobName) where
  -- of a unit's ticket
  unit_reader : (o : Option F) → FetchDid left s old new k (FetchStep name) name (Ok o) → reader_of s new k ≡ reader_of s old k
  unit_reader None did = added_reader s old new k (FetchStep name) WasAbsent did k
  unit_reader (Some f) did =
      added_reader s old new k (FetchStep name) WasFetched did.0 k
      ∙ ap (λ (m : FinMap nat_cmp Reader). or_no_reader (fin.get m k)) (change_readers (world_of s old) k (fetching name (told_blob (formats_of s) did.0.image name)))

  unit_caller : (law : CallersTold) (o : Option F) → FetchDid left s old new k (FetchStep name) name (Ok o) → caller_of s new ≡ caller_of s old
  unit_caller law None did = law s old new k (FetchStep name) WasAbsent did
  unit_caller law (Some f) did = law s old new k (FetchStep name) WasFetched did.0

  -- of a delete's
  delete_reader : (o : Option F) → FetchDid left s old new k (PruneStep (FetchShard name)) name (Ok o) → reader_of s new k ≡ reader_of s old k
  delete_reader None did = added_reader s old new k (PruneStep (FetchShard name)) WasAbsent did k
  delete_reader (Some f) did =
      added_reader s old new k (PruneStep (FetchShard name)) WasFetched did.0 k
      ∙ ap (λ (m : FinMap nat_cmp Reader). or_no_reader (fin.get m k)) (change_readers (world_of s old) k (fetching name (told_blob (formats_of s) did.0.image name)))

  delete_caller : (law : CallersTold) (o : Option F) → FetchDid left s old new k (PruneStep (FetchShard name)) name (Ok o) → caller_of s new ≡ caller_of s old
  delete_caller law None did = law s old new k (PruneStep (FetchShard name)) WasAbsent did
  delete_caller law (Some f) did = law s old new k (PruneStep (FetchShard name)) WasFetched did.0

-- of a restore's, which is not 0
module _ {F : Type 0} (left : F → Option Bytes) (s : Start) (old new : List Moment) (k : ℕ) (name : BlobName) where
  read_ticket : (o : Option F) → FetchDid left s old new (suc k) (ReadStep (ReadBlob name)) name (Ok o) → ticket_of s new (suc k) ≡ ticket_of s old (suc k)
  read_ticket None did = added_ticket s old new (suc k) (ReadStep (ReadBlob name)) WasAbsent did (suc k)
  read_ticket (Some f) did =
      added_ticket s old new (suc k) (ReadStep (ReadBlob name)) WasFetched did.0 (suc k)
      ∙ ap (λ (m : FinMap nat_cmp Ticket). or_no_ticket (fin.get m (suc k))) (told_tickets (world_of s old) (suc k) name (told_blob (formats_of s) did.0.image name) (fin.get (world_of s old).readers (suc k)))

-- of who 0
module _ {F : Type 0} (left : F → Option Bytes) (s : Start) (old new : List Moment) (name : BlobName) where
  client_ticket : (o : Option F) → FetchDid left s old new 0 (ReadStep (ReadBlob name)) name (Ok o) → ticket_of s new 0 ≡ ticket_of s old 0
  client_ticket None did = added_ticket s old new 0 (ReadStep (ReadBlob name)) WasAbsent did 0
  client_ticket (Some f) did = added_ticket s old new 0 (ReadStep (ReadBlob name)) WasFetched did.0 0

  client_reader : (o : Option F) → FetchDid left s old new 0 (ReadStep (ReadBlob name)) name (Ok o) → reader_of s new 0 ≡ reader_of s old 0
  client_reader None did = added_reader s old new 0 (ReadStep (ReadBlob name)) WasAbsent did 0
  client_reader (Some f) did = added_reader s old new 0 (ReadStep (ReadBlob name)) WasFetched did.0 0

  client_fetched : (law : CallersTold) (hand : Hand) (o : Option F) → own_fetched hand left name o (own_of s old 0) ≡ own_fetched hands.Check left name o (own_of s old 0) → FetchDid left s old new 0 (ReadStep (ReadBlob name)) name (Ok o)
      → own_of s new 0 ≡ own_fetched hand left name o (own_of s old 0)
  client_fetched law hand o same did =
      (λ j. record { ticket = client_ticket o did j; reader = client_reader o did j; caller = fetched_caller law left s old old new name (Ok o) refl did j }) ∙ sym same

-- what the fetch makes of it
fetched_own : {F : Type 0} (law : CallersTold) (hand : Hand) (left : F → Option Bytes) (s : Start) (old new : List Moment) (who : ℕ) (name : BlobName) (o : Option F) → ReadTracked (world_of s old) → MayFetchSo hand s old who name
    → FetchDid left s old new who (fetch_step hand name) name (Ok o)
    → own_of s new who ≡ own_fetched hand left name o (own_of s old who)
fetched_own law hands.Unit left s old new who name o tracked may did = λ j. record {
  ticket = fetched_ticket left s old old new who name (Ok o) refl may did j;
  reader = unit_reader left s old new who name o did j;
  caller = as_client who (unit_caller left s old new who name law o did j);
}
fetched_own law hands.Delete left s old new who name o tracked may did = λ j. record {
  ticket = shard_fetched left s old old new who name (Ok o) refl may.out did j;
  reader = delete_reader left s old new who name o did j;
  caller = as_client who (delete_caller left s old new who name law o did j);
}
fetched_own law hands.Restore left s old new zero name o tracked may did = absurd (no_zero (world_of s old) (reader_of s old 0) tracked (reading_is s old 0 may.out))
fetched_own law hands.Restore left s old new (suc k) name o tracked may did = λ j. record {
  ticket = read_ticket left s old new k name o did j;
  reader = read_reader left s old old new (suc k) name (Ok o) refl tracked may did j;
  caller = as_client (suc k) (caller_of s old);
}
fetched_own law hands.Check left s old new (suc k) name o tracked may did = absurd (never may.0.client)
  where
    never : suc k ≡ 0 → ⊥
    never e = cc
fetched_own law hands.Check left s old new zero name o tracked may did = client_fetched left s old new name law hands.Check o refl did
fetched_own law hands.Verify left s old new (suc k) name o tracked may did = absurd (never may.0.client)
  where
    never : suc k ≡ 0 → ⊥
    never e = cc
fetched_own law hands.Verify left s old new zero name o tracked may did = client_fetched left s old new name law hands.Verify o refl did

pub fetch_own : {F : Type 0} (law : CallersTold) (hand : Hand) (left : F → Option Bytes) (s : Start) (old mid new : List Moment) (who : ℕ) (name : BlobName) (r : Result (Option F) StepRefusal) → mid ≡ old → ReadTracked (world_of s mid)
    → MayFetchSo hand s old who name
    → FetchDid left s mid new who (fetch_step hand name) name r → IfOk r (λ o. own_of s new who ≡ own_fetched hand left name o (own_of s old who))
fetch_own law hand left s old mid new who name (Ok o) e tracked may did =
    fetched_own law hand left s old new who name o (subst (λ (l : List Moment). ReadTracked (world_of s l)) e tracked) may (fetch_from left s old mid new who (fetch_step hand name) name (Ok o) e did)
fetch_own law hand left s old mid new who name (Err x) e tracked may did = tt

pub fetch_own_kept : {F : Type 0} (law : CallersTold) (hand : Hand) (left : F → Option Bytes) (s : Start) (old mid new : List Moment) (who : ℕ) (name : BlobName) (r : Result (Option F) StepRefusal) → mid ≡ old
    → FetchDid left s mid new who (fetch_step hand name) name r → OnErr r (own_of s new who ≡ own_of s old who)
fetch_own_kept law hand left s old mid new who name (Ok o) e did = tt
fetch_own_kept law hand left s old mid new who name (Err x) e did =
    err_own law s old new who (fetch_step hand name) x (fetch_still hand s old who name) (fetch_leaves hand who name) (fetch_from left s old mid new who (fetch_step hand name) name (Err x) e did)

-- ---- a failure

pub fail_reads : (hand : Hand) (c : Caller) (who : ℕ) (why : Why) → ReadsOwn c who (fail_step hand why)
fail_reads hands.Unit c who why = tt
fail_reads hand c who why = tt

pub fail_free : (hand : Hand) (s : Start) (log : List Moment) (who : ℕ) (why : Why) → IsFresh s log who (fail_step hand why)
fail_free hands.Unit s log who why = free_fresh s log who (FailedStep why) tt
fail_free hands.Delete s log who why = free_fresh s log who (PruneStep (DeleteFails why)) tt
fail_free hand s log who why = free_fresh s log who (ReadStep (ReadFails why)) tt

pub may_fail_by : (hand : Hand) (s : Start) (old log : List Moment) (who : ℕ) (why : Why) (p : Option Plan) (next : ℕ) → log ≡ old → Tracked (world_of s log) → ReadTracked (world_of s log) → AreOfOps (world_of s log)
    → MayFail hand s old who
    → IsPlanAfter hand (world_of s log) who p → next ≡ (world_of s log).next_id → MayNote s log who (fail_step hand why) HasEnded p next
may_fail_by hands.Unit s old log who why (Some p) next e tracked reads of_ops may goes is = may_fail s old log who why p next e may tracked goes is
may_fail_by hands.Delete s old log who why (Some p) next e tracked reads of_ops may goes is = may_fail_delete s old log who why p next e tracked of_ops may goes is
may_fail_by hands.Restore s old log who why (Some p) next e tracked reads of_ops may goes is = may_note_unrestored s old log who why p next e reads may goes is
may_fail_by hands.Check s old log who why None next e tracked reads of_ops may goes is = subst (λ (k : ℕ). MayNote s log k (ReadStep (ReadFails why)) HasEnded None next) (sym may.0.client) (may_note_unchecked s old log why next e may.1 is)
may_fail_by hands.Verify s old log who why None next e tracked reads of_ops may goes is = subst (λ (k : ℕ). MayNote s log k (ReadStep (ReadFails why)) HasEnded None next) (sym may.0.client) (may_note_unverified s old log why next e may.1 is)
may_fail_by hand s old log who why p next e tracked reads of_ops may goes is = absurd goes

either_readers : (w a b : World) (first : Bool) → a.readers ≡ w.readers → b.readers ≡ w.readers → (if first then a else b).readers ≡ w.readers
either_readers w a b true p q = p
either_readers w a b false p q = q

failed_readers : (w : World) (k : ℕ) (o : Option Ticket) → (failed_of w k o).readers ≡ w.readers
failed_readers w k None = refl
failed_readers w k (Some t) = either_readers w (with_ticket w k (record t { out = false })) (failed_by w k t (fin.get w.ops t.op)) (is_stale w t t.work) refl (go (fin.get w.ops t.op))
  where
    go : (op : Option Op) → (failed_by w k t op).readers ≡ w.readers
    go None = refl
    go (Some op) = refl

delete_failed_readers : (w : World) (k : ℕ) (o : Option Ticket) → (delete_failed w k o).readers ≡ w.readers
delete_failed_readers w k None = refl
delete_failed_readers w k (Some t) = either_readers w (with_ticket w k (record t { out = false })) (delete_failed_by w k t (fin.get w.deletes t.op)) (is_stale w t t.work) refl (go (fin.get w.deletes t.op))
  where
    go : (x : Option Deletion) → (delete_failed_by w k t x).readers ≡ w.readers
    go None = refl
    go (Some x) = refl

over_tickets : (w : World) (k : ℕ) (state : ReadState) (o : Option Reader) → (read_over w k state o).tickets ≡ w.tickets
over_tickets w k state None = refl
over_tickets w k state (Some q) = go (fin.get w.restores q.op)
  where
    go : (r : Option Restoring) → (shard_over w k state q r).tickets ≡ w.tickets
    go None = refl
    go (Some r) = refl

failed_own : (law : CallersTold) (hand : Hand) (s : Start) (old new : List Moment) (who : ℕ) (why : Why) → Tracked (world_of s old) → ReadTracked (world_of s old) → MayFail hand s old who → Added s old new who (fail_step hand why) HasEnded
    → own_of s new who ≡ own_failed hand (own_of s old who)
failed_own law hands.Unit s old new who why tracked reads may a = λ j. record {
  ticket = failed_ticket s old old new who why refl may tracked a j;
  reader = (added_reader s old new who (FailedStep why) HasEnded a who ∙ ap (λ (m : FinMap nat_cmp Reader). or_no_reader (fin.get m who)) (failed_readers (world_of s old) who (fin.get (world_of s old).tickets who))) j;
  caller = as_client who (law s old new who (FailedStep why) HasEnded a j);
}
failed_own law hands.Delete s old new who why tracked reads may a = λ j. record {
  ticket = failed_delete s old old new who why refl may tracked a j;
  reader = (added_reader s old new who (PruneStep (DeleteFails why)) HasEnded a who ∙ ap (λ (m : FinMap nat_cmp Reader). or_no_reader (fin.get m who)) (delete_failed_readers (world_of s old) who (fin.get (world_of s old).tickets who))) j;
  caller = as_client who (law s old new who (PruneStep (DeleteFails why)) HasEnded a j);
}
failed_own law hands.Restore s old new zero why tracked reads may a = absurd (no_zero (world_of s old) (reader_of s old 0) reads (reading_is s old 0 may))
failed_own law hands.Restore s old new (suc k) why tracked reads may a = λ j. record {
  ticket = (added_ticket s old new (suc k) (ReadStep (ReadFails why)) HasEnded a (suc k)
      ∙ ap (λ (m : FinMap nat_cmp Ticket). or_no_ticket (fin.get m (suc k))) (over_tickets (world_of s old) (suc k) (NotRestored why) (fin.get (world_of s old).readers (suc k)))) j;
  reader = unrestored_reader s old old new (suc k) why refl reads may a j;
  caller = as_client (suc k) (caller_of s old);
}
failed_own law hands.Check s old new (suc k) why tracked reads may a = absurd (never may.0.client)
  where
    never : suc k ≡ 0 → ⊥
    never e = cc
failed_own law hands.Verify s old new (suc k) why tracked reads may a = absurd (never may.0.client)
  where
    never : suc k ≡ 0 → ⊥
    never e = cc
failed_own law hand s old new who why tracked reads may a = λ j. record {
  ticket = added_ticket s old new 0 (ReadStep (ReadFails why)) HasEnded a 0 j;
  reader = added_reader s old new 0 (ReadStep (ReadFails why)) HasEnded a 0 j;
  caller = unchecked_caller law s old new why a j;
}

pub fail_own : (law : CallersTold) (hand : Hand) (s : Start) (old mid new : List Moment) (who : ℕ) (why : Why) (r : Result Unit StepRefusal) → mid ≡ old → Tracked (world_of s mid) → ReadTracked (world_of s mid) → MayFail hand s old who
    → Did s mid new who (fail_step hand why) (λ _. HasEnded) r → OnOk r (own_of s new who ≡ own_failed hand (own_of s old who))
fail_own law hand s old mid new who why (Ok x) e tracked reads may did =
    failed_own law hand s old new who why (subst (λ (l : List Moment). Tracked (world_of s l)) e tracked) (subst (λ (l : List Moment). ReadTracked (world_of s l)) e reads) may
    (subst (λ (l : List Moment). Added s l new who (fail_step hand why) HasEnded) e did)
fail_own law hand s old mid new who why (Err x) e tracked reads may did = tt

pub fail_own_kept : (law : CallersTold) (hand : Hand) (s : Start) (old mid new : List Moment) (who : ℕ) (why : Why) (r : Result Unit StepRefusal) → mid ≡ old → Did s mid new who (fail_step hand why) (λ _. HasEnded) r
    → OnErr r (own_of s new who ≡ own_of s old who)
fail_own_kept law hand s old mid new who why (Ok x) e did = tt
fail_own_kept law hand s old mid new who why (Err x) e did =
    err_own law s old new who (fail_step hand why) x (fail_still hand s old who why) (fail_leaves hand who why) (subst (λ (l : List Moment). AddedOr s l new who (fail_step hand why) x) e did)
