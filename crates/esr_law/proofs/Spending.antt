-- How far each step takes the term, the next generation and the next id, and where they are spent.
use Rattle.std.proofs.Common.{◌≡◌, ◌⊎◌, ℕ, zero, suc, ◌+◌, ◌^◌, ◌≤◌, List, [], ◌∷◌, Bool, true, false, Option, Some, None, refl, sym, ap, ◌∙◌, subst, inl, inr, arith, le-add_right, le_refl}
use Rattle.std.specs.Prelude.{◌*◌, if◌then◌else◌}
use Rattle.std.specs.FinMap as fin
use Rattle.esr_model.specs.Names.{BlobName}
use Rattle.esr_model.specs.Values.{Bytes, Has, ShardResult, Formats}
use Rattle.esr_model.specs.Delete.{kept_count}
use Rattle.esr_model.specs.Kept.{first_id}
use Rattle.esr_model.specs.Image.{Image}
use Rattle.esr_core.specs.World.{World, Op, Deletion, ShardWork, ReadState, RestoreShard, Restoring, Reader, Ticket, Swap, swap, record_of}
use Rattle.esr_core.specs.Restores.{restore_shard}
use Rattle.esr_core.specs.Steps.{with_ticket, noting, listing}
use Rattle.esr_core.specs.Pruning.{planned}
use Rattle.esr_core.specs.Changes.{IsReaders, IsUnits, Maker, ClientStep, ReaderStep, UnitStep}
use Rattle.esr_core.specs.Entry.{Asked, Given, GivenShard, GivenClone, GivenFinalize, GivenRestore, Read, ReadBlob, RestoredShard, DrawTest, CommitTest, ReadFails, Prune, FetchShard, PlanShards, SettlePruned, RemoveDoomed, EndDelete, DeleteFails, Step, AskStep, TakeStep, DrawStep, BeginStep, CommitStep, LatestStep, FetchStep, ListStep, RaiseStep, SettleStep, DoneStep, FailedStep, FinishStep, DroppedStep, ElectStep, ReadStep, PruneStep, Refusal, GenerationsSpent, TermsSpent, IdsSpent, DepotFault, Reply, Gave, DrawnFrom, WasDone, WasThere, WasFetched, WasListed, HasEnded, Refused, Moment}
use Rattle.esr_core.specs.After.{shard_of, taken_shard, taken_restore_shard, taken_restore, taken_by, with_given, committing, told_blob, fetching, settled_by, settled_of, done_by, done_of, is_stale, failed_by, failed_of, dropped_of, delete_settled_by, delete_settled, delete_failed_by, delete_failed, prune_step, read_told, shard_over, read_over, read_step, read_by, done_step, swaps_record, has_text, fallen, is_latest, tried, test_left, faulted, answered, after}
use Rattle.esr_core.specs.Numbers.{ids_by, DrawsFew}
use Rattle.esr_core.specs.Causes.{IsRule, RefusalCause, OfRule, OfIds, OfGenerations, OfTerms}
use Rattle.esr_core.specs.Allowed.{Blocks, ByFailedSwap, ByDelete, IsBlocked, Allowed}
use Rattle.esr_core.specs.History.{IsLegal}
use Rattle.esr_law.specs.Spent.{terms_by, generations_by, terms_in, generations_in, ids_in, SpentSo}
use Rattle.esr_law.proofs.Turns.{blocked_leaves}

-- ---- numbers

next_one : (n : ℕ) → suc n ≡ n + 1
next_one n = omega arith

up_one : (n : ℕ) → suc n ≤ n + 1
up_one n = omega arith

drawn_on : (a n c k l : ℕ) → n ≤ a + c → k ≤ l → n + k ≤ a + (c + l)
drawn_on a n c k l h few = let below : n ≤ a + c = h in let less : k ≤ l = few in omega (arith, below, less)

held_on : (a n c l : ℕ) → n ≤ a + c → n ≤ a + (c + l)
held_on a n c l h = let below : n ≤ a + c = h in omega (arith, below)

-- a bound that is reached later on is reached from here on
reached_on : (g now was t rest : ℕ) → now ≤ was + t → g ≤ now + rest → g ≤ was + (t + rest)
reached_on g now was t rest up h = let rises : now ≤ was + t = up in let reached : g ≤ now + rest = h in omega (arith, rises, reached)

counted_on : (g c l rest : ℕ) → g ≤ (c + l) + rest → g ≤ c + (l + rest)
counted_on g c l rest h = let reached : g ≤ (c + l) + rest = h in omega (arith, reached)

-- and one that is reached here is reached with all that comes
reached_here : (g was t rest : ℕ) → g ≤ was + t → g ≤ was + (t + rest)
reached_here g was t rest h = let reached : g ≤ was + t = h in omega (arith, reached)

reached_more : (g was rest : ℕ) → g ≤ was → g ≤ was + rest
reached_more g was rest h = let reached : g ≤ was = h in omega (arith, reached)

-- a draw that would leave the term asks for the rest of its ids
term_spent : (term n c k l rest : ℕ) → first_id (suc term) ≤ n + k → n ≤ first_id term + c → k ≤ l → 2 ^ 64 ≤ c + (l + rest)
term_spent term n c k l rest over h few =
    let past : suc term * 2 ^ 64 ≤ n + k = over in
    let below : n ≤ term * 2 ^ 64 + c = h in
    let less : k ≤ l = few in
    omega (arith, past, below, less)

-- ---- what a step makes of them

-- they are as they were
record SameNumbers (w new : World) : Type 0 where
  term : new.term ≡ w.term
  pending : new.pending ≡ w.pending
  next : new.next_id ≡ w.next_id

-- the step takes them on by no more than it asks for, the term by so many
record Counts (w : World) (terms : ℕ) (step : Step) (new : World) : Type 0 where
  term : new.term ≤ w.term + terms
  pending : new.pending ≤ w.pending + generations_by step
  ids : (c : ℕ) → w.next_id ≤ first_id w.term + c → new.next_id ≤ first_id new.term + (c + ids_by step)

same_numbers : (w : World) → SameNumbers w w
same_numbers w = record { term = refl; pending = refl; next = refl }

either_same : (w x y : World) (b : Bool) → SameNumbers w x → SameNumbers w y → SameNumbers w (if b then x else y)
either_same w x y true p q = p
either_same w x y false p q = q

counts_kept : (w : World) (terms : ℕ) (step : Step) (new : World) → SameNumbers w new → Counts w terms step new
counts_kept w terms step new h =
    record {
      term = subst (λ (n : ℕ). n ≤ w.term + terms) (sym h.term) (le-add_right w.term terms);
      pending = subst (λ (n : ℕ). n ≤ w.pending + generations_by step) (sym h.pending) (le-add_right w.pending (generations_by step));
      ids = λ c below.
          subst (λ (t : ℕ). new.next_id ≤ first_id t + (c + ids_by step)) (sym h.term)
          (subst (λ (n : ℕ). n ≤ first_id w.term + (c + ids_by step)) (sym h.next) (held_on (first_id w.term) w.next_id c (ids_by step) below));
    }

-- so many ids are drawn
counts_drawn : (w : World) (terms : ℕ) (step : Step) (new : World) (n : ℕ) → new.term ≡ w.term → new.pending ≡ w.pending → new.next_id ≡ w.next_id + n → n ≤ ids_by step → Counts w terms step new
counts_drawn w terms step new n term pending next few =
    record {
      term = subst (λ (m : ℕ). m ≤ w.term + terms) (sym term) (le-add_right w.term terms);
      pending = subst (λ (m : ℕ). m ≤ w.pending + generations_by step) (sym pending) (le-add_right w.pending (generations_by step));
      ids = λ c below.
          subst (λ (t : ℕ). new.next_id ≤ first_id t + (c + ids_by step)) (sym term)
          (subst (λ (m : ℕ). m ≤ first_id w.term + (c + ids_by step)) (sym next) (drawn_on (first_id w.term) w.next_id c n (ids_by step) below few));
    }

-- an asked command draws no more ids than it asks for
abbrev pub AsksFew : Formats → Type 0
AsksFew f = (w : World) (k : ℕ) (command : Asked) (reply : Reply) (image : Option Image) → DrawsFew w (AskStep command) (done_step f w k (AskStep command) reply image)

module _ (f : Formats) (asks : AsksFew f) (w : World) where
  given_same : (k : ℕ) (g : Ticket → Ticket) (o : Option Ticket) → SameNumbers w (with_given w k g o)
  given_same k g None = same_numbers w
  given_same k g (Some t) = record { term = refl; pending = refl; next = refl }

  tried_same : (k : ℕ) → SameNumbers w (tried w k)
  tried_same k = given_same k (λ t. record t { tried_latest = true }) (fin.get w.tickets k)

  over_same : (k : ℕ) (t : Ticket) → SameNumbers w (with_ticket w k (record t { out = false }))
  over_same k t = record { term = refl; pending = refl; next = refl }

  taken_shard_same : (o : ℕ) (op : Op) (base : Option ℕ) (s : Option ShardWork) → SameNumbers w (taken_shard w o op base s)
  taken_shard_same o op base None = same_numbers w
  taken_shard_same o op base (Some s) = record { term = refl; pending = refl; next = refl }

  taken_restore_shard_same : (o : ℕ) (r : Restoring) (s : Option RestoreShard) → SameNumbers w (taken_restore_shard w o r s)
  taken_restore_shard_same o r None = same_numbers w
  taken_restore_shard_same o r (Some s) = record { term = refl; pending = refl; next = refl }

  taken_restore_same : (o index number : ℕ) (r : Option Restoring) → SameNumbers w (taken_restore w o index number r)
  taken_restore_same o index number None = same_numbers w
  taken_restore_same o index number (Some r) = taken_restore_shard_same o r (restore_shard r.shards index number)

  taken_same : (o : ℕ) (unit : Given) (op : Option Op) → SameNumbers w (taken_by f w o unit op)
  taken_same o (GivenShard index number base) (Some op) = taken_shard_same o op base (shard_of op.shards index number)
  taken_same o (GivenShard index number base) None = same_numbers w
  taken_same o (GivenClone index number source base) (Some op) = taken_shard_same o op base (shard_of op.shards index number)
  taken_same o (GivenClone index number source base) None = same_numbers w
  taken_same o (GivenFinalize info results) None = same_numbers w
  taken_same o (GivenRestore index number uuid) op = taken_restore_same o index number (fin.get w.restores o)
  taken_same o unit op = record { term = refl; pending = refl; next = refl }

  settled_by_same : (k : ℕ) (t : Ticket) (s : Option Swap) (n : Option ℕ) → SameNumbers w (settled_by f w k t s n)
  settled_by_same k t (Some s) (Some n) = record { term = refl; pending = refl; next = refl }
  settled_by_same k t s n = same_numbers w

  settled_same : (k : ℕ) (o : Option Ticket) → SameNumbers w (settled_of f w k o)
  settled_same k None = same_numbers w
  settled_same k (Some t) = settled_by_same k t (swap f t) t.raised

  done_by_same : (k : ℕ) (r : ShardResult) (t : Ticket) (o : Option Op) → SameNumbers w (done_by w k r t o)
  done_by_same k r t None = same_numbers w
  done_by_same k r t (Some op) = record { term = refl; pending = refl; next = refl }

  done_same : (k : ℕ) (r : ShardResult) (o : Option Ticket) → SameNumbers w (done_of w k r o)
  done_same k r None = same_numbers w
  done_same k r (Some t) = done_by_same k r t (fin.get w.ops t.op)

  failed_by_same : (k : ℕ) (t : Ticket) (o : Option Op) → SameNumbers w (failed_by w k t o)
  failed_by_same k t None = same_numbers w
  failed_by_same k t (Some op) = record { term = refl; pending = refl; next = refl }

  failed_same : (k : ℕ) (o : Option Ticket) → SameNumbers w (failed_of w k o)
  failed_same k None = same_numbers w
  failed_same k (Some t) = either_same w (with_ticket w k (record t { out = false })) (failed_by w k t (fin.get w.ops t.op)) (is_stale w t t.work) (over_same k t) (failed_by_same k t (fin.get w.ops t.op))

  dropped_same : (k : ℕ) (o : Option Ticket) → SameNumbers w (dropped_of w k o)
  dropped_same k None = same_numbers w
  dropped_same k (Some t) = record { term = refl; pending = refl; next = refl }

  delete_settled_by_same : (k : ℕ) (t : Ticket) (s : Option Swap) (n : Option ℕ) → SameNumbers w (delete_settled_by f w k t s n)
  delete_settled_by_same k t (Some s) (Some n) = record { term = refl; pending = refl; next = refl }
  delete_settled_by_same k t s n = same_numbers w

  delete_settled_same : (k : ℕ) (o : Option Ticket) → SameNumbers w (delete_settled f w k o)
  delete_settled_same k None = same_numbers w
  delete_settled_same k (Some t) = delete_settled_by_same k t (swap f t) t.raised

  delete_failed_by_same : (k : ℕ) (t : Ticket) (x : Option Deletion) → SameNumbers w (delete_failed_by w k t x)
  delete_failed_by_same k t None = same_numbers w
  delete_failed_by_same k t (Some x) = record { term = refl; pending = refl; next = refl }

  delete_failed_same : (k : ℕ) (o : Option Ticket) → SameNumbers w (delete_failed w k o)
  delete_failed_same k None = same_numbers w
  delete_failed_same k (Some t) =
      either_same w (with_ticket w k (record t { out = false })) (delete_failed_by w k t (fin.get w.deletes t.op)) (is_stale w t t.work) (over_same k t) (delete_failed_by_same k t (fin.get w.deletes t.op))

  read_told_same : (k : ℕ) (name : BlobName) (bytes : Option Bytes) (o : Option Reader) → SameNumbers w (read_told w k name bytes o)
  read_told_same k name bytes None = same_numbers w
  read_told_same k name None (Some q) = same_numbers w
  read_told_same k name (Some bytes) (Some q) = record { term = refl; pending = refl; next = refl }

  shard_over_same : (k : ℕ) (state : ReadState) (q : Reader) (o : Option Restoring) → SameNumbers w (shard_over w k state q o)
  shard_over_same k state q None = same_numbers w
  shard_over_same k state q (Some r) = record { term = refl; pending = refl; next = refl }

  read_over_same : (k : ℕ) (state : ReadState) (o : Option Reader) → SameNumbers w (read_over w k state o)
  read_over_same k state None = same_numbers w
  read_over_same k state (Some q) = shard_over_same k state q (fin.get w.restores q.op)

  read_step_same : (k : ℕ) (read : Read) (reply : Reply) (image : Option Image) → SameNumbers w (read_step f w k read reply image)
  read_step_same k (ReadBlob name) WasFetched image = read_told_same k name (told_blob f image name) (fin.get w.readers k)
  read_step_same k (RestoredShard files bytes) reply image = read_over_same k _ (fin.get w.readers k)
  read_step_same k (ReadFails why) reply image = read_over_same k _ (fin.get w.readers k)
  read_step_same k read reply image = same_numbers w

  test_same : (name : BlobName) (was now : Option Bytes) → SameNumbers w (test_left w name was now)
  test_same name None (Some bytes) = record { term = refl; pending = refl; next = refl }
  test_same name was now = same_numbers w

  -- who 0 draws an id for a verification
  read_counts : (k : ℕ) (read : Read) (reply : Reply) (image : Option Image) → Counts w 0 (ReadStep read) (read_by f w k read reply image)
  read_counts zero DrawTest (DrawnFrom first) image = counts_drawn w 0 (ReadStep DrawTest) (record w { next_id = suc w.next_id }) 1 refl refl (next_one w.next_id) (le_refl 1)
  read_counts zero (CommitTest name) WasDone image = counts_kept w 0 (ReadStep (CommitTest name)) (record w { doomed = name ∷ w.doomed }) (record { term = refl; pending = refl; next = refl })
  read_counts zero read reply image = counts_kept w 0 (ReadStep read) w (same_numbers w)
  read_counts (suc k) read reply image = counts_kept w 0 (ReadStep read) (read_step f w (suc k) read reply image) (read_step_same (suc k) read reply image)

  -- a draw of a ticket, which may plan with it
  draw_counts : (k : ℕ) (step : Step) (g : Ticket → Ticket) (n : ℕ) (o : Option Ticket) → n ≤ ids_by step → Counts w 0 step (record (with_given w k g o) { next_id = w.next_id + n })
  draw_counts k step g n o few = let kept : SameNumbers w (with_given w k g o) = given_same k g o in counts_drawn w 0 step (record (with_given w k g o) { next_id = w.next_id + n }) n kept.term kept.pending refl few

  prune_counts : (k : ℕ) (prune : Prune) (reply : Reply) (image : Option Image) → Counts w 0 (PruneStep prune) (prune_step f w k prune reply image)
  prune_counts k (FetchShard name) WasFetched image = counts_kept w 0 (PruneStep (FetchShard name)) _ (given_same k (fetching name (told_blob f image name)) (fin.get w.tickets k))
  prune_counts k (FetchShard name) reply image = counts_kept w 0 (PruneStep (FetchShard name)) w (same_numbers w)
  prune_counts k (PlanShards shards) reply image = draw_counts k (PruneStep (PlanShards shards)) (planned f shards w.next_id) (kept_count shards) (fin.get w.tickets k) (le_refl (kept_count shards))
  prune_counts k SettlePruned reply image = counts_kept w 0 (PruneStep SettlePruned) _ (delete_settled_same k (fin.get w.tickets k))
  prune_counts k (RemoveDoomed names) reply image = counts_kept w 0 (PruneStep (RemoveDoomed names)) w (same_numbers w)
  prune_counts k EndDelete reply image = counts_kept w 0 (PruneStep EndDelete) _ (given_same k (λ t. record t { out = false }) (fin.get w.tickets k))
  prune_counts k (DeleteFails why) reply image = counts_kept w 0 (PruneStep (DeleteFails why)) _ (delete_failed_same k (fin.get w.tickets k))

  raise_counts : (k : ℕ) (o : Option Ticket) → Counts w 0 RaiseStep (record (with_given w k (λ t. record t { raised = Some w.pending }) o) { pending = suc w.pending })
  raise_counts k o =
      let kept : SameNumbers w (with_given w k (λ t. record t { raised = Some w.pending }) o) = given_same k (λ t. record t { raised = Some w.pending }) o in
      let same : Counts w 0 RaiseStep (with_given w k (λ t. record t { raised = Some w.pending }) o) = counts_kept w 0 RaiseStep (with_given w k (λ t. record t { raised = Some w.pending }) o) kept in
      record { term = same.term; pending = up_one w.pending; ids = same.ids }

  elect_counts : Counts w 1 ElectStep (record w { term = suc w.term; next_id = first_id (suc w.term) })
  elect_counts = record { term = up_one w.term; pending = le-add_right w.pending 0; ids = λ c below. le-add_right (first_id (suc w.term)) (c + 0) }

  done_counts : (k : ℕ) (step : Step) (reply : Reply) (image : Option Image) → Counts w (terms_by 0 step) step (done_step f w k step reply image)
  done_counts k (AskStep command) reply image =
      let few : DrawsFew w (AskStep command) (done_step f w k (AskStep command) reply image) = asks w k command reply image in
      counts_drawn w 0 (AskStep command) (done_step f w k (AskStep command) reply image) few.count few.term few.pending few.next few.few
  done_counts k TakeStep (Gave ticket op unit) image = counts_kept w 0 TakeStep _ (taken_same op unit (fin.get w.ops op))
  done_counts k (DrawStep n) reply image = draw_counts k (DrawStep n) (λ t. record t { first = w.next_id; drawn = n }) n (fin.get w.tickets k) (le_refl n)
  done_counts k (CommitStep name) WasDone image = counts_kept w 0 (CommitStep name) _ (given_same k (committing name (told_blob f image name)) (fin.get w.tickets k))
  done_counts k (CommitStep name) WasThere image = counts_kept w 0 (CommitStep name) _ (given_same k (λ t. noting t name) (fin.get w.tickets k))
  done_counts k LatestStep reply image = counts_kept w 0 LatestStep _ (tried_same k)
  done_counts k (FetchStep name) WasFetched image = counts_kept w 0 (FetchStep name) _ (given_same k (fetching name (told_blob f image name)) (fin.get w.tickets k))
  done_counts k (ListStep from) (WasListed page) image = counts_kept w 0 (ListStep from) _ (given_same k (λ t. listing t page) (fin.get w.tickets k))
  done_counts k RaiseStep reply image = raise_counts k (fin.get w.tickets k)
  done_counts k SettleStep reply image = counts_kept w 0 SettleStep _ (settled_same k (fin.get w.tickets k))
  done_counts k (DoneStep result) reply image = counts_kept w 0 (DoneStep result) _ (done_same k result (fin.get w.tickets k))
  done_counts k (FailedStep why) reply image = counts_kept w 0 (FailedStep why) _ (failed_same k (fin.get w.tickets k))
  done_counts k FinishStep reply image = counts_kept w 0 FinishStep _ (given_same k (λ t. record t { out = false }) (fin.get w.tickets k))
  done_counts k DroppedStep reply image = counts_kept w 0 DroppedStep _ (dropped_same k (fin.get w.tickets k))
  done_counts k ElectStep reply image = elect_counts
  done_counts k (ReadStep read) reply image = read_counts k read reply image
  done_counts k (PruneStep prune) reply image = prune_counts k prune reply image
  done_counts k step reply image = counts_kept w (terms_by 0 step) step w (same_numbers w)

  -- a record swap that failed leaves one of two worlds
  fallen_counts : (step : Step) (up : World) (image : Option Image) → Counts w (terms_by 0 step) step up → Counts w (terms_by 0 step) step (fallen f w up image)
  fallen_counts step up image h = by (has_text image (f.cluster.text (record_of up)))
    where
      same : Counts w (terms_by 0 step) step w
      same = counts_kept w (terms_by 0 step) step w (same_numbers w)

      by : (b : Bool) → Counts w (terms_by 0 step) step (record (if b then up else w) { deposed = true })
      by true = record { term = h.term; pending = h.pending; ids = h.ids }
      by false = record { term = same.term; pending = same.pending; ids = same.ids }

  asked_fault : (k : ℕ) (command : Asked) (image : Option Image) (swaps : Bool) → Counts w 0 (AskStep command) (if swaps then fallen f w (done_step f w k (AskStep command) HasEnded image) image else w)
  asked_fault k command image true = fallen_counts (AskStep command) (done_step f w k (AskStep command) HasEnded image) image (done_counts k (AskStep command) HasEnded image)
  asked_fault k command image false = counts_kept w 0 (AskStep command) w (same_numbers w)

  fault_counts : (k : ℕ) (step : Step) (image : Option Image) → Counts w (terms_by 0 step) step (faulted f w k step image)
  fault_counts k LatestStep image = counts_kept w 0 LatestStep _ (tried_same k)
  fault_counts k (BeginStep name) image = counts_kept w 0 (BeginStep name) _ (either_same w (tried w k) w (is_latest name) (tried_same k) (same_numbers w))
  fault_counts k (ReadStep (CommitTest name)) image = counts_kept w 0 (ReadStep (CommitTest name)) _ (test_same name (fin.get w.blobs (f.names.text name)) (told_blob f image name))
  fault_counts k (AskStep command) image = asked_fault k command image (swaps_record (AskStep command))
  fault_counts k RaiseStep image = fallen_counts RaiseStep _ image (done_counts k RaiseStep HasEnded image)
  fault_counts k SettleStep image = fallen_counts SettleStep _ image (done_counts k SettleStep HasEnded image)
  fault_counts k DroppedStep image = fallen_counts DroppedStep _ image (done_counts k DroppedStep HasEnded image)
  fault_counts k ElectStep image = fallen_counts ElectStep _ image (done_counts k ElectStep HasEnded image)
  fault_counts k (PruneStep SettlePruned) image = fallen_counts (PruneStep SettlePruned) _ image (done_counts k (PruneStep SettlePruned) HasEnded image)
  fault_counts k step image = counts_kept w (terms_by 0 step) step w (same_numbers w)

  answered_counts : (k : ℕ) (step : Step) (reply : Reply) (image : Option Image) → Counts w (terms_by 0 step) step (answered f w k step reply image)
  answered_counts k step (Refused DepotFault) image = fault_counts k step image
  answered_counts k step (Refused refusal) image = counts_kept w (terms_by 0 step) step w (same_numbers w)
  answered_counts k step reply image = done_counts k step reply image

-- ---- a term is begun by who 0 alone

reader_elects_none : (step : Step) → IsReaders step → terms_by 0 step ≡ 0
reader_elects_none ElectStep h = absurd h
reader_elects_none step h = refl

unit_elects_none : (step : Step) → IsUnits step → terms_by 0 step ≡ 0
unit_elects_none ElectStep h = absurd h
unit_elects_none step h = refl

fewer_terms : (w new : World) (step : Step) (a b : ℕ) → a ≤ b → Counts w a step new → Counts w b step new
fewer_terms w new step a b few h =
    record { term = let rises : new.term ≤ w.term + a = h.term in let less : a ≤ b = few in omega (arith, rises, less); pending = h.pending; ids = h.ids }

none_le : (a b : ℕ) → a ≡ 0 → a ≤ b
none_le a b e = let none : a ≡ 0 = e in omega (arith, none)

step_counts : (f : Formats) (size : ℕ) → AsksFew f → ((w : World) (m : Moment) → Allowed f size w m → Maker w m.entry.who m.entry.step ⊎ IsBlocked w m) → (w : World) (m : Moment) → Allowed f size w m
    → Counts w (terms_by m.entry.who m.entry.step) m.entry.step (after f w m)
step_counts f size asks maker w m a = elim (maker w m a) [
  | inl made ↦ after_counts
      (fewer_terms w (answered f w m.entry.who m.entry.step m.entry.reply m.image) m.entry.step (terms_by 0 m.entry.step) (terms_by m.entry.who m.entry.step) (few made) (answered_counts f asks w m.entry.who m.entry.step m.entry.reply m.image))
  | inr blocked ↦ after_counts (counts_kept w (terms_by m.entry.who m.entry.step) m.entry.step (answered f w m.entry.who m.entry.step m.entry.reply m.image) (subst (SameNumbers w) (sym (blocked_leaves f w m blocked)) (same_numbers w)))
]
  where
    -- what was done so far and the blobs aside
    after_counts : Counts w (terms_by m.entry.who m.entry.step) m.entry.step (answered f w m.entry.who m.entry.step m.entry.reply m.image) → Counts w (terms_by m.entry.who m.entry.step) m.entry.step (after f w m)
    after_counts h = record { term = h.term; pending = h.pending; ids = h.ids }

    few : Maker w m.entry.who m.entry.step → terms_by 0 m.entry.step ≤ terms_by m.entry.who m.entry.step
    few (ClientStep nobody own) = subst (λ (who : ℕ). terms_by 0 m.entry.step ≤ terms_by who m.entry.step) (sym nobody) (le_refl (terms_by 0 m.entry.step))
    few (ReaderStep q reading own) = none_le (terms_by 0 m.entry.step) (terms_by m.entry.who m.entry.step) (reader_elects_none m.entry.step own)
    few (UnitStep t out own) = none_le (terms_by 0 m.entry.step) (terms_by m.entry.who m.entry.step) (unit_elects_none m.entry.step own)

-- ---- where a step is refused so

-- of the world in which it is made
abbrev SpentHere : World → ℕ → Step → Refusal → Type 0
SpentHere w who step (TermsSpent term) = 2 ^ 63 ≤ w.term + terms_by who step
SpentHere w who step (GenerationsSpent pending) = 2 ^ 63 ≤ w.pending
SpentHere w who step (IdsSpent next) = (k : ℕ) × (k ≤ ids_by step) × (first_id (suc w.term) ≤ w.next_id + k)
SpentHere w who step refusal = Unit {0}

next_le : (bound n : ℕ) → bound ≤ suc n → bound ≤ n + 1
next_le bound n h = let reached : bound ≤ suc n = h in omega (arith, reached)

blocked_here : (w : World) (who : ℕ) (step : Step) (refusal : Refusal) → Blocks w who step refusal → SpentHere w who step refusal
blocked_here w who step refusal (ByFailedSwap place dead) = tt
blocked_here w who step refusal (ByDelete by alive aborted) = tt

-- no rule of accepting commands tells of numbers
rule_here : (w : World) (who : ℕ) (step : Step) (refusal : Refusal) → IsRule refusal → SpentHere w who step refusal
rule_here w who step (TermsSpent term) rule = absurd rule
rule_here w who step (GenerationsSpent pending) rule = absurd rule
rule_here w who step (IdsSpent next) rule = absurd rule
rule_here w who step refusal rule = tt

elected_here : (w : World) (who : ℕ) (step : Step) → who ≡ 0 → step ≡ ElectStep → 2 ^ 63 ≤ suc w.term → 2 ^ 63 ≤ w.term + terms_by who step
elected_here w who step nobody elects spent =
    subst (λ (n : ℕ). 2 ^ 63 ≤ w.term + terms_by n step) (sym nobody) (subst (λ (x : Step). 2 ^ 63 ≤ w.term + terms_by 0 x) (sym elects) (next_le (2 ^ 63) w.term spent))

cause_here : (f : Formats) (size : ℕ) (w : World) (who : ℕ) (step : Step) (refusal : Refusal) (image : Option Image) → RefusalCause f size w who step image refusal → SpentHere w who step refusal
cause_here f size w who step refusal image (OfRule r command is rule) = rule_here w who step r rule
cause_here f size w who step refusal image (OfIds count few spent) = (count, few, spent)
cause_here f size w who step refusal image (OfGenerations spent) = spent
cause_here f size w who step refusal image (OfTerms nobody elects spent) = elected_here w who step nobody elects spent
cause_here f size w who step refusal image other = tt

-- each refusal has its cause, unless the step was not looked at
abbrev pub Caused : Formats → ℕ → Type 0
Caused f size = (w : World) (m : Moment) (refusal : Refusal) → Allowed f size w m → m.entry.reply ≡ Refused refusal → Blocks w m.entry.who m.entry.step refusal ⊎ RefusalCause f size w m.entry.who m.entry.step m.image refusal

spent_at : (f : Formats) (size : ℕ) → Caused f size → (w : World) (m : Moment) (refusal : Refusal) → Allowed f size w m → m.entry.reply ≡ Refused refusal → SpentHere w m.entry.who m.entry.step refusal
spent_at f size caused w m refusal a is = elim (caused w m refusal a is) [
  | inl blocks ↦ blocked_here w m.entry.who m.entry.step refusal blocks
  | inr cause ↦ cause_here f size w m.entry.who m.entry.step refusal m.image cause
]

-- ---- over a history

-- from a world on of whose term so many ids were drawn
abbrev SpentFrom : World → ℕ → List Moment → Refusal → Type 0
SpentFrom w c log (TermsSpent term) = 2 ^ 63 ≤ w.term + terms_in log
SpentFrom w c log (GenerationsSpent pending) = 2 ^ 63 ≤ w.pending + generations_in log
SpentFrom w c log (IdsSpent next) = 2 ^ 64 ≤ c + ids_in log
SpentFrom w c log refusal = Unit {0}

here_from : (w : World) (c : ℕ) (m : Moment) (log : List Moment) → w.next_id ≤ first_id w.term + c → (refusal : Refusal) → SpentHere w m.entry.who m.entry.step refusal → SpentFrom w c (m ∷ log) refusal
here_from w c m log below (TermsSpent term) h = reached_here (2 ^ 63) w.term (terms_by m.entry.who m.entry.step) (terms_in log) h
here_from w c m log below (GenerationsSpent pending) h = reached_more (2 ^ 63) w.pending (generations_in (m ∷ log)) h
here_from w c m log below (IdsSpent next) h = term_spent w.term w.next_id c h.0 (ids_by m.entry.step) (ids_in log) h.2 below h.1
here_from w c m log below refusal h = tt

later_from : (w new : World) (c : ℕ) (m : Moment) (log : List Moment) → Counts w (terms_by m.entry.who m.entry.step) m.entry.step new → (refusal : Refusal) → SpentFrom new (c + ids_by m.entry.step) log refusal
    → SpentFrom w c (m ∷ log) refusal
later_from w new c m log counts (TermsSpent term) h = reached_on (2 ^ 63) new.term w.term (terms_by m.entry.who m.entry.step) (terms_in log) counts.term h
later_from w new c m log counts (GenerationsSpent pending) h = reached_on (2 ^ 63) new.pending w.pending (generations_by m.entry.step) (generations_in log) counts.pending h
later_from w new c m log counts (IdsSpent next) h = counted_on (2 ^ 64) c (ids_by m.entry.step) (ids_in log) h
later_from w new c m log counts refusal h = tt

module _ (f : Formats) (size : ℕ) (asks : AsksFew f) (caused : Caused f size) (maker : (w : World) (m : Moment) → Allowed f size w m → Maker w m.entry.who m.entry.step ⊎ IsBlocked w m) where
  spent_from : (log : List Moment) (w : World) (c : ℕ) → w.next_id ≤ first_id w.term + c → IsLegal f size w log → (m : Moment) (refusal : Refusal) → Has log m → m.entry.reply ≡ Refused refusal → SpentFrom w c log refusal
  spent_from [] w c below legal m refusal h is = absurd h
  spent_from (x ∷ log) w c below legal m refusal (inl e) is = here_from w c x log below refusal (spent_at f size caused w x refusal legal.0 (ap (λ (y : Moment). y.entry.reply) e ∙ is))
  spent_from (x ∷ log) w c below legal m refusal (inr h) is =
      let counts : Counts w (terms_by x.entry.who x.entry.step) x.entry.step (after f w x) = step_counts f size asks maker w x legal.0 in
      later_from w (after f w x) c x log counts refusal (spent_from log (after f w x) (c + ids_by x.entry.step) (counts.ids c below) legal.1 m refusal h is)

  first_le : (n : ℕ) (a : ℕ) → n ≡ a → n ≤ a + 0
  first_le n a e = let same : n ≡ a = e in omega (arith, same)

  none_first : (w : World) (log : List Moment) (refusal : Refusal) → SpentFrom w 0 log refusal → SpentSo w log refusal
  none_first w log (TermsSpent term) h = h
  none_first w log (GenerationsSpent pending) h = h
  none_first w log (IdsSpent next) h = let reached : 2 ^ 64 ≤ 0 + ids_in log = h in omega (arith, reached)
  none_first w log refusal h = tt

  -- from a world on whose term has begun
  pub spent_so : (w : World) (log : List Moment) (m : Moment) (refusal : Refusal) → w.next_id ≡ first_id w.term → IsLegal f size w log → Has log m → m.entry.reply ≡ Refused refusal → SpentSo w log refusal
  spent_so w log m refusal first legal h is = none_first w log refusal (spent_from log w 0 (first_le w.next_id (first_id w.term) first) legal m refusal h is)
