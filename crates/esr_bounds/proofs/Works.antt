-- How open ops and restores go on with a step: each was there with these shards, or was asked just now. No shard becomes pending again.
use Rattle.std.proofs.Common.{◌≡◌, ◌⊎◌, ℕ, zero, suc, ◌+◌, List, [], ◌∷◌, length, map, Bool, true, false, Option, Some, None, refl, sym, ap, ◌∙◌, subst, inl, inr, nat_cmp}
use Rattle.std.specs.Prelude.{option_map, if◌then◌else◌, ◌==◌, ◌&&◌}
use Rattle.std.specs.FinMap.{FinMap}
use Rattle.std.specs.FinMap as fin
use Rattle.std.proofs.lemmas.Option.{same_Some, none-some}
use Rattle.esr_model.specs.Lists.{Has-mapped}
use Rattle.esr_model.specs.Names.{BlobName}
use Rattle.esr_model.specs.Values.{Bytes, Has, ShardResult, Formats}
use Rattle.esr_model.specs.Image.{Image}
use Rattle.esr_model.specs.Delete.{kept_count}
use Rattle.esr_core.specs.World.{World, Op, Deletion, ShardWork, ShardState, Pending, Out, Done, GivenUp, ReadState, Unread, BeingRead, Restored, NotRestored, RestoreShard, Restoring, Reader, Ticket, Swap, swap, marked_by, marked, record_of}
use Rattle.esr_core.specs.Restores.{restore_shard, restore_of, any_waits, put_restore, handed, ended_by, ended}
use Rattle.esr_core.specs.Steps.{given, with_ticket, noting, listing}
use Rattle.esr_core.specs.Turns.{fails_by, fails}
use Rattle.esr_core.specs.Pruning.{planned}
use Rattle.esr_core.specs.Deletes.{named_uuids, waiting_delete, running_delete, aborts_op, aborting, aborted_ops, delete_merged, delete_by}
use Rattle.esr_core.specs.Entry.{AskedIndex, CloneOf, Snapshot, Clone, DeleteSnapshots, Restore, Cleanup, Given, GivenShard, GivenClone, GivenFinalize, GivenRestore, Read, ReadBlob, RestoredShard, DrawTest, CommitTest, ReadFails, Prune, FetchShard, PlanShards, SettlePruned, EndDelete, DeleteFails, Step, AskStep, TakeStep, DrawStep, BeginStep, CommitStep, LatestStep, FetchStep, ListStep, RaiseStep, SettleStep, DoneStep, FailedStep, FinishStep, DroppedStep, ElectStep, ReadStep, PruneStep, DepotFault, Reply, Gave, DrawnFrom, WasDone, WasThere, WasFetched, WasListed, HasEnded, Refused, AcceptedRestore}
use Rattle.esr_core.specs.After.{asked_op, cloned_op, asked, shard_of, taken_shard, taken_restore_shard, taken_restore, taken_by, with_given, committing, told_blob, fetching, settled_by, settled_of, done_by, done_of, is_stale, failed_by, failed_of, dropped_of, delete_settled_by, delete_settled, delete_failed_by, delete_failed, prune_step, read_told, shard_over, read_over, read_step, read_by, done_step, has_text, fallen, is_latest, tried, test_left, faulted, answered}
use Rattle.esr_bounds.specs.Units.{asked_indices, asked_source, asked_shards, asked_counts}
use Rattle.esr_core.specs.Laws.NumberMaps.{was_in, left_in}
use Rattle.esr_core.specs.Laws.AbortLaws.{aborted_at}

-- ---- one op

-- each of these shards was one of those; none became pending
abbrev pub ShardsOn : List ShardWork → List ShardWork → Type 0
ShardsOn old new = (s : ShardWork) → Has new s → (z : ShardWork) × Has old z × (s.ref ≡ z.ref) × (s.number ≡ z.number) × (s.place ≡ z.place) × (s.state ≡ Pending → z.state ≡ Pending)

abbrev pub ReadsOn : List RestoreShard → List RestoreShard → Type 0
ReadsOn old new = (s : RestoreShard) → Has new s → (z : RestoreShard) × Has old z × (s.ref ≡ z.ref) × (s.number ≡ z.number) × (s.state ≡ Unread → z.state ≡ Unread)

-- it was there
pub record WasOp (w : World) (o : ℕ) (v : Op) : Type 0 where
  pub op : Op
  pub there : fin.get w.ops o ≡ Some op
  pub indices : v.indices ≡ op.indices
  pub source : v.source ≡ op.source
  pub shards : ShardsOn op.shards v.shards
  pub failed : v.failed ≡ false → op.failed ≡ false
  pub aborted : v.aborted ≡ None → op.aborted ≡ None

-- it was asked just now
pub record IsAskedOp (w : World) (step : Step) (o : ℕ) (v : Op) : Type 0 where
  pub number : o ≡ w.next_op
  pub indices : v.indices ≡ asked_indices w step
  pub source : v.source ≡ asked_source step
  pub shards : v.shards ≡ asked_shards w step
  pub counted : asked_counts w step ≡ (w.next_op, length (asked_indices w step)) ∷ []

pub record WasRestore (w : World) (o : ℕ) (v : Restoring) : Type 0 where
  pub r : Restoring
  pub there : fin.get w.restores o ≡ Some r
  pub shards : ReadsOn r.shards v.shards

abbrev pub OpsOn : World → Step → FinMap nat_cmp Op → Type 0
OpsOn w step ops = (o : ℕ) (v : Op) → fin.get ops o ≡ Some v → IsAskedOp w step o v ⊎ WasOp w o v

abbrev pub RestoresOn : World → FinMap nat_cmp Restoring → Type 0
RestoresOn w restores = (o : ℕ) (v : Restoring) → fin.get restores o ≡ Some v → (o ≡ w.next_op) ⊎ WasRestore w o v

pub record Works (w : World) (step : Step) (new : World) : Type 0 where
  pub ops : OpsOn w step new.ops
  pub restores : RestoresOn w new.restores

shards_same : (shards : List ShardWork) → ShardsOn shards shards
shards_same shards s h = (s, h, refl, refl, refl, λ pending. pending)

reads_same : (shards : List RestoreShard) → ReadsOn shards shards
reads_same shards s h = (s, h, refl, refl, λ unread. unread)

was_same : (w : World) (o : ℕ) (op : Op) → fin.get w.ops o ≡ Some op → WasOp w o op
was_same w o op there = record { op = op; there = there; indices = refl; source = refl; shards = shards_same op.shards; failed = λ h. h; aborted = λ h. h }

restore_same : (w : World) (o : ℕ) (r : Restoring) → fin.get w.restores o ≡ Some r → WasRestore w o r
restore_same w o r there = record { r = r; there = there; shards = reads_same r.shards }

-- ---- shards that go on

-- a state that a shard goes on to, other than pending
abbrev IsLater : ShardState → Type 0
IsLater state = state ≡ Pending → ⊥

abbrev SameShard : ShardWork → ShardWork → Type 0
SameShard v s = (v.ref ≡ s.ref) × (v.number ≡ s.number) × (v.place ≡ s.place) × (v.state ≡ Pending → s.state ≡ Pending)

same_shard : (s : ShardWork) → SameShard s s
same_shard s = (refl, refl, refl, λ h. h)

either_shard : (new : ShardState) (s : ShardWork) (b : Bool) → IsLater new → SameShard (if b then record s { state = new } else s) s
either_shard new s true later = (refl, refl, refl, λ h. absurd (later h))
either_shard new s false later = same_shard s

marked_shard : (k : ℕ) (new : ShardState) (s : ShardWork) (state : ShardState) → IsLater new → SameShard (marked_by k new s state) s
marked_shard k new s (Out j) later = either_shard new s (j == k) later
marked_shard k new s state later = same_shard s

given_up_later : IsLater GivenUp
given_up_later h = cc

failed_shard : (k : ℕ) (s : ShardWork) (state : ShardState) → SameShard (fails_by k s state) s
failed_shard k s (Out j) = either_shard GivenUp s (j == k) given_up_later
failed_shard k s Pending = (refl, refl, refl, λ h. absurd (given_up_later h))
failed_shard k s state = same_shard s

each_on : (g : ShardWork → ShardWork) → ((s : ShardWork) → SameShard (g s) s) → (shards : List ShardWork) → ShardsOn shards (map g shards)
each_on g same shards s h =
    let r = Has-mapped g shards s h in
    let one = same r.0 in
    (r.0, r.1, ap (λ (x : ShardWork). x.ref) (sym r.2) ∙ one.0, ap (λ (x : ShardWork). x.number) (sym r.2) ∙ one.1, ap (λ (x : ShardWork). x.place) (sym r.2) ∙ one.2, λ pending. one.3 (ap (λ (x : ShardWork). x.state) r.2 ∙ pending))

given_on : (k index number : ℕ) (shards : List ShardWork) → ShardsOn shards (map (given k index number) shards)
given_on k index number shards = each_on (given k index number) (λ s. either_shard (Out k) s ((s.ref.id == index) && (s.number == number)) later) shards
  where
    later : IsLater (Out k)
    later h = cc

done_on : (k : ℕ) (r : ShardResult) (shards : List ShardWork) → ShardsOn shards (map (marked k (Done r)) shards)
done_on k r shards = each_on (marked k (Done r)) (λ s. marked_shard k (Done r) s s.state later) shards
  where
    later : IsLater (Done r)
    later h = cc

failed_on : (k : ℕ) (shards : List ShardWork) → ShardsOn shards (map (fails k) shards)
failed_on k shards = each_on (fails k) (λ s. failed_shard k s s.state) shards

-- ---- shards of restores

abbrev SameRead : RestoreShard → RestoreShard → Type 0
SameRead v s = (v.ref ≡ s.ref) × (v.number ≡ s.number) × (v.state ≡ Unread → s.state ≡ Unread)

same_read : (s : RestoreShard) → SameRead s s
same_read s = (refl, refl, λ h. h)

either_read : (new : ReadState) (s : RestoreShard) (b : Bool) → (new ≡ Unread → ⊥) → SameRead (if b then record s { state = new } else s) s
either_read new s true later = (refl, refl, λ h. absurd (later h))
either_read new s false later = same_read s

each_read : (g : RestoreShard → RestoreShard) → ((s : RestoreShard) → SameRead (g s) s) → (shards : List RestoreShard) → ReadsOn shards (map g shards)
each_read g same shards s h =
    let r = Has-mapped g shards s h in
    let one = same r.0 in
    (r.0, r.1, ap (λ (x : RestoreShard). x.ref) (sym r.2) ∙ one.0, ap (λ (x : RestoreShard). x.number) (sym r.2) ∙ one.1, λ unread. one.2 (ap (λ (x : RestoreShard). x.state) r.2 ∙ unread))

handed_on : (k index number : ℕ) (shards : List RestoreShard) → ReadsOn shards (map (handed k index number) shards)
handed_on k index number shards = each_read (handed k index number) (λ s. either_read (BeingRead k) s ((s.ref.id == index) && (s.number == number)) later) shards
  where
    later : BeingRead k ≡ Unread → ⊥
    later h = cc

ended_read : (k : ℕ) (new : ReadState) (s : RestoreShard) (state : ReadState) → (new ≡ Unread → ⊥) → SameRead (ended_by k new s state) s
ended_read k new s (BeingRead j) later = either_read new s (j == k) later
ended_read k new s state later = same_read s

ended_on : (k : ℕ) (new : ReadState) (shards : List RestoreShard) → (new ≡ Unread → ⊥) → ReadsOn shards (map (ended k new) shards)
ended_on k new shards later = each_read (ended k new) (λ s. ended_read k new s s.state later) shards

-- a restore that is put or leaves
put_was : (restores : FinMap nat_cmp Restoring) (o : ℕ) (r : Restoring) (p : ℕ) (v : Restoring) (b : Bool) → fin.get (if b then fin.insert restores o r else fin.remove restores o) p ≡ Some v
    → ((p ≡ o) × (r ≡ v)) ⊎ (fin.get restores p ≡ Some v)
put_was restores o r p v true e = elim (was_in restores o r p v e) [ inl h ↦ inl h | inr h ↦ inr h.1 ]
put_was restores o r p v false e = inr (left_in restores o p v e).1

-- ---- ops that a delete aborts

module _ (w : World) (uuids : List ℕ) (by : ℕ) where
  -- the op of this number after it
  now_at : ℕ → Op → Op
  now_at o op = (aborting w uuids by (o, op)).1

  get_at : (o : ℕ) → fin.get (aborted_ops w uuids by) o ≡ option_map (now_at o) (fin.get w.ops o)
  unfolding now_at
  get_at o = aborted_at w uuids by o

  now_was : (o : ℕ) (op : Op) → fin.get w.ops o ≡ Some op → WasOp w o (now_at o op)
  unfolding now_at
  now_was o op there = choose (aborts_op w uuids (o, op))
    where
      never : Some by ≡ None → op.aborted ≡ None
      never h = absurd (none-some by (sym h))

      choose : (b : Bool) → WasOp w o ((λ (e : ℕ × Op). e.1) (if b then (o, record op { aborted = Some by }) else (o, op)))
      choose true = record { op = op; there = there; indices = refl; source = refl; shards = shards_same op.shards; failed = λ h. h; aborted = never }
      choose false = was_same w o op there

  aborted_was : (o : ℕ) (v : Op) → fin.get (aborted_ops w uuids by) o ≡ Some v → WasOp w o v
  aborted_was o v e = at (fin.get w.ops o) refl (sym (get_at o) ∙ e)
    where
      at : (found : Option Op) → fin.get w.ops o ≡ found → option_map (now_at o) found ≡ Some v → WasOp w o v
      at None is e = absurd (none-some v e)
      at (Some op) is e = subst (WasOp w o) (same_Some (now_at o op) v e) (now_was o op is)

-- ---- the maps

module _ (w : World) (step : Step) where
  ops_same : OpsOn w step w.ops
  ops_same o v e = inr (was_same w o v e)

  ops_put : (o : ℕ) (v : Op) → WasOp w o v → OpsOn w step (fin.insert w.ops o v)
  ops_put o v was p x e = elim (was_in w.ops o v p x e) [
    | inl here ↦ inr (subst (λ (n : ℕ). WasOp w n x) (sym here.0) (subst (WasOp w o) here.1 was))
    | inr other ↦ inr (was_same w p x other.1)
  ]

  ops_asked : (v : Op) → v.indices ≡ asked_indices w step → v.source ≡ asked_source step → v.shards ≡ asked_shards w step → asked_counts w step ≡ (w.next_op, length (asked_indices w step)) ∷ []
      → OpsOn w step (fin.insert w.ops w.next_op v)
  ops_asked v indices source shards counted p x e = elim (was_in w.ops w.next_op v p x e) [
    | inl here ↦
        inl (record { number = here.0; indices = ap (λ (y : Op). y.indices) (sym here.1) ∙ indices; source = ap (λ (y : Op). y.source) (sym here.1) ∙ source; shards = ap (λ (y : Op). y.shards) (sym here.1) ∙ shards; counted = counted })
    | inr other ↦ inr (was_same w p x other.1)
  ]

  ops_left : (o : ℕ) → OpsOn w step (fin.remove w.ops o)
  ops_left o p x e = inr (was_same w p x (left_in w.ops o p x e).1)

  ops_aborted : (uuids : List ℕ) (by : ℕ) → OpsOn w step (aborted_ops w uuids by)
  ops_aborted uuids by o v e = inr (aborted_was w uuids by o v e)

  restores_same : RestoresOn w w.restores
  restores_same o v e = inr (restore_same w o v e)

  restores_put : (o : ℕ) (r : Restoring) → WasRestore w o r → RestoresOn w (fin.insert w.restores o r)
  restores_put o r was p x e = elim (was_in w.restores o r p x e) [
    | inl here ↦ inr (subst (λ (n : ℕ). WasRestore w n x) (sym here.0) (subst (WasRestore w o) here.1 was))
    | inr other ↦ inr (restore_same w p x other.1)
  ]

  restores_over : (o : ℕ) (r : Restoring) → WasRestore w o r → RestoresOn w (put_restore w.restores o r)
  restores_over o r was p x e = elim (put_was w.restores o r p x (any_waits r.shards) e) [
    | inl here ↦ inr (subst (λ (n : ℕ). WasRestore w n x) (sym here.0) (subst (WasRestore w o) here.1 was))
    | inr other ↦ inr (restore_same w p x other)
  ]

  restores_asked : (r : Restoring) → RestoresOn w (put_restore w.restores w.next_op r)
  restores_asked r p x e = elim (put_was w.restores w.next_op r p x (any_waits r.shards) e) [
    | inl here ↦ inl here.0
    | inr other ↦ inr (restore_same w p x other)
  ]

  -- ---- the worlds

  same : Works w step w
  same = record { ops = ops_same; restores = restores_same }

  either : (a b : World) (first : Bool) → Works w step a → Works w step b → Works w step (if first then a else b)
  either a b true p q = p
  either a b false p q = q

  given_anew : (k : ℕ) (g : Ticket → Ticket) (o : Option Ticket) → Works w step (with_given w k g o)
  given_anew k g None = same
  given_anew k g (Some t) = record { ops = ops_same; restores = restores_same }

  next_anew : (k : ℕ) (g : Ticket → Ticket) (o : Option Ticket) (next : ℕ) → Works w step (record (with_given w k g o) { next_id = next })
  next_anew k g None next = record { ops = ops_same; restores = restores_same }
  next_anew k g (Some t) next = record { ops = ops_same; restores = restores_same }

  raised_anew : (k : ℕ) (g : Ticket → Ticket) (o : Option Ticket) (pending : ℕ) → Works w step (record (with_given w k g o) { pending = pending })
  raised_anew k g None pending = record { ops = ops_same; restores = restores_same }
  raised_anew k g (Some t) pending = record { ops = ops_same; restores = restores_same }

  over : (k : ℕ) (t : Ticket) → Works w step (with_ticket w k (record t { out = false }))
  over k t = record { ops = ops_same; restores = restores_same }

  shard_taken : (o : ℕ) (op : Op) (base : Option ℕ) (s : Option ShardWork) → fin.get w.ops o ≡ Some op → Works w step (taken_shard w o op base s)
  shard_taken o op base None there = same
  shard_taken o op base (Some s) there =
      record {
        ops = ops_put o (record op { shards = map (given w.next_ticket s.ref.id s.number) op.shards })
            (record { op = op; there = there; indices = refl; source = refl; shards = given_on w.next_ticket s.ref.id s.number op.shards; failed = λ h. h; aborted = λ h. h });
        restores = restores_same;
      }

  restore_shard_taken : (o : ℕ) (r : Restoring) (s : Option RestoreShard) → fin.get w.restores o ≡ Some r → Works w step (taken_restore_shard w o r s)
  restore_shard_taken o r None there = same
  restore_shard_taken o r (Some s) there =
      record {
        ops = ops_same;
        restores = restores_put o (record r { shards = map (handed w.next_ticket s.ref.id s.number) r.shards }) (record { r = r; there = there; shards = handed_on w.next_ticket s.ref.id s.number r.shards });
      }

  restore_taken : (o index number : ℕ) (r : Option Restoring) → fin.get w.restores o ≡ r → Works w step (taken_restore w o index number r)
  restore_taken o index number None is = same
  restore_taken o index number (Some r) is = restore_shard_taken o r (restore_shard r.shards index number) is

  taken : (f : Formats) (o : ℕ) (unit : Given) (op : Option Op) → fin.get w.ops o ≡ op → Works w step (taken_by f w o unit op)
  taken f o (GivenShard index number base) (Some op) is = shard_taken o op base (shard_of op.shards index number) is
  taken f o (GivenShard index number base) None is = same
  taken f o (GivenClone index number source base) (Some op) is = shard_taken o op base (shard_of op.shards index number) is
  taken f o (GivenClone index number source base) None is = same
  taken f o (GivenFinalize info results) None is = same
  taken f o (GivenRestore index number uuid) op is = restore_taken o index number (fin.get w.restores o) refl
  taken f o unit op is = record { ops = ops_same; restores = restores_same }

  settle_one : (f : Formats) (k : ℕ) (t : Ticket) (s : Option Swap) (n : Option ℕ) → Works w step (settled_by f w k t s n)
  settle_one f k t (Some s) (Some n) = record { ops = ops_left t.op; restores = restores_same }
  settle_one f k t s n = same

  settle : (f : Formats) (k : ℕ) (o : Option Ticket) → Works w step (settled_of f w k o)
  settle f k None = same
  settle f k (Some t) = settle_one f k t (swap f t) t.raised

  done_one : (k : ℕ) (r : ShardResult) (t : Ticket) (op : Option Op) → fin.get w.ops t.op ≡ op → Works w step (done_by w k r t op)
  done_one k r t None is = same
  done_one k r t (Some op) is =
      record {
        ops = ops_put t.op (record op { shards = map (marked k (Done r)) op.shards }) (record { op = op; there = is; indices = refl; source = refl; shards = done_on k r op.shards; failed = λ h. h; aborted = λ h. h });
        restores = restores_same;
      }

  done : (k : ℕ) (r : ShardResult) (o : Option Ticket) → Works w step (done_of w k r o)
  done k r None = same
  done k r (Some t) = done_one k r t (fin.get w.ops t.op) refl

  failed_one : (k : ℕ) (t : Ticket) (op : Option Op) → fin.get w.ops t.op ≡ op → Works w step (failed_by w k t op)
  failed_one k t None is = same
  failed_one k t (Some op) is =
      record {
        ops = ops_put t.op (record op { shards = map (fails k) op.shards; failed = true })
            (record { op = op; there = is; indices = refl; source = refl; shards = failed_on k op.shards; failed = λ h. absurd (let no : true ≡ false = h in cc); aborted = λ h. h });
        restores = restores_same;
      }

  fail : (k : ℕ) (o : Option Ticket) → Works w step (failed_of w k o)
  fail k None = same
  fail k (Some t) = either (with_ticket w k (record t { out = false })) (failed_by w k t (fin.get w.ops t.op)) (is_stale w t t.work) (over k t) (failed_one k t (fin.get w.ops t.op) refl)

  dropped : (k : ℕ) (o : Option Ticket) → Works w step (dropped_of w k o)
  dropped k None = same
  dropped k (Some t) = record { ops = ops_left t.op; restores = restores_same }

  delete_settle_one : (f : Formats) (k : ℕ) (t : Ticket) (s : Option Swap) (n : Option ℕ) → Works w step (delete_settled_by f w k t s n)
  delete_settle_one f k t (Some s) (Some n) = record { ops = ops_left t.op; restores = restores_same }
  delete_settle_one f k t s n = same

  delete_settle : (f : Formats) (k : ℕ) (o : Option Ticket) → Works w step (delete_settled f w k o)
  delete_settle f k None = same
  delete_settle f k (Some t) = delete_settle_one f k t (swap f t) t.raised

  delete_fail_one : (k : ℕ) (t : Ticket) (x : Option Deletion) → Works w step (delete_failed_by w k t x)
  delete_fail_one k t None = same
  delete_fail_one k t (Some x) = record { ops = ops_same; restores = restores_same }

  delete_fail : (k : ℕ) (o : Option Ticket) → Works w step (delete_failed w k o)
  delete_fail k None = same
  delete_fail k (Some t) = either (with_ticket w k (record t { out = false })) (delete_failed_by w k t (fin.get w.deletes t.op)) (is_stale w t t.work) (over k t) (delete_fail_one k t (fin.get w.deletes t.op))

  merged : (names : List Bytes) (d : ℕ) (x : Option Deletion) → Works w step (delete_merged w names d x)
  merged names d None = same
  merged names d (Some x) = record { ops = ops_aborted (named_uuids w names) d; restores = restores_same }

  delete_asked : (names : List Bytes) (waiting running : Option ℕ) → Works w step (delete_by w names waiting running)
  delete_asked names (Some d) running = merged names d (fin.get w.deletes d)
  delete_asked names None (Some d) = same
  delete_asked names None None = record { ops = ops_aborted (named_uuids w names) w.next_op; restores = restores_same }

  told : (k : ℕ) (name : BlobName) (bytes : Option Bytes) (o : Option Reader) → Works w step (read_told w k name bytes o)
  told k name bytes None = same
  told k name None (Some q) = same
  told k name (Some bytes) (Some q) = record { ops = ops_same; restores = restores_same }

  shard_end : (k : ℕ) (state : ReadState) (q : Reader) (o : Option Restoring) → (state ≡ Unread → ⊥) → fin.get w.restores q.op ≡ o → Works w step (shard_over w k state q o)
  shard_end k state q None later is = same
  shard_end k state q (Some r) later is =
      record { ops = ops_same; restores = restores_over q.op (record r { shards = map (ended k state) r.shards }) (record { r = r; there = is; shards = ended_on k state r.shards later }) }

  read_end : (k : ℕ) (state : ReadState) (o : Option Reader) → (state ≡ Unread → ⊥) → Works w step (read_over w k state o)
  read_end k state None later = same
  read_end k state (Some q) later = shard_end k state q (fin.get w.restores q.op) later refl

  reads : (f : Formats) (k : ℕ) (read : Read) (reply : Reply) (image : Option Image) → Works w step (read_step f w k read reply image)
  reads f k (ReadBlob name) WasFetched image = told k name (told_blob f image name) (fin.get w.readers k)
  reads f k (RestoredShard files bytes) reply image = read_end k (Restored files bytes) (fin.get w.readers k) (λ h. cc)
  reads f k (ReadFails why) reply image = read_end k (NotRestored why) (fin.get w.readers k) (λ h. cc)
  reads f k read reply image = same

  read : (f : Formats) (k : ℕ) (r : Read) (reply : Reply) (image : Option Image) → Works w step (read_by f w k r reply image)
  read f zero DrawTest (DrawnFrom first) image = record { ops = ops_same; restores = restores_same }
  read f zero (CommitTest name) WasDone image = record { ops = ops_same; restores = restores_same }
  read f zero r reply image = same
  read f (suc k) r reply image = reads f (suc k) r reply image

  prune : (f : Formats) (k : ℕ) (p : Prune) (reply : Reply) (image : Option Image) → Works w step (prune_step f w k p reply image)
  prune f k (FetchShard name) WasFetched image = given_anew k (fetching name (told_blob f image name)) (fin.get w.tickets k)
  prune f k (PlanShards shards) reply image = next_anew k (planned f shards w.next_id) (fin.get w.tickets k) (w.next_id + kept_count shards)
  prune f k SettlePruned reply image = delete_settle f k (fin.get w.tickets k)
  prune f k EndDelete reply image = given_anew k (λ t. record t { out = false }) (fin.get w.tickets k)
  prune f k (DeleteFails why) reply image = delete_fail k (fin.get w.tickets k)
  prune f k p reply image = same

  test : (name : BlobName) (was now : Option Bytes) → Works w step (test_left w name was now)
  test name None (Some bytes) = record { ops = ops_same; restores = restores_same }
  test name was now = same

  fall : (f : Formats) (up : World) (image : Option Image) → Works w step up → Works w step (fallen f w up image)
  fall f up image h = by (has_text image (f.cluster.text (record_of up)))
    where
      by : (b : Bool) → Works w step (record (if b then up else w) { deposed = true })
      by true = record { ops = h.ops; restores = h.restores }
      by false = record { ops = ops_same; restores = restores_same }

-- ---- all steps

module _ (f : Formats) (w : World) where
  clone_works : (source name : Bytes) (names : List Bytes) (moment : ℕ) (taken : Option CloneOf) → Works w (AskStep (Clone source name names moment taken)) (asked w (Clone source name names moment taken))
  clone_works source name names moment None = same w (AskStep (Clone source name names moment None))
  clone_works source name names moment (Some t) =
      record { ops = ops_asked w (AskStep (Clone source name names moment (Some t))) (cloned_op w name moment t) refl refl refl refl; restores = restores_same w (AskStep (Clone source name names moment (Some t))) }

  snapshot_works : (name : Bytes) (indices : List AskedIndex) (moment : ℕ) → Works w (AskStep (Snapshot name indices moment)) (asked w (Snapshot name indices moment))
  snapshot_works name indices moment =
      record { ops = ops_asked w (AskStep (Snapshot name indices moment)) (asked_op w name indices moment) refl refl refl refl; restores = restores_same w (AskStep (Snapshot name indices moment)) }

  done_works : (k : ℕ) (step : Step) (reply : Reply) (image : Option Image) → Works w step (done_step f w k step reply image)
  done_works k (AskStep (Snapshot name indices moment)) reply image = snapshot_works name indices moment
  done_works k (AskStep (Clone source name names moment taken)) reply image = clone_works source name names moment taken
  done_works k (AskStep (DeleteSnapshots names)) reply image = delete_asked w (AskStep (DeleteSnapshots names)) names (waiting_delete w) (running_delete w (named_uuids w names))
  done_works k (AskStep (Restore name place)) (AcceptedRestore o uuid indices) image =
      record { ops = ops_same w (AskStep (Restore name place)); restores = restores_asked w (AskStep (Restore name place)) (restore_of uuid place indices) }
  done_works k (AskStep Cleanup) reply image = record { ops = ops_same w (AskStep Cleanup); restores = restores_same w (AskStep Cleanup) }
  done_works k TakeStep (Gave ticket op unit) image = taken w TakeStep f op unit (fin.get w.ops op) refl
  done_works k (DrawStep n) reply image = next_anew w (DrawStep n) k (λ t. record t { first = w.next_id; drawn = n }) (fin.get w.tickets k) (w.next_id + n)
  done_works k (CommitStep name) WasDone image = given_anew w (CommitStep name) k (committing name (told_blob f image name)) (fin.get w.tickets k)
  done_works k (CommitStep name) WasThere image = given_anew w (CommitStep name) k (λ t. noting t name) (fin.get w.tickets k)
  done_works k LatestStep reply image = given_anew w LatestStep k (λ t. record t { tried_latest = true }) (fin.get w.tickets k)
  done_works k (FetchStep name) WasFetched image = given_anew w (FetchStep name) k (fetching name (told_blob f image name)) (fin.get w.tickets k)
  done_works k (ListStep from) (WasListed page) image = given_anew w (ListStep from) k (λ t. listing t page) (fin.get w.tickets k)
  done_works k RaiseStep reply image = raised_anew w RaiseStep k (λ t. record t { raised = Some w.pending }) (fin.get w.tickets k) (suc w.pending)
  done_works k SettleStep reply image = settle w SettleStep f k (fin.get w.tickets k)
  done_works k (DoneStep result) reply image = done w (DoneStep result) k result (fin.get w.tickets k)
  done_works k (FailedStep why) reply image = fail w (FailedStep why) k (fin.get w.tickets k)
  done_works k FinishStep reply image = given_anew w FinishStep k (λ t. record t { out = false }) (fin.get w.tickets k)
  done_works k DroppedStep reply image = dropped w DroppedStep k (fin.get w.tickets k)
  done_works k ElectStep reply image = record { ops = ops_same w ElectStep; restores = restores_same w ElectStep }
  done_works k (ReadStep r) reply image = read w (ReadStep r) f k r reply image
  done_works k (PruneStep p) reply image = prune w (PruneStep p) f k p reply image
  done_works k step reply image = same w step

  fault_works : (k : ℕ) (step : Step) (image : Option Image) → Works w step (faulted f w k step image)
  fault_works k LatestStep image = given_anew w LatestStep k (λ t. record t { tried_latest = true }) (fin.get w.tickets k)
  fault_works k (BeginStep name) image = either w (BeginStep name) (tried w k) w (is_latest name) (given_anew w (BeginStep name) k (λ t. record t { tried_latest = true }) (fin.get w.tickets k)) (same w (BeginStep name))
  fault_works k (ReadStep (CommitTest name)) image = test w (ReadStep (CommitTest name)) name (fin.get w.blobs (f.names.text name)) (told_blob f image name)
  fault_works k (AskStep (Restore name place)) image = same w (AskStep (Restore name place))
  fault_works k (AskStep command) image = fall w (AskStep command) f (done_step f w k (AskStep command) HasEnded image) image (done_works k (AskStep command) HasEnded image)
  fault_works k RaiseStep image = fall w RaiseStep f _ image (done_works k RaiseStep HasEnded image)
  fault_works k SettleStep image = fall w SettleStep f _ image (done_works k SettleStep HasEnded image)
  fault_works k DroppedStep image = fall w DroppedStep f _ image (done_works k DroppedStep HasEnded image)
  fault_works k ElectStep image = fall w ElectStep f _ image (done_works k ElectStep HasEnded image)
  fault_works k (PruneStep SettlePruned) image = fall w (PruneStep SettlePruned) f _ image (done_works k (PruneStep SettlePruned) HasEnded image)
  fault_works k step image = same w step

  pub answered_works : (k : ℕ) (step : Step) (reply : Reply) (image : Option Image) → Works w step (answered f w k step reply image)
  answered_works k step (Refused DepotFault) image = fault_works k step image
  answered_works k step (Refused refusal) image = same w step
  answered_works k step reply image = done_works k step reply image
