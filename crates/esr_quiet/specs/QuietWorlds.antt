-- What is so in each world of a history over quiet objects.
use Rattle.std.proofs.Common.{◌≡◌, ◌⊎◌, ℕ, Some, ap, inl, inr, ◌≢◌, zero, suc, ◌+◌, ◌<◌, Bool, true, false, true≢false, List, [], ◌∷◌, Option, None, map, refl, sym, ◌∙◌, subst, arith, nat_cmp}
use Rattle.std.specs.FinMap.{FinMap}
use Rattle.std.proofs.lemmas.Option.{same_Some}
use Rattle.std.specs.Prelude.{if◌then◌else◌, ◌==◌, ◌&&◌}
use Rattle.std.specs.FinMap as fin
use Rattle.esr_core.specs.Laws.NumberMaps.{some_none, nothing, was_in, left_in}
use Rattle.esr_model.specs.Names.{BlobName}
use Rattle.esr_model.specs.Values.{Bytes, Has, IndexRef, ShardResult, Formats}
use Rattle.esr_model.specs.Image.{Image}
use Rattle.esr_core.specs.World.{Op, World, Deletion, ShardWork, ShardState, Out, Done, GivenUp, Work, Shard, Deleting, Drop, Swap, Ticket, ReadState, Restored, NotRestored, RestoreShard, Restoring, Reader, swap, marked, marked_by, kept_deletes, numbered_deletes, Opened, OpenedEmpty, OpenedRecord}
use Rattle.esr_core.specs.Steps.{noting, listing, given, shard_ticket, final_ticket, plain_ticket}
use Rattle.esr_core.specs.Allowed.{Allowed}
use Rattle.esr_core.specs.After.{asked, asked_op, cloned_op, known_id, ref_by, next_by, refs_from, pending_shards, all_pending, taken_shard, taken_restore_shard, taken_restore, taken_by, read_told, shard_over, read_over, read_step, read_by, shard_of, with_given, committing, told_blob, fetching, settled_by, settled_of, done_by, done_of, is_stale, failed_by, failed_of, dropped_of, cleanup_opened, delete_settled_by, delete_settled, delete_failed_by, delete_failed, prune_step, done_step, answered, after}
use Rattle.esr_core.specs.Restores.{restore_shard}
use Rattle.esr_model.specs.Delete.{PrunedShard}
use Rattle.esr_model.specs.Lists.{Has-mapped, Has-either}
use Rattle.esr_core.specs.Deletes.{named_uuids, waiting_delete, running_delete, aborted_ops, with_named, delete_merged, delete_by}
use Rattle.esr_core.specs.Pruning.{planned_work, planned}
use Rattle.esr_core.specs.Turns.{Aborts, cleaning_ticket, fails, fails_by}
use Rattle.esr_core.specs.Entry.{AskedIndex, Snapshot, Clone, CloneOf, DeleteSnapshots, Restore, Cleanup, Given, GivenShard, GivenClone, GivenFinalize, GivenDrop, GivenRestore, Read, ReadBlob, RestoredShard, DrawTest, CommitTest, ReadFails, Step, AskStep, TakeStep, DrawStep, CommitStep, LatestStep, FetchStep, ListStep, RaiseStep, SettleStep, DoneStep, FailedStep, FinishStep, DroppedStep, ElectStep, ReadStep, DepotFault, Reply, Gave, DrawnFrom, WasDone, WasThere, WasFetched, WasListed, Refused, AcceptedRestore, Moment, GivenDelete, GivenCleanup, Prune, FetchShard, PlanShards, SettlePruned, RemoveDoomed, EndDelete, DeleteFails, PruneStep}
use Rattle.esr_core.specs.History.{world_from, IsLegal}
use Rattle.esr_core.specs.Laws.DeleteAsks.{aborts}
use Rattle.esr_core.specs.Laws.Asides.{blocked_stays}
use Rattle.esr_core.specs.Laws.Makers.{maker}
use Rattle.esr_core.specs.Laws.SnapshotOps.{ref_name}
use Rattle.esr_desk.specs.Start.{Start}
use Rattle.esr_quiet.specs.Asked.{IsSteady, AreSteady}
use Rattle.esr_quiet.specs.Smooth.{AreCalm}
use Rattle.esr_quiet.specs.Askers.{AsksOrElects, made_zero}

-- an op that a delete may have aborted
pub was_shards : (op old : Op) (by : ℕ) → (op ≡ old) ⊎ (op ≡ record old { aborted = Some by }) → (op.shards ≡ old.shards) × (op.uuid ≡ old.uuid) × (op.source ≡ old.source)
was_shards op old by (inl e) = (ap (λ (x : Op). x.shards) e, ap (λ (x : Op). x.uuid) e, ap (λ (x : Op). x.source) e)
was_shards op old by (inr e) = (ap (λ (x : Op). x.shards) e, ap (λ (x : Op). x.uuid) e, ap (λ (x : Op). x.source) e)

abbrev Ops : Type 0
Ops = FinMap nat_cmp Op

abbrev Deletes : Type 0
Deletes = FinMap nat_cmp Deletion

abbrev Tickets : Type 0
Tickets = FinMap nat_cmp Ticket

-- no call of a shard at this address fails, if it isn't one that copies a snapshot
abbrev pub IsSteadyAt : Start → Option ℕ → Bytes → Bytes → ℕ → Type 0
IsSteadyAt s None place name number = s.steady place name number ≡ true
IsSteadyAt s (Some source) place name number = Unit {0}

-- so is the shard of an op that copies this snapshot, or none
abbrev pub IsOfSteady : Start → Option ℕ → ShardWork → Type 0
IsOfSteady s source z = IsSteadyAt s source z.place z.ref.name z.number

-- what a ticket is for: no shard that fails
pub record Fine (s : Start) (work : Work) (source : Option ℕ) (place name : Bytes) : Type 0 where
  pub steady : (index number : ℕ) → work ≡ Shard index number → IsSteadyAt s source place name number

abbrev pub IsFine : Start → Ticket → Type 0
IsFine s t = Fine s t.work t.source t.place t.name

abbrev pub AreFine : Start → Tickets → Type 0
AreFine s tickets = (k : ℕ) (t : Ticket) → fin.get tickets k ≡ Some t → IsFine s t

abbrev pub AreSteadyOps : Start → Ops → Type 0
AreSteadyOps s ops = (o : ℕ) (op : Op) (z : ShardWork) → fin.get ops o ≡ Some op → Has op.shards z → IsOfSteady s op.source z

-- where one of the deletes is a cleanup this holds
abbrev pub AreCleanups : Type 0 → Deletes → Type 0
AreCleanups asks deletes = (d : ℕ) (x : Deletion) → fin.get deletes d ≡ Some x → x.clean ≡ true → asks

-- a cleanup was asked where one is open
pub record IsQuiet (s : Start) (asks : Type 0) (w : World) : Type 0 where
  pub present : w.deposed ≡ false
  pub cleanups : AreCleanups asks w.deletes
  pub ops : AreSteadyOps s w.ops
  pub tickets : AreFine s w.tickets

module _ (asks : Type 0) where
  left_cleanups : (deletes : Deletes) (d : ℕ) → AreCleanups asks deletes → AreCleanups asks (fin.remove deletes d)
  left_cleanups deletes d h e x there = h e x (left_in deletes d e x there).1

  -- some leave, or all stay
  settled_cleanups : (deletes : Deletes) (d : ℕ) (stays : Bool) → AreCleanups asks deletes → AreCleanups asks (if stays then deletes else fin.remove deletes d)
  settled_cleanups deletes d true h = h
  settled_cleanups deletes d false h = left_cleanups deletes d h

  put_cleanups : (deletes : Deletes) (d : ℕ) (x : Deletion) → (x.clean ≡ true → asks) → AreCleanups asks deletes → AreCleanups asks (fin.insert deletes d x)
  put_cleanups deletes d x mine h e y there = elim (was_in deletes d x e y there) [ inl is ↦ λ clean. mine (ap (λ (z : Deletion). z.clean) is.1 ∙ clean) | inr is ↦ h e y is.1 ]

  -- a delete is none
  none_clean : false ≡ true → asks
  none_clean e = absurd (true≢false (sym e))

  -- those that opening keeps
  numbered_cleanups : (number : ℕ) (kept : List (List ℕ)) → AreCleanups asks (numbered_deletes number kept)
  numbered_cleanups number [] d x there = absurd (nothing fin.empty d x refl there)
  numbered_cleanups number (uuids ∷ kept) d x there = put_cleanups (numbered_deletes (suc number) kept) number (record { uuids = uuids; clean = false; failed = false }) none_clean (numbered_cleanups (suc number) kept) d x there

-- the shard is that of the same address
record IsSame (a b : ShardWork) : Type 0 where
  place : b.place ≡ a.place
  name : b.ref.name ≡ a.ref.name
  number : b.number ≡ a.number

same_given : (k index number : ℕ) (z : ShardWork) → IsSame z (given k index number z)
same_given k index number z = go ((z.ref.id == index) && (z.number == number))
  where
    go : (b : Bool) → IsSame z (if b then record z { state = Out k } else z)
    go true = record { place = refl; name = refl; number = refl }
    go false = record { place = refl; name = refl; number = refl }

same_either : (b : Bool) (state : ShardState) (z : ShardWork) → IsSame z (if b then record z { state = state } else z)
same_either true state z = record { place = refl; name = refl; number = refl }
same_either false state z = record { place = refl; name = refl; number = refl }

same_marked : (k : ℕ) (new : ShardState) (z : ShardWork) → IsSame z (marked k new z)
same_marked k new z = go z.state
  where
    go : (state : ShardState) → IsSame z (marked_by k new z state)
    go (Out j) = same_either (j == k) new z
    go state = record { place = refl; name = refl; number = refl }

same_fails : (k : ℕ) (z : ShardWork) → IsSame z (fails k z)
same_fails k z = go z.state
  where
    go : (state : ShardState) → IsSame z (fails_by k z state)
    go (Out j) = same_either (j == k) GivenUp z
    go state = record { place = refl; name = refl; number = refl }

same_steady : (s : Start) (source : Option ℕ) (a b : ShardWork) → IsSame a b → IsOfSteady s source a → IsOfSteady s source b
same_steady s None a b same steady = (λ j. s.steady (same.place j) (same.name j) (same.number j)) ∙ steady
same_steady s (Some source) a b same steady = tt

-- the shards go on
mapped_steady : (s : Start) (source : Option ℕ) (shards : List ShardWork) (g : ShardWork → ShardWork) → ((z : ShardWork) → IsSame z (g z)) → ((z : ShardWork) → Has shards z → IsOfSteady s source z) → (z : ShardWork)
    → Has (map g shards) z → IsOfSteady s source z
mapped_steady s source shards g same steady z h = let (x, m, e) = Has-mapped g shards z h in subst (IsOfSteady s source) e (same_steady s source x (g x) (same x) (steady x m))

-- an op is put whose shards are steady
put_steady : (s : Start) (ops : Ops) (o : ℕ) (op : Op) → ((z : ShardWork) → Has op.shards z → IsOfSteady s op.source z) → AreSteadyOps s ops → AreSteadyOps s (fin.insert ops o op)
put_steady s ops o op mine steady p q z there h = elim (was_in ops o op p q there) [ inl e ↦ subst (λ (x : Op). (y : ShardWork) → Has x.shards y → IsOfSteady s x.source y) e.1 mine z h | inr e ↦ steady p q z e.1 h ]

put_fine : (s : Start) (tickets : Tickets) (k : ℕ) (v : Ticket) → IsFine s v → AreFine s tickets → AreFine s (fin.insert tickets k v)
put_fine s tickets k v mine fine p t there = elim (was_in tickets k v p t there) [ inl e ↦ subst (IsFine s) e.1 mine | inr e ↦ fine p t e.1 ]

ref_shards : (a : AskedIndex) (known : Option ℕ) (next : ℕ) → (ref_by a known next).shards ≡ a.shards
ref_shards a None next = refl
ref_shards a (Some id) next = refl

-- the shard is one of the index
record IsShardOf (a : AskedIndex) (r : IndexRef) (first count : ℕ) (z : ShardWork) : Type 0 where
  place : z.place ≡ a.place
  name : z.ref.name ≡ r.name
  number : z.number < first + count

pending_of : (a : AskedIndex) (r : IndexRef) (first count : ℕ) (z : ShardWork) → Has (pending_shards a r first count) z → IsShardOf a r first count z
pending_of a r first zero z h = absurd h
pending_of a r first (suc n) z (inl e) =
    let is : first ≡ z.number = ap (λ (x : ShardWork). x.number) e in
    record { place = ap (λ (x : ShardWork). x.place) (sym e); name = ap (λ (x : ShardWork). x.ref.name) (sym e); number = omega (arith, is) }
pending_of a r first (suc n) z (inr h) = let rest = pending_of a r (suc first) n z h in let below : z.number < suc first + n = rest.number in record { place = rest.place; name = rest.name; number = omega (arith, below) }

asked_steady : (s : Start) (w : World) (next : ℕ) (indices : List AskedIndex) → IsSteady s indices → (z : ShardWork) → Has (all_pending indices (refs_from w next indices)) z → IsOfSteady s None z
asked_steady s w next [] steady z h = absurd h
asked_steady s w next (a ∷ indices) steady z h =
    let r : IndexRef = ref_by a (known_id w a.name) next in
    elim (Has-either (pending_shards a r 0 r.shards) (all_pending indices (refs_from w (next_by (known_id w a.name) next) indices)) z h) [
      | inl m ↦
          let x = pending_of a r 0 r.shards z m in
          let below : z.number < 0 + r.shards = x.number in
          let count : r.shards ≡ a.shards = ref_shards a (known_id w a.name) next in
          (λ j. s.steady (x.place j) ((x.name ∙ ref_name a (known_id w a.name) next) j) z.number) ∙ steady a z.number (inl refl) (omega (arith, below, count))
      | inr m ↦ asked_steady s w (next_by (known_id w a.name) next) indices (λ b number m. steady b number (inr m)) z m
    ]

module _ (s : Start) (asks : Type 0) where
  quiet_change : (w : World) → IsQuiet s asks w → (k : ℕ) (g : Ticket → Ticket) → ((t : Ticket) → IsFine s t → IsFine s (g t)) → (o : Option Ticket) → fin.get w.tickets k ≡ o → IsQuiet s asks (with_given w k g o)
  quiet_change w q k g like None there = q
  quiet_change w q k g like (Some t) there = record { present = q.present; cleanups = q.cleanups; ops = q.ops; tickets = put_fine s w.tickets k (g t) (like t (q.tickets k t there)) q.tickets }

  quiet_asked : (w : World) → IsQuiet s asks w → (name : Bytes) (indices : List AskedIndex) (moment : ℕ) → IsSteady s indices → IsQuiet s asks (asked w (Snapshot name indices moment))
  quiet_asked w q name indices moment steady =
      record {
        present = q.present;
        cleanups = q.cleanups;
        ops = put_steady s w.ops w.next_op (asked_op w name indices moment) (asked_steady s w (suc w.next_id) indices steady) q.ops;
        tickets = q.tickets;
      }

  quiet_cloned : (w : World) → IsQuiet s asks w → (source name : Bytes) (names : List Bytes) (moment : ℕ) (taken : Option CloneOf) → IsQuiet s asks (asked w (Clone source name names moment taken))
  quiet_cloned w q source name names moment None = q
  quiet_cloned w q source name names moment (Some taken) =
      record {
        present = q.present;
        cleanups = q.cleanups;
        ops = put_steady s w.ops w.next_op (cloned_op w name moment taken) (λ z h. tt) q.ops;
        tickets = q.tickets;
      }

  -- restores, their tickets and numbers aside
  quiet_same : (w v : World) → IsQuiet s asks w → v.deposed ≡ w.deposed → v.deletes ≡ w.deletes → v.ops ≡ w.ops → v.tickets ≡ w.tickets → IsQuiet s asks v
  quiet_same w v q deposed deletes ops tickets =
      record {
        present = deposed ∙ q.present;
        cleanups = subst (AreCleanups asks) (sym deletes) q.cleanups;
        ops = subst (AreSteadyOps s) (sym ops) q.ops;
        tickets = subst (AreFine s) (sym tickets) q.tickets;
      }

  found_in : (shards : List ShardWork) (index number : ℕ) (z : ShardWork) → shard_of shards index number ≡ Some z → Has shards z
  found_in [] index number z e = absurd (some_none z (sym e))
  found_in (x ∷ shards) index number z e = go (shard_of shards index number) (λ is. found_in shards index number z is) ((x.ref.id == index) && (x.number == number)) e
    where
      go : (later : Option ShardWork) → (later ≡ Some z → Has shards z) → (b : Bool) → (if b then Some x else later) ≡ Some z → Has (x ∷ shards) z
      go later rest true is = inl (same_Some x z is)
      go later rest false is = inr (rest is)

  drop_shard : (index number : ℕ) → Drop ≡ Shard index number → ⊥
  drop_shard index number e = cc

  one_number : (i n index number : ℕ) → Shard i n ≡ Shard index number → n ≡ number
  one_number i n index number e = cc

  quiet_shard : (w : World) → IsQuiet s asks w → (o : ℕ) (op : Op) (base : Option ℕ) → fin.get w.ops o ≡ Some op → (found : Option ShardWork) → ((z : ShardWork) → found ≡ Some z → Has op.shards z)
      → IsQuiet s asks (taken_shard w o op base found)
  quiet_shard w q o op base there None has = q
  quiet_shard w q o op base there (Some z) has =
      let steady : (x : ShardWork) → Has op.shards x → IsOfSteady s op.source x = λ x h. q.ops o op x there h in
      record {
        present = q.present;
        cleanups = q.cleanups;
        ops = put_steady s w.ops o (record op { shards = map (given w.next_ticket z.ref.id z.number) op.shards }) (mapped_steady s op.source op.shards (given w.next_ticket z.ref.id z.number) (same_given w.next_ticket z.ref.id z.number) steady) q.ops;
        tickets = put_fine s w.tickets w.next_ticket (shard_ticket w o op z base) (record {
          steady = λ index number e. subst (IsSteadyAt s op.source z.place z.ref.name) (one_number z.ref.id z.number index number e) (steady z (has z refl));
        }) q.tickets;
      }

  quiet_restore_shard : (w : World) → IsQuiet s asks w → (o : ℕ) (r : Restoring) (found : Option RestoreShard) → IsQuiet s asks (taken_restore_shard w o r found)
  quiet_restore_shard w q o r None = q
  quiet_restore_shard w q o r (Some z) = quiet_same w _ q refl refl refl refl

  quiet_restore : (w : World) → IsQuiet s asks w → (o index number : ℕ) (found : Option Restoring) → IsQuiet s asks (taken_restore w o index number found)
  quiet_restore w q o index number None = q
  quiet_restore w q o index number (Some r) = quiet_restore_shard w q o r (restore_shard r.shards index number)

  quiet_taken : (f : Formats) (w : World) → IsQuiet s asks w → (o : ℕ) (unit : Given) (op : Option Op) → fin.get w.ops o ≡ op → IsQuiet s asks (taken_by f w o unit op)
  quiet_taken f w q o (GivenShard index number base) (Some op) there = quiet_shard w q o op base there (shard_of op.shards index number) (λ z e. found_in op.shards index number z e)
  quiet_taken f w q o (GivenClone index number source base) (Some op) there = quiet_shard w q o op base there (shard_of op.shards index number) (λ z e. found_in op.shards index number z e)
  quiet_taken f w q o (GivenFinalize info results) (Some op) there =
      record {
        present = q.present;
        cleanups = q.cleanups;
        ops = q.ops;
        tickets = put_fine s w.tickets w.next_ticket (final_ticket f w o op results) (record { steady = λ i n e. absurd cc }) q.tickets;
      }
  quiet_taken f w q o GivenDrop op there =
      record { present = q.present; cleanups = q.cleanups; ops = q.ops; tickets = put_fine s w.tickets w.next_ticket _ (record { steady = λ i n e. absurd (drop_shard i n e) }) q.tickets }
  quiet_taken f w q o (GivenRestore index number uuid) op there = quiet_restore w q o index number (fin.get w.restores o)
  quiet_taken f w q o (GivenDelete uuids) op there =
      record { present = q.present; cleanups = q.cleanups; ops = q.ops; tickets = put_fine s w.tickets w.next_ticket (plain_ticket w o (Deleting uuids None)) (record { steady = λ i n e. absurd cc }) q.tickets }
  quiet_taken f w q o GivenCleanup op there =
      record { present = q.present; cleanups = q.cleanups; ops = q.ops; tickets = put_fine s w.tickets w.next_ticket (cleaning_ticket w o) (record { steady = λ i n e. absurd cc }) q.tickets }
  quiet_taken f w q o unit op there = q

  quiet_drawn : (w : World) → IsQuiet s asks w → (k n : ℕ) (o : Option Ticket) → fin.get w.tickets k ≡ o → IsQuiet s asks (record (with_given w k (λ t. record t { first = w.next_id; drawn = n }) o) { next_id = w.next_id + n })
  quiet_drawn w q k n o there = let x = quiet_change w q k (λ t. record t { first = w.next_id; drawn = n }) (λ t h. h) o there in record { present = x.present; cleanups = x.cleanups; ops = x.ops; tickets = x.tickets }

  quiet_raised : (w : World) → IsQuiet s asks w → (k : ℕ) (o : Option Ticket) → fin.get w.tickets k ≡ o → IsQuiet s asks (record (with_given w k (λ t. record t { raised = Some w.pending }) o) { pending = suc w.pending })
  quiet_raised w q k o there = let x = quiet_change w q k (λ t. record t { raised = Some w.pending }) (λ t h. h) o there in record { present = x.present; cleanups = x.cleanups; ops = x.ops; tickets = x.tickets }

  removed_steady : (ops : Ops) (o : ℕ) → AreSteadyOps s ops → AreSteadyOps s (fin.remove ops o)
  removed_steady ops o steady p op z there h = steady p op z (left_in ops o p op there).1 h

  quiet_settled_by : (f : Formats) (w : World) → IsQuiet s asks w → (k : ℕ) (t : Ticket) → fin.get w.tickets k ≡ Some t → (change : Option Swap) (n : Option ℕ) → IsQuiet s asks (settled_by f w k t change n)
  quiet_settled_by f w q k t there (Some change) (Some n) =
      record { present = q.present; cleanups = left_cleanups asks w.deletes t.op q.cleanups; ops = removed_steady w.ops t.op q.ops; tickets = put_fine s w.tickets k (record t { settled = true }) (q.tickets k t there) q.tickets }
  quiet_settled_by f w q k t there change n = q

  quiet_settled : (f : Formats) (w : World) → IsQuiet s asks w → (k : ℕ) (o : Option Ticket) → fin.get w.tickets k ≡ o → IsQuiet s asks (settled_of f w k o)
  quiet_settled f w q k None there = q
  quiet_settled f w q k (Some t) there = quiet_settled_by f w q k t there (swap f t) t.raised

  quiet_done_by : (w : World) → IsQuiet s asks w → (k : ℕ) (r : ShardResult) (t : Ticket) → fin.get w.tickets k ≡ Some t → (op : Option Op) → fin.get w.ops t.op ≡ op → IsQuiet s asks (done_by w k r t op)
  quiet_done_by w q k r t there None op_there = q
  quiet_done_by w q k r t there (Some op) op_there =
      record {
        present = q.present;
        cleanups = q.cleanups;
        ops = put_steady s w.ops t.op (record op { shards = map (marked k (Done r)) op.shards }) (mapped_steady s op.source op.shards (marked k (Done r)) (same_marked k (Done r)) (λ z h. q.ops t.op op z op_there h)) q.ops;
        tickets = put_fine s w.tickets k (record t { out = false }) (q.tickets k t there) q.tickets;
      }

  quiet_done : (w : World) → IsQuiet s asks w → (k : ℕ) (r : ShardResult) (o : Option Ticket) → fin.get w.tickets k ≡ o → IsQuiet s asks (done_of w k r o)
  quiet_done w q k r None there = q
  quiet_done w q k r (Some t) there = quiet_done_by w q k r t there (fin.get w.ops t.op) refl

  quiet_failed_by : (w : World) → IsQuiet s asks w → (k : ℕ) (t : Ticket) → fin.get w.tickets k ≡ Some t → (op : Option Op) → fin.get w.ops t.op ≡ op → IsQuiet s asks (failed_by w k t op)
  quiet_failed_by w q k t there None op_there = q
  quiet_failed_by w q k t there (Some op) op_there =
      record {
        present = q.present;
        cleanups = q.cleanups;
        ops = put_steady s w.ops t.op (record op { shards = map (fails k) op.shards; failed = true }) (mapped_steady s op.source op.shards (fails k) (same_fails k) (λ z h. q.ops t.op op z op_there h)) q.ops;
        tickets = put_fine s w.tickets k (record t { out = false }) (q.tickets k t there) q.tickets;
      }

  quiet_either : (a b : World) (first : Bool) → IsQuiet s asks a → IsQuiet s asks b → IsQuiet s asks (if first then a else b)
  quiet_either a b true of_a of_b = of_a
  quiet_either a b false of_a of_b = of_b

  quiet_failed : (w : World) → IsQuiet s asks w → (k : ℕ) (o : Option Ticket) → fin.get w.tickets k ≡ o → IsQuiet s asks (failed_of w k o)
  quiet_failed w q k None there = q
  quiet_failed w q k (Some t) there =
      quiet_either _ (failed_by w k t (fin.get w.ops t.op)) (is_stale w t t.work)
      (record { present = q.present; cleanups = q.cleanups; ops = q.ops; tickets = put_fine s w.tickets k (record t { out = false }) (q.tickets k t there) q.tickets })
      (quiet_failed_by w q k t there (fin.get w.ops t.op) refl)

  quiet_dropped : (w : World) → IsQuiet s asks w → (k : ℕ) (o : Option Ticket) → fin.get w.tickets k ≡ o → IsQuiet s asks (dropped_of w k o)
  quiet_dropped w q k None there = q
  quiet_dropped w q k (Some t) there =
      record { present = q.present; cleanups = left_cleanups asks w.deletes t.op q.cleanups; ops = removed_steady w.ops t.op q.ops; tickets = put_fine s w.tickets k (record t { out = false }) (q.tickets k t there) q.tickets }

  fine_committing : (name : BlobName) (o : Option Bytes) (t : Ticket) → IsFine s t → IsFine s (committing name o t)
  fine_committing name None t h = h
  fine_committing name (Some bytes) t h = h

  fine_fetching : (name : BlobName) (o : Option Bytes) (t : Ticket) → IsFine s t → IsFine s (fetching name o t)
  fine_fetching name None t h = h
  fine_fetching name (Some bytes) t h = h

  -- steps that read leave ops and tickets
  quiet_told : (w : World) → IsQuiet s asks w → (k : ℕ) (name : BlobName) (bytes : Option Bytes) (reader : Option Reader) → IsQuiet s asks (read_told w k name bytes reader)
  quiet_told w q k name bytes None = q
  quiet_told w q k name None (Some reader) = q
  quiet_told w q k name (Some b) (Some reader) = quiet_same w _ q refl refl refl refl

  quiet_over_shard : (w : World) → IsQuiet s asks w → (k : ℕ) (state : ReadState) (reader : Reader) (r : Option Restoring) → IsQuiet s asks (shard_over w k state reader r)
  quiet_over_shard w q k state reader None = q
  quiet_over_shard w q k state reader (Some r) = quiet_same w _ q refl refl refl refl

  quiet_over : (w : World) → IsQuiet s asks w → (k : ℕ) (state : ReadState) (reader : Option Reader) → IsQuiet s asks (read_over w k state reader)
  quiet_over w q k state None = q
  quiet_over w q k state (Some reader) = quiet_over_shard w q k state reader (fin.get w.restores reader.op)

  quiet_read : (f : Formats) (w : World) → IsQuiet s asks w → (k : ℕ) (read : Read) (reply : Reply) (image : Option Image) → IsQuiet s asks (read_step f w k read reply image)
  quiet_read f w q k (ReadBlob name) WasFetched image = quiet_told w q k name (told_blob f image name) (fin.get w.readers k)
  quiet_read f w q k (RestoredShard files bytes) reply image = quiet_over w q k (Restored files bytes) (fin.get w.readers k)
  quiet_read f w q k (ReadFails why) reply image = quiet_over w q k (NotRestored why) (fin.get w.readers k)
  quiet_read f w q k read reply image = q

  quiet_read_by : (f : Formats) (w : World) → IsQuiet s asks w → (k : ℕ) (read : Read) (reply : Reply) (image : Option Image) → IsQuiet s asks (read_by f w k read reply image)
  quiet_read_by f w q zero DrawTest (DrawnFrom first) image = quiet_same w _ q refl refl refl refl
  quiet_read_by f w q zero (CommitTest name) WasDone image = quiet_same w _ q refl refl refl refl
  quiet_read_by f w q zero read reply image = q
  quiet_read_by f w q (suc k) read reply image = quiet_read f w q (suc k) read reply image

  quiet_aborted : (w : World) → IsQuiet s asks w → (ops : Ops) (by : ℕ) → Aborts w.ops ops by → (deletes : Deletes) → AreCleanups asks deletes → (next_op : ℕ)
      → IsQuiet s asks (record w { ops = ops; deletes = deletes; next_op = next_op })
  quiet_aborted w q ops by a deletes cleanups next_op =
      record {
        present = q.present;
        cleanups = cleanups;
        ops = λ o op z there h.
            let (old, was, how) = a.was o op there in
            let same = was_shards op old by how in
            subst (λ (source : Option ℕ). IsOfSteady s source z) (sym same.2) (q.ops o old z was (subst (λ (shards : List ShardWork). Has shards z) same.0 h));
        tickets = q.tickets;
      }

  quiet_merged : (w : World) → IsQuiet s asks w → (names : List Bytes) (d : ℕ) (found : Option Deletion) → fin.get w.deletes d ≡ found → IsQuiet s asks (delete_merged w names d found)
  quiet_merged w q names d None there = q
  quiet_merged w q names d (Some x) there =
      quiet_aborted w q (aborted_ops w (named_uuids w names) d) d (aborts w (named_uuids w names) d) (fin.insert w.deletes d (record x { uuids = with_named w x.uuids names }))
      (put_cleanups asks w.deletes d (record x { uuids = with_named w x.uuids names }) (q.cleanups d x there) q.cleanups) w.next_op

  quiet_delete : (w : World) → IsQuiet s asks w → (names : List Bytes) (waiting running : Option ℕ) → IsQuiet s asks (delete_by w names waiting running)
  quiet_delete w q names (Some d) running = quiet_merged w q names d (fin.get w.deletes d) refl
  quiet_delete w q names None (Some d) = q
  quiet_delete w q names None None =
      let x : Deletion = record { uuids = named_uuids w names; clean = false; failed = false } in
      quiet_aborted w q (aborted_ops w (named_uuids w names) w.next_op) w.next_op (aborts w (named_uuids w names) w.next_op) (fin.insert w.deletes w.next_op x) (put_cleanups asks w.deletes w.next_op x (none_clean asks) q.cleanups) (suc w.next_op)

  quiet_opened_cleanup : (w : World) → IsQuiet s asks w → asks → IsQuiet s asks (cleanup_opened w)
  quiet_opened_cleanup w q asked =
      record { present = q.present; cleanups = put_cleanups asks w.deletes w.next_op (record { uuids = []; clean = true; failed = false }) (λ clean. asked) q.cleanups; ops = q.ops; tickets = q.tickets }

  -- a plan is of no shard
  planned_shard : (f : Formats) (t : Ticket) (shards : List PrunedShard) (first : ℕ) (work : Work) (index number : ℕ) → planned_work f t shards first work ≡ Shard index number → work ≡ Shard index number
  planned_shard f t shards first (Deleting uuids plan) index number e = absurd (cc)
  planned_shard f t shards first work index number e = e

  fine_planned : (f : Formats) (shards : List PrunedShard) (first : ℕ) (t : Ticket) → IsFine s t → IsFine s (planned f shards first t)
  fine_planned f shards first t h = record { steady = λ index number e. h.steady index number (planned_shard f t shards first t.work index number e) }

  quiet_deleted_by : (f : Formats) (w : World) → IsQuiet s asks w → (k : ℕ) (t : Ticket) → fin.get w.tickets k ≡ Some t → (change : Option Swap) (n : Option ℕ) → IsQuiet s asks (delete_settled_by f w k t change n)
  quiet_deleted_by f w q k t there (Some change) (Some n) =
      record { present = q.present; cleanups = settled_cleanups asks w.deletes t.op t.clean q.cleanups; ops = removed_steady w.ops t.op q.ops; tickets = put_fine s w.tickets k (record t { settled = true }) (q.tickets k t there) q.tickets }
  quiet_deleted_by f w q k t there change n = q

  quiet_deleted : (f : Formats) (w : World) → IsQuiet s asks w → (k : ℕ) (o : Option Ticket) → fin.get w.tickets k ≡ o → IsQuiet s asks (delete_settled f w k o)
  quiet_deleted f w q k None there = q
  quiet_deleted f w q k (Some t) there = quiet_deleted_by f w q k t there (swap f t) t.raised

  quiet_undeleted_by : (w : World) → IsQuiet s asks w → (k : ℕ) (t : Ticket) → fin.get w.tickets k ≡ Some t → (x : Option Deletion) → fin.get w.deletes t.op ≡ x → IsQuiet s asks (delete_failed_by w k t x)
  quiet_undeleted_by w q k t there None x_there = q
  quiet_undeleted_by w q k t there (Some x) x_there =
      record {
        present = q.present;
        cleanups = put_cleanups asks w.deletes t.op (record x { failed = true }) (q.cleanups t.op x x_there) q.cleanups;
        ops = q.ops;
        tickets = put_fine s w.tickets k (record t { out = false }) (q.tickets k t there) q.tickets;
      }

  quiet_undeleted : (w : World) → IsQuiet s asks w → (k : ℕ) (o : Option Ticket) → fin.get w.tickets k ≡ o → IsQuiet s asks (delete_failed w k o)
  quiet_undeleted w q k None there = q
  quiet_undeleted w q k (Some t) there =
      quiet_either _ (delete_failed_by w k t (fin.get w.deletes t.op)) (is_stale w t t.work)
      (record { present = q.present; cleanups = q.cleanups; ops = q.ops; tickets = put_fine s w.tickets k (record t { out = false }) (q.tickets k t there) q.tickets })
      (quiet_undeleted_by w q k t there (fin.get w.deletes t.op) refl)

  quiet_pruned : (f : Formats) (w : World) → IsQuiet s asks w → (k : ℕ) (prune : Prune) (reply : Reply) (image : Option Image) → IsQuiet s asks (prune_step f w k prune reply image)
  quiet_pruned f w q k (FetchShard name) WasFetched image = quiet_change w q k (fetching name (told_blob f image name)) (fine_fetching name (told_blob f image name)) (fin.get w.tickets k) refl
  quiet_pruned f w q k (FetchShard name) reply image = q
  quiet_pruned f w q k (PlanShards shards) reply image =
      let x = quiet_change w q k (planned f shards w.next_id) (fine_planned f shards w.next_id) (fin.get w.tickets k) refl in
      record { present = x.present; cleanups = x.cleanups; ops = x.ops; tickets = x.tickets }
  quiet_pruned f w q k SettlePruned reply image = quiet_deleted f w q k (fin.get w.tickets k) refl
  quiet_pruned f w q k (RemoveDoomed names) reply image = quiet_same w _ q refl refl refl refl
  quiet_pruned f w q k EndDelete reply image = quiet_change w q k (λ t. record t { out = false }) (λ t x. x) (fin.get w.tickets k) refl
  quiet_pruned f w q k (DeleteFails why) reply image = quiet_undeleted w q k (fin.get w.tickets k) refl

  -- what is asked is steady
  record Suits (step : Step) : Type 0 where
    steady : (name : Bytes) (indices : List AskedIndex) (moment : ℕ) → step ≡ AskStep (Snapshot name indices moment) → IsSteady s indices
    cleans : step ≡ AskStep Cleanup → asks

  quiet_step : (f : Formats) (w : World) → IsQuiet s asks w → (k : ℕ) (step : Step) (reply : Reply) (image : Option Image) → Suits step → IsQuiet s asks (done_step f w k step reply image)
  quiet_step f w q k (AskStep (Snapshot name indices moment)) reply image h = quiet_asked w q name indices moment (h.steady name indices moment refl)
  quiet_step f w q k (AskStep (Clone source name names moment taken)) reply image h = quiet_cloned w q source name names moment taken
  quiet_step f w q k (AskStep (DeleteSnapshots names)) reply image h = quiet_delete w q names (waiting_delete w) (running_delete w (named_uuids w names))
  quiet_step f w q k (AskStep (Restore name place)) (AcceptedRestore o uuid indices) image h = quiet_same w _ q refl refl refl refl
  quiet_step f w q k (AskStep Cleanup) reply image h = quiet_opened_cleanup w q (h.cleans refl)
  quiet_step f w q k TakeStep (Gave ticket op unit) image h = quiet_taken f w q op unit (fin.get w.ops op) refl
  quiet_step f w q k (DrawStep n) reply image h = quiet_drawn w q k n (fin.get w.tickets k) refl
  quiet_step f w q k (CommitStep name) WasDone image h = quiet_change w q k (committing name (told_blob f image name)) (fine_committing name (told_blob f image name)) (fin.get w.tickets k) refl
  quiet_step f w q k (CommitStep name) WasThere image h = quiet_change w q k (λ t. noting t name) (λ t x. x) (fin.get w.tickets k) refl
  quiet_step f w q k LatestStep reply image h = quiet_change w q k (λ t. record t { tried_latest = true }) (λ t x. x) (fin.get w.tickets k) refl
  quiet_step f w q k (FetchStep name) WasFetched image h = quiet_change w q k (fetching name (told_blob f image name)) (fine_fetching name (told_blob f image name)) (fin.get w.tickets k) refl
  quiet_step f w q k (ListStep from) (WasListed page) image h = quiet_change w q k (λ t. listing t page) (λ t x. x) (fin.get w.tickets k) refl
  quiet_step f w q k RaiseStep reply image h = quiet_raised w q k (fin.get w.tickets k) refl
  quiet_step f w q k SettleStep reply image h = quiet_settled f w q k (fin.get w.tickets k) refl
  quiet_step f w q k (DoneStep result) reply image h = quiet_done w q k result (fin.get w.tickets k) refl
  quiet_step f w q k (FailedStep why) reply image h = quiet_failed w q k (fin.get w.tickets k) refl
  quiet_step f w q k FinishStep reply image h = quiet_change w q k (λ t. record t { out = false }) (λ t x. x) (fin.get w.tickets k) refl
  quiet_step f w q k DroppedStep reply image h = quiet_dropped w q k (fin.get w.tickets k) refl
  quiet_step f w q k ElectStep reply image h = quiet_same w _ q refl refl refl refl
  quiet_step f w q k (ReadStep read) reply image h = quiet_read_by f w q k read reply image
  quiet_step f w q k (PruneStep prune) reply image h = quiet_pruned f w q k prune reply image
  quiet_step f w q k step reply image h = q

  quiet_answered : (f : Formats) (w : World) → IsQuiet s asks w → (k : ℕ) (step : Step) (reply : Reply) (image : Option Image) → Suits step → reply ≢ Refused DepotFault → IsQuiet s asks (answered f w k step reply image)
  quiet_answered f w q k step (Refused DepotFault) image h calm = absurd (calm refl)
  quiet_answered f w q k step (Refused refusal) image h calm = q
  quiet_answered f w q k step reply image h calm = quiet_step f w q k step reply image h

  quiet_after : (f : Formats) (w : World) → IsQuiet s asks w → (m : Moment) → Suits m.entry.step → m.entry.reply ≢ Refused DepotFault → IsQuiet s asks (after f w m)
  quiet_after f w q m h calm = let x = quiet_answered f w q m.entry.who m.entry.step m.entry.reply m.image h calm in record { present = x.present; cleanups = x.cleanups; ops = x.ops; tickets = x.tickets }

  -- what who 0 asks is steady
  quiet_one : (f : Formats) (size : ℕ) (w : World) → IsQuiet s asks w → (m : Moment) → Allowed f size w m
      → ((name : Bytes) (indices : List AskedIndex) (moment : ℕ) → m.entry.who ≡ 0 → m.entry.step ≡ AskStep (Snapshot name indices moment) → IsSteady s indices) → (m.entry.who ≡ 0 → m.entry.step ≡ AskStep Cleanup → asks)
      → m.entry.reply ≢ Refused DepotFault → IsQuiet s asks (after f w m)
  quiet_one f size w q m a steady cleans calm = elim (maker f size w m a) [
    | inl made ↦ quiet_after f w q m (record {
      steady = λ name indices moment e. steady name indices moment (made_zero w m.entry.who m.entry.step made (subst AsksOrElects (sym e) tt)) e;
      cleans = λ e. cleans (made_zero w m.entry.who m.entry.step made (subst AsksOrElects (sym e) tt)) e;
    }) calm
    | inr blocked ↦ subst (IsQuiet s asks) (sym (blocked_stays f w m blocked)) (record { present = q.present; cleanups = q.cleanups; ops = q.ops; tickets = q.tickets })
  ]

  pub quiet_history : (f : Formats) (size : ℕ) (log : List Moment) (w : World) → IsQuiet s asks w → IsLegal f size w log → AreSteady s log → ((m : Moment) → Has log m → m.entry.who ≡ 0 → m.entry.step ≡ AskStep Cleanup → asks)
      → AreCalm log
      → IsQuiet s asks (world_from f w log)
  quiet_history f size [] w q legal steady cleans calm = q
  quiet_history f size (m ∷ log) w q legal steady cleans calm =
      quiet_history f size log (after f w m)
      (quiet_one f size w q m legal.0 (λ name indices moment who e. steady m name indices moment (inl refl) who e) (cleans m (inl refl)) (calm m (inl refl))) legal.1
      (λ n name indices moment h. steady n name indices moment (inr h)) (λ n h. cleans n (inr h)) (λ n h. calm n (inr h))

  none_open : AreSteadyOps s fin.empty
  none_open o op z there h = absurd (nothing fin.empty o op refl there)

  none_given : AreFine s fin.empty
  none_given k t there = absurd (nothing fin.empty k t refl there)

  pub quiet_opened : (f : Formats) (image : Image) (w : World) → Opened f image w → IsQuiet s asks w
  quiet_opened f image w (OpenedEmpty none) = record { present = refl; cleanups = numbered_cleanups asks 1 []; ops = none_open; tickets = none_given }
  quiet_opened f image w (OpenedRecord cluster text root there reads is) = record { present = refl; cleanups = numbered_cleanups asks 1 (kept_deletes cluster.ops); ops = none_open; tickets = none_given }
