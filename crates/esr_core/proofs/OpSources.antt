-- What an open op copies after a step, where each copied so and the step opens only such ops.
use Rattle.std.proofs.Common.{◌≡◌, ℕ, zero, suc, List, Bool, true, false, Option, Some, None, map, refl, sym, ap, subst, inl, inr}
use Rattle.std.specs.Prelude.{if◌then◌else◌}
use Rattle.std.specs.FinMap as fin
use Rattle.esr_core.specs.Laws.NumberMaps.{was_in, left_in}
use Rattle.esr_model.specs.Names.{BlobName}
use Rattle.esr_model.specs.Values.{Bytes, ShardResult, Formats}
use Rattle.esr_model.specs.Image.{Image}
use Rattle.esr_core.specs.World.{World, Op, Deletion, ShardWork, Swap, Ticket, Done, swap, marked, record_of}
use Rattle.esr_core.specs.Steps.{noting, listing, with_ticket, given}
use Rattle.esr_core.specs.Turns.{fails}
use Rattle.esr_core.specs.Pruning.{planned}
use Rattle.esr_core.specs.Deletes.{named_uuids, waiting_delete, running_delete, aborted_ops, delete_merged, delete_by}
use Rattle.esr_core.specs.Entry.{Asked, Snapshot, Clone, DeleteSnapshots, AsksNoClone, AsksNoSnapshot, Restore, Given, GivenShard, GivenClone, GivenFinalize, GivenRestore, Read, DrawTest, CommitTest, Prune, FetchShard, PlanShards, SettlePruned, RemoveDoomed, EndDelete, DeleteFails, Step, AskStep, TakeStep, ListStep, WasListed, DrawStep, BeginStep, CommitStep, LatestStep, FetchStep, RaiseStep, SettleStep, DoneStep, FailedStep, FinishStep, DroppedStep, ElectStep, ReadStep, PruneStep, DepotFault, Reply, Gave, DrawnFrom, WasDone, WasThere, WasFetched, HasEnded, Refused, AcceptedRestore, Moment}
use Rattle.esr_core.specs.After.{asked_op, cloned_op, taken_shard, taken_by, shard_of, with_given, change, committing, told_blob, fetching, settled_by, settled_of, done_by, done_of, is_stale, failed_by, failed_of, dropped_of, delete_settled_by, delete_settled, delete_failed_by, delete_failed, prune_step, read_by, done_step, swaps_record, has_text, fallen, is_latest, tried, test_left, faulted, answered, after}
use Rattle.esr_core.specs.Laws.DeleteAsks.{aborts}
use Rattle.esr_core.specs.Laws.Asides.{Aside, aside_step}
use Rattle.esr_core.proofs.Besides.{aside_taken}
use Rattle.esr_core.specs.Laws.Maps.{Ops}

-- each of these ops copies so
abbrev pub SourcesAre : (Option ℕ → Type 0) → Ops → Type 0
SourcesAre p ops = (o : ℕ) (op : Op) → fin.get ops o ≡ Some op → p op.source

-- an op that the step opens does
abbrev Opens : (Option ℕ → Type 0) → Step → Type 0
Opens p (AskStep (Snapshot name indices moment)) = p None
Opens p (AskStep (Clone source name indices moment (Some taken))) = p (Some taken.source)
Opens p step = Unit {0}

module _ (p : Option ℕ → Type 0) where
  put : (ops : Ops) (o : ℕ) (op : Op) → SourcesAre p ops → p op.source → SourcesAre p (fin.insert ops o op)
  put ops o op h so q r e = elim (was_in ops o op q r e) [ inl z ↦ subst (λ (x : Op). p x.source) z.1 so | inr z ↦ h q r z.1 ]

  left : (ops : Ops) (o : ℕ) → SourcesAre p ops → SourcesAre p (fin.remove ops o)
  left ops o h q r e = h q r (left_in ops o q r e).1

  aborted : (w : World) (uuids : List ℕ) (by : ℕ) → SourcesAre p w.ops → SourcesAre p (aborted_ops w uuids by)
  aborted w uuids by h o op e =
      let (old, there, how) = (aborts w uuids by).was o op e in
      let same : op.source ≡ old.source = elim how [ inl q ↦ ap (λ (x : Op). x.source) q | inr q ↦ ap (λ (x : Op). x.source) q ] in
      subst p (sym same) (h o old there)

  -- ---- what leaves the ops

  given_ops : (w : World) (k : ℕ) (g : Ticket → Ticket) (o : Option Ticket) → (with_given w k g o).ops ≡ w.ops
  given_ops w k g None = refl
  given_ops w k g (Some t) = refl

  changed : (w : World) (k : ℕ) (g : Ticket → Ticket) → SourcesAre p w.ops → SourcesAre p (change w k g).ops
  changed w k g h = subst (SourcesAre p) (sym (given_ops w k g (fin.get w.tickets k))) h

  aside : (w new : World) → Aside w new → SourcesAre p w.ops → SourcesAre p new.ops
  aside w new a h = subst (λ (x : World). SourcesAre p x.ops) (sym a.new_is) h

  -- ---- the steps

  taken_shard_sources : (w : World) (o : ℕ) (op : Op) (base : Option ℕ) (s : Option ShardWork) → fin.get w.ops o ≡ Some op → SourcesAre p w.ops → SourcesAre p (taken_shard w o op base s).ops
  taken_shard_sources w o op base None there h = h
  taken_shard_sources w o op base (Some s) there h = put w.ops o (record op { shards = map (given w.next_ticket s.ref.id s.number) op.shards }) h (h o op there)

  taken_sources : (f : Formats) (w : World) (o : ℕ) (unit : Given) (op : Option Op) → fin.get w.ops o ≡ op → SourcesAre p w.ops → SourcesAre p (taken_by f w o unit op).ops
  taken_sources f w o (GivenShard index number base) (Some op) there h = taken_shard_sources w o op base (shard_of op.shards index number) there h
  taken_sources f w o (GivenClone index number source base) (Some op) there h = taken_shard_sources w o op base (shard_of op.shards index number) there h
  taken_sources f w o (GivenFinalize info results) (Some op) there h = h
  taken_sources f w o (GivenRestore index number uuid) op there h = aside w _ (aside_taken w o index number (fin.get w.restores o)) h
  taken_sources f w o unit op there h = h

  settled_by_sources : (f : Formats) (w : World) (k : ℕ) (t : Ticket) (s : Option Swap) (n : Option ℕ) → SourcesAre p w.ops → SourcesAre p (settled_by f w k t s n).ops
  settled_by_sources f w k t (Some s) (Some n) h = left w.ops t.op h
  settled_by_sources f w k t s n h = h

  settled_sources : (f : Formats) (w : World) (k : ℕ) (o : Option Ticket) → SourcesAre p w.ops → SourcesAre p (settled_of f w k o).ops
  settled_sources f w k None h = h
  settled_sources f w k (Some t) h = settled_by_sources f w k t (swap f t) t.raised h

  done_by_sources : (w : World) (k : ℕ) (r : ShardResult) (t : Ticket) (o : Option Op) → fin.get w.ops t.op ≡ o → SourcesAre p w.ops → SourcesAre p (done_by w k r t o).ops
  done_by_sources w k r t None there h = h
  done_by_sources w k r t (Some op) there h = put w.ops t.op (record op { shards = map (marked k (Done r)) op.shards }) h (h t.op op there)

  done_sources : (w : World) (k : ℕ) (r : ShardResult) (o : Option Ticket) → SourcesAre p w.ops → SourcesAre p (done_of w k r o).ops
  done_sources w k r None h = h
  done_sources w k r (Some t) h = done_by_sources w k r t (fin.get w.ops t.op) refl h

  either : (a b : World) (first : Bool) → SourcesAre p a.ops → SourcesAre p b.ops → SourcesAre p (if first then a else b).ops
  either a b true p q = p
  either a b false p q = q

  failed_by_sources : (w : World) (k : ℕ) (t : Ticket) (o : Option Op) → fin.get w.ops t.op ≡ o → SourcesAre p w.ops → SourcesAre p (failed_by w k t o).ops
  failed_by_sources w k t None there h = h
  failed_by_sources w k t (Some op) there h = put w.ops t.op (record op { shards = map (fails k) op.shards; failed = true }) h (h t.op op there)

  failed_sources : (w : World) (k : ℕ) (o : Option Ticket) → SourcesAre p w.ops → SourcesAre p (failed_of w k o).ops
  failed_sources w k None h = h
  failed_sources w k (Some t) h = either (with_ticket w k (record t { out = false })) (failed_by w k t (fin.get w.ops t.op)) (is_stale w t t.work) h (failed_by_sources w k t (fin.get w.ops t.op) refl h)

  dropped_sources : (w : World) (k : ℕ) (o : Option Ticket) → SourcesAre p w.ops → SourcesAre p (dropped_of w k o).ops
  dropped_sources w k None h = h
  dropped_sources w k (Some t) h = left w.ops t.op h

  merged_sources : (w : World) (names : List Bytes) (d : ℕ) (x : Option Deletion) → SourcesAre p w.ops → SourcesAre p (delete_merged w names d x).ops
  merged_sources w names d None h = h
  merged_sources w names d (Some x) h = aborted w (named_uuids w names) d h

  delete_sources : (w : World) (names : List Bytes) (waiting running : Option ℕ) → SourcesAre p w.ops → SourcesAre p (delete_by w names waiting running).ops
  delete_sources w names (Some d) running h = merged_sources w names d (fin.get w.deletes d) h
  delete_sources w names None (Some d) h = h
  delete_sources w names None None h = aborted w (named_uuids w names) w.next_op h

  delete_settled_by_sources : (f : Formats) (w : World) (k : ℕ) (t : Ticket) (s : Option Swap) (n : Option ℕ) → SourcesAre p w.ops → SourcesAre p (delete_settled_by f w k t s n).ops
  delete_settled_by_sources f w k t (Some s) (Some n) h = left w.ops t.op h
  delete_settled_by_sources f w k t s n h = h

  delete_settled_sources : (f : Formats) (w : World) (k : ℕ) (o : Option Ticket) → SourcesAre p w.ops → SourcesAre p (delete_settled f w k o).ops
  delete_settled_sources f w k None h = h
  delete_settled_sources f w k (Some t) h = delete_settled_by_sources f w k t (swap f t) t.raised h

  delete_failed_by_ops : (w : World) (k : ℕ) (t : Ticket) (x : Option Deletion) → (delete_failed_by w k t x).ops ≡ w.ops
  delete_failed_by_ops w k t None = refl
  delete_failed_by_ops w k t (Some x) = refl

  delete_failed_sources : (w : World) (k : ℕ) (o : Option Ticket) → SourcesAre p w.ops → SourcesAre p (delete_failed w k o).ops
  delete_failed_sources w k None h = h
  delete_failed_sources w k (Some t) h =
      either (with_ticket w k (record t { out = false })) (delete_failed_by w k t (fin.get w.deletes t.op)) (is_stale w t t.work) h (subst (SourcesAre p) (sym (delete_failed_by_ops w k t (fin.get w.deletes t.op))) h)

  prune_sources : (f : Formats) (w : World) (k : ℕ) (prune : Prune) (reply : Reply) (image : Option Image) → SourcesAre p w.ops → SourcesAre p (prune_step f w k prune reply image).ops
  prune_sources f w k (FetchShard name) WasFetched image h = changed w k (fetching name (told_blob f image name)) h
  prune_sources f w k (PlanShards shards) reply image h = changed w k (planned f shards w.next_id) h
  prune_sources f w k SettlePruned reply image h = delete_settled_sources f w k (fin.get w.tickets k) h
  prune_sources f w k EndDelete reply image h = changed w k (λ t. record t { out = false }) h
  prune_sources f w k (DeleteFails why) reply image h = delete_failed_sources w k (fin.get w.tickets k) h
  prune_sources f w k prune reply image h = h

  read_sources : (f : Formats) (w : World) (k : ℕ) (read : Read) (reply : Reply) (image : Option Image) → SourcesAre p w.ops → SourcesAre p (read_by f w k read reply image).ops
  read_sources f w zero DrawTest (DrawnFrom first) image h = h
  read_sources f w zero (CommitTest name) WasDone image h = h
  read_sources f w zero read reply image h = h
  read_sources f w (suc k) read reply image h = aside w _ (aside_step f w (suc k) read reply image) h

  step_sources : (f : Formats) (w : World) (k : ℕ) (step : Step) (reply : Reply) (image : Option Image) → Opens p step → SourcesAre p w.ops → SourcesAre p (done_step f w k step reply image).ops
  step_sources f w k (AskStep (Snapshot name indices moment)) reply image opens h = put w.ops w.next_op (asked_op w name indices moment) h opens
  step_sources f w k (AskStep (Clone source name indices moment (Some taken))) reply image opens h = put w.ops w.next_op (cloned_op w name moment taken) h opens
  step_sources f w k (AskStep (DeleteSnapshots names)) reply image opens h = delete_sources w names (waiting_delete w) (running_delete w (named_uuids w names)) h
  step_sources f w k (AskStep (Restore name place)) (AcceptedRestore o uuid indices) image opens h = h
  step_sources f w k TakeStep (Gave ticket op unit) image opens h = taken_sources f w op unit (fin.get w.ops op) refl h
  step_sources f w k (DrawStep n) reply image opens h = changed w k (λ t. record t { first = w.next_id; drawn = n }) h
  step_sources f w k (CommitStep name) WasDone image opens h = changed w k (committing name (told_blob f image name)) h
  step_sources f w k (CommitStep name) WasThere image opens h = changed w k (λ t. noting t name) h
  step_sources f w k LatestStep reply image opens h = changed w k (λ t. record t { tried_latest = true }) h
  step_sources f w k (FetchStep name) WasFetched image opens h = changed w k (fetching name (told_blob f image name)) h
  step_sources f w k (ListStep from) (WasListed page) image opens h = changed w k (λ t. listing t page) h
  step_sources f w k RaiseStep reply image opens h = changed w k (λ t. record t { raised = Some w.pending }) h
  step_sources f w k SettleStep reply image opens h = settled_sources f w k (fin.get w.tickets k) h
  step_sources f w k (DoneStep result) reply image opens h = done_sources w k result (fin.get w.tickets k) h
  step_sources f w k (FailedStep why) reply image opens h = failed_sources w k (fin.get w.tickets k) h
  step_sources f w k FinishStep reply image opens h = changed w k (λ t. record t { out = false }) h
  step_sources f w k DroppedStep reply image opens h = dropped_sources w k (fin.get w.tickets k) h
  step_sources f w k (ReadStep read) reply image opens h = read_sources f w k read reply image h
  step_sources f w k (PruneStep prune) reply image opens h = prune_sources f w k prune reply image h
  step_sources f w k step reply image opens h = h

  -- ---- a call that failed

  fallen_sources : (f : Formats) (w up : World) (image : Option Image) → SourcesAre p w.ops → SourcesAre p up.ops → SourcesAre p (fallen f w up image).ops
  fallen_sources f w up image h g = either up w (has_text image (f.cluster.text (record_of up))) g h

  left_ops : (w : World) (name : BlobName) (was now : Option Bytes) → (test_left w name was now).ops ≡ w.ops
  left_ops w name None (Some b) = refl
  left_ops w name was now = refl

  asked_fault : (f : Formats) (w : World) (k : ℕ) (command : Asked) (image : Option Image) (b : Bool) → Opens p (AskStep command) → SourcesAre p w.ops
      → SourcesAre p (if b then fallen f w (done_step f w k (AskStep command) HasEnded image) image else w).ops
  asked_fault f w k command image true opens h = fallen_sources f w (done_step f w k (AskStep command) HasEnded image) image h (step_sources f w k (AskStep command) HasEnded image opens h)
  asked_fault f w k command image false opens h = h

  fault_sources : (f : Formats) (w : World) (k : ℕ) (step : Step) (image : Option Image) → Opens p step → SourcesAre p w.ops → SourcesAre p (faulted f w k step image).ops
  fault_sources f w k LatestStep image opens h = changed w k (λ t. record t { tried_latest = true }) h
  fault_sources f w k (BeginStep name) image opens h = either (tried w k) w (is_latest name) (changed w k (λ t. record t { tried_latest = true }) h) h
  fault_sources f w k (ReadStep (CommitTest name)) image opens h = subst (SourcesAre p) (sym (left_ops w name (fin.get w.blobs (f.names.text name)) (told_blob f image name))) h
  fault_sources f w k (AskStep command) image opens h = asked_fault f w k command image (swaps_record (AskStep command)) opens h
  fault_sources f w k RaiseStep image opens h = fallen_sources f w (done_step f w k RaiseStep HasEnded image) image h (step_sources f w k RaiseStep HasEnded image opens h)
  fault_sources f w k SettleStep image opens h = fallen_sources f w (done_step f w k SettleStep HasEnded image) image h (step_sources f w k SettleStep HasEnded image opens h)
  fault_sources f w k DroppedStep image opens h = fallen_sources f w (done_step f w k DroppedStep HasEnded image) image h (step_sources f w k DroppedStep HasEnded image opens h)
  fault_sources f w k ElectStep image opens h = fallen_sources f w (done_step f w k ElectStep HasEnded image) image h (step_sources f w k ElectStep HasEnded image opens h)
  fault_sources f w k (PruneStep SettlePruned) image opens h = fallen_sources f w (done_step f w k (PruneStep SettlePruned) HasEnded image) image h (step_sources f w k (PruneStep SettlePruned) HasEnded image opens h)
  fault_sources f w k (PruneStep (RemoveDoomed names)) image opens h = h
  fault_sources f w k step image opens h = h

  answered_sources : (f : Formats) (w : World) (k : ℕ) (step : Step) (reply : Reply) (image : Option Image) → Opens p step → SourcesAre p w.ops → SourcesAre p (answered f w k step reply image).ops
  answered_sources f w k step (Refused DepotFault) image opens h = fault_sources f w k step image opens h
  answered_sources f w k step (Refused refusal) image opens h = h
  answered_sources f w k step reply image opens h = step_sources f w k step reply image opens h

  after_sources : (f : Formats) (w : World) (m : Moment) → Opens p m.entry.step → SourcesAre p w.ops → SourcesAre p (after f w m).ops
  after_sources f w m opens h = answered_sources f w m.entry.who m.entry.step m.entry.reply m.image opens h

-- ---- none copies, or each does

clones_open : (step : Step) → AsksNoClone step → Opens (λ (source : Option ℕ). source ≡ None) step
clones_open (AskStep (Snapshot name indices moment)) other = refl
clones_open (AskStep (Clone source name indices moment (Some taken))) other = absurd (other source name indices moment (Some taken) refl)
clones_open step other = tt

pub after_no_clones : (f : Formats) (w : World) (m : Moment) → AsksNoClone m.entry.step → SourcesAre (λ (source : Option ℕ). source ≡ None) w.ops → SourcesAre (λ (source : Option ℕ). source ≡ None) (after f w m).ops
after_no_clones f w m other h = after_sources (λ (source : Option ℕ). source ≡ None) f w m (clones_open m.entry.step other) h

some_none : (n : ℕ) → Some n ≡ None → ⊥
some_none n e = cc

uploads_open : (step : Step) → AsksNoSnapshot step → Opens (λ (source : Option ℕ). source ≡ None → ⊥) step
uploads_open (AskStep (Snapshot name indices moment)) other = absurd (other name indices moment refl)
uploads_open (AskStep (Clone source name indices moment (Some taken))) other = some_none taken.source
uploads_open step other = tt

pub after_no_uploads : (f : Formats) (w : World) (m : Moment) → AsksNoSnapshot m.entry.step → SourcesAre (λ (source : Option ℕ). source ≡ None → ⊥) w.ops
    → SourcesAre (λ (source : Option ℕ). source ≡ None → ⊥) (after f w m).ops
after_no_uploads f w m other h = after_sources (λ (source : Option ℕ). source ≡ None → ⊥) f w m (uploads_open m.entry.step other) h
