-- How steps may be refused, and that a world is deposed only after a record swap that failed.
use Rattle.std.proofs.Common.{◌≡◌, ◌⊎◌, ℕ, zero, suc, List, [], ◌∷◌, Bool, true, false, true≢false, Option, Some, None, refl, sym, ap, ◌∙◌, subst, inl, inr}
use Rattle.std.specs.Prelude.{if◌then◌else◌}
use Rattle.std.specs.FinMap as fin
use Rattle.esr_model.specs.Names.{BlobName, Latest}
use Rattle.esr_model.specs.Values.{Bytes, ShardResult, Formats}
use Rattle.esr_model.specs.Image.{Image}
use Rattle.esr_core.specs.World.{World, Op, ShardWork, ReadState, RestoreShard, Restoring, Reader, Ticket, Swap, swap, Deletion}
use Rattle.esr_core.specs.Restores.{restore_shard}
use Rattle.esr_core.specs.Steps.{with_ticket}
use Rattle.esr_core.specs.Entry.{CloneOf, Asked, Snapshot, Clone, DeleteSnapshots, Restore, Given, GivenShard, GivenClone, GivenFinalize, GivenRestore, Read, ReadBlob, RestoredShard, DrawTest, CommitTest, ReadFails, Step, AskStep, TakeStep, ListStep, WasListed, DrawStep, BeginStep, CommitStep, LatestStep, FetchStep, RaiseStep, SettleStep, DoneStep, FailedStep, FinishStep, DroppedStep, ElectStep, ReadStep, Refusal, DepotFault, Reply, Gave, DrawnFrom, WasDone, WasThere, WasFetched, HasEnded, Refused, AcceptedRestore, Moment, Prune, FetchShard, PlanShards, SettlePruned, RemoveDoomed, EndDelete, DeleteFails, PruneStep, CleanupRunning, Cleanup}
use Rattle.esr_core.specs.After.{asked, shard_of, taken_shard, taken_restore_shard, taken_restore, taken_by, with_given, change, told_blob, settled_by, settled_of, done_by, done_of, is_stale, failed_by, failed_of, dropped_of, read_told, shard_over, read_over, read_step, read_by, done_step, swaps_record, fallen, is_latest, tried, test_left, faulted, answered, after, delete_settled_by, delete_settled, delete_failed_by, delete_failed, prune_step}
use Rattle.esr_core.specs.Pruning.{planned}
use Rattle.esr_core.specs.Allowed as allowed
use Rattle.esr_core.specs.Allowed.{ReadAllows, VerifyAllows, PruneAllows, Allows, Blocks, Allowed, RefusedBy}
use Rattle.esr_core.specs.History.{world_from}
use Rattle.esr_core.specs.Refusing.{MayRefuse, NoIdForAsk, AskFault, NoIdForClone, TicketStands, NoIds, BeginFault, CommitFault, CommitTaken, LatestFault, FetchFault, ListFault, RaiseFault, RaiseStale, RaiseSpent, SettleFault, SettleStale, DropFault, DropStale, ElectFault, NoTerms, ReadFault, NoTestId, BeginTestFault, CommitTestFault, TestTaken, RemoveFault, RefusedSo, SwapFailed, FetchShardFault, NoPlanIds, SettleDeleteFault, SettleDeleteStale, RemoveDoomedFault, ByRule}
use Rattle.esr_core.specs.Laws.DeleteAsks.{delete_leaves}
use Rattle.esr_core.specs.Laws.Rules.{of_cleanup}

-- ---- refusals

module _ (f : Formats) (size : ℕ) (w : World) where
  rule_refuses : (command : Asked) (refusal : Refusal) → RefusedBy w command refusal → MayRefuse (AskStep command) refusal
  rule_refuses command refusal (allowed.Cleaning c d x recorded untaken there clean) = ByRule c (CleanupRunning d) (of_cleanup c d recorded)
  rule_refuses command refusal (allowed.AskSpent name indices moment clear unused room spent) = NoIdForAsk name indices moment w.next_id
  rule_refuses command refusal (allowed.CloneSpent source name names moment uuid may room spent) = NoIdForClone source name names moment w.next_id None
  rule_refuses command refusal (allowed.TicketStands k none lowest) = TicketStands k
  rule_refuses command refusal rule = ByRule command refusal tt

  read_refused : (k : ℕ) (read : Read) (refusal : Refusal) (image : Option Image) → ReadAllows f w k read (Refused refusal) image → MayRefuse (ReadStep read) refusal
  read_refused k read refusal image (allowed.ReadFault j name im stored by) = ReadFault name

  verify_refused : (read : Read) (refusal : Refusal) (image : Option Image) → VerifyAllows f w read (Refused refusal) image → MayRefuse (ReadStep read) refusal
  verify_refused read refusal image (allowed.TestSpent im may spent same) = NoTestId w.next_id
  verify_refused read refusal image (allowed.BeginTestFails name im own same) = BeginTestFault name
  verify_refused read refusal image (allowed.TestTaken name im own there) = TestTaken name
  verify_refused read refusal image (allowed.CommitTestFails name bytes im own leaves) = CommitTestFault name
  verify_refused read refusal image (allowed.RemoveTestsFails names im may left) = RemoveFault names

  prune_refused : (k : ℕ) (prune : Prune) (refusal : Refusal) (image : Option Image) → PruneAllows f w k prune (Refused refusal) image → MayRefuse (PruneStep prune) refusal
  prune_refused who prune refusal image (allowed.FetchShardFails k name im g same) = FetchShardFault name
  prune_refused who prune refusal image (allowed.PlanSpent k shards im p spent same) = NoPlanIds shards w.next_id
  prune_refused who prune refusal image (allowed.SettleDeleteStale k im s apart same) = SettleDeleteStale s.t.term w.term
  prune_refused who prune refusal image (allowed.SettleDeleteFails k im s present same) = SettleDeleteFault
  prune_refused who prune refusal image (allowed.RemoveDoomedFails k names im r removes) = RemoveDoomedFault names

  refused_by : (who : ℕ) (step : Step) (refusal : Refusal) (image : Option Image) → Allows f size w who step (Refused refusal) image → MayRefuse step refusal
  refused_by who step refusal image (allowed.Verifying read rep im h) = verify_refused read refusal image h
  refused_by who step refusal image (allowed.Pruning k prune rep im h) = prune_refused k prune refusal image h
  refused_by who step refusal image (allowed.Reading k read rep im h same) = read_refused k read refusal image h
  refused_by who step refusal image (allowed.Ruled command r im rule same) = rule_refuses command refusal rule
  refused_by who step refusal image (allowed.DrawSpent k n im may spent same) = NoIds n w.next_id
  refused_by who step refusal image (allowed.RaiseStale k im may apart same) = RaiseStale may.t.term w.term
  refused_by who step refusal image (allowed.SettleStale k n t s im may apart same) = SettleStale t.term w.term
  refused_by who step refusal image (allowed.DropStale k im may apart same) = DropStale may.t.term w.term
  refused_by who step refusal image (allowed.RaiseSpent k im may present spent same) = RaiseSpent w.pending
  refused_by who step refusal image (allowed.ElectSpent im spent same) = NoTerms w.term
  refused_by who step refusal image (allowed.Taken k name im c aside there) = CommitTaken name
  refused_by who step refusal image (allowed.BeginFails k name im c same) = BeginFault name
  refused_by who step refusal image (allowed.BeginLatestFails k im p same) = BeginFault Latest
  refused_by who step refusal image (allowed.CommitFails k name im c leaves) = CommitFault name
  refused_by who step refusal image (allowed.ReplaceFails k im p back leaves) = LatestFault
  refused_by who step refusal image (allowed.FetchFails k name im g same) = FetchFault name
  refused_by who step refusal image (allowed.ListFails k from im g same) = ListFault from
  refused_by who step refusal image (allowed.AskFails name indices moment im acc same) = AskFault (Snapshot name indices moment) refl
  refused_by who step refusal image (allowed.AskCloneFails source name names moment taken im acc same) = AskFault (Clone source name names moment (Some taken)) refl
  refused_by who step refusal image (allowed.AskDeleteFails names im acc same) = AskFault (DeleteSnapshots names) refl
  refused_by who step refusal image (allowed.AskCleanupFails im acc same) = AskFault Cleanup refl
  refused_by who step refusal image (allowed.RaiseFails k im r same) = RaiseFault
  refused_by who step refusal image (allowed.SettleFails k im s same) = SettleFault
  refused_by who step refusal image (allowed.DropFails k im d same) = DropFault
  refused_by who step refusal image (allowed.ElectFails im room same) = ElectFault

pub same_refusal : (a b : Refusal) → Refused a ≡ Refused b → a ≡ b
same_refusal a b e = cc

pub refused_so : (f : Formats) (size : ℕ) (w : World) (m : Moment) (refusal : Refusal) → Allowed f size w m → m.entry.reply ≡ Refused refusal → RefusedSo w m.entry.who m.entry.step refusal
refused_so f size w m refusal a is = elim a.answered [
  | inl alive ↦ inr (refused_by f size w m.entry.who m.entry.step refusal m.image (subst (λ (reply : Reply). Allows f size w m.entry.who m.entry.step reply m.image) is alive.1))
  | inr dead ↦ inl (subst (Blocks w m.entry.who m.entry.step) (same_refusal _ refusal (sym dead.refused ∙ is)) dead.blocks)
]

-- ---- the mark of a deposed world: only a record swap that failed puts it

module _ (f : Formats) (w : World) where
  with_given_mark : (k : ℕ) (g : Ticket → Ticket) (o : Option Ticket) → (with_given w k g o).deposed ≡ w.deposed
  with_given_mark k g None = refl
  with_given_mark k g (Some t) = refl

  change_mark : (k : ℕ) (g : Ticket → Ticket) → (change w k g).deposed ≡ w.deposed
  change_mark k g = with_given_mark k g (fin.get w.tickets k)

  taken_shard_mark : (o : ℕ) (op : Op) (base : Option ℕ) (s : Option ShardWork) → (taken_shard w o op base s).deposed ≡ w.deposed
  taken_shard_mark o op base None = refl
  taken_shard_mark o op base (Some s) = refl

  taken_restore_shard_mark : (o : ℕ) (r : Restoring) (s : Option RestoreShard) → (taken_restore_shard w o r s).deposed ≡ w.deposed
  taken_restore_shard_mark o r None = refl
  taken_restore_shard_mark o r (Some s) = refl

  taken_restore_mark : (o index number : ℕ) (r : Option Restoring) → (taken_restore w o index number r).deposed ≡ w.deposed
  taken_restore_mark o index number None = refl
  taken_restore_mark o index number (Some r) = taken_restore_shard_mark o r (restore_shard r.shards index number)

  taken_mark : (o : ℕ) (unit : Given) (op : Option Op) → (taken_by f w o unit op).deposed ≡ w.deposed
  taken_mark o (GivenShard index number base) (Some op) = taken_shard_mark o op base (shard_of op.shards index number)
  taken_mark o (GivenClone index number source base) (Some op) = taken_shard_mark o op base (shard_of op.shards index number)
  taken_mark o (GivenFinalize info results) (Some op) = refl
  taken_mark o (GivenRestore index number uuid) op = taken_restore_mark o index number (fin.get w.restores o)
  taken_mark o unit op = refl

  settled_by_mark : (k : ℕ) (t : Ticket) (s : Option Swap) (n : Option ℕ) → (settled_by f w k t s n).deposed ≡ w.deposed
  settled_by_mark k t (Some s) (Some n) = refl
  settled_by_mark k t s n = refl

  settled_mark : (k : ℕ) (o : Option Ticket) → (settled_of f w k o).deposed ≡ w.deposed
  settled_mark k None = refl
  settled_mark k (Some t) = settled_by_mark k t (swap f t) t.raised

  done_by_mark : (k : ℕ) (r : ShardResult) (t : Ticket) (o : Option Op) → (done_by w k r t o).deposed ≡ w.deposed
  done_by_mark k r t None = refl
  done_by_mark k r t (Some op) = refl

  done_mark : (k : ℕ) (r : ShardResult) (o : Option Ticket) → (done_of w k r o).deposed ≡ w.deposed
  done_mark k r None = refl
  done_mark k r (Some t) = done_by_mark k r t (fin.get w.ops t.op)

  failed_by_mark : (k : ℕ) (t : Ticket) (o : Option Op) → (failed_by w k t o).deposed ≡ w.deposed
  failed_by_mark k t None = refl
  failed_by_mark k t (Some op) = refl

  failed_mark : (k : ℕ) (o : Option Ticket) → (failed_of w k o).deposed ≡ w.deposed
  failed_mark k None = refl
  failed_mark k (Some t) = go (is_stale w t t.work)
    where
      go : (b : Bool) → (if b then with_ticket w k (record t { out = false }) else failed_by w k t (fin.get w.ops t.op)).deposed ≡ w.deposed
      go true = refl
      go false = failed_by_mark k t (fin.get w.ops t.op)

  dropped_mark : (k : ℕ) (o : Option Ticket) → (dropped_of w k o).deposed ≡ w.deposed
  dropped_mark k None = refl
  dropped_mark k (Some t) = refl

  read_told_mark : (k : ℕ) (name : BlobName) (bytes : Option Bytes) (o : Option Reader) → (read_told w k name bytes o).deposed ≡ w.deposed
  read_told_mark k name bytes None = refl
  read_told_mark k name None (Some q) = refl
  read_told_mark k name (Some bytes) (Some q) = refl

  shard_over_mark : (k : ℕ) (state : ReadState) (q : Reader) (o : Option Restoring) → (shard_over w k state q o).deposed ≡ w.deposed
  shard_over_mark k state q None = refl
  shard_over_mark k state q (Some r) = refl

  read_over_mark : (k : ℕ) (state : ReadState) (o : Option Reader) → (read_over w k state o).deposed ≡ w.deposed
  read_over_mark k state None = refl
  read_over_mark k state (Some q) = shard_over_mark k state q (fin.get w.restores q.op)

  read_step_mark : (k : ℕ) (read : Read) (reply : Reply) (image : Option Image) → (read_step f w k read reply image).deposed ≡ w.deposed
  read_step_mark k (ReadBlob name) WasFetched image = read_told_mark k name (told_blob f image name) (fin.get w.readers k)
  read_step_mark k (RestoredShard files bytes) reply image = read_over_mark k _ (fin.get w.readers k)
  read_step_mark k (ReadFails why) reply image = read_over_mark k _ (fin.get w.readers k)
  read_step_mark k read reply image = refl

  read_mark : (k : ℕ) (read : Read) (reply : Reply) (image : Option Image) → (read_by f w k read reply image).deposed ≡ w.deposed
  read_mark zero DrawTest (DrawnFrom first) image = refl
  read_mark zero (CommitTest name) WasDone image = refl
  read_mark zero read reply image = refl
  read_mark (suc k) read reply image = read_step_mark (suc k) read reply image

  delete_settled_by_mark : (k : ℕ) (t : Ticket) (s : Option Swap) (n : Option ℕ) → (delete_settled_by f w k t s n).deposed ≡ w.deposed
  delete_settled_by_mark k t (Some s) (Some n) = refl
  delete_settled_by_mark k t s n = refl

  delete_settled_mark : (k : ℕ) (o : Option Ticket) → (delete_settled f w k o).deposed ≡ w.deposed
  delete_settled_mark k None = refl
  delete_settled_mark k (Some t) = delete_settled_by_mark k t (swap f t) t.raised

  delete_failed_by_mark : (k : ℕ) (t : Ticket) (x : Option Deletion) → (delete_failed_by w k t x).deposed ≡ w.deposed
  delete_failed_by_mark k t None = refl
  delete_failed_by_mark k t (Some x) = refl

  delete_failed_mark : (k : ℕ) (o : Option Ticket) → (delete_failed w k o).deposed ≡ w.deposed
  delete_failed_mark k None = refl
  delete_failed_mark k (Some t) = go (is_stale w t t.work)
    where
      go : (b : Bool) → (if b then with_ticket w k (record t { out = false }) else delete_failed_by w k t (fin.get w.deletes t.op)).deposed ≡ w.deposed
      go true = refl
      go false = delete_failed_by_mark k t (fin.get w.deletes t.op)

  prune_mark : (k : ℕ) (prune : Prune) (reply : Reply) (image : Option Image) → (prune_step f w k prune reply image).deposed ≡ w.deposed
  prune_mark k (FetchShard name) WasFetched image = change_mark k _
  prune_mark k (PlanShards shards) reply image = change_mark k (planned f shards w.next_id)
  prune_mark k SettlePruned reply image = delete_settled_mark k (fin.get w.tickets k)
  prune_mark k EndDelete reply image = change_mark k _
  prune_mark k (DeleteFails why) reply image = delete_failed_mark k (fin.get w.tickets k)
  prune_mark k prune reply image = refl

  asked_clone_mark : (source name : Bytes) (names : List Bytes) (moment : ℕ) (taken : Option CloneOf) → (asked w (Clone source name names moment taken)).deposed ≡ w.deposed
  asked_clone_mark source name names moment None = refl
  asked_clone_mark source name names moment (Some t) = refl

  step_mark : (k : ℕ) (step : Step) (reply : Reply) (image : Option Image) → (done_step f w k step reply image).deposed ≡ w.deposed
  step_mark k (AskStep (Clone source name names moment taken)) reply image = asked_clone_mark source name names moment taken
  step_mark k (AskStep (Restore name place)) (AcceptedRestore o uuid indices) image = refl
  step_mark k (AskStep (DeleteSnapshots names)) reply image = ap (λ (x : World). x.deposed) (delete_leaves w names)
  step_mark k TakeStep (Gave ticket op unit) image = taken_mark op unit (fin.get w.ops op)
  step_mark k (ListStep from) (WasListed page) image = change_mark k _
  step_mark k (DrawStep n) reply image = change_mark k (λ t. record t { first = w.next_id; drawn = n })
  step_mark k (CommitStep name) WasDone image = change_mark k _
  step_mark k (CommitStep name) WasThere image = change_mark k _
  step_mark k LatestStep reply image = change_mark k _
  step_mark k (FetchStep name) WasFetched image = change_mark k _
  step_mark k RaiseStep reply image = change_mark k _
  step_mark k SettleStep reply image = settled_mark k (fin.get w.tickets k)
  step_mark k (DoneStep result) reply image = done_mark k result (fin.get w.tickets k)
  step_mark k (FailedStep why) reply image = failed_mark k (fin.get w.tickets k)
  step_mark k FinishStep reply image = change_mark k _
  step_mark k DroppedStep reply image = dropped_mark k (fin.get w.tickets k)
  step_mark k (ReadStep read) reply image = read_mark k read reply image
  step_mark k (PruneStep prune) reply image = prune_mark k prune reply image
  step_mark k step reply image = refl

  tried_mark : (k : ℕ) (b : Bool) → (if b then tried w k else w).deposed ≡ w.deposed
  tried_mark k true = change_mark k _
  tried_mark k false = refl

  test_mark : (name : BlobName) (was now : Option Bytes) → (test_left w name was now).deposed ≡ w.deposed
  test_mark name None (Some bytes) = refl
  test_mark name was now = refl

  -- a call that failed: a record swap, or the mark stays
  abbrev Marks : World → Step → Type 0
  Marks new step = (new.deposed ≡ w.deposed) ⊎ (swaps_record step ≡ true)

  asked_mark : (k : ℕ) (command : Asked) (image : Option Image) (b : Bool) → swaps_record (AskStep command) ≡ b
      → Marks (if b then fallen f w (done_step f w k (AskStep command) HasEnded image) image else w) (AskStep command)
  asked_mark k command image true is = inr is
  asked_mark k command image false is = inl refl

  fault_mark : (k : ℕ) (step : Step) (image : Option Image) → Marks (faulted f w k step image) step
  fault_mark k LatestStep image = inl (tried_mark k true)
  fault_mark k (BeginStep name) image = inl (tried_mark k (is_latest name))
  fault_mark k (ReadStep (CommitTest name)) image = inl (test_mark name (fin.get w.blobs (f.names.text name)) (told_blob f image name))
  fault_mark k (AskStep command) image = asked_mark k command image (swaps_record (AskStep command)) refl
  fault_mark k RaiseStep image = inr refl
  fault_mark k SettleStep image = inr refl
  fault_mark k DroppedStep image = inr refl
  fault_mark k ElectStep image = inr refl
  fault_mark k (PruneStep SettlePruned) image = inr refl
  fault_mark k (PruneStep (RemoveDoomed names)) image = inl refl
  fault_mark k step image = inl refl

  answered_mark : (k : ℕ) (step : Step) (reply : Reply) (image : Option Image) → ((answered f w k step reply image).deposed ≡ w.deposed) ⊎ ((swaps_record step ≡ true) × (reply ≡ Refused DepotFault))
  answered_mark k step (Refused DepotFault) image = elim (fault_mark k step image) [ inl same ↦ inl same | inr swaps ↦ inr (swaps, refl) ]
  answered_mark k step (Refused refusal) image = inl refl
  answered_mark k step reply image = inl (step_mark k step reply image)

pub deposed_after : (f : Formats) (log : List Moment) (w : World) → w.deposed ≡ false → (world_from f w log).deposed ≡ true → SwapFailed log
deposed_after f [] w alive dead = absurd (true≢false (sym dead ∙ alive))
deposed_after f (m ∷ log) w alive dead = elim (answered_mark f w m.entry.who m.entry.step m.entry.reply m.image) [
  | inl same ↦ let rest = deposed_after f log (after f w m) (same ∙ alive) dead in record { moment = rest.moment; there = inr rest.there; swap = rest.swap; failed = rest.failed }
  | inr fell ↦ record { moment = m; there = inl refl; swap = fell.0; failed = fell.1 }
]
