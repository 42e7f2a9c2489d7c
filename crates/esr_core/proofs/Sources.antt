-- What is stored for the snapshots of a history is what the sources tell, where they tell it and digests are honest.
use Rattle.std.proofs.Common.{◌≡◌, ◌≢◌, ◌⊎◌, ℕ, zero, suc, List, [], ◌∷◌, Bool, true, false, Option, Some, None, map, refl, sym, ap, ◌∙◌, subst, inl, inr}
use Rattle.std.specs.Prelude.{if◌then◌else◌}
use Rattle.std.specs.Cmp.Lexicographic.{nat_list_cmp_total}
use Rattle.std.specs.FinMap as fin
use Rattle.std.proofs.lemmas.Option.{same_Some, none-some}
use Rattle.esr_core.specs.Laws.NumberMaps.{was_in, left_in}
use Rattle.esr_model.specs.Names.{BlobName, Latest, ShardSnap}
use Rattle.esr_model.specs.Values.{Bytes, Has, FileEntry, ShardSnapshot, ShardResult, Formats, files_told}
use Rattle.esr_model.specs.Shelf.{Shelved, Create, shelf_after}
use Rattle.esr_model.specs.Places.{sorted_by}
use Rattle.esr_model.specs.Parts.{part_names}
use Rattle.esr_model.specs.Image.{Blobs, Image, AllPairs, At, Reads, FileStands}
use Rattle.esr_core.specs.World.{World, Op, Deletion, ShardWork, Out, Done, Shard, Swap, Ticket, AllDone, HeldIn, swap, marked, record_of, comes_first_of, shelved_shard, made_from, Opened, OpenedEmpty, OpenedRecord}
use Rattle.esr_core.specs.Generations.{AreFilesOf, DoneStands}
use Rattle.esr_core.specs.Steps.{noting, listing, with_ticket, given}
use Rattle.esr_core.specs.Turns.{fails}
use Rattle.esr_core.specs.Pruning.{planned}
use Rattle.esr_core.specs.Ids.{Law}
use Rattle.esr_core.specs.Deletes.{named_uuids, waiting_delete, running_delete, aborted_ops, delete_merged, delete_by}
use Rattle.esr_core.specs.Entry.{AskedIndex, Asked, Snapshot, Clone, DeleteSnapshots, Restore, Given, GivenShard, GivenClone, GivenFinalize, GivenRestore, Read, DrawTest, CommitTest, Prune, FetchShard, PlanShards, SettlePruned, EndDelete, DeleteFails, Step, AskStep, TakeStep, ListStep, WasListed, DrawStep, BeginStep, CommitStep, LatestStep, FetchStep, RaiseStep, SettleStep, DoneStep, FailedStep, FinishStep, DroppedStep, ElectStep, ReadStep, PruneStep, DepotFault, Reply, Gave, DrawnFrom, WasDone, WasThere, WasFetched, HasEnded, Refused, AcceptedRestore, Moment}
use Rattle.esr_core.specs.After.{asked_op, cloned_op, taken_shard, taken_by, shard_of, with_given, change, committing, told_blob, fetching, settled_by, settled_of, done_by, done_of, is_stale, failed_by, failed_of, dropped_of, delete_settled_by, delete_settled, delete_failed_by, delete_failed, prune_step, read_by, done_step, swaps_record, has_text, fallen, is_latest, tried, test_left, faulted, answered, blobs_in, after}
use Rattle.esr_core.specs.Allowed as allowed
use Rattle.esr_core.specs.Allowed.{Allows, Allowed, DoneBy, DoneAs, Dones, GivesFinalize}
use Rattle.esr_core.specs.History.{IsLegal, AreTold, IsHonest, TellsShards, TellsHandedOut}
use Rattle.esr_core.specs.Changes.{BlobsChange, NoBlobChange, NewBlob, NewLatest, Removal}
use Rattle.esr_core.specs.Sources.{told_shard, told_from, IsOfSources, AreOfSources, HasUpload, HonestUploads}
use Rattle.esr_core.specs.Laws.BlobFrames.{text_one}
use Rattle.esr_core.specs.Laws.SnapshotOps.{in_all}
use Rattle.esr_core.specs.Laws.DeleteAsks.{aborts}
use Rattle.esr_core.specs.Laws.Asides.{Aside, aside_step, blocked_stays}
use Rattle.esr_core.proofs.Besides.{aside_taken}
use Rattle.esr_core.proofs.BlobChanges.{blobs_change}
use Rattle.esr_core.specs.Laws.TakeAnswers.{take_gave}
use Rattle.esr_core.specs.Laws.ShardStates.{failed_goes, marked_is, GoesOn, goes_on, pending_done}
use Rattle.esr_core.proofs.Histories.{Stepped, step_law}
use Rattle.esr_core.specs.Laws.Maps.{get_other, texts_same, Ops, nothing}
use Rattle.esr_core.specs.Laws.SortedLists.{Has-sorted}
use Rattle.esr_model.specs.Lists.{AllPairs-with, Has-mapped}
use Rattle.esr_core.specs.Laws.DoneShards.{done_of as result_of}
use Rattle.esr_core.proofs.Stored.{StandsAs, stored_is}
use Rattle.esr_core.proofs.Storing.{done_told}

-- ---- done shards as a history goes on

-- no shard is done by the step
abbrev DoesNone : Step → Type 0
DoesNone step = (r : ShardResult) → step ≡ DoneStep r → ⊥

-- for something that holds of a uuid and a shard, whatever the state of that is
module _ (P : ℕ → ShardWork → Type 0) where
  -- it holds of each shard that a snapshot among these ops has done
  abbrev pub HoldsOfDone : Ops → Type 0
  HoldsOfDone ops = (o : ℕ) (op : Op) (s : ShardWork) (r : ShardResult) → fin.get ops o ≡ Some op → op.source ≡ None → Has op.shards s → s.state ≡ Done r → P op.uuid s

  put : (ops : Ops) (o : ℕ) (op : Op) → HoldsOfDone ops → ((s : ShardWork) (r : ShardResult) → op.source ≡ None → Has op.shards s → s.state ≡ Done r → P op.uuid s) → HoldsOfDone (fin.insert ops o op)
  put ops o op h own p q s r e none m state = elim (was_in ops o op p q e) [
    | inl z ↦ subst (λ (x : Op). P x.uuid s) z.1 (own s r (ap (λ (x : Op). x.source) z.1 ∙ none) (subst (λ (x : Op). Has x.shards s) (sym z.1) m) state)
    | inr z ↦ h p q s r z.1 none m state
  ]

  left : (ops : Ops) (o : ℕ) → HoldsOfDone ops → HoldsOfDone (fin.remove ops o)
  left ops o h p q s r e none m state = h p q s r (left_in ops o p q e).1 none m state

  -- of a done shard of an op whose shards go on
  goes : (ops : Ops) (o : ℕ) (op : Op) (g : ShardWork → ShardWork) → GoesOn g → fin.get ops o ≡ Some op → HoldsOfDone ops → (s : ShardWork) (r : ShardResult) → op.source ≡ None → Has (map g op.shards) s → s.state ≡ Done r
      → P op.uuid s
  goes ops o op g on there h s r none m state =
      let (z, z_there, same) = Has-mapped g op.shards s m in
      let is : z ≡ s = sym (on.done z r (ap (λ (x : ShardWork). x.state) same ∙ state)) ∙ same in
      subst (P op.uuid) is (h o op z r there none z_there (ap (λ (x : ShardWork). x.state) is ∙ state))

  aborted : (w : World) (uuids : List ℕ) (by : ℕ) → HoldsOfDone w.ops → HoldsOfDone (aborted_ops w uuids by)
  aborted w uuids by h o op s r e none m state =
      let (old, there, how) = (aborts w uuids by).was o op e in
      elim how [
        | inl q ↦ subst (λ (x : Op). P x.uuid s) (sym q) (h o old s r there (ap (λ (x : Op). x.source) (sym q) ∙ none) (subst (λ (x : Op). Has x.shards s) q m) state)
        | inr q ↦ subst (λ (x : Op). P x.uuid s) (sym q) (h o old s r there (ap (λ (x : Op). x.source) (sym q) ∙ none) (subst (λ (x : Op). Has x.shards s) q m) state)
      ]

  given_ops : (w : World) (k : ℕ) (g : Ticket → Ticket) (o : Option Ticket) → (with_given w k g o).ops ≡ w.ops
  given_ops w k g None = refl
  given_ops w k g (Some t) = refl

  changed : (w : World) (k : ℕ) (g : Ticket → Ticket) → HoldsOfDone w.ops → HoldsOfDone (change w k g).ops
  changed w k g h = subst HoldsOfDone (sym (given_ops w k g (fin.get w.tickets k))) h

  aside : (w new : World) → Aside w new → HoldsOfDone w.ops → HoldsOfDone new.ops
  aside w new a h = subst (λ (x : World). HoldsOfDone x.ops) (sym a.new_is) h

  -- ---- the steps

  taken_shard_done : (w : World) (o : ℕ) (op : Op) (base : Option ℕ) (s : Option ShardWork) → fin.get w.ops o ≡ Some op → HoldsOfDone w.ops → HoldsOfDone (taken_shard w o op base s).ops
  taken_shard_done w o op base None there h = h
  taken_shard_done w o op base (Some s) there h =
      put w.ops o (record op { shards = map (given w.next_ticket s.ref.id s.number) op.shards }) h (goes w.ops o op (given w.next_ticket s.ref.id s.number) (goes_on w.next_ticket s.ref.id s.number) there h)

  taken_done : (f : Formats) (w : World) (o : ℕ) (unit : Given) (op : Option Op) → fin.get w.ops o ≡ op → HoldsOfDone w.ops → HoldsOfDone (taken_by f w o unit op).ops
  taken_done f w o (GivenShard index number base) (Some op) there h = taken_shard_done w o op base (shard_of op.shards index number) there h
  taken_done f w o (GivenClone index number source base) (Some op) there h = taken_shard_done w o op base (shard_of op.shards index number) there h
  taken_done f w o (GivenFinalize info results) (Some op) there h = h
  taken_done f w o (GivenRestore index number uuid) op there h = aside w _ (aside_taken w o index number (fin.get w.restores o)) h
  taken_done f w o unit op there h = h

  settled_by_done : (f : Formats) (w : World) (k : ℕ) (t : Ticket) (s : Option Swap) (n : Option ℕ) → HoldsOfDone w.ops → HoldsOfDone (settled_by f w k t s n).ops
  settled_by_done f w k t (Some s) (Some n) h = left w.ops t.op h
  settled_by_done f w k t s n h = h

  settled_done : (f : Formats) (w : World) (k : ℕ) (o : Option Ticket) → HoldsOfDone w.ops → HoldsOfDone (settled_of f w k o).ops
  settled_done f w k None h = h
  settled_done f w k (Some t) h = settled_by_done f w k t (swap f t) t.raised h

  either : (a b : World) (first : Bool) → HoldsOfDone a.ops → HoldsOfDone b.ops → HoldsOfDone (if first then a else b).ops
  either a b true p q = p
  either a b false p q = q

  failed_by_done : (w : World) (k : ℕ) (t : Ticket) (o : Option Op) → fin.get w.ops t.op ≡ o → HoldsOfDone w.ops → HoldsOfDone (failed_by w k t o).ops
  failed_by_done w k t None there h = h
  failed_by_done w k t (Some op) there h = put w.ops t.op (record op { shards = map (fails k) op.shards; failed = true }) h (goes w.ops t.op op (fails k) (failed_goes k) there h)

  failed_done : (w : World) (k : ℕ) (o : Option Ticket) → HoldsOfDone w.ops → HoldsOfDone (failed_of w k o).ops
  failed_done w k None h = h
  failed_done w k (Some t) h = either (with_ticket w k (record t { out = false })) (failed_by w k t (fin.get w.ops t.op)) (is_stale w t t.work) h (failed_by_done w k t (fin.get w.ops t.op) refl h)

  dropped_done : (w : World) (k : ℕ) (o : Option Ticket) → HoldsOfDone w.ops → HoldsOfDone (dropped_of w k o).ops
  dropped_done w k None h = h
  dropped_done w k (Some t) h = left w.ops t.op h

  merged_done : (w : World) (names : List Bytes) (d : ℕ) (x : Option Deletion) → HoldsOfDone w.ops → HoldsOfDone (delete_merged w names d x).ops
  merged_done w names d None h = h
  merged_done w names d (Some x) h = aborted w (named_uuids w names) d h

  delete_done : (w : World) (names : List Bytes) (waiting running : Option ℕ) → HoldsOfDone w.ops → HoldsOfDone (delete_by w names waiting running).ops
  delete_done w names (Some d) running h = merged_done w names d (fin.get w.deletes d) h
  delete_done w names None (Some d) h = h
  delete_done w names None None h = aborted w (named_uuids w names) w.next_op h

  delete_settled_by_done : (f : Formats) (w : World) (k : ℕ) (t : Ticket) (s : Option Swap) (n : Option ℕ) → HoldsOfDone w.ops → HoldsOfDone (delete_settled_by f w k t s n).ops
  delete_settled_by_done f w k t (Some s) (Some n) h = left w.ops t.op h
  delete_settled_by_done f w k t s n h = h

  delete_settled_done : (f : Formats) (w : World) (k : ℕ) (o : Option Ticket) → HoldsOfDone w.ops → HoldsOfDone (delete_settled f w k o).ops
  delete_settled_done f w k None h = h
  delete_settled_done f w k (Some t) h = delete_settled_by_done f w k t (swap f t) t.raised h

  delete_failed_by_ops : (w : World) (k : ℕ) (t : Ticket) (x : Option Deletion) → (delete_failed_by w k t x).ops ≡ w.ops
  delete_failed_by_ops w k t None = refl
  delete_failed_by_ops w k t (Some x) = refl

  delete_failed_done : (w : World) (k : ℕ) (o : Option Ticket) → HoldsOfDone w.ops → HoldsOfDone (delete_failed w k o).ops
  delete_failed_done w k None h = h
  delete_failed_done w k (Some t) h =
      either (with_ticket w k (record t { out = false })) (delete_failed_by w k t (fin.get w.deletes t.op)) (is_stale w t t.work) h (subst HoldsOfDone (sym (delete_failed_by_ops w k t (fin.get w.deletes t.op))) h)

  prune_done : (f : Formats) (w : World) (k : ℕ) (prune : Prune) (reply : Reply) (image : Option Image) → HoldsOfDone w.ops → HoldsOfDone (prune_step f w k prune reply image).ops
  prune_done f w k (FetchShard name) WasFetched image h = changed w k (fetching name (told_blob f image name)) h
  prune_done f w k (PlanShards shards) reply image h = changed w k (planned f shards w.next_id) h
  prune_done f w k SettlePruned reply image h = delete_settled_done f w k (fin.get w.tickets k) h
  prune_done f w k EndDelete reply image h = changed w k (λ t. record t { out = false }) h
  prune_done f w k (DeleteFails why) reply image h = delete_failed_done w k (fin.get w.tickets k) h
  prune_done f w k prune reply image h = h

  read_done : (f : Formats) (w : World) (k : ℕ) (read : Read) (reply : Reply) (image : Option Image) → HoldsOfDone w.ops → HoldsOfDone (read_by f w k read reply image).ops
  read_done f w zero DrawTest (DrawnFrom first) image h = h
  read_done f w zero (CommitTest name) WasDone image h = h
  read_done f w zero read reply image h = h
  read_done f w (suc k) read reply image h = aside w _ (aside_step f w (suc k) read reply image) h

  -- all shards of a new snapshot are pending
  asked_done : (w : World) (name : Bytes) (indices : List AskedIndex) (moment : ℕ) → HoldsOfDone w.ops → HoldsOfDone (fin.insert w.ops w.next_op (asked_op w name indices moment))
  asked_done w name indices moment h =
      put w.ops w.next_op (asked_op w name indices moment) h (λ s r none m state. absurd (pending_done (sym (in_all w indices (suc w.next_id) s m).0 ∙ state)))

  step_done : (f : Formats) (w : World) (k : ℕ) (step : Step) (reply : Reply) (image : Option Image) → DoesNone step → HoldsOfDone w.ops → HoldsOfDone (done_step f w k step reply image).ops
  step_done f w k (AskStep (Snapshot name indices moment)) reply image other h = asked_done w name indices moment h
  step_done f w k (AskStep (Clone source name indices moment (Some taken))) reply image other h = put w.ops w.next_op (cloned_op w name moment taken) h (λ s r none m state. absurd (none-some taken.source (sym none)))
  step_done f w k (AskStep (DeleteSnapshots names)) reply image other h = delete_done w names (waiting_delete w) (running_delete w (named_uuids w names)) h
  step_done f w k (AskStep (Restore name place)) (AcceptedRestore o uuid indices) image other h = h
  step_done f w k TakeStep (Gave ticket op unit) image other h = taken_done f w op unit (fin.get w.ops op) refl h
  step_done f w k (DrawStep n) reply image other h = changed w k (λ t. record t { first = w.next_id; drawn = n }) h
  step_done f w k (CommitStep name) WasDone image other h = changed w k (committing name (told_blob f image name)) h
  step_done f w k (CommitStep name) WasThere image other h = changed w k (λ t. noting t name) h
  step_done f w k LatestStep reply image other h = changed w k (λ t. record t { tried_latest = true }) h
  step_done f w k (FetchStep name) WasFetched image other h = changed w k (fetching name (told_blob f image name)) h
  step_done f w k (ListStep from) (WasListed page) image other h = changed w k (λ t. listing t page) h
  step_done f w k RaiseStep reply image other h = changed w k (λ t. record t { raised = Some w.pending }) h
  step_done f w k SettleStep reply image other h = settled_done f w k (fin.get w.tickets k) h
  step_done f w k (DoneStep result) reply image other h = absurd (other result refl)
  step_done f w k (FailedStep why) reply image other h = failed_done w k (fin.get w.tickets k) h
  step_done f w k FinishStep reply image other h = changed w k (λ t. record t { out = false }) h
  step_done f w k DroppedStep reply image other h = dropped_done w k (fin.get w.tickets k) h
  step_done f w k (ReadStep read) reply image other h = read_done f w k read reply image h
  step_done f w k (PruneStep prune) reply image other h = prune_done f w k prune reply image h
  step_done f w k step reply image other h = h

  -- ---- a call that failed

  fallen_done : (f : Formats) (w up : World) (image : Option Image) → HoldsOfDone w.ops → HoldsOfDone up.ops → HoldsOfDone (fallen f w up image).ops
  fallen_done f w up image h g = either up w (has_text image (f.cluster.text (record_of up))) g h

  left_ops : (w : World) (name : BlobName) (was now : Option Bytes) → (test_left w name was now).ops ≡ w.ops
  left_ops w name None (Some b) = refl
  left_ops w name was now = refl

  asked_fault : (f : Formats) (w : World) (k : ℕ) (command : Asked) (image : Option Image) (b : Bool) → DoesNone (AskStep command) → HoldsOfDone w.ops
      → HoldsOfDone (if b then fallen f w (done_step f w k (AskStep command) HasEnded image) image else w).ops
  asked_fault f w k command image true other h = fallen_done f w (done_step f w k (AskStep command) HasEnded image) image h (step_done f w k (AskStep command) HasEnded image other h)
  asked_fault f w k command image false other h = h

  fault_done : (f : Formats) (w : World) (k : ℕ) (step : Step) (image : Option Image) → DoesNone step → HoldsOfDone w.ops → HoldsOfDone (faulted f w k step image).ops
  fault_done f w k LatestStep image other h = changed w k (λ t. record t { tried_latest = true }) h
  fault_done f w k (BeginStep name) image other h = either (tried w k) w (is_latest name) (changed w k (λ t. record t { tried_latest = true }) h) h
  fault_done f w k (ReadStep (CommitTest name)) image other h = subst HoldsOfDone (sym (left_ops w name (fin.get w.blobs (f.names.text name)) (told_blob f image name))) h
  fault_done f w k (AskStep command) image other h = asked_fault f w k command image (swaps_record (AskStep command)) other h
  fault_done f w k RaiseStep image other h = fallen_done f w (done_step f w k RaiseStep HasEnded image) image h (step_done f w k RaiseStep HasEnded image other h)
  fault_done f w k SettleStep image other h = fallen_done f w (done_step f w k SettleStep HasEnded image) image h (step_done f w k SettleStep HasEnded image other h)
  fault_done f w k DroppedStep image other h = fallen_done f w (done_step f w k DroppedStep HasEnded image) image h (step_done f w k DroppedStep HasEnded image other h)
  fault_done f w k ElectStep image other h = fallen_done f w (done_step f w k ElectStep HasEnded image) image h (step_done f w k ElectStep HasEnded image other h)
  fault_done f w k (PruneStep SettlePruned) image other h = fallen_done f w (done_step f w k (PruneStep SettlePruned) HasEnded image) image h (step_done f w k (PruneStep SettlePruned) HasEnded image other h)
  fault_done f w k step image other h = h

  answered_done : (f : Formats) (w : World) (k : ℕ) (step : Step) (reply : Reply) (image : Option Image) → DoesNone step → HoldsOfDone w.ops → HoldsOfDone (answered f w k step reply image).ops
  answered_done f w k step (Refused DepotFault) image other h = fault_done f w k step image other h
  answered_done f w k step (Refused refusal) image other h = h
  answered_done f w k step reply image other h = step_done f w k step reply image other h

-- whether a shard is done by a step
which : (step : Step) → ((r : ShardResult) × (step ≡ DoneStep r)) ⊎ DoesNone step
which (DoneStep r) = inl (r, refl)
which step = inr (λ r e. cc)

-- ---- blobs that stay

-- a blob that is there before a step and after it has one text
same_text : (f : Formats) (w : World) (step : Step) (now : Blobs) → BlobsChange f w step now → (name : BlobName) (a b : Bytes) → At f w.blobs name a → At f now name b → a ≡ b
same_text f w step now (NoBlobChange same) name a b was is = same_Some a b (sym was.0 ∙ ap (λ (x : Blobs). fin.get x (f.names.text name)) (sym same) ∙ is.0)
same_text f w step now (NewBlob new bytes how stored absent is_now) name a b was is =
    let apart : f.names.text name ≢ f.names.text new = λ e. none-some a (sym absent ∙ ap (fin.get w.blobs) (sym e) ∙ was.0) in
    same_Some a b (sym was.0 ∙ sym (get_other nat_list_cmp_total texts_same w.blobs (f.names.text new) bytes (f.names.text name) apart) ∙ ap (λ (x : Blobs). fin.get x (f.names.text name)) (sym is_now) ∙ is.0)
same_text f w step now (NewLatest bytes how named is_now) name a b was is =
    let apart : f.names.text name ≢ f.names.text Latest = λ e. was.1.1 (text_one f name Latest was.1.0 named e) in
    same_Some a b (sym was.0 ∙ sym (get_other nat_list_cmp_total texts_same w.blobs (f.names.text Latest) bytes (f.names.text name) apart) ∙ ap (λ (x : Blobs). fin.get x (f.names.text name)) (sym is_now) ∙ is.0)
same_text f w step now (Removal names how removes) name a b was is = same_Some a b (sym was.0 ∙ removes.left (f.names.text name) b is.0)

module _ (f : Formats) (old new : World) (one : (name : BlobName) (a b : Bytes) → At f old.blobs name a → At f new.blobs name b → a ≡ b) where
  parts_same : (names : List BlobName) (xs ys : List Bytes) → AllPairs (At f old.blobs) names xs → AllPairs (HeldIn f new) names ys → xs ≡ ys
  parts_same [] [] [] a b = refl
  parts_same [] (x ∷ xs) ys a b = absurd a
  parts_same (name ∷ names) [] ys a b = absurd a
  parts_same (name ∷ names) (x ∷ xs) (y ∷ ys) a b = λ j. one name x y a.0 b.0.0 j ∷ parts_same names xs ys a.1 b.1 j
  parts_same names xs ys a b = absurd b

  file_again : (index shard : ℕ) (e : FileEntry) (bytes other : Bytes) → FileStands f (At f old.blobs) index shard e bytes → FileStands f (HeldIn f new) index shard e other → FileStands f (At f new.blobs) index shard e bytes
  file_again index shard e bytes other a b =
      record {
        parts = a.parts;
        there = subst (AllPairs (At f new.blobs) (part_names index shard e)) (sym (parts_same (part_names index shard e) a.parts b.parts a.there b.there))
            (AllPairs-with (HeldIn f new) (At f new.blobs) (part_names index shard e) b.parts (λ name part m h. h.0) b.there);
        full = a.full;
        joined = a.joined;
        len = a.len;
        digest = a.digest;
      }

  files_again : (index shard : ℕ) (es : List FileEntry) (files others : List (Bytes × Bytes)) → AllPairs (λ (e : FileEntry) (file : Bytes × Bytes). (e.physical ≡ file.0) × FileStands f (At f old.blobs) index shard e file.1) es files
      → AllPairs (λ (e : FileEntry) (file : Bytes × Bytes). (e.physical ≡ file.0) × FileStands f (HeldIn f new) index shard e file.1) es others
      → AllPairs (λ (e : FileEntry) (file : Bytes × Bytes). (e.physical ≡ file.0) × FileStands f (At f new.blobs) index shard e file.1) es files
  files_again index shard [] [] others a b = tt
  files_again index shard (e ∷ es) (x ∷ files) [] a b = absurd b
  files_again index shard (e ∷ es) (x ∷ files) (y ∷ others) a b = ((a.0.0, file_again index shard e x.1 y.1 a.0.1 b.0.1), files_again index shard es files others a.1 b.1)
  files_again index shard es files others a b = absurd a

  -- what stands with some files afterwards stands with those of before
  stands_again : (index shard uuid : ℕ) (files : List (Bytes × Bytes)) → StandsAs f (At f old.blobs) index shard uuid files → (snap : ShardSnapshot) → Reads (HeldIn f new) (ShardSnap index shard uuid) f.shard_snap snap
      → (others : List (Bytes × Bytes)) → AllPairs (λ (e : FileEntry) (file : Bytes × Bytes). (e.physical ≡ file.0) × FileStands f (HeldIn f new) index shard e file.1) snap.files others → StandsAs f (At f new.blobs) index shard uuid files
  stands_again index shard uuid files h snap reads others stand =
      let text : h.reads.bytes ≡ reads.bytes = one (ShardSnap index shard uuid) h.reads.bytes reads.bytes h.reads.there reads.there.0 in
      let same : h.snap ≡ snap = same_Some h.snap snap (sym h.reads.reads ∙ ap f.shard_snap.read text ∙ reads.reads) in
      record {
        snap = snap;
        reads = record { bytes = reads.bytes; there = reads.there.0; reads = reads.reads };
        stand = files_again index shard snap.files files others
            (subst (λ (x : ShardSnapshot). AllPairs (λ (e : FileEntry) (file : Bytes × Bytes). (e.physical ≡ file.0) × FileStands f (At f old.blobs) index shard e file.1) x.files files) same h.stand) stand;
      }

-- ---- shards with the files that the sources tell

abbrev pub OfSource : Formats → World → ℕ → ShardWork → Type 0
OfSource f w uuid s = StandsAs f (At f w.blobs) s.ref.id s.number uuid (files_told f s.place s.ref.name s.number)

-- each shard that an open snapshot has done stands with the files of its source
abbrev pub Sourced : Formats → World → Type 0
Sourced f w = HoldsOfDone (OfSource f w) w.ops

-- each shard that was one is one after the step
moved : (f : Formats) (w new : World) (shelf : List Shelved) → Law f new shelf → ((name : BlobName) (a b : Bytes) → At f w.blobs name a → At f new.blobs name b → a ≡ b) → HoldsOfDone (OfSource f w) new.ops → Sourced f new
moved f w new shelf l one h o op s r there none m state =
    let d : DoneStands f (HeldIn f new) op.source op.uuid s r = (l.lawful.sound.carried.ops o op there).done s r m state in
    let its : AreFilesOf f (HeldIn f new) None s.ref.id s.number d.snap.files = subst (λ source. AreFilesOf f (HeldIn f new) source s.ref.id s.number d.snap.files) none d.files in
    stands_again f w new one s.ref.id s.number op.uuid (files_told f s.place s.ref.name s.number) (h o op s r there none m state) d.snap d.snap_reads its.0 its.1

-- a shard is done
module _ (f : Formats) (size : ℕ) (w : World) (shelf : List Shelved) (l : Law f w shelf) (sourced : Sourced f w) (known : TellsShards f w)
    (honest : HasUpload w → IsHonest f w.blobs) (k : ℕ) (r : ShardResult) (i : Image) (d : Dones f size w k r (Some i)) where
  -- the shard that the ticket holds
  place_is : (z : ShardWork) → Has d.op.shards z → z.state ≡ Out k → (z.ref.id ≡ r.index) × (z.number ≡ r.shard)
  place_is z m e =
      let h = l.lawful.sound.carried.held d.t.op d.op z k d.op_there m e in
      let same : h.t ≡ d.t = same_Some _ _ (sym h.there ∙ d.out.there) in
      places_same _ _ _ _ (sym h.work ∙ ap (λ (x : Ticket). x.work) same ∙ d.is)
    where
      places_same : (a b x y : ℕ) → Shard a b ≡ Shard x y → (a ≡ x) × (b ≡ y)
      places_same a b x y e = (cc, cc)

  held_one : (z : ShardWork) → Has d.op.shards z → z.state ≡ Out k → z ≡ d.s
  held_one z m e =
      let a = place_is z m e in
      let b = place_is d.s d.s_there d.state in
      (l.lawful.sound.carried.ops d.t.op d.op d.op_there).distinct z d.s m d.s_there (a.0 ∙ sym b.0) (a.1 ∙ sym b.1)

  new_one : d.op.source ≡ None → OfSource f w d.op.uuid d.s
  new_one none =
      let files : List (Bytes × Bytes) = files_told f d.s.place d.s.ref.name d.s.number in
      let uploads : d.t.source ≡ None = sym d.source_is ∙ none in
      let b : DoneBy f size d.t r = subst (DoneAs f size d.t r) uploads d.done in
      let upload : HasUpload w = record { number = k; ticket = d.t; index = r.index; shard = r.shard; there = d.out.there; out = d.out.out; work = d.is; uploads = uploads } in
      let law = l.lawful.sound.carried.shards k d.t d.out.there d.out.out r.index r.shard d.is in
      let uuid : d.t.uuid ≡ d.op.uuid = sym law.uuid_is ∙ ap (λ (x : Op). x.uuid) (same_Some law.op d.op (sym law.op_there ∙ d.op_there)) in
      let place = place_is d.s d.s_there d.state in
      let stands : StandsAs f (At f w.blobs) r.index r.shard d.t.uuid files =
      done_told f size w shelf l k d.t d.out r d.is d.op d.op_there d.s d.s_there d.state none b (honest upload) d.place_is d.name_is (b.told (known k d.t r.index r.shard d.out.there d.out.out d.is uploads)) in
      subst (λ u. StandsAs f (At f w.blobs) d.s.ref.id d.s.number u files) uuid
      (subst (λ n. StandsAs f (At f w.blobs) d.s.ref.id n d.t.uuid files) (sym place.1) (subst (λ x. StandsAs f (At f w.blobs) x r.shard d.t.uuid files) (sym place.0) stands))

  each_one : (s : ShardWork) (q : ShardResult) → d.op.source ≡ None → Has (map (marked k (Done r)) d.op.shards) s → s.state ≡ Done q → OfSource f w d.op.uuid s
  each_one s q none m state =
      let (z, z_there, same) = Has-mapped (marked k (Done r)) d.op.shards s m in
      elim (marked_is k (Done r) z) [
        | inl was ↦
            let its : OfSource f w d.op.uuid z = subst (OfSource f w d.op.uuid) (sym (held_one z z_there was.state)) (new_one none) in
            let is : record z { state = Done r } ≡ s = sym was.is ∙ same in
            subst (OfSource f w d.op.uuid) is its
        | inr was ↦
            let is : z ≡ s = sym was.is ∙ same in
            subst (OfSource f w d.op.uuid) is (sourced d.t.op d.op z q d.op_there none z_there (ap (λ (x : ShardWork). x.state) is ∙ state))
      ]

  done_holds : HoldsOfDone (OfSource f w) (done_of w k r (fin.get w.tickets k)).ops
  done_holds =
      subst (λ (x : Option Ticket). HoldsOfDone (OfSource f w) (done_of w k r x).ops) (sym d.out.there)
      (subst (λ (x : Option Op). HoldsOfDone (OfSource f w) (done_by w k r d.t x).ops) (sym d.op_there)
      (put (OfSource f w) w.ops d.t.op (record d.op { shards = map (marked k (Done r)) d.op.shards }) sourced each_one))

doing : {f : Formats} {size : ℕ} {w : World} {who : ℕ} {r : ShardResult} {reply : Reply} {image : Option Image} → Allows f size w who (DoneStep r) reply image → Dones f size w who r image × (reply ≡ HasEnded)
doing (allowed.Doing k r im d same) = (d, refl)

-- each step keeps them
module _ (f : Formats) (size : ℕ) (w : World) (shelf : List Shelved) (l : Law f w shelf) (sourced : Sourced f w) (known : TellsShards f w)
    (honest : HasUpload w → IsHonest f w.blobs) (m : Moment) (i : Image) (told : m.image ≡ Some i) (a : Allowed f size w m) where
  holds : HoldsOfDone (OfSource f w) (after f w m).ops
  holds = elim a.answered [
    | inl alive ↦ elim (which m.entry.step) [
      | inl done ↦
          let (d, ended) = doing (subst (λ (x : Step). Allows f size w m.entry.who x m.entry.reply m.image) done.1 alive.1) in
          subst (HoldsOfDone (OfSource f w))
          (sym (ap (λ (x : Step). (answered f w m.entry.who x m.entry.reply m.image).ops) done.1 ∙ ap (λ (x : Reply). (answered f w m.entry.who (DoneStep done.0) x m.image).ops) ended))
          (done_holds f size w shelf l sourced known honest m.entry.who done.0 i (subst (Dones f size w m.entry.who done.0) told d))
      | inr other ↦ answered_done (OfSource f w) f w m.entry.who m.entry.step m.entry.reply m.image other sourced
    ]
    | inr dead ↦ subst (HoldsOfDone (OfSource f w)) (sym (ap (λ (x : World). x.ops) (blocked_stays f w m dead))) sourced
  ]

  still_sourced : Stepped f w shelf m (after f w m) → Sourced f (after f w m)
  still_sourced s =
      let now : i.blobs ≡ blobs_in m.image w.blobs = λ j. blobs_in (sym told j) w.blobs in
      let its : BlobsChange f w m.entry.step (after f w m).blobs = subst (BlobsChange f w m.entry.step) now (blobs_change f size w m i told a) in
      moved f w (after f w m) (shelf_after shelf s.commands) s.law (same_text f w m.entry.step (after f w m).blobs its) holds

-- ---- what a finalization makes

maps_same : {A B : Type 0} (g h : A → B) (xs : List A) → ((x : A) → Has xs x → g x ≡ h x) → map g xs ≡ map h xs
maps_same g h [] all = refl
maps_same g h (x ∷ xs) all = λ j. all x (inl refl) j ∷ maps_same g h xs (λ y m. all y (inr m)) j

module _ (f : Formats) (w : World) (sourced : Sourced f w) (o : ℕ) (op : Op) (there : fin.get w.ops o ≡ Some op) (results : List ShardResult) (done : AllDone op.shards results) where
  shard_told : op.source ≡ None → (s : ShardWork) → Has (sorted_by comes_first_of op.shards) s → shelved_shard f w.blobs op.uuid s ≡ told_shard f s
  shard_told none s m =
      let its : Has op.shards s = Has-sorted comes_first_of op.shards s m in
      let (r, state, r_there) = result_of op.shards results done s its in
      let h : OfSource f w op.uuid s = sourced o op s r there none its state in
      λ j. record {
        index = s.ref.name;
        number = s.number;
        files = stored_is f w.blobs (At f w.blobs) (λ name bytes at. at.0) s.ref.id s.number op.uuid h.snap h.reads (files_told f s.place s.ref.name s.number) h.stand j;
      }

  made_told : (source : Option ℕ) → op.source ≡ source → made_from f w.blobs op source ≡ told_from f op source
  made_told None none =
      let same : map (shelved_shard f w.blobs op.uuid) (sorted_by comes_first_of op.shards) ≡ map (told_shard f) (sorted_by comes_first_of op.shards) =
      maps_same (shelved_shard f w.blobs op.uuid) (told_shard f) (sorted_by comes_first_of op.shards) (shard_told none) in
      λ j. Create (record { name = op.name; uuid = op.uuid; shards = same j })
  made_told (Some u) copies = refl

final_told : (f : Formats) (size : ℕ) (w : World) (m : Moment) → Allowed f size w m → Sourced f w → IsOfSources f w m
final_told f size w m a sourced k o info results op reply there =
    let g : GivesFinalize f w o info results = (take_gave f size w m k o (GivenFinalize info results) a reply).gives in
    let same : g.op ≡ op = same_Some g.op op (sym g.ready.op_there ∙ there) in
    made_told f w sourced o op there results (subst (λ (x : Op). AllDone x.shards results) same g.ready.done) op.source refl

-- ---- over a history

pub of_sources : (f : Formats) (size : ℕ) (log : List Moment) (w : World) (shelf : List Shelved) → Law f w shelf → Sourced f w → TellsHandedOut f w log → HonestUploads f w log → IsLegal f size w log → AreTold log
    → AreOfSources f w log
of_sources f size [] w shelf l sourced known honest legal told = tt
of_sources f size (m ∷ log) w shelf l sourced known honest legal told =
    let s = step_law f size w shelf l m told.0.0 told.0.1 legal.0 in
    let next : Sourced f (after f w m) = still_sourced f size w shelf l sourced known.0 honest.0 m told.0.0 told.0.1 legal.0 s in
    (final_told f size w m legal.0 sourced, of_sources f size log (after f w m) (shelf_after shelf s.commands) s.law next known.1 honest.1 legal.1 told.1)

-- in the opened world no shard is done
pub opened_sourced : (f : Formats) (image : Image) (w : World) → Opened f image w → Sourced f w
opened_sourced f image w (OpenedEmpty none) = λ o op s r there. absurd (nothing o op there)
opened_sourced f image w (OpenedRecord cluster text root is reads safe) = λ o op s r there. absurd (nothing o op there)
