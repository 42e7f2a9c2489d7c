-- Each step keeps what is to be written spare, whatever calls fail, unless a record swap failed.
use Rattle.std.proofs.Common.{◌≡◌, ◌⊎◌, ℕ, zero, suc, ◌<◌, List, [], Bool, true, false, Option, Some, None, map, refl, sym, ap, ◌∙◌, subst, inl, inr, arith, le_refl}
use Rattle.std.specs.Prelude.{if◌then◌else◌}
use Rattle.std.specs.FinMap as fin
use Rattle.std.proofs.lemmas.Option.{none-some, same_Some}
use Rattle.esr_quiet.proofs.FreeSteps.{unplanned}
use Rattle.esr_model.specs.Names.{BlobName, Latest, ShardSnap}
use Rattle.esr_model.specs.Values.{Bytes, Has, ShardResult, ReadsBack, Formats}
use Rattle.esr_model.specs.Shelf.{Shelved}
use Rattle.esr_model.specs.Image.{Image, Blobs, At, Present}
use Rattle.esr_model.specs.Delete.{PrunedShard}
use Rattle.esr_model.specs.Cleanup.{BlobSize, IsPageOf}
use Rattle.esr_core.specs.World.{World, Op, Deletion, ShardWork, Pending, Done, Shard, Deleting, Drop, Ticket, Swap, ReadState, Restored, NotRestored, Restoring, Reader, marked}
use Rattle.esr_core.specs.Ready.{IsShard}
use Rattle.esr_core.specs.Restores.{IsTestOf}
use Rattle.esr_core.specs.Steps.{Removes, with_ticket, noting, listing, given, shard_ticket, final_ticket, plain_ticket}
use Rattle.esr_core.specs.Turns.{Aborts, cleaning_ticket, fails}
use Rattle.esr_core.specs.Pruning.{planned}
use Rattle.esr_core.specs.Deletes.{named_uuids, waiting_delete, running_delete, aborted_ops, delete_merged, delete_by}
use Rattle.esr_core.specs.Ids.{Law}
use Rattle.esr_core.specs.Entry.{Given, GivenShard, GivenFinalize, GivenDrop, GivenRestore, GivenClone, GivenDelete, GivenCleanup, Why, Read, ReadBlob, RestoredShard, ReadFails, Prune, Step, CommitStep, LatestStep, ReadStep, PruneStep, DepotFault, Reply, WasDone, WasFetched, WasAbsent, WasReplaced, HasEnded, Refused, Moment}
use Rattle.esr_core.specs.After.{asked_op, cloned_op, taken_by, taken_shard, taken_restore, taken_restore_shard, with_given, change, committing, fetching, told_blob, settled_of, delete_settled, delete_failed_by, delete_failed, done_of, done_by, is_stale, failed_by, failed_of, dropped_of, read_told, shard_over, read_over, is_latest, test_left, blobs_in, after}
use Rattle.esr_core.specs.Allowed as allowed
use Rattle.esr_core.specs.Allowed.{latest_text, Told, SameBlobs, Adds, Gives, Commits, Raises, Settles, IsOwnTest, MayPlan, SettlesDeletion, ReadAllows, ReadFound, ReadMissing, RestoringShard, ReaderFailing, VerifyAllows, DrawingTest, TestSpent, BeginningTest, BeginTestFails, CommittingTest, TestTaken, CommitTestFails, RemovingTests, RemoveTestsFails, VerifyingAll, VerifyFailing, PruneAllows, FetchingShard, ShardMissing, FetchShardFails, Planning, PlanSpent, SettlingDelete, SettleDeleteStale, SettleDeleteFails, RemovingDoomed, RemoveDoomedFails, EndingDelete, FailingDelete, Allows, Allowed}
use Rattle.esr_core.specs.Laws.BlobFrames.{at_was, at_back}
use Rattle.esr_core.specs.Laws.DeleteAsks.{aborts}
use Rattle.esr_core.specs.Laws.ShardStates.{out_pending, failed_is, marked_is, given_is, pending_done, up_pending}
use Rattle.esr_core.specs.Laws.Asides.{blocked_stays}
use Rattle.esr_core.specs.Laws.Moments.{moment, settled_plain, delete_settled_plain}
use Rattle.esr_core.specs.Laws.Maps.{Ops}
use Rattle.esr_quiet.specs.Untaken.{MayLeave}
use Rattle.esr_quiet.proofs.FreeNames.{drew_same, commits_same, one_place, snap_alone, drawn_new}
use Rattle.esr_quiet.specs.QuietWorlds.{was_shards}
use Rattle.esr_quiet.proofs.FreeParts.{own_put, own_new, own_pending, own_drawn}
use Rattle.esr_quiet.proofs.PlanNames.{plan_no_shard, new_plan}
use Rattle.esr_quiet.proofs.SpareFrame.{IsSpare, Spare, Goes, IsFresh, ArePending, Were, KeepsPending, framed, goes_same, goes_out, came_all, came_put, came_new, pending_all, pending_left, pending_map, pending_new}
use Rattle.esr_quiet.proofs.SpareBlobs.{beside_put, added_spare}

shard_same : {i n j k : ℕ} → Shard i n ≡ Shard j k → (i ≡ j) × (n ≡ k)
shard_same e = (cc, cc)

-- a ticket of no shard is fresh
plain_fresh : (f : Formats) (w : World) (v : Ticket) → ((i n : ℕ) → v.work ≡ Shard i n → ⊥) → v.raised ≡ None → ((uuids : List ℕ) (s : Swap) → v.work ≡ Deleting uuids (Some s) → ⊥) → IsFresh f w v
plain_fresh f w v no_shard unraised no_plan = record { commits = λ name c p. let (i, n, work, same) = one_place v v name c c in no_shard i n work; unraised = unraised; no_plan = no_plan }

module _ (f : Formats) (tried : ℕ → BlobName → Type 0) (w : World) (shelf : List Shelved) (law : Law f w shelf) (l : Spare f tried w) where
  -- ---- the blobs after a step

  same_were : (image : Option Image) → SameBlobs w image → Were f w (blobs_in image w.blobs)
  same_were None same name b no_test h = h
  same_were (Some i) same name b no_test h = subst (λ x. At f x name b) same h

  told_were : (image : Option Image) (P : Blobs → Type 0) → ((blobs : Blobs) → P blobs → blobs ≡ w.blobs) → Told image P → Were f w (blobs_in image w.blobs)
  told_were None P same told name b no_test h = h
  told_were (Some i) P same told name b no_test h = subst (λ x. At f x name b) (same i.blobs told) h

  latest_were : (now : Blobs) (bytes : Bytes) → ReadsBack f.names Latest → now ≡ fin.insert w.blobs (f.names.text Latest) bytes → Were f w now
  latest_were now bytes named is name b no_test h = at_back f w.blobs now (inr (bytes, is, named)) name b h

  removed_were : (now : Blobs) (names : List BlobName) → Removes f w.blobs now names → Were f w now
  removed_were now names away name b no_test h = (away.left (f.names.text name) b h.0, h.1)

  test_were : (name : BlobName) (bytes : Bytes) → IsOwnTest f w name → (now : Blobs) → Adds f w name bytes now → Were f w now
  test_were name bytes own now adds m b no_test h = elim (at_was f w.blobs name bytes own.stored adds.0 [] m b (subst (λ (x : Blobs). At f x m b) adds.1 h)) [
    | inl e ↦ absurd (no_test own.id (subst (IsTestOf own.id) (sym e.0) own.test))
    | inr old ↦ old
  ]

  -- ---- nothing but blobs changes

  kept : (blobs : Blobs) → Were f w blobs → IsSpare f tried blobs w.ops w.tickets
  kept blobs were = framed f tried w l blobs w.ops w.tickets (came_all f w) l.own (pending_all f w) were

  still : (image : Option Image) → SameBlobs w image → IsSpare f tried (blobs_in image w.blobs) w.ops w.tickets
  still image same = kept (blobs_in image w.blobs) (same_were image same)

  -- ---- a ticket goes on

  put : (k : ℕ) (t v : Ticket) → fin.get w.tickets k ≡ Some t → Goes f w t v → v.raised ≡ t.raised → v.first ≡ t.first → v.drawn ≡ t.drawn → (blobs : Blobs) → Were f w blobs
      → IsSpare f tried blobs w.ops (fin.insert w.tickets k v)
  put k t v there goes same first drawn blobs were = framed f tried w l blobs w.ops (fin.insert w.tickets k v) (came_put f w k t v there goes) (own_put w.tickets l.own k t v there same first drawn) (pending_all f w) were

  changed : (k : ℕ) (t : Ticket) → fin.get w.tickets k ≡ Some t → (g : Ticket → Ticket) → Goes f w t (g t) → (g t).raised ≡ t.raised → (g t).first ≡ t.first → (g t).drawn ≡ t.drawn → (blobs : Blobs) → Were f w blobs
      → IsSpare f tried blobs (change w k g).ops (change w k g).tickets
  changed k t there g goes same first drawn blobs were = subst (λ o. IsSpare f tried blobs (with_given w k g o).ops (with_given w k g o).tickets) (sym there) (put k t (g t) there goes same first drawn blobs were)

  ends : (k : ℕ) (t : Ticket) → fin.get w.tickets k ≡ Some t → (blobs : Blobs) → Were f w blobs
      → IsSpare f tried blobs (change w k (λ (x : Ticket). record x { out = false })).ops (change w k (λ (x : Ticket). record x { out = false })).tickets
  ends k t there blobs were = changed k t there (λ (x : Ticket). record x { out = false }) (goes_out f w t) refl refl refl blobs were

  tries : (k : ℕ) (t : Ticket) → fin.get w.tickets k ≡ Some t → (blobs : Blobs) → Were f w blobs
      → IsSpare f tried blobs (change w k (λ (x : Ticket). record x { tried_latest = true })).ops (change w k (λ (x : Ticket). record x { tried_latest = true })).tickets
  tries k t there blobs were = changed k t there (λ (x : Ticket). record x { tried_latest = true }) (goes_same f w t (record t { tried_latest = true }) refl (λ e. e) refl refl refl refl) refl refl refl blobs were

  fetches : (k : ℕ) (t : Ticket) → fin.get w.tickets k ≡ Some t → (name : BlobName) (o : Option Bytes) (blobs : Blobs) → Were f w blobs → IsSpare f tried blobs (change w k (fetching name o)).ops (change w k (fetching name o)).tickets
  fetches k t there name None blobs were = changed k t there (fetching name None) (goes_same f w t t refl (λ e. e) refl refl refl refl) refl refl refl blobs were
  fetches k t there name (Some bytes) blobs were = changed k t there (fetching name (Some bytes)) (goes_same f w t (fetching name (Some bytes) t) refl (λ e. e) refl refl refl refl) refl refl refl blobs were

  finds : (k : ℕ) (t : Ticket) → fin.get w.tickets k ≡ Some t → (name : BlobName) (blobs : Blobs) → Were f w blobs
      → IsSpare f tried blobs (change w k (λ (x : Ticket). noting x name)).ops (change w k (λ (x : Ticket). noting x name)).tickets
  finds k t there name blobs were = changed k t there (λ (x : Ticket). noting x name) (goes_same f w t (noting t name) refl (λ e. e) refl refl refl refl) refl refl refl blobs were

  -- it has listed a page more
  lists : (k : ℕ) (t : Ticket) → fin.get w.tickets k ≡ Some t → (page : List BlobSize) (blobs : Blobs) → Were f w blobs
      → IsSpare f tried blobs (change w k (λ (x : Ticket). listing x page)).ops (change w k (λ (x : Ticket). listing x page)).tickets
  lists k t there page blobs were = changed k t there (λ (x : Ticket). listing x page) (goes_same f w t (listing t page) refl (λ e. e) refl refl refl refl) refl refl refl blobs were

  -- a begin, of `index.latest` or not
  begins : (k : ℕ) (t : Ticket) → fin.get w.tickets k ≡ Some t → (blobs : Blobs) → Were f w blobs → (b : Bool)
      → IsSpare f tried blobs (if b then change w k (λ (x : Ticket). record x { tried_latest = true }) else w).ops (if b then change w k (λ (x : Ticket). record x { tried_latest = true }) else w).tickets
  begins k t there blobs were true = tries k t there blobs were
  begins k t there blobs were false = kept blobs were

  -- what it draws is above all ids
  draws : (k n : ℕ) (t : Ticket) → fin.get w.tickets k ≡ Some t → IsShard t.work → (blobs : Blobs) → Were f w blobs
      → IsSpare f tried blobs (change w k (λ (x : Ticket). record x { first = w.next_id; drawn = n })).ops (change w k (λ (x : Ticket). record x { first = w.next_id; drawn = n })).tickets
  draws k n t there shard blobs were =
      subst (λ o. IsSpare f tried blobs (with_given w k (λ (x : Ticket). record x { first = w.next_id; drawn = n }) o).ops (with_given w k (λ (x : Ticket). record x { first = w.next_id; drawn = n }) o).tickets) (sym there)
      (framed f tried w l blobs w.ops (fin.insert w.tickets k (record t { first = w.next_id; drawn = n })) (came_put f w k t (record t { first = w.next_id; drawn = n }) there like)
      (own_drawn w.tickets l.own k t (record t { first = w.next_id; drawn = n }) w.next_id there refl (le_refl w.next_id) (λ j u e. (law.ids.tickets j u e).drawn)) (pending_all f w) were)
    where
      like : Goes f w t (record t { first = w.next_id; drawn = n })
      like =
          record {
            plans = λ uuids s e. absurd (subst IsShard e shard);
            out = λ e. e;
            commits = λ name c. elim (drawn_new t w.next_id n name c) [ inl was ↦ inl was | inr above ↦ inr (λ p. above (law.ids.blobs name p)) ];
            raised = λ m e. inl e;
          }

  -- what it raises is above all roots
  raises : (k n : ℕ) (r : Raises f w k n) (blobs : Blobs) → Were f w blobs
      → IsSpare f tried blobs (change w k (λ (x : Ticket). record x { raised = Some w.pending })).ops (change w k (λ (x : Ticket). record x { raised = Some w.pending })).tickets
  raises k n r blobs were =
      subst (λ o. IsSpare f tried blobs (with_given w k (λ (x : Ticket). record x { raised = Some w.pending }) o).ops (with_given w k (λ (x : Ticket). record x { raised = Some w.pending }) o).tickets) (sym r.may.out.there)
      (framed f tried w l blobs w.ops (fin.insert w.tickets k (record r.may.t { raised = Some w.pending })) (came_put f w k r.may.t (record r.may.t { raised = Some w.pending }) r.may.out.there like)
      (own_pending f w shelf law l.own k r.may.t r.may.out.there) (pending_all f w) were)
    where
      one : (m : ℕ) → ◌≡◌ {A = Option ℕ} (Some w.pending) (Some m) → w.pending ≡ m
      one m e = same_Some _ _ e

      like : Goes f w r.may.t (record r.may.t { raised = Some w.pending })
      like =
          record {
            plans = λ uuids s e. inl (record { work = e; drew = λ id h. drew_same (record r.may.t { raised = Some w.pending }) r.may.t id refl refl h });
            out = λ e. e;
            commits = λ name c. inl (commits_same r.may.t (record r.may.t { raised = Some w.pending }) refl refl refl refl name c);
            raised = λ m e. inr (λ p. let b : m < w.pending = law.lawful.sound.rooted.kept.begun m p in let same : w.pending ≡ m = one m e in omega (arith, b, same));
          }

  -- ---- ops

  -- the uuid of a new op is that of no blob
  opens : (op : Op) → op.uuid ≡ w.next_id → (blobs : Blobs) → Were f w blobs → IsSpare f tried blobs (fin.insert w.ops w.next_op op) w.tickets
  opens op is blobs were =
      framed f tried w l blobs (fin.insert w.ops w.next_op op) w.tickets (came_all f w) l.own
      (pending_new f w w.next_op op (λ s p. let b : op.uuid < w.next_id = (law.ids.blobs (ShardSnap s.ref.id s.number op.uuid) p).1 in let e : op.uuid ≡ w.next_id = is in omega (arith, b, e))) were

  -- a new ticket of no shard
  gives_plain : (v : Ticket) → IsFresh f w v → v.drawn ≡ 0 → (blobs : Blobs) → Were f w blobs → IsSpare f tried blobs w.ops (fin.insert w.tickets w.next_ticket v)
  gives_plain v new undrawn blobs were = framed f tried w l blobs w.ops (fin.insert w.tickets w.next_ticket v) (came_new f w w.next_ticket v new) (own_new w.tickets l.own w.next_ticket v new.unraised undrawn) (pending_all f w) were

  -- a pending shard is given
  gives_shard : (o : ℕ) (op : Op) (s : ShardWork) (base : Option ℕ) → fin.get w.ops o ≡ Some op → Has op.shards s → s.state ≡ Pending → (blobs : Blobs) → Were f w blobs
      → IsSpare f tried blobs (fin.insert w.ops o (record op { shards = map (given w.next_ticket s.ref.id s.number) op.shards })) (fin.insert w.tickets w.next_ticket (shard_ticket w o op s base))
  gives_shard o op s base there m pending blobs were =
      framed f tried w l blobs (fin.insert w.ops o (record op { shards = map g op.shards })) (fin.insert w.tickets w.next_ticket (shard_ticket w o op s base))
      (came_new f w w.next_ticket (shard_ticket w o op s base) new) (own_new w.tickets l.own w.next_ticket (shard_ticket w o op s base) refl refl)
      (pending_map f w o op (record op { shards = map g op.shards }) g there refl refl keeps) were
    where
      g : ShardWork → ShardWork
      g = given w.next_ticket s.ref.id s.number

      keeps : KeepsPending (given w.next_ticket s.ref.id s.number) op
      keeps z z_there e = elim (given_is w.next_ticket s.ref.id s.number z) [ inl h ↦ absurd (out_pending (ap (λ (x : ShardWork). x.state) (sym h.2) ∙ e)) | inr h ↦ h.1 ]

      never : (uuids : List ℕ) (plan : Swap) → Shard s.ref.id s.number ≡ Deleting uuids (Some plan) → ⊥
      never uuids plan e = cc

      new : IsFresh f w (shard_ticket w o op s base)
      new =
          record {
            commits = λ name c p.
                let (i, n, work, is) = snap_alone (shard_ticket w o op s base) refl name c in
                let same = shard_same work in
                l.pending o op s there m pending (subst (Present f w.blobs) (is ∙ (λ j. ShardSnap (sym same.0 j) (sym same.1 j) op.uuid)) p);
            unraised = refl;
            no_plan = never;
          }

  gives : (o : ℕ) (unit : Given) → Gives f w o unit → (blobs : Blobs) → Were f w blobs → IsSpare f tried blobs (taken_by f w o unit (fin.get w.ops o)).ops (taken_by f w o unit (fin.get w.ops o)).tickets
  gives o (GivenShard index number base) g blobs were =
      subst (λ x. IsSpare f tried blobs (taken_by f w o (GivenShard index number base) x).ops (taken_by f w o (GivenShard index number base) x).tickets) (sym g.ready.op_there)
      (subst (λ x. IsSpare f tried blobs (taken_shard w o g.op base x).ops (taken_shard w o g.op base x).tickets) (sym g.found) (gives_shard o g.op g.s base g.ready.op_there g.ready.s_there g.ready.pending blobs were))
  gives o (GivenClone index number source base) g blobs were =
      subst (λ x. IsSpare f tried blobs (taken_by f w o (GivenClone index number source base) x).ops (taken_by f w o (GivenClone index number source base) x).tickets) (sym g.ready.op_there)
      (subst (λ x. IsSpare f tried blobs (taken_shard w o g.op base x).ops (taken_shard w o g.op base x).tickets) (sym g.found) (gives_shard o g.op g.s base g.ready.op_there g.ready.s_there g.ready.pending blobs were))
  gives o (GivenFinalize info results) g blobs were =
      subst (λ x. IsSpare f tried blobs (taken_by f w o (GivenFinalize info results) x).ops (taken_by f w o (GivenFinalize info results) x).tickets) (sym g.ready.op_there)
      (gives_plain (final_ticket f w o g.op results) (plain_fresh f w (final_ticket f w o g.op results) (λ i n e. cc) refl (λ uuids plan e. cc)) refl blobs were)
  gives o (GivenRestore index number uuid) g blobs were =
      subst (λ x. IsSpare f tried blobs (taken_restore w o index number x).ops (taken_restore w o index number x).tickets) (sym g.ready.there)
      (subst (λ x. IsSpare f tried blobs (taken_restore_shard w o g.r x).ops (taken_restore_shard w o g.r x).tickets) (sym g.found) (kept blobs were))
  gives o (GivenDelete uuids) g blobs were = gives_plain (plain_ticket w o (Deleting uuids None)) (plain_fresh f w (plain_ticket w o (Deleting uuids None)) (λ i n e. cc) refl (unplanned uuids)) refl blobs were
  gives o GivenCleanup g blobs were = gives_plain (cleaning_ticket w o) (plain_fresh f w (cleaning_ticket w o) (λ i n e. cc) refl (unplanned [])) refl blobs were
  gives o GivenDrop g blobs were = dropping (fin.get w.ops o)
    where
      dropping : (found : Option Op) → IsSpare f tried blobs (taken_by f w o GivenDrop found).ops (taken_by f w o GivenDrop found).tickets
      dropping None = gives_plain (plain_ticket w o Drop) (plain_fresh f w (plain_ticket w o Drop) (λ i n e. cc) refl (λ uuids plan e. cc)) refl blobs were
      dropping (Some op) = gives_plain (plain_ticket w o Drop) (plain_fresh f w (plain_ticket w o Drop) (λ i n e. cc) refl (λ uuids plan e. cc)) refl blobs were

  -- the op goes on, and its ticket ends
  marks : (k : ℕ) (t : Ticket) → fin.get w.tickets k ≡ Some t → (op now : Op) (g : ShardWork → ShardWork) → fin.get w.ops t.op ≡ Some op → now.uuid ≡ op.uuid → now.shards ≡ map g op.shards → KeepsPending g op
      → (blobs : Blobs) → Were f w blobs
      → IsSpare f tried blobs (fin.insert w.ops t.op now) (fin.insert w.tickets k (record t { out = false }))
  marks k t there op now g op_there uuid shards keeps blobs were =
      framed f tried w l blobs (fin.insert w.ops t.op now) (fin.insert w.tickets k (record t { out = false })) (came_put f w k t (record t { out = false }) there (goes_out f w t))
      (own_put w.tickets l.own k t (record t { out = false }) there refl refl refl) (pending_map f w t.op op now g op_there uuid shards keeps) were

  does : (k : ℕ) (r : ShardResult) (t : Ticket) → fin.get w.tickets k ≡ Some t → (op : Op) → fin.get w.ops t.op ≡ Some op → (blobs : Blobs) → Were f w blobs
      → IsSpare f tried blobs (done_of w k r (fin.get w.tickets k)).ops (done_of w k r (fin.get w.tickets k)).tickets
  does k r t there op op_there blobs were =
      subst (λ o. IsSpare f tried blobs (done_of w k r o).ops (done_of w k r o).tickets) (sym there)
      (subst (λ o. IsSpare f tried blobs (done_by w k r t o).ops (done_by w k r t o).tickets) (sym op_there)
      (marks k t there op (record op { shards = map (marked k (Done r)) op.shards }) (marked k (Done r)) op_there refl refl keeps blobs were))
    where
      keeps : KeepsPending (marked k (Done r)) op
      keeps z z_there e = elim (marked_is k (Done r) z) [ inl h ↦ absurd (pending_done (sym e ∙ ap (λ (x : ShardWork). x.state) h.is)) | inr h ↦ h.is ]

  fails_op : (k : ℕ) (t : Ticket) → fin.get w.tickets k ≡ Some t → (o : Option Op) → fin.get w.ops t.op ≡ o → (blobs : Blobs) → Were f w blobs → IsSpare f tried blobs (failed_by w k t o).ops (failed_by w k t o).tickets
  fails_op k t there None e blobs were = kept blobs were
  fails_op k t there (Some op) e blobs were = marks k t there op (record op { shards = map (fails k) op.shards; failed = true }) (fails k) e refl refl keeps blobs were
    where
      keeps : KeepsPending (fails k) op
      keeps z z_there p = elim (failed_is k z) [ inl h ↦ absurd (up_pending (ap (λ (x : ShardWork). x.state) (sym h.1) ∙ p)) | inr h ↦ h.2 ]

  fails_step : (k : ℕ) (t : Ticket) → fin.get w.tickets k ≡ Some t → (blobs : Blobs) → Were f w blobs → IsSpare f tried blobs (failed_of w k (fin.get w.tickets k)).ops (failed_of w k (fin.get w.tickets k)).tickets
  fails_step k t there blobs were = subst (λ x. IsSpare f tried blobs (failed_of w k x).ops (failed_of w k x).tickets) (sym there) (by (is_stale w t t.work))
    where
      by : (b : Bool)
          → IsSpare f tried blobs (if b then with_ticket w k (record t { out = false }) else failed_by w k t (fin.get w.ops t.op)).ops (if b then with_ticket w k (record t { out = false }) else failed_by w k t (fin.get w.ops t.op)).tickets
      by true = put k t (record t { out = false }) there (goes_out f w t) refl refl refl blobs were
      by false = fails_op k t there (fin.get w.ops t.op) refl blobs were

  -- its op is over
  leaves_op : (k o : ℕ) (t v : Ticket) → fin.get w.tickets k ≡ Some t → Goes f w t v → v.raised ≡ t.raised → v.first ≡ t.first → v.drawn ≡ t.drawn → (blobs : Blobs) → Were f w blobs
      → IsSpare f tried blobs (fin.remove w.ops o) (fin.insert w.tickets k v)
  leaves_op k o t v there goes same first drawn blobs were =
      framed f tried w l blobs (fin.remove w.ops o) (fin.insert w.tickets k v) (came_put f w k t v there goes) (own_put w.tickets l.own k t v there same first drawn) (pending_left f w o) were

  settles : (k : ℕ) (s : Settles f w k) (blobs : Blobs) → Were f w blobs → IsSpare f tried blobs (settled_of f w k (fin.get w.tickets k)).ops (settled_of f w k (fin.get w.tickets k)).tickets
  settles k s blobs were =
      subst (λ (x : World). IsSpare f tried blobs x.ops x.tickets) (sym (settled_plain f w k s))
      (leaves_op k s.t.op s.t (record s.t { settled = true }) s.may.out.there (goes_same f w s.t (record s.t { settled = true }) refl (λ e. e) refl refl refl refl) refl refl refl blobs were)

  drops : (k : ℕ) (t : Ticket) → fin.get w.tickets k ≡ Some t → (blobs : Blobs) → Were f w blobs → IsSpare f tried blobs (dropped_of w k (fin.get w.tickets k)).ops (dropped_of w k (fin.get w.tickets k)).tickets
  drops k t there blobs were =
      subst (λ x. IsSpare f tried blobs (dropped_of w k x).ops (dropped_of w k x).tickets) (sym there) (leaves_op k t.op t (record t { out = false }) there (goes_out f w t) refl refl refl blobs were)

  -- ---- deletes

  aborted : (ops : Ops) (by : ℕ) → Aborts w.ops ops by → (blobs : Blobs) → Were f w blobs → IsSpare f tried blobs ops w.tickets
  aborted ops by a blobs were = framed f tried w l blobs ops w.tickets (came_all f w) l.own on were
    where
      on : ArePending f w ops
      on o op s e m state =
          let (old, there, how) = a.was o op e in
          let same = was_shards op old by how in
          inl (record { number = o; old = old; there = there; z = s; z_there = subst (λ (ss : List ShardWork). Has ss s) same.0 m; uuid = sym same.1; index = refl; shard = refl; state = state })

  goes_into : (names : List Bytes) (waiting running : Option ℕ) (blobs : Blobs) → Were f w blobs → IsSpare f tried blobs (delete_by w names waiting running).ops (delete_by w names waiting running).tickets
  goes_into names (Some d) running blobs were = merged (fin.get w.deletes d)
    where
      merged : (found : Option Deletion) → IsSpare f tried blobs (delete_merged w names d found).ops (delete_merged w names d found).tickets
      merged None = kept blobs were
      merged (Some x) = aborted (aborted_ops w (named_uuids w names) d) d (aborts w (named_uuids w names) d) blobs were
  goes_into names None (Some d) blobs were = kept blobs were
  goes_into names None None blobs were = aborted (aborted_ops w (named_uuids w names) w.next_op) w.next_op (aborts w (named_uuids w names) w.next_op) blobs were

  module _ (k : ℕ) (shards : List PrunedShard) (image : Option Image) (p : MayPlan f w k shards image) where
    abbrev next : Ticket
    next = planned f shards w.next_id p.t

    like : Goes f w p.t (planned f shards w.next_id p.t)
    like =
        record {
          plans = λ uuids s e. inr (new_plan f w shelf law k shards image p uuids s e);
          out = λ e. e;
          commits = λ name c. let (i, n, work, same) = one_place (planned f shards w.next_id p.t) (planned f shards w.next_id p.t) name c c in absurd (plan_no_shard f w shelf law k shards image p i n work);
          raised = λ n e. inl e;
        }

    plans : (blobs : Blobs) → Were f w blobs → IsSpare f tried blobs (change w k (planned f shards w.next_id)).ops (change w k (planned f shards w.next_id)).tickets
    plans blobs were =
        subst (λ o. IsSpare f tried blobs (with_given w k (planned f shards w.next_id) o).ops (with_given w k (planned f shards w.next_id) o).tickets) (sym p.deleting.out.there)
        (framed f tried w l blobs w.ops (fin.insert w.tickets k next) (came_put f w k p.t next p.deleting.out.there like)
        (own_drawn w.tickets l.own k p.t next w.next_id p.deleting.out.there refl (le_refl w.next_id) (λ j u e. (law.ids.tickets j u e).drawn)) (pending_all f w) were)

  settles_delete : (k : ℕ) (s : SettlesDeletion f w k) (blobs : Blobs) → Were f w blobs → IsSpare f tried blobs (delete_settled f w k (fin.get w.tickets k)).ops (delete_settled f w k (fin.get w.tickets k)).tickets
  settles_delete k s blobs were =
      subst (λ (x : World). IsSpare f tried blobs x.ops x.tickets) (sym (delete_settled_plain f w k s.n s.t s.s s.may))
      (leaves_op k s.t.op s.t (record s.t { settled = true }) s.may.out.there (goes_same f w s.t (record s.t { settled = true }) refl (λ e. e) refl refl refl refl) refl refl refl blobs were)

  fails_delete : (k : ℕ) (t : Ticket) → fin.get w.tickets k ≡ Some t → (blobs : Blobs) → Were f w blobs → IsSpare f tried blobs (delete_failed w k (fin.get w.tickets k)).ops (delete_failed w k (fin.get w.tickets k)).tickets
  fails_delete k t there blobs were = subst (λ o. IsSpare f tried blobs (delete_failed w k o).ops (delete_failed w k o).tickets) (sym there) (by (is_stale w t t.work))
    where
      ended : IsSpare f tried blobs w.ops (fin.insert w.tickets k (record t { out = false }))
      ended = put k t (record t { out = false }) there (goes_out f w t) refl refl refl blobs were

      found : (x : Option Deletion) → IsSpare f tried blobs (delete_failed_by w k t x).ops (delete_failed_by w k t x).tickets
      found None = kept blobs were
      found (Some x) = ended

      by : (b : Bool) → IsSpare f tried blobs (if b then with_ticket w k (record t { out = false }) else delete_failed_by w k t (fin.get w.deletes t.op)).ops
          (if b then with_ticket w k (record t { out = false }) else delete_failed_by w k t (fin.get w.deletes t.op)).tickets
      by true = ended
      by false = found (fin.get w.deletes t.op)

  -- ---- what is read

  tells : (k : ℕ) (name : BlobName) (bytes : Option Bytes) (q : Option Reader) (blobs : Blobs) → Were f w blobs → IsSpare f tried blobs (read_told w k name bytes q).ops (read_told w k name bytes q).tickets
  tells k name bytes None blobs were = kept blobs were
  tells k name None (Some q) blobs were = kept blobs were
  tells k name (Some b) (Some q) blobs were = kept blobs were

  ends_shard : (k : ℕ) (state : ReadState) (q : Reader) (r : Option Restoring) (blobs : Blobs) → Were f w blobs → IsSpare f tried blobs (shard_over w k state q r).ops (shard_over w k state q r).tickets
  ends_shard k state q None blobs were = kept blobs were
  ends_shard k state q (Some r) blobs were = kept blobs were

  ends_read : (k : ℕ) (state : ReadState) (q : Option Reader) (blobs : Blobs) → Were f w blobs → IsSpare f tried blobs (read_over w k state q).ops (read_over w k state q).tickets
  ends_read k state None blobs were = kept blobs were
  ends_read k state (Some q) blobs were = ends_shard k state q (fin.get w.restores q.op) blobs were

  tests_left : (name : BlobName) (was now : Option Bytes) (blobs : Blobs) → Were f w blobs → IsSpare f tried blobs (test_left w name was now).ops (test_left w name was now).tickets
  tests_left name None (Some bytes) blobs were = kept blobs were
  tests_left name was now blobs were = kept blobs were

-- ---- each answer, where the image is told

module _ (f : Formats) (size : ℕ) (tried : ℕ → BlobName → Type 0) (w : World) (shelf : List Shelved) (law : Law f w shelf) (l : Spare f tried w) where
  -- a record swap failed, or all stays spare
  abbrev Next : ℕ → Step → Reply → Option Image → Type 0
  Next who step reply image = ((after f w (moment who step reply image)).deposed ≡ true) ⊎ Spare f tried (after f w (moment who step reply image))

  committed : (t : Ticket) (name : BlobName) (o : Option Bytes) → Goes f w t (committing name o t) × ((committing name o t).raised ≡ t.raised) × ((committing name o t).first ≡ t.first) × ((committing name o t).drawn ≡ t.drawn)
  committed t name None = (goes_same f w t (committing name None t) refl (λ e. e) refl refl refl refl, refl, refl, refl)
  committed t name (Some bytes) = (goes_same f w t (committing name (Some bytes) t) refl (λ e. e) refl refl refl refl, refl, refl, refl)

  commits : (k : ℕ) (name : BlobName) (image : Option Image) (c : Commits f size w k name) → Told image (Adds f w name c.bytes) → (i : Image) → image ≡ Some i → tried k name → Next k (CommitStep name) WasDone image
  commits k name None c adds i told mine = absurd (none-some i told)
  commits k name (Some x) c adds i told mine =
      let o : Option Bytes = fin.get x.blobs (f.names.text name) in
      let n = committed c.t name o in
      inr (subst (λ found. IsSpare f tried x.blobs (with_given w k (committing name (fin.get x.blobs (f.names.text name))) found).ops (with_given w k (committing name (fin.get x.blobs (f.names.text name))) found).tickets) (sym c.out.there)
      (subst (λ b. IsSpare f tried b w.ops (fin.insert w.tickets k (committing name (fin.get x.blobs (f.names.text name)) c.t))) (sym adds.1)
      (added_spare f tried w shelf law l k c.t c.out name c.bytes c.may c.named adds.0 mine (fin.insert w.tickets k (committing name (fin.get x.blobs (f.names.text name)) c.t))
      (beside_put f w k c.t (committing name (fin.get x.blobs (f.names.text name)) c.t) n.0) (own_put w.tickets l.own k c.t (committing name (fin.get x.blobs (f.names.text name)) c.t) c.out.there n.1 n.2 n.3))))

  leaves : (k : ℕ) (name : BlobName) (image : Option Image) (c : Commits f size w k name) → Told image (λ blobs. (blobs ≡ w.blobs) ⊎ Adds f w name c.bytes blobs) → (i : Image) → image ≡ Some i → tried k name
      → Next k (CommitStep name) (Refused DepotFault) image
  leaves k name None c left i told mine = absurd (none-some i told)
  leaves k name (Some x) c left i told mine = elim left [
    | inl same ↦ inr (kept f tried w shelf law l x.blobs (λ m b no_test h. subst (λ (y : Blobs). At f y m b) same h))
    | inr adds ↦ inr (subst (λ b. IsSpare f tried b w.ops w.tickets) (sym adds.1) (added_spare f tried w shelf law l k c.t c.out name c.bytes c.may c.named adds.0 mine w.tickets (λ j u e. inr e) l.own))
  ]

  replaces : (k : ℕ) (image : Option Image) (t : Ticket) → fin.get w.tickets k ≡ Some t → (n : ℕ) → ReadsBack f.names Latest → Told image (λ blobs. blobs ≡ fin.insert w.blobs (f.names.text Latest) (latest_text n)) → (i : Image)
      → image ≡ Some i → Next k LatestStep WasReplaced image
  replaces k None t there n named puts i told = absurd (none-some i told)
  replaces k (Some x) t there n named puts i told = inr (tries f tried w shelf law l k t there x.blobs (latest_were f tried w shelf law l x.blobs (latest_text n) named puts))

  unreplaced : (k : ℕ) (image : Option Image) (t : Ticket) → fin.get w.tickets k ≡ Some t → (n : ℕ) → ReadsBack f.names Latest
      → Told image (λ blobs. (blobs ≡ w.blobs) ⊎ (blobs ≡ fin.insert w.blobs (f.names.text Latest) (latest_text n))) → (i : Image) → image ≡ Some i
      → Next k LatestStep (Refused DepotFault) image
  unreplaced k None t there n named puts i told = absurd (none-some i told)
  unreplaced k (Some x) t there n named puts i told = inr (tries f tried w shelf law l k t there x.blobs (elim puts [
    | inl same ↦ λ m b no_test h. subst (λ (y : Blobs). At f y m b) same h
    | inr put ↦ latest_were f tried w shelf law l x.blobs (latest_text n) named put
  ]))

  read_found : (k : ℕ) (name : BlobName) (image : Option Image) → SameBlobs w image → Next k (ReadStep (ReadBlob name)) WasFetched image
  read_found zero name image same = inr (still f tried w shelf law l image same)
  read_found (suc k) name image same = inr (tells f tried w shelf law l (suc k) name (told_blob f image name) (fin.get w.readers (suc k)) (blobs_in image w.blobs) (same_were f tried w shelf law l image same))

  read_missing : (k : ℕ) (name : BlobName) (image : Option Image) → SameBlobs w image → Next k (ReadStep (ReadBlob name)) WasAbsent image
  read_missing zero name image same = inr (still f tried w shelf law l image same)
  read_missing (suc k) name image same = inr (still f tried w shelf law l image same)

  read_done : (k files bytes : ℕ) (image : Option Image) → SameBlobs w image → Next k (ReadStep (RestoredShard files bytes)) HasEnded image
  read_done zero files bytes image same = inr (still f tried w shelf law l image same)
  read_done (suc k) files bytes image same = inr (ends_read f tried w shelf law l (suc k) (Restored files bytes) (fin.get w.readers (suc k)) (blobs_in image w.blobs) (same_were f tried w shelf law l image same))

  read_failed : (k : ℕ) (why : Why) (image : Option Image) → SameBlobs w image → Next k (ReadStep (ReadFails why)) HasEnded image
  read_failed zero why image same = inr (still f tried w shelf law l image same)
  read_failed (suc k) why image same = inr (ends_read f tried w shelf law l (suc k) (NotRestored why) (fin.get w.readers (suc k)) (blobs_in image w.blobs) (same_were f tried w shelf law l image same))

  reads : (k : ℕ) (read : Read) (reply : Reply) (image : Option Image) → ReadAllows f w k read reply image → SameBlobs w image → Next k (ReadStep read) reply image
  reads k read reply image (ReadFound j name im stored by found) same = read_found j name im same
  reads k read reply image (ReadMissing j name im stored by none) same = read_missing j name im same
  reads k read reply image (RestoringShard j files bytes im q out done) same = read_done j files bytes im same
  reads k read reply image (ReaderFailing j why im q out) same = read_failed j why im same
  reads k read reply image other same = inr (still f tried w shelf law l image same)

  -- of blobs that a told image has
  at_told : (image : Option Image) (P : Blobs → Type 0) → ((now : Blobs) → P now → Were f w now) → (i : Image) → image ≡ Some i → Told image P → Were f w (blobs_in image w.blobs)
  at_told None P by i told h = absurd (none-some i told)
  at_told (Some x) P by i told h = by x.blobs h

  test_or_not : (name : BlobName) (bytes : Bytes) → IsOwnTest f w name → (now : Blobs) → (now ≡ w.blobs) ⊎ Adds f w name bytes now → Were f w now
  test_or_not name bytes own now (inl same) = λ m b no_test h. subst (λ (y : Blobs). At f y m b) same h
  test_or_not name bytes own now (inr adds) = test_were f tried w shelf law l name bytes own now adds

  verifies : (read : Read) (reply : Reply) (image : Option Image) (i : Image) → image ≡ Some i → VerifyAllows f w read reply image → Next 0 (ReadStep read) reply image
  verifies read reply image i told (DrawingTest im idle fits same) = inr (still f tried w shelf law l im same)
  verifies read reply image i told (TestSpent im idle spent same) = inr (still f tried w shelf law l im same)
  verifies read reply image i told (BeginningTest name im own same) = inr (still f tried w shelf law l im same)
  verifies read reply image i told (BeginTestFails name im own same) = inr (still f tried w shelf law l im same)
  verifies read reply image i told (CommittingTest name bytes im own new adds) = inr (kept f tried w shelf law l (blobs_in im w.blobs) (at_told im (Adds f w name bytes) (test_were f tried w shelf law l name bytes own) i told adds))
  verifies read reply image i told (TestTaken name im own found) = inr (kept f tried w shelf law l (blobs_in im w.blobs) (told_were f tried w shelf law l im (λ blobs. Present f w.blobs name × (blobs ≡ w.blobs)) (λ blobs h. h.1) found))
  verifies read reply image i told (CommitTestFails name bytes im own leaves_it) =
      inr (tests_left f tried w shelf law l name (fin.get w.blobs (f.names.text name)) (told_blob f im name) (blobs_in im w.blobs)
      (at_told im (λ blobs. (blobs ≡ w.blobs) ⊎ Adds f w name bytes blobs) (test_or_not name bytes own) i told leaves_it))
  verifies read reply image i told (RemovingTests names im may left) =
      inr (kept f tried w shelf law l (blobs_in im w.blobs)
      (at_told im (λ blobs. Removes f w.blobs blobs names × ((name : BlobName) → Has names name → fin.get blobs (f.names.text name) ≡ None)) (λ now h. removed_were f tried w shelf law l now names h.0) i told left))
  verifies read reply image i told (RemoveTestsFails names im may left) =
      inr (kept f tried w shelf law l (blobs_in im w.blobs) (at_told im (λ blobs. Removes f w.blobs blobs names) (λ now h. removed_were f tried w shelf law l now names h) i told left))
  verifies read reply image i told (VerifyingAll im done same) = inr (still f tried w shelf law l im same)
  verifies read reply image i told (VerifyFailing why im begun same) = inr (still f tried w shelf law l im same)

  prunes : (k : ℕ) (prune : Prune) (reply : Reply) (image : Option Image) (i : Image) → image ≡ Some i → PruneAllows f w k prune reply image → Next k (PruneStep prune) reply image
  prunes k prune reply image i told (FetchingShard j name im g found) =
      inr (fetches f tried w shelf law l j g.t g.deleting.out.there name (told_blob f im name) (blobs_in im w.blobs)
      (told_were f tried w shelf law l im (λ blobs. (bytes : Bytes) × (fin.get w.blobs (f.names.text name) ≡ Some bytes) × (blobs ≡ w.blobs)) (λ blobs h. h.2) found))
  prunes k prune reply image i told (ShardMissing j name im g found) =
      inr (kept f tried w shelf law l (blobs_in im w.blobs) (told_were f tried w shelf law l im (λ blobs. (fin.get w.blobs (f.names.text name) ≡ None) × (blobs ≡ w.blobs)) (λ blobs h. h.1) found))
  prunes k prune reply image i told (FetchShardFails j name im g same) = inr (still f tried w shelf law l im same)
  prunes k prune reply image i told (Planning j shards im p fits back same) = inr (plans f tried w shelf law l j shards im p (blobs_in im w.blobs) (same_were f tried w shelf law l im same))
  prunes k prune reply image i told (PlanSpent j shards im p spent same) = inr (still f tried w shelf law l im same)
  prunes k prune reply image i told (SettlingDelete j im s present same) = inr (settles_delete f tried w shelf law l j s (blobs_in im w.blobs) (same_were f tried w shelf law l im same))
  prunes k prune reply image i told (SettleDeleteStale j im s apart same) = inr (still f tried w shelf law l im same)
  prunes k prune reply image i told (SettleDeleteFails j im s present same) = inl refl
  prunes k prune reply image i told (RemovingDoomed j names im r away) =
      inr (kept f tried w shelf law l (blobs_in im w.blobs)
      (at_told im (λ blobs. Removes f w.blobs blobs names × ((name : BlobName) → Has names name → fin.get blobs (f.names.text name) ≡ None)) (λ now h. removed_were f tried w shelf law l now names h.0) i told away))
  prunes k prune reply image i told (RemoveDoomedFails j names im r away) =
      inr (kept f tried w shelf law l (blobs_in im w.blobs) (at_told im (λ blobs. Removes f w.blobs blobs names) (λ now h. removed_were f tried w shelf law l now names h) i told away))
  prunes k prune reply image i told (EndingDelete j im e same) = inr (ends f tried w shelf law l j e.t e.deleting.out.there (blobs_in im w.blobs) (same_were f tried w shelf law l im same))
  prunes k prune reply image i told (FailingDelete j why im c same) = inr (fails_delete f tried w shelf law l j c.t c.deleting.out.there (blobs_in im w.blobs) (same_were f tried w shelf law l im same))

  spare_by : (who : ℕ) (step : Step) (reply : Reply) (image : Option Image) → ((name : BlobName) → step ≡ CommitStep name → MayLeave reply → tried who name) → (i : Image) → image ≡ Some i → Allows f size w who step reply image
      → Next who step reply image
  spare_by who step reply image mine i told (allowed.Accepting name indices time o im acc same) = inr (opens f tried w shelf law l (asked_op w name indices time) refl (blobs_in im w.blobs) (same_were f tried w shelf law l im same))
  spare_by who step reply image mine i told (allowed.GivingNothing im none same) = inr (still f tried w shelf law l im same)
  spare_by who step reply image mine i told (allowed.Giving k o unit im is lowest g same) = inr (gives f tried w shelf law l o unit g (blobs_in im w.blobs) (same_were f tried w shelf law l im same))
  spare_by who step reply image mine i told (allowed.Drawing k n first im d same) = inr (draws f tried w shelf law l k n d.may.t d.may.out.there d.may.shard (blobs_in im w.blobs) (same_were f tried w shelf law l im same))
  spare_by who step reply image mine i told (allowed.Beginning k name im c same) = inr (still f tried w shelf law l im same)
  spare_by who step reply image mine i told (allowed.BeginningLatest k im c same) = inr (still f tried w shelf law l im same)
  spare_by who step reply image mine i told (allowed.Committing k name im c adds) = commits k name im c adds i told (mine name refl tt)
  spare_by who step reply image mine i told (allowed.Finding k name im c found) =
      inr (finds f tried w shelf law l k c.t c.out.there name (blobs_in im w.blobs) (told_were f tried w shelf law l im (λ blobs. Present f w.blobs name × (blobs ≡ w.blobs)) (λ blobs h. h.1) found))
  spare_by who step reply image mine i told (allowed.Replacing k im c named puts) = replaces k im c.t c.out.there c.n named puts i told
  spare_by who step reply image mine i told (allowed.Fetching k name im g found) =
      inr (fetches f tried w shelf law l k g.t g.out.there name (told_blob f im name) (blobs_in im w.blobs)
      (told_were f tried w shelf law l im (λ blobs. (bytes : Bytes) × (fin.get w.blobs (f.names.text name) ≡ Some bytes) × (blobs ≡ w.blobs)) (λ blobs h. h.2) found))
  spare_by who step reply image mine i told (allowed.Missing k name im g found) =
      inr (kept f tried w shelf law l (blobs_in im w.blobs) (told_were f tried w shelf law l im (λ blobs. (fin.get w.blobs (f.names.text name) ≡ None) × (blobs ≡ w.blobs)) (λ blobs h. h.1) found))
  spare_by who step reply image mine i told (allowed.Listing k from page im g shape here) =
      inr (lists f tried w shelf law l k g.t g.out.there page (blobs_in im w.blobs) (told_were f tried w shelf law l im (λ blobs. IsPageOf w.blobs from page × (blobs ≡ w.blobs)) (λ blobs h. h.1) here))
  spare_by who step reply image mine i told (allowed.Raising k n im r same) = inr (raises f tried w shelf law l k n r (blobs_in im w.blobs) (same_were f tried w shelf law l im same))
  spare_by who step reply image mine i told (allowed.Settling k im s same) = inr (settles f tried w shelf law l k s (blobs_in im w.blobs) (same_were f tried w shelf law l im same))
  spare_by who step reply image mine i told (allowed.Doing k r im d same) = inr (does f tried w shelf law l k r d.t d.out.there d.op d.op_there (blobs_in im w.blobs) (same_were f tried w shelf law l im same))
  spare_by who step reply image mine i told (allowed.Failing k why im c same) = inr (fails_step f tried w shelf law l k c.t c.out.there (blobs_in im w.blobs) (same_were f tried w shelf law l im same))
  spare_by who step reply image mine i told (allowed.Finishing k im c same) = inr (ends f tried w shelf law l k c.t c.out.there (blobs_in im w.blobs) (same_were f tried w shelf law l im same))
  spare_by who step reply image mine i told (allowed.Dropping k im c same) = inr (drops f tried w shelf law l k c.may.t c.may.out.there (blobs_in im w.blobs) (same_were f tried w shelf law l im same))
  spare_by who step reply image mine i told (allowed.Electing im room same) = inr (still f tried w shelf law l im same)
  spare_by who step reply image mine i told (allowed.Looking im same) = inr (still f tried w shelf law l im same)
  spare_by who step reply image mine i told (allowed.OpeningRestore name place o uuid indices im acc same) = inr (still f tried w shelf law l im same)
  spare_by who step reply image mine i told (allowed.OpeningClone source name names time o t im acc same) = inr (opens f tried w shelf law l (cloned_op w name time t) refl (blobs_in im w.blobs) (same_were f tried w shelf law l im same))
  spare_by who step reply image mine i told (allowed.GoingInto names im acc same) =
      inr (goes_into f tried w shelf law l names (waiting_delete w) (running_delete w (named_uuids w names)) (blobs_in im w.blobs) (same_were f tried w shelf law l im same))
  spare_by who step reply image mine i told (allowed.OpeningCleanup im acc same) = inr (still f tried w shelf law l im same)
  spare_by who step reply image mine i told (allowed.Reading k read rep im h same) = reads k read rep im h same
  spare_by who step reply image mine i told (allowed.Verifying read rep im h) = verifies read rep im i told h
  spare_by who step reply image mine i told (allowed.Pruning k prune rep im h) = prunes k prune rep im i told h
  spare_by who step reply image mine i told (allowed.Ruled command refusal im (allowed.Cleaning c d x recorded untaken there clean) same) = inr (still f tried w shelf law l im same)
  spare_by who step reply image mine i told (allowed.Ruled command refusal im rule same) = inr (still f tried w shelf law l im same)
  spare_by who step reply image mine i told (allowed.DrawSpent k n im may spent same) = inr (still f tried w shelf law l im same)
  spare_by who step reply image mine i told (allowed.RaiseStale k im may apart same) = inr (still f tried w shelf law l im same)
  spare_by who step reply image mine i told (allowed.SettleStale k n t s im may apart same) = inr (still f tried w shelf law l im same)
  spare_by who step reply image mine i told (allowed.DropStale k im may apart same) = inr (still f tried w shelf law l im same)
  spare_by who step reply image mine i told (allowed.RaiseSpent k im may present spent same) = inr (still f tried w shelf law l im same)
  spare_by who step reply image mine i told (allowed.ElectSpent im spent same) = inr (still f tried w shelf law l im same)
  spare_by who step reply image mine i told (allowed.Taken k name im c aside found) =
      inr (kept f tried w shelf law l (blobs_in im w.blobs) (told_were f tried w shelf law l im (λ blobs. Present f w.blobs name × (blobs ≡ w.blobs)) (λ blobs h. h.1) found))
  spare_by who step reply image mine i told (allowed.BeginFails k name im c same) = inr (begins f tried w shelf law l k c.t c.out.there (blobs_in im w.blobs) (same_were f tried w shelf law l im same) (is_latest name))
  spare_by who step reply image mine i told (allowed.BeginLatestFails k im c same) = inr (tries f tried w shelf law l k c.t c.out.there (blobs_in im w.blobs) (same_were f tried w shelf law l im same))
  spare_by who step reply image mine i told (allowed.CommitFails k name im c left) = leaves k name im c left i told (mine name refl tt)
  spare_by who step reply image mine i told (allowed.ReplaceFails k im c named puts) = unreplaced k im c.t c.out.there c.n named puts i told
  spare_by who step reply image mine i told (allowed.FetchFails k name im g same) = inr (still f tried w shelf law l im same)
  spare_by who step reply image mine i told (allowed.ListFails k from im g same) = inr (still f tried w shelf law l im same)
  spare_by who step reply image mine i told other = inl refl

  pub step_spare : (m : Moment) → ((name : BlobName) → m.entry.step ≡ CommitStep name → MayLeave m.entry.reply → tried m.entry.who name) → (i : Image) → m.image ≡ Some i → Allowed f size w m
      → ((after f w m).deposed ≡ true) ⊎ Spare f tried (after f w m)
  step_spare m mine i told a = elim a.answered [
    | inl alive ↦ spare_by m.entry.who m.entry.step m.entry.reply m.image mine i told alive.1
    | inr dead ↦ subst (λ (x : World). (x.deposed ≡ true) ⊎ Spare f tried x) (sym (blocked_stays f w m dead)) (inr l)
  ]
