-- Each step keeps the order of ops, tickets, names and ids, whatever the container tells.
use Rattle.std.proofs.Common.{◌≡◌, ◌≢◌, ◌⊎◌, ℕ, suc, ◌+◌, ◌<◌, ◌≤◌, List, [], ◌∷◌, Bool, true, false, true≢false, Option, Some, None, map, refl, sym, ap, ◌∙◌, subst, inl, inr, arith, ◌++◌}
use Rattle.std.specs.Prelude.{if◌then◌else◌, length}
use Rattle.std.proofs.lemmas.Bool.Decides.{eqb_tells}
use Rattle.std.specs.FinMap as fin
use Rattle.std.proofs.lemmas.Option.{same_Some}
use Rattle.esr_core.specs.Laws.NumberMaps.{was_in, left_in, stays_in}
use Rattle.esr_core.specs.Laws.ShardStates.{out_same, pending_out, out_done, marked_is, up_out, up_done, failed_is, failed_grows}
use Rattle.esr_model.specs.Names.{BlobName}
use Rattle.esr_model.specs.Values.{Bytes, Has, RootIndex, RootData, SnapInfo, ShardResult, ClusterRecord, Formats}
use Rattle.esr_model.specs.Shelf.{Command}
use Rattle.esr_model.specs.Kept.{RootIds, first_id}
use Rattle.esr_model.specs.Finalize.{finalized_root}
use Rattle.esr_model.specs.Delete.{PrunedShard, kept_count}
use Rattle.esr_model.specs.Cleanup.{BlobSize}
use Rattle.esr_core.specs.Pruning.{delete_swap, planned_work, planned, dooms}
use Rattle.esr_model.specs.Image.{Image, Blobs}
use Rattle.esr_core.specs.World.{World, Op, ShardWork, Out, Done, Work, Shard, Finalize, Deleting, Drop, Ticket, Swap, AllDone, swap_of, marked, info_of, made_of, kept_deletes, opened, Deletion}
use Rattle.esr_core.specs.Ready.{Goes, Stopped, IsShard, IsMaster, ReadyDrop, SwapIsOut}
use Rattle.esr_core.specs.Steps.{with_ticket, completing, listing, final_ticket, plain_ticket}
use Rattle.esr_core.specs.Turns.{cleaning_ticket, fails}
use Rattle.esr_core.specs.Entry.{AskedIndex, CloneOf, Snapshot, Given, GivenShard, GivenFinalize, GivenDrop, Step, Reply, Moment, GivenRestore, ReadStep, Read, ReadBlob, RestoredShard, ReadFails, WasFetched, WasAbsent, HasEnded, GivenClone, GivenDelete, GivenCleanup, Prune, PruneStep}
use Rattle.esr_core.specs.After.{asked, asked_op, cloned_op, clone_opened, taken_by, taken_shard, with_given, change, committing, fetching, told_blob, done_of, done_by, failed_of, failed_by, is_stale, settled_of, dropped_of, tried, answered, blobs_in, after, stepped, test_left, deletes_left, delete_settled, delete_failed, delete_failed_by}
use Rattle.esr_core.specs.Allowed as allowed
use Rattle.esr_core.specs.Allowed.{MayPlan, SettlesDeletion, FailsDeletion, PruneAllows, FetchingShard, Planning, SettlingDelete, SettleDeleteFails, EndingDelete, FailingDelete, Accepts, Gives, Settles, Fails, Drops, Dones, Allows, Allowed, AcceptsClone, ReadAllows, ReadFound, ReadMissing, RestoringShard, ReaderFailing, VerifyAllows, DrawingTest, CommittingTest, CommitTestFails}
use Rattle.esr_core.specs.History.{world_from, IsLegal}
use Rattle.esr_core.specs.Tracked.{IsOneIndex, FinalTracked, Named, Tracked, IsWithin, DeleteTracked}
use Rattle.esr_core.specs.Laws.DoneShards.{done_same}
use Rattle.esr_core.proofs.Results.{done_out}
use Rattle.esr_core.proofs.Marked.{marked_ref, marked_number}
use Rattle.esr_core.specs.Laws.Maps.{nothing}
use Rattle.esr_core.specs.Laws.DeleteNumbers.{numbered_from}
use Rattle.esr_core.specs.Laws.Moments.{moment, settled_plain, delete_settled_plain}
use Rattle.esr_core.proofs.Moments.{not_latest, shard_stale, master_stale, no_shard}
use Rattle.esr_core.specs.Laws.Asides.{aside_by, block_leaves}
use Rattle.esr_core.proofs.Besides.{aside_opened, aside_taken, tracked_aside_of}
use Rattle.esr_core.proofs.Heard.{aside_heard}
use Rattle.esr_core.specs.Laws.NameLaws.{new_asked}
use Rattle.esr_core.proofs.Naming.{named_left, named_root, named_within, new_cloned}
use Rattle.esr_core.proofs.Tracking.{Follows, tracked_aside, tracked_ticket, tracked_new, tracked_drawn, tracked_elect, tracked_planned, tracked_failed}
use Rattle.esr_core.proofs.TrackingOps.{goes_not_stopped, final_apart, tracked_came, tracked_left}
use Rattle.esr_core.proofs.TrackingDeletes.{tracked_delete, tracked_cleanup}
use Rattle.esr_core.proofs.TrackingGiven.{tracked_given}
use Rattle.esr_core.proofs.Plans.{plan_within}
use Rattle.esr_core.proofs.TrackingEnds.{GoesOnPast, tracked_went}
use Rattle.esr_core.specs.Restores.{restore_opened}

-- other blobs
kept : (w : World) → Tracked w → (blobs : Blobs) → Tracked (record w { blobs = blobs })
kept w l blobs = tracked_aside w l blobs w.safe w.pending w.completed w.doomed w.deposed

-- a record swap that failed
falls : (w up : World) → Tracked w → Tracked up → (b : Bool) (blobs : Blobs) → Tracked (record (if b then up else w) { deposed = true; blobs = blobs })
falls w up l u true blobs = tracked_aside up u blobs up.safe up.pending up.completed up.doomed true
falls w up l u false blobs = tracked_aside w l blobs w.safe w.pending w.completed w.doomed true

-- a ticket that goes on with its own work
quiet : (t : Ticket) (noted : List BlobName) (wrote read : List (BlobName × Bytes)) (raised : Option ℕ) (tried : Bool) (first drawn : ℕ)
    → Follows t (record t { noted = noted; wrote = wrote; read = read; raised = raised; tried_latest = tried; first = first; drawn = drawn })
quiet t noted wrote read raised tried first drawn = record { work = refl; op = refl; uuid = refl; place = refl; name = refl; source = refl; term = refl; root = refl; clean = refl; out = λ e. e; settled = λ e. e; shard = λ s e. e }

-- one that ends, of no shard
ended : (t : Ticket) → (IsShard t.work → ⊥) → Follows t (record t { out = false })
ended t other = record { work = refl; op = refl; uuid = refl; place = refl; name = refl; source = refl; term = refl; root = refl; clean = refl; out = λ e. absurd (true≢false (sym e)); settled = λ e. e; shard = λ s e. absurd (other s) }

-- one that settles
settles : (t : Ticket) → Follows t (record t { settled = true })
settles t = record { work = refl; op = refl; uuid = refl; place = refl; name = refl; source = refl; term = refl; root = refl; clean = refl; out = λ e. e; settled = λ e. absurd (true≢false e); shard = λ s e. e }

-- one that has listed a page more
lists_page : (t : Ticket) (page : List BlobSize) → Follows t (listing t page)
lists_page t page = record { work = refl; op = refl; uuid = refl; place = refl; name = refl; source = refl; term = refl; root = refl; clean = refl; out = λ e. e; settled = λ e. e; shard = λ s e. e }

shard_of : (work : Work) → IsShard work → (i : ℕ) × (n : ℕ) × (work ≡ Shard i n)
shard_of (Shard i n) h = (i, n, refl)
shard_of (Finalize info results made) h = absurd h
shard_of work h = absurd h

module _ (f : Formats) (size : ℕ) (w : World) (l : Tracked w) where
  changed : (k : ℕ) (t : Ticket) → fin.get w.tickets k ≡ Some t → (g : Ticket → Ticket) → Follows t (g t) → (g t).first + (g t).drawn ≤ w.next_id → Tracked (change w k g)
  changed k t there g like drawn = subst (λ o. Tracked (with_given w k g o)) (sym there) (tracked_ticket w l k t (g t) there like drawn)

  drew : (k : ℕ) (t : Ticket) → fin.get w.tickets k ≡ Some t → t.first + t.drawn ≤ w.next_id
  drew k t there = (l.tickets k t there).2

  -- ---- ask

  asks : (name : Bytes) (indices : List AskedIndex) (time o : ℕ) → Accepts f w name indices time o → Tracked (asked w (Snapshot name indices time))
  asks name indices time o a =
      let v : World = record w { ops = fin.insert w.ops w.next_op (asked_op w name indices time); next_op = suc w.next_op; next_id = (asked w (Snapshot name indices time)).next_id } in
      tracked_aside v (tracked_came w l (asked_op w name indices time) (asked w (Snapshot name indices time)).next_id (new_asked w l.named name indices time a.distinct a.unused) a.fits) w.blobs w.safe w.pending
      (completing w.completed w.next_op (asked_op w name indices time).shards) w.doomed w.deposed

  asks_copy : (source name : Bytes) (names : List Bytes) (time o : ℕ) (taken : CloneOf) (image : Option Image) → AcceptsClone f w source name names time o taken image → Tracked (clone_opened w name time taken)
  asks_copy source name names time o taken image a =
      let v : World = record w { ops = fin.insert w.ops w.next_op (cloned_op w name time taken); next_op = suc w.next_op; next_id = suc w.next_id } in
      tracked_aside v (tracked_came w l (cloned_op w name time taken) (suc w.next_id) (new_cloned w l.named f source name names time o taken image a) a.fits) w.blobs w.safe w.pending
      (completing w.completed w.next_op (cloned_op w name time taken).shards) w.doomed w.deposed

  -- ---- take

  final_same : (a b : SnapInfo) (rs qs : List ShardResult) (m n : Command) → Finalize a rs m ≡ Finalize b qs n → (a ≡ b) × (rs ≡ qs)
  final_same a b rs qs m n e = (cc, cc)

  no_plan : (us vs : List ℕ) (plan : Option Swap) (s : Swap) → Deleting us None ≡ Deleting vs plan → plan ≡ Some s → ⊥
  no_plan us vs plan s e is = cc

  gives_drop : (o : ℕ) → ReadyDrop w o → Tracked (record w { tickets = fin.insert w.tickets w.next_ticket (plain_ticket w o Drop); next_ticket = suc w.next_ticket })
  gives_drop o ready =
      tracked_new w l (plain_ticket w o Drop) (omega arith) (omega arith) (elim ready.stopped [ inl z ↦ l.numbers o z.0 z.1 | inr z ↦ l.delete_numbers o z.0 z.1 ]) (λ h. h)
      (λ info rs made e. absurd cc)
      (λ e. record {
        stopped = λ op there. elim ready.stopped [ inl z ↦ subst Stopped (same_Some _ _ (sym z.1 ∙ there)) z.2 | inr z ↦ absurd (l.apart o op z.0 there z.1) ];
        idle = λ k u there out shard same. ready.idle k (record { t = u; there = there; out = out; op_is = same; counts = inl shard });
        failed = λ x there. elim ready.stopped [ inl z ↦ absurd (l.apart o z.0 x z.1 there) | inr z ↦ ap (λ (y : Deletion). y.failed) (same_Some _ _ (sym there ∙ z.1)) ∙ z.2 ];
      })
      (λ h. absurd h)
      (λ uuids plan e. absurd cc)
      (λ uuids plan e. absurd cc)
      (λ c. absurd (true≢false (sym c)))

  gives : (o : ℕ) (unit : Given) → Gives f w o unit → Tracked (taken_by f w o unit (fin.get w.ops o))
  gives o (GivenClone index number source base) g =
      subst (λ x. Tracked (taken_by f w o (GivenClone index number source base) x)) (sym g.ready.op_there) (subst (λ x. Tracked (taken_shard w o g.op base x)) (sym g.found) (tracked_given w l o g.op g.s base g.ready))
  gives o (GivenDelete uuids) g = deleting (fin.get w.ops o)
    where
      given : Tracked (record w { tickets = fin.insert w.tickets w.next_ticket (plain_ticket w o (Deleting uuids None)); next_ticket = suc w.next_ticket })
      given =
          tracked_new w l (plain_ticket w o (Deleting uuids None)) (omega arith) (omega arith) (l.delete_numbers o g.0 g.1.there) (λ h. h)
          (λ info rs made e. absurd cc)
          (λ e. absurd cc)
          (λ h k s. g.1.no_swap k s)
          (λ us plan e. record { x = g.0; there = g.1.there; unfailed = g.1.unfailed; root_is = refl; planned = λ s is. absurd (no_plan uuids us plan s e is) })
          (λ us plan e. record {
            x = g.0;
            there = g.1.there;
            unfailed = g.1.unfailed;
            mode = g.1.deletes;
            alone = λ c. absurd (true≢false (sym c));
            aside = λ k t at out pres c same.
                let h = l.deletions.cleaning k t at out pres c in
                true≢false (sym h.cleans ∙ ap (λ (y : Deletion). y.clean) (same_Some _ _ (sym h.there ∙ ap (fin.get w.deletes) same ∙ g.1.there)) ∙ g.1.deletes);
          })
          (λ c. absurd (true≢false (sym c)))

      deleting : (found : Option Op) → Tracked (taken_by f w o (GivenDelete uuids) found)
      deleting None = given
      deleting (Some op) = given
  gives o GivenCleanup g = cleaning (fin.get w.ops o)
    where
      given : Tracked (record w { tickets = fin.insert w.tickets w.next_ticket (cleaning_ticket w o); next_ticket = suc w.next_ticket })
      given =
          tracked_new w l (cleaning_ticket w o) (omega arith) (omega arith) (l.delete_numbers o g.0 g.1.there) (λ h. h)
          (λ info rs made e. absurd cc)
          (λ e. absurd cc)
          (λ h k s. g.1.no_ticket k s.t s.there s.out)
          (λ us plan e. record { x = g.0; there = g.1.there; unfailed = g.1.unfailed; root_is = refl; planned = λ s is. absurd (no_plan [] us plan s e is) })
          (λ us plan e. record { x = g.0; there = g.1.there; unfailed = g.1.unfailed; mode = g.1.cleans; alone = λ c k t at out. g.1.no_ticket k t at out; aside = λ k t at out. absurd (g.1.no_ticket k t at out) })
          (λ c. ([], None, refl))

      cleaning : (found : Option Op) → Tracked (taken_by f w o GivenCleanup found)
      cleaning None = given
      cleaning (Some op) = given
  gives o (GivenRestore index number uuid) g = tracked_aside_of w _ (aside_taken w o index number (fin.get w.restores o)) l
  gives o (GivenShard index number base) g =
      subst (λ x. Tracked (taken_by f w o (GivenShard index number base) x)) (sym g.ready.op_there) (subst (λ x. Tracked (taken_shard w o g.op base x)) (sym g.found) (tracked_given w l o g.op g.s base g.ready))
  gives o (GivenFinalize info results) g =
      subst (λ x. Tracked (taken_by f w o (GivenFinalize info results) x)) (sym g.ready.op_there)
      (tracked_new w l (final_ticket f w o g.op results) (omega arith) (omega arith) (l.numbers o g.op g.ready.op_there) (λ h. h)
      (λ b rs made e.
      let same = final_same (info_of g.op results) b results rs (made_of f w.blobs g.op) made e in
      record {
        op = g.op;
        op_there = g.ready.op_there;
        done = subst (AllDone g.op.shards) same.1 g.ready.done;
        goes = g.ready.goes;
        uuid_is = refl;
        info_is = sym same.0 ∙ ap (info_of g.op) same.1;
        root_is = refl;
      })
      (λ e. absurd cc)
      (λ h k s. g.ready.no_swap k s)
      (λ uuids plan e. absurd cc)
      (λ uuids plan e. absurd cc)
      (λ c. absurd (true≢false (sym c))))
  gives o GivenDrop g = dropping (fin.get w.ops o)
    where
      dropping : (found : Option Op) → Tracked (taken_by f w o GivenDrop found)
      dropping None = gives_drop o g
      dropping (Some op) = gives_drop o g

  -- ---- blobs

  commits : (k : ℕ) (t : Ticket) → fin.get w.tickets k ≡ Some t → (name : BlobName) (o : Option Bytes) → Tracked (change w k (committing name o))
  commits k t there name None = changed k t there (committing name None) (quiet t (name ∷ t.noted) t.wrote t.read t.raised t.tried_latest t.first t.drawn) (drew k t there)
  commits k t there name (Some bytes) = changed k t there (committing name (Some bytes)) (quiet t (name ∷ t.noted) ((name, bytes) ∷ t.wrote) t.read t.raised t.tried_latest t.first t.drawn) (drew k t there)

  fetches : (k : ℕ) (t : Ticket) → fin.get w.tickets k ≡ Some t → (name : BlobName) (o : Option Bytes) → Tracked (change w k (fetching name o))
  fetches k t there name None = changed k t there (fetching name None) (quiet t t.noted t.wrote t.read t.raised t.tried_latest t.first t.drawn) (drew k t there)
  fetches k t there name (Some bytes) = changed k t there (fetching name (Some bytes)) (quiet t t.noted t.wrote ((name, bytes) ∷ t.read) t.raised t.tried_latest t.first t.drawn) (drew k t there)

  tries : (k : ℕ) (t : Ticket) → fin.get w.tickets k ≡ Some t → Tracked (tried w k)
  tries k t there = changed k t there (λ (x : Ticket). record x { tried_latest = true }) (quiet t t.noted t.wrote t.read t.raised true t.first t.drawn) (drew k t there)

  raises : (k : ℕ) (t : Ticket) → fin.get w.tickets k ≡ Some t → Tracked (record (change w k (λ (x : Ticket). record x { raised = Some w.pending })) { pending = suc w.pending })
  raises k t there =
      let v : World = change w k (λ (x : Ticket). record x { raised = Some w.pending }) in
      tracked_aside v (changed k t there (λ (x : Ticket). record x { raised = Some w.pending }) (quiet t t.noted t.wrote t.read (Some w.pending) t.tried_latest t.first t.drawn) (drew k t there)) v.blobs v.safe
      (suc w.pending) v.completed v.doomed v.deposed

  draws : (k n : ℕ) (t : Ticket) → fin.get w.tickets k ≡ Some t → w.next_id + n < first_id (suc w.term) → Tracked (record (change w k (λ (x : Ticket). record x { first = w.next_id; drawn = n })) { next_id = w.next_id + n })
  draws k n t there fits =
      subst (λ o. Tracked (record (with_given w k (λ (x : Ticket). record x { first = w.next_id; drawn = n }) o) { next_id = w.next_id + n })) (sym there)
      (tracked_ticket (record w { next_id = w.next_id + n }) (tracked_drawn w l n fits) k t (record t { first = w.next_id; drawn = n }) there (quiet t t.noted t.wrote t.read t.raised t.tried_latest w.next_id n) (omega arith))

  -- ---- done and failed

  marks : (k : ℕ) (r : ShardResult) → GoesOnPast k (marked k (Done r))
  marks k r =
      record {
        ref = marked_ref k (Done r);
        number = marked_number k (Done r);
        stays = λ s j e away. elim (marked_is k (Done r) s) [ inl h ↦ absurd (away (out_same (sym e ∙ h.state))) | inr h ↦ h.is ];
        outs = λ s j e. elim (marked_is k (Done r) s) [
          | inl h ↦ absurd (out_done (sym e ∙ ap (λ (x : ShardWork). x.state) h.is))
          | inr h ↦ (h.is, λ q. h.not_held (sym (ap (λ (x : ShardWork). x.state) h.is) ∙ e ∙ ap Out q))
        ];
      }

  does : (k : ℕ) (r : ShardResult) (image : Option Image) → Dones f size w k r image → Tracked (done_of w k r (fin.get w.tickets k))
  does k r image d =
      let shards : List ShardWork = map (marked k (Done r)) d.op.shards in
      let v : World = record w { ops = fin.insert w.ops d.t.op (record d.op { shards = shards }); tickets = fin.insert w.tickets k (record d.t { out = false }) } in
      subst (λ x. Tracked (done_of w k r x)) (sym d.out.there) (subst (λ x. Tracked (done_by w k r d.t x)) (sym d.op_there)
      (tracked_aside v (tracked_went w l k d.t d.out d.op d.op_there (marked k (Done r)) d.op.failed (λ e. e) (marks k r) marked_done aside) w.blobs w.safe w.pending (completing w.completed d.t.op shards) w.doomed w.deposed))
    where
      shard_same : {a b i j : ℕ} → Shard a b ≡ Shard i j → (a ≡ i) × (b ≡ j)
      shard_same e = (cc, cc)

      marked_done : (s : ShardWork) (q : ShardResult) → Has d.op.shards s → (marked k (Done r) s).state ≡ Done q → (s.state ≡ Done q) ⊎ ((q.index ≡ s.ref.id) × (q.shard ≡ s.number) × (q.generation < w.next_id))
      marked_done s q m e = elim (marked_is k (Done r) s) [
        | inr h ↦ inl (sym (ap (λ (x : ShardWork). x.state) h.is) ∙ e)
        | inl h ↦
            let x = l.held d.t.op d.op s k d.op_there m h.state in
            let work : Shard s.ref.id s.number ≡ Shard r.index r.shard = sym x.work ∙ ap (λ (y : Ticket). y.work) (same_Some _ _ (sym x.there ∙ d.out.there)) ∙ d.is in
            let same = shard_same work in
            let one : r ≡ q = done_same _ _ (sym (ap (λ (y : ShardWork). y.state) h.is) ∙ e) in
            let below : r.generation < w.next_id = (let a : r.generation < d.t.first + d.t.drawn = d.drew.below in let b : d.t.first + d.t.drawn ≤ w.next_id = drew k d.t d.out.there in omega (arith, a, b)) in
            inr (subst (λ (y : ShardResult). (y.index ≡ s.ref.id) × (y.shard ≡ s.number) × (y.generation < w.next_id)) one (sym same.0, sym same.1, below))
      ]

      aside : (j : ℕ) (u : Ticket) (info : SnapInfo) (results : List ShardResult) (made : Command) → j ≢ k → fin.get w.tickets j ≡ Some u → u.out ≡ true → u.settled ≡ false → u.term ≡ w.term
          → u.work ≡ Finalize info results made → u.op ≢ d.t.op
      aside j u info results made away e out uns pres is =
          final_apart w l d.op d.s d.s_there (λ q state. done_out q k (sym state ∙ d.state)) d.t.op d.op_there u info results (l.finals j u info results made e out uns pres is)

  gives_up : (k : ℕ) → GoesOnPast k (fails k)
  gives_up k =
      record {
        ref = λ s. (failed_grows k s).ref;
        number = λ s. (failed_grows k s).number;
        stays = λ s j e away. elim (failed_is k s) [ inl h ↦ absurd (elim h.0 [ inl p ↦ pending_out (sym p ∙ e) | inr q ↦ away (out_same (sym e ∙ q)) ]) | inr h ↦ h.2 ];
        outs = λ s j e. elim (failed_is k s) [
          | inl h ↦ absurd (up_out (sym (ap (λ (x : ShardWork). x.state) h.1) ∙ e))
          | inr h ↦ (h.2, λ q. h.1 (sym (ap (λ (x : ShardWork). x.state) h.2) ∙ e ∙ ap Out q))
        ];
      }

  -- the op of a unit fails, where no other finalization of it is out
  fails_op : (k : ℕ) (c : Fails w k) → fin.get w.ops c.t.op ≡ Some c.op
      → ((j : ℕ) (u : Ticket) (info : SnapInfo) (results : List ShardResult) (made : Command) → j ≢ k → fin.get w.tickets j ≡ Some u
      → u.out ≡ true → u.settled ≡ false → u.term ≡ w.term → u.work ≡ Finalize info results made → u.op ≢ c.t.op) → Tracked (failed_by w k c.t (fin.get w.ops c.t.op))
  fails_op k c there aside =
      subst (λ x. Tracked (failed_by w k c.t x)) (sym there) (tracked_went w l k c.t c.out c.op there (fails k) true (λ e. refl) (gives_up k) (λ s r m e. inl (failed_done s r e)) aside)
    where
      failed_done : (s : ShardWork) (r : ShardResult) → (fails k s).state ≡ Done r → s.state ≡ Done r
      failed_done s r e = elim (failed_is k s) [ inr h ↦ sym (ap (λ (y : ShardWork). y.state) h.2) ∙ e | inl h ↦ absurd (up_done (sym (ap (λ (y : ShardWork). y.state) h.1) ∙ e)) ]

  fails_by : (k : ℕ) (c : Fails w k) → (b : Bool) → is_stale w c.t c.t.work ≡ b → Tracked (if b then with_ticket w k (record c.t { out = false }) else failed_by w k c.t (fin.get w.ops c.t.op))
      → Tracked (failed_of w k (fin.get w.tickets k))
  fails_by k c b is h =
      subst (λ x. Tracked (failed_of w k x)) (sym c.out.there) (subst (λ x. Tracked (if x then with_ticket w k (record c.t { out = false }) else failed_by w k c.t (fin.get w.ops c.t.op))) (sym is) h)

  fails_step : (k : ℕ) → Fails w k → Tracked (failed_of w k (fin.get w.tickets k))
  fails_step k c = elim c.unit [
    | inl shard ↦ fails_by k c false (shard_stale f w c.t c.t.work shard) (fails_op k c (c.op_there (inl shard)) (of_shard shard))
    | inr master ↦ elim (eqb_tells c.t.term w.term) [
      | inl e ↦ fails_by k c false (master_stale f w c.t c.t.work master ∙ ap (λ (b : Bool). if b then false else true) e.0) (fails_op k c (c.op_there (inr e.1)) (of_master master e.1))
      | inr e ↦ fails_by k c true (master_stale f w c.t c.t.work master ∙ ap (λ (b : Bool). if b then false else true) e.0)
          (tracked_ticket w l k c.t (record c.t { out = false }) c.out.there (ended c.t (no_shard f w c.t.work master)) (drew k c.t c.out.there))
    ]
  ]
    where
      of_shard : IsShard c.t.work → (j : ℕ) (u : Ticket) (info : SnapInfo) (results : List ShardResult) (made : Command) → j ≢ k → fin.get w.tickets j ≡ Some u → u.out ≡ true → u.settled ≡ false → u.term ≡ w.term
          → u.work ≡ Finalize info results made → u.op ≢ c.t.op
      of_shard shard j u info results made away e out uns pres is =
          let (i, n, work) = shard_of c.t.work shard in
          let x = l.shards k c.t i n c.out.there c.out.out work in
          final_apart w l x.op x.s x.s_there (λ q state. done_out q k (sym state ∙ x.state)) c.t.op x.op_there u info results (l.finals j u info results made e out uns pres is)

      of_master : IsMaster c.t.work → c.t.term ≡ w.term → (j : ℕ) (u : Ticket) (info : SnapInfo) (results : List ShardResult) (made : Command) → j ≢ k → fin.get w.tickets j ≡ Some u → u.out ≡ true → u.settled ≡ false
          → u.term ≡ w.term → u.work ≡ Finalize info results made → u.op ≢ c.t.op
      of_master master present j u info results made away e out uns pres is =
          absurd (away (l.one_swap j k (record { t = u; there = e; out = out; unsettled = uns; present = pres; swaps = subst IsMaster (sym is) tt })
          (record { t = c.t; there = c.out.there; out = c.out.out; unsettled = c.unsettled; present = present; swaps = master })))

  -- ---- settled and dropped

  settles_step : (k : ℕ) → Settles f w k → Tracked (settled_of f w k (fin.get w.tickets k))
  settles_step k s =
      let v : World = record w { tickets = fin.insert w.tickets k (record s.t { settled = true }) } in
      let x : World = record v { root = s.s.root; ops = fin.remove w.ops s.t.op; deletes = fin.remove w.deletes s.t.op } in
      subst Tracked (sym (settled_plain f w k s))
      (tracked_aside x (tracked_left v (tracked_ticket w l k s.t (record s.t { settled = true }) s.may.out.there (settles s.t) (drew k s.t s.may.out.there)) s.t.op s.s.root named shards finals others
      (fin.remove w.deletes s.t.op) (λ d x e. (left_in w.deletes s.t.op d x e).1) (stays_in w.deletes s.t.op) cleans) w.blobs (suc s.n) w.pending w.completed w.doomed w.deposed)
    where
      it : FinalTracked w.root w.ops s.t s.info s.results
      it = l.finals k s.t s.info s.results s.made s.may.out.there s.may.out.out s.may.unsettled s.present s.work

      -- no cleanup's ticket has its op, which is of a snapshot
      cleans : (j : ℕ) (u : Ticket) → fin.get (fin.insert w.tickets k (record s.t { settled = true })) j ≡ Some u → u.out ≡ true → u.term ≡ w.term → u.clean ≡ true
          → fin.get (fin.remove w.deletes s.t.op) u.op ≡ fin.get w.deletes u.op
      cleans j u e out pres clean =
          let h = (tracked_ticket w l k s.t (record s.t { settled = true }) s.may.out.there (settles s.t) (drew k s.t s.may.out.there)).deletions.cleaning j u e out pres clean in
          stays_in w.deletes s.t.op u.op (λ same. l.apart u.op it.op h.x (ap (fin.get w.ops) same ∙ it.op_there) h.there)

      root_is : s.s.root ≡ finalized_root w.root (info_of it.op s.results) s.results
      root_is = sym (ap (λ (y : Swap). y.root) (same_Some _ _ (sym (ap (λ y. swap_of f y s.t.root) s.work) ∙ s.may.is))) ∙ (λ j. finalized_root (it.root_is j) (it.info_is j) s.results)

      named : Named s.s.root (fin.remove w.ops s.t.op) w.next_id
      named = subst (λ r. Named r (fin.remove w.ops s.t.op) w.next_id) (sym root_is) (named_root w.root w.ops w.next_id l.named s.t.op it.op it.op_there s.results it.done)

      shards : (j : ℕ) (u : Ticket) → fin.get (fin.insert w.tickets k (record s.t { settled = true })) j ≡ Some u → u.out ≡ true → IsShard u.work → u.op ≢ s.t.op
      shards j u e out shard same = elim (was_in w.tickets k (record s.t { settled = true }) j u e) [
        | inl h ↦ subst IsShard (ap (λ (y : Ticket). y.work) (sym h.1) ∙ s.work) shard
        | inr h ↦
            let (i, n, work) = shard_of u.work shard in
            let y = l.shards j u i n h.1 out work in
            final_apart w l y.op y.s y.s_there (λ q state. done_out q j (sym state ∙ y.state)) u.op y.op_there s.t s.info s.results it (sym same)
      ]

      finals : (j : ℕ) (u : Ticket) (info : SnapInfo) (results : List ShardResult) (made : Command) → fin.get (fin.insert w.tickets k (record s.t { settled = true })) j ≡ Some u → u.out ≡ true → u.settled ≡ false → u.term ≡ w.term
          → u.work ≡ Finalize info results made → (u.op ≢ s.t.op) × (s.s.root ≡ w.root)
      finals j u info results made e out uns pres is = elim (was_in w.tickets k (record s.t { settled = true }) j u e) [
        | inl h ↦ absurd (true≢false (ap (λ (y : Ticket). y.settled) h.1 ∙ uns))
        | inr h ↦ absurd (h.0 (l.one_swap j k (record { t = u; there = h.1; out = out; unsettled = uns; present = pres; swaps = subst IsMaster (sym is) tt })
            (record { t = s.t; there = s.may.out.there; out = s.may.out.out; unsettled = s.may.unsettled; present = s.present; swaps = subst IsMaster (sym s.work) tt })))
      ]

      others : (j : ℕ) (u : Ticket) (uuids : List ℕ) (plan : Option Swap) → fin.get (fin.insert w.tickets k (record s.t { settled = true })) j ≡ Some u → u.out ≡ true → u.settled ≡ false → u.term ≡ w.term
          → u.work ≡ Deleting uuids plan → (u.op ≢ s.t.op) × (s.s.root ≡ w.root)
      others j u uuids plan e out uns pres is = elim (was_in w.tickets k (record s.t { settled = true }) j u e) [
        | inl h ↦ absurd (true≢false (ap (λ (y : Ticket). y.settled) h.1 ∙ uns))
        | inr h ↦ absurd (h.0 (l.one_swap j k (record { t = u; there = h.1; out = out; unsettled = uns; present = pres; swaps = subst IsMaster (sym is) tt })
            (record { t = s.t; there = s.may.out.there; out = s.may.out.out; unsettled = s.may.unsettled; present = s.present; swaps = subst IsMaster (sym s.work) tt })))
      ]

  drops_step : (k : ℕ) (image : Option Image) → Drops f w k image → Tracked (dropped_of w k (fin.get w.tickets k))
  drops_step k image d =
      let v : World = record w { tickets = fin.insert w.tickets k (record d.may.t { out = false }) } in
      subst (λ x. Tracked (dropped_of w k x)) (sym d.may.out.there)
      (tracked_left v now d.may.t.op w.root (named_left w.root w.ops w.next_id d.may.t.op l.named) shards finals others (fin.remove w.deletes d.may.t.op) (λ e x h. (left_in w.deletes d.may.t.op e x h).1) (stays_in w.deletes d.may.t.op) cleans)
    where
      no_shard_of : IsShard d.may.t.work → ⊥
      no_shard_of shard = elim d.may.unit [ inl drop ↦ subst IsShard drop shard | inr c ↦ subst IsShard c.work shard ]

      now : Tracked (record w { tickets = fin.insert w.tickets k (record d.may.t { out = false }) })
      now = tracked_ticket w l k d.may.t (record d.may.t { out = false }) d.may.out.there (ended d.may.t no_shard_of) (drew k d.may.t d.may.out.there)

      out_was : (j : ℕ) (u : Ticket) → fin.get (fin.insert w.tickets k (record d.may.t { out = false })) j ≡ Some u → u.out ≡ true → (j ≢ k) × (fin.get w.tickets j ≡ Some u)
      out_was j u e out = elim (was_in w.tickets k (record d.may.t { out = false }) j u e) [ inl h ↦ absurd (true≢false (sym out ∙ ap (λ (y : Ticket). y.out) (sym h.1))) | inr h ↦ h ]

      -- where an op of snapshots of this number goes, it is stopped; beside a cleanup there is none
      stopped : (op : Op) → Goes op → fin.get w.ops d.may.t.op ≡ Some op → ⊥
      stopped op goes there = elim d.may.unit [
        | inl drop ↦ goes_not_stopped op goes ((l.drops k d.may.t d.may.out.there d.may.out.out d.present drop).stopped op there)
        | inr c ↦ let (x, at, clean) = c.open_op d.present in l.apart d.may.t.op op x there at
      ]

      shards : (j : ℕ) (u : Ticket) → fin.get (fin.insert w.tickets k (record d.may.t { out = false })) j ≡ Some u → u.out ≡ true → IsShard u.work → u.op ≢ d.may.t.op
      shards j u e out shard same = elim d.may.unit [
        | inl drop ↦ (l.drops k d.may.t d.may.out.there d.may.out.out d.present drop).idle j u (out_was j u e out).1 out shard same
        | inr c ↦
            let (i, n, work) = shard_of u.work shard in
            let y = l.shards j u i n (out_was j u e out).1 out work in
            let (x, at, clean) = c.open_op d.present in
            l.apart d.may.t.op y.op x (ap (fin.get w.ops) (sym same) ∙ y.op_there) at
      ]

      finals : (j : ℕ) (u : Ticket) (info : SnapInfo) (results : List ShardResult) (made : Command) → fin.get (fin.insert w.tickets k (record d.may.t { out = false })) j ≡ Some u → u.out ≡ true → u.settled ≡ false → u.term ≡ w.term
          → u.work ≡ Finalize info results made → (u.op ≢ d.may.t.op) × (w.root ≡ w.root)
      finals j u info results made e out uns pres is =
          let y = l.finals j u info results made (out_was j u e out).1 out uns pres is in
          ((λ same. stopped y.op y.goes (ap (fin.get w.ops) (sym same) ∙ y.op_there)), refl)

      others : (j : ℕ) (u : Ticket) (uuids : List ℕ) (plan : Option Swap) → fin.get (fin.insert w.tickets k (record d.may.t { out = false })) j ≡ Some u → u.out ≡ true → u.settled ≡ false → u.term ≡ w.term
          → u.work ≡ Deleting uuids plan → (u.op ≢ d.may.t.op) × (w.root ≡ w.root)
      others j u uuids plan e out uns pres is =
          let was = out_was j u e out in
          let y = l.deleting j u uuids plan was.1 out uns pres is in (
            (λ same. elim d.may.unit [
              | inl drop ↦
                  let x = l.drops k d.may.t d.may.out.there d.may.out.out d.present drop in
                  true≢false (sym (x.failed y.x (ap (fin.get w.deletes) (sym same) ∙ y.there)) ∙ y.unfailed)
              | inr c ↦ was.0 ((l.deletions.cleaning k d.may.t d.may.out.there d.may.out.out d.present c.clean).alone j u uuids plan was.1 out pres is same)
            ]),
            refl,
          )

      cleans : (j : ℕ) (u : Ticket) → fin.get (fin.insert w.tickets k (record d.may.t { out = false })) j ≡ Some u → u.out ≡ true → u.term ≡ w.term → u.clean ≡ true
          → fin.get (fin.remove w.deletes d.may.t.op) u.op ≡ fin.get w.deletes u.op
      cleans j u e out pres clean =
          let was = out_was j u e out in
          let h = l.deletions.cleaning j u was.1 out pres clean in
          stays_in w.deletes d.may.t.op u.op (λ same. elim d.may.unit [
            | inl drop ↦
                let x = l.drops k d.may.t d.may.out.there d.may.out.out d.present drop in
                true≢false (sym (x.failed h.x (ap (fin.get w.deletes) (sym same) ∙ h.there)) ∙ h.unfailed)
            | inr c ↦ was.0 (sym (h.alone k d.may.t c.uuids (Some c.s) d.may.out.there d.may.out.out d.present c.work (sym same)))
          ])

  -- ---- steps of a delete's ticket

  plans : (k : ℕ) (shards : List PrunedShard) (image : Option Image) (p : MayPlan f w k shards image) → w.next_id + kept_count shards < first_id (suc w.term)
      → Tracked (record (change w k (planned f shards w.next_id)) { next_id = w.next_id + kept_count shards })
  plans k shards image p fits =
      let drawn : World = record w { next_id = w.next_id + kept_count shards } in
      subst (λ (o : Option Ticket). Tracked (record (with_given w k (planned f shards w.next_id) o) { next_id = w.next_id + kept_count shards })) (sym p.deleting.out.there)
      (subst (λ (x : Work). Tracked (record drawn { tickets = fin.insert w.tickets k (record p.t { first = w.next_id; drawn = kept_count shards; work = planned_work f p.t shards w.next_id x }) })) (sym p.deleting.work)
      (tracked_planned drawn (tracked_drawn w l (kept_count shards) fits) k p.t p.deleting.out.there p.uuids None
      (Some (delete_swap f p.t.clean p.t.root p.t.read p.uuids shards w.next_id)) p.deleting.work w.next_id (kept_count shards) (omega arith) within))
    where
      within : p.t.out ≡ true → p.t.settled ≡ false → p.t.term ≡ w.term → (s : Swap) → ◌≡◌ {A = Option Swap} (Some (delete_swap f p.t.clean p.t.root p.t.read p.uuids shards w.next_id)) (Some s)
          → IsWithin w.root s.root (w.next_id + kept_count shards)
      within out uns pres s is =
          let root_is : p.t.root ≡ w.root = (l.deleting k p.t p.uuids None p.deleting.out.there out uns pres p.deleting.work).root_is in
          let ids : RootIds p.t.root w.next_id = subst (λ (r : RootData). RootIds r w.next_id) (sym root_is) l.named.root_below in
          subst (λ (r : RootData). IsWithin r s.root (w.next_id + kept_count shards)) root_is
          (subst (λ (x : Swap). IsWithin p.t.root x.root (w.next_id + kept_count shards)) (same_Some _ _ is) (plan_within f p.t.root p.one_each p.uuids shards w.next_id p.of_root ids))

  deletion_settles : (k : ℕ) (s : SettlesDeletion f w k) → s.t.term ≡ w.term → Tracked (delete_settled f w k (fin.get w.tickets k))
  deletion_settles k s present =
      let v : World = record w { tickets = fin.insert w.tickets k (record s.t { settled = true }) } in
      let x : World = record v { root = s.s.root; ops = fin.remove w.ops s.t.op; deletes = deletes_left w s.t } in
      subst Tracked (sym (delete_settled_plain f w k s.n s.t s.s s.may))
      (tracked_aside x (tracked_left v (tracked_ticket w l k s.t (record s.t { settled = true }) s.may.out.there (settles s.t) (drew k s.t s.may.out.there)) s.t.op s.s.root named shards finals others (deletes_left w s.t)
      (left_less s.t.clean) (left_more s.t.clean) (λ j u e out pres clean. cleans s.t.clean refl j u e out pres clean)) w.blobs (suc s.n) w.pending w.completed (dooms f s.t ++ w.doomed) w.deposed)
    where
      left_less : (b : Bool) (d : ℕ) (x : Deletion) → fin.get (if b then w.deletes else fin.remove w.deletes s.t.op) d ≡ Some x → fin.get w.deletes d ≡ Some x
      left_less true d x e = e
      left_less false d x e = (left_in w.deletes s.t.op d x e).1

      left_more : (b : Bool) (d : ℕ) → d ≢ s.t.op → fin.get (if b then w.deletes else fin.remove w.deletes s.t.op) d ≡ fin.get w.deletes d
      left_more true d away = refl
      left_more false d away = stays_in w.deletes s.t.op d away

      -- the op of a cleanup stays, and no cleanup's ticket has that of a delete
      cleans : (b : Bool) → s.t.clean ≡ b → (j : ℕ) (u : Ticket) → fin.get (fin.insert w.tickets k (record s.t { settled = true })) j ≡ Some u → u.out ≡ true → u.term ≡ w.term → u.clean ≡ true
          → fin.get (if b then w.deletes else fin.remove w.deletes s.t.op) u.op ≡ fin.get w.deletes u.op
      cleans true is j u e out pres clean = refl
      cleans false is j u e out pres clean =
          let h = (tracked_ticket w l k s.t (record s.t { settled = true }) s.may.out.there (settles s.t) (drew k s.t s.may.out.there)).deletions.cleaning j u e out pres clean in
          stays_in w.deletes s.t.op u.op (λ same. true≢false (sym h.cleans ∙ l.deletions.modes k s.t s.uuids (Some s.s) s.may.out.there s.deleting.work h.x (ap (fin.get w.deletes) (sym same) ∙ h.there) ∙ is))

      it : DeleteTracked w.root w.deletes w.next_id s.t (Some s.s)
      it = l.deleting k s.t s.uuids (Some s.s) s.may.out.there s.may.out.out s.may.unsettled present s.deleting.work

      named : Named s.s.root (fin.remove w.ops s.t.op) w.next_id
      named = named_left s.s.root w.ops w.next_id s.t.op (named_within w.root s.s.root w.ops w.next_id (it.planned s.s refl) l.named)

      mine : (j : ℕ) → SwapIsOut w.tickets w.term j → j ≡ k
      mine j h = l.one_swap j k h (record { t = s.t; there = s.may.out.there; out = s.may.out.out; unsettled = s.may.unsettled; present = present; swaps = subst IsMaster (sym s.deleting.work) tt })

      shards : (j : ℕ) (u : Ticket) → fin.get (fin.insert w.tickets k (record s.t { settled = true })) j ≡ Some u → u.out ≡ true → IsShard u.work → u.op ≢ s.t.op
      shards j u e out shard same = elim (was_in w.tickets k (record s.t { settled = true }) j u e) [
        | inl h ↦ subst IsShard (ap (λ (y : Ticket). y.work) (sym h.1) ∙ s.deleting.work) shard
        | inr h ↦
            let (i, n, work) = shard_of u.work shard in
            let y = l.shards j u i n h.1 out work in
            l.apart s.t.op y.op it.x (ap (fin.get w.ops) (sym same) ∙ y.op_there) it.there
      ]

      finals : (j : ℕ) (u : Ticket) (info : SnapInfo) (results : List ShardResult) (made : Command) → fin.get (fin.insert w.tickets k (record s.t { settled = true })) j ≡ Some u → u.out ≡ true → u.settled ≡ false → u.term ≡ w.term
          → u.work ≡ Finalize info results made → (u.op ≢ s.t.op) × (s.s.root ≡ w.root)
      finals j u info results made e out uns pres is = elim (was_in w.tickets k (record s.t { settled = true }) j u e) [
        | inl h ↦ absurd (true≢false (ap (λ (y : Ticket). y.settled) h.1 ∙ uns))
        | inr h ↦ absurd (h.0 (mine j (record { t = u; there = h.1; out = out; unsettled = uns; present = pres; swaps = subst IsMaster (sym is) tt })))
      ]

      others : (j : ℕ) (u : Ticket) (uuids : List ℕ) (plan : Option Swap) → fin.get (fin.insert w.tickets k (record s.t { settled = true })) j ≡ Some u → u.out ≡ true → u.settled ≡ false → u.term ≡ w.term
          → u.work ≡ Deleting uuids plan → (u.op ≢ s.t.op) × (s.s.root ≡ w.root)
      others j u uuids plan e out uns pres is = elim (was_in w.tickets k (record s.t { settled = true }) j u e) [
        | inl h ↦ absurd (true≢false (ap (λ (y : Ticket). y.settled) h.1 ∙ uns))
        | inr h ↦ absurd (h.0 (mine j (record { t = u; there = h.1; out = out; unsettled = uns; present = pres; swaps = subst IsMaster (sym is) tt })))
      ]

  deletion_ends : (k : ℕ) (t : Ticket) (uuids : List ℕ) (plan : Option Swap) → fin.get w.tickets k ≡ Some t → t.work ≡ Deleting uuids plan → Tracked (record w { tickets = fin.insert w.tickets k (record t { out = false }) })
  deletion_ends k t uuids plan there work = tracked_ticket w l k t (record t { out = false }) there (ended t (λ shard. subst IsShard work shard)) (drew k t there)

  deletion_fails : (k : ℕ) (c : FailsDeletion w k) → Tracked (delete_failed w k (fin.get w.tickets k))
  deletion_fails k c = elim (eqb_tells c.t.term w.term) [
    | inl e ↦ by_term false (master_stale f w c.t c.t.work master ∙ ap (λ (b : Bool). if b then false else true) e.0) (failing e.1)
    | inr e ↦ by_term true (master_stale f w c.t c.t.work master ∙ ap (λ (b : Bool). if b then false else true) e.0) (deletion_ends k c.t c.uuids c.plan c.deleting.out.there c.deleting.work)
  ]
    where
      master : IsMaster c.t.work
      master = subst IsMaster (sym c.deleting.work) tt

      by_term : (b : Bool) → is_stale w c.t c.t.work ≡ b → Tracked (if b then with_ticket w k (record c.t { out = false }) else delete_failed_by w k c.t (fin.get w.deletes c.t.op)) → Tracked (delete_failed w k (fin.get w.tickets k))
      by_term b is h =
          subst (λ x. Tracked (delete_failed w k x)) (sym c.deleting.out.there)
          (subst (λ x. Tracked (if x then with_ticket w k (record c.t { out = false }) else delete_failed_by w k c.t (fin.get w.deletes c.t.op))) (sym is) h)

      -- no ticket of it is out any more
      alone : c.t.term ≡ w.term → (j : ℕ) (u : Ticket) (uuids : List ℕ) (plan : Option Swap) → fin.get (fin.insert w.tickets k (record c.t { out = false })) j ≡ Some u → u.out ≡ true → u.settled ≡ false → u.term ≡ w.term
          → u.work ≡ Deleting uuids plan → u.op ≡ c.t.op → ⊥
      alone present j u uuids plan e out uns pres is same = elim (was_in w.tickets k (record c.t { out = false }) j u e) [
        | inl h ↦ true≢false (sym out ∙ ap (λ (y : Ticket). y.out) (sym h.1))
        | inr h ↦ elim c.may [
          | inl own ↦ h.0 (l.one_swap j k (record { t = u; there = h.1; out = out; unsettled = uns; present = pres; swaps = subst IsMaster (sym is) tt })
              (record { t = c.t; there = c.deleting.out.there; out = c.deleting.out.out; unsettled = own; present = present; swaps = master }))
          | inr own ↦ h.0 ((l.deletions.cleaning k c.t c.deleting.out.there c.deleting.out.out present own.0).alone j u uuids plan h.1 out pres is same)
        ]
      ]

      no_clean : c.t.term ≡ w.term → (j : ℕ) (u : Ticket) → fin.get (fin.insert w.tickets k (record c.t { out = false })) j ≡ Some u → u.out ≡ true → u.term ≡ w.term → u.clean ≡ true → u.op ≢ c.t.op
      no_clean present j u e out pres clean same = elim (was_in w.tickets k (record c.t { out = false }) j u e) [
        | inl h ↦ true≢false (sym out ∙ ap (λ (y : Ticket). y.out) (sym h.1))
        | inr h ↦ h.0 (sym ((l.deletions.cleaning j u h.1 out pres clean).alone k c.t c.uuids c.plan c.deleting.out.there c.deleting.out.out present c.deleting.work (sym same)))
      ]

      op_of : c.t.term ≡ w.term → (x : Deletion) × (fin.get w.deletes c.t.op ≡ Some x)
      op_of present = elim c.may [
        | inl own ↦ let it = l.deleting k c.t c.uuids c.plan c.deleting.out.there c.deleting.out.out own present c.deleting.work in (it.x, it.there)
        | inr own ↦ own.1 present
      ]

      failing : c.t.term ≡ w.term → Tracked (delete_failed_by w k c.t (fin.get w.deletes c.t.op))
      failing present =
          let (x, at) = op_of present in
          let v : World = record w { tickets = fin.insert w.tickets k (record c.t { out = false }) } in
          subst (λ o. Tracked (delete_failed_by w k c.t o)) (sym at)
          (tracked_failed v (deletion_ends k c.t c.uuids c.plan c.deleting.out.there c.deleting.work) c.t.op x at (alone present) (no_clean present))

  prunes : (k : ℕ) (prune : Prune) (reply : Reply) (image : Option Image) → PruneAllows f w k prune reply image → Tracked (stepped f w (moment k (PruneStep prune) reply image))
  prunes who prune reply image (FetchingShard k name im g found) = kept _ (fetches k g.t g.deleting.out.there name (told_blob f im name)) (blobs_in im w.blobs)
  prunes who prune reply image (Planning k shards im p fits back same) = kept _ (plans k shards im p fits) (blobs_in im w.blobs)
  prunes who prune reply image (SettlingDelete k im s present same) = kept _ (deletion_settles k s present) (blobs_in im w.blobs)
  prunes who prune reply image (SettleDeleteFails k im s present same) = falls w _ l (deletion_settles k s present) _ (blobs_in im w.blobs)
  prunes who prune reply image (EndingDelete k im e same) =
      kept _ (changed k e.t e.deleting.out.there (λ (t : Ticket). record t { out = false }) (ended e.t (λ shard. subst IsShard e.deleting.work shard)) (drew k e.t e.deleting.out.there)) (blobs_in im w.blobs)
  prunes who prune reply image (FailingDelete k why im c same) = kept _ (deletion_fails k c) (blobs_in im w.blobs)
  prunes who prune reply image other = kept w l (blobs_in image w.blobs)

  -- ---- reading

  reads : (k : ℕ) (read : Read) (reply : Reply) (image : Option Image) → ReadAllows f w k read reply image → Tracked (answered f w k (ReadStep read) reply image)
  reads k read reply image (ReadFound j name im stored by found) = tracked_aside_of w _ (aside_by f w j (ReadBlob name) WasFetched im tt) l
  reads k read reply image (ReadMissing j name im stored by none) = tracked_aside_of w _ (aside_by f w j (ReadBlob name) WasAbsent im tt) l
  reads k read reply image (RestoringShard j files bytes im q out done) = tracked_aside_of w _ (aside_by f w j (RestoredShard files bytes) HasEnded im tt) l
  reads k read reply image (ReaderFailing j why im q out) = tracked_aside_of w _ (aside_by f w j (ReadFails why) HasEnded im tt) l
  reads k read reply image other = l

  test_left_tracked : (name : BlobName) (was now : Option Bytes) → Tracked (test_left w name was now)
  test_left_tracked name None (Some bytes) = tracked_aside w l w.blobs w.safe w.pending w.completed (name ∷ w.doomed) w.deposed
  test_left_tracked name was now = l

  one_more : (n : ℕ) → n + 1 ≡ suc n
  one_more n = omega arith

  verifies : (read : Read) (reply : Reply) (image : Option Image) → VerifyAllows f w read reply image → Tracked (answered f w 0 (ReadStep read) reply image)
  verifies read reply image (DrawingTest im idle fits same) = subst (λ n. Tracked (record w { next_id = n })) (one_more w.next_id) (tracked_drawn w l 1 (let b : suc w.next_id < first_id (suc w.term) = fits in omega (arith, b)))
  verifies read reply image (CommittingTest name bytes im own new adds) = tracked_aside w l w.blobs w.safe w.pending w.completed (name ∷ w.doomed) w.deposed
  verifies read reply image (CommitTestFails name bytes im own leaves) = test_left_tracked name (fin.get w.blobs (f.names.text name)) (told_blob f im name)
  verifies read reply image other = l

  -- ---- each answer

  tracked_by : (who : ℕ) (step : Step) (reply : Reply) (image : Option Image) → Allows f size w who step reply image → Tracked (stepped f w (moment who step reply image))
  tracked_by who step reply image (allowed.Accepting name indices time o im acc same) = kept _ (asks name indices time o acc) (blobs_in im w.blobs)
  tracked_by who step reply image (allowed.Giving k o unit im is lowest g same) = kept _ (gives o unit g) (blobs_in im w.blobs)
  tracked_by who step reply image (allowed.Drawing k n first im d same) = kept _ (draws k n d.may.t d.may.out.there d.fits) (blobs_in im w.blobs)
  tracked_by who step reply image (allowed.Committing k name im c adds) = kept _ (commits k c.t c.out.there name (told_blob f im name)) (blobs_in im w.blobs)
  tracked_by who step reply image (allowed.Finding k name im c found) = kept _ (commits k c.t c.out.there name None) (blobs_in im w.blobs)
  tracked_by who step reply image (allowed.Replacing k im c named puts) = kept _ (tries k c.t c.out.there) (blobs_in im w.blobs)
  tracked_by who step reply image (allowed.Fetching k name im g found) = kept _ (fetches k g.t g.out.there name (told_blob f im name)) (blobs_in im w.blobs)
  tracked_by who step reply image (allowed.Listing k from page im g shape here) = kept _ (changed k g.t g.out.there (λ (t : Ticket). listing t page) (lists_page g.t page) (drew k g.t g.out.there)) (blobs_in im w.blobs)
  tracked_by who step reply image (allowed.Raising k n im r same) = kept _ (raises k r.may.t r.may.out.there) (blobs_in im w.blobs)
  tracked_by who step reply image (allowed.Settling k im s same) = kept _ (settles_step k s) (blobs_in im w.blobs)
  tracked_by who step reply image (allowed.Doing k r im d same) = kept _ (does k r im d) (blobs_in im w.blobs)
  tracked_by who step reply image (allowed.Failing k why im c same) = kept _ (fails_step k c) (blobs_in im w.blobs)
  tracked_by who step reply image (allowed.Finishing k im c same) = kept _ (changed k c.t c.out.there (λ (t : Ticket). record t { out = false }) (ended c.t c.no_shard) (drew k c.t c.out.there)) (blobs_in im w.blobs)
  tracked_by who step reply image (allowed.Dropping k im c same) = kept _ (drops_step k im c) (blobs_in im w.blobs)
  tracked_by who step reply image (allowed.Electing im room same) = kept _ (tracked_elect w l) (blobs_in im w.blobs)
  tracked_by who step reply image (allowed.OpeningRestore name place o uuid indices im acc same) =
      let v : World = restore_opened w uuid place indices in kept v (tracked_aside_of w v (aside_opened w v uuid place indices refl) l) (blobs_in im w.blobs)
  tracked_by who step reply image (allowed.OpeningClone source name names time o t im acc same) = kept _ (asks_copy source name names time o t im acc) (blobs_in im w.blobs)
  tracked_by who step reply image (allowed.GoingInto names im acc same) = kept _ (tracked_delete w l names) (blobs_in im w.blobs)
  tracked_by who step reply image (allowed.OpeningCleanup im acc same) = kept _ (tracked_cleanup w l) (blobs_in im w.blobs)
  tracked_by who step reply image (allowed.Reading k read rep im h same) = kept _ (reads k read rep im h) (blobs_in im w.blobs)
  tracked_by who step reply image (allowed.Pruning k prune rep im h) = prunes k prune rep im h
  tracked_by who step reply image (allowed.Verifying read rep im h) = kept _ (verifies read rep im h) (blobs_in im w.blobs)
  tracked_by who step reply image (allowed.Ruled command refusal im (allowed.Cleaning c d x recorded untaken there clean) same) = kept w l (blobs_in im w.blobs)
  tracked_by who step reply image (allowed.BeginFails k name im c same) = subst (λ (b : Bool). Tracked (record (if b then tried w k else w) { blobs = blobs_in im w.blobs })) (sym (not_latest name c.named.1)) (kept w l (blobs_in im w.blobs))
  tracked_by who step reply image (allowed.BeginLatestFails k im c same) = kept _ (tries k c.t c.out.there) (blobs_in im w.blobs)
  tracked_by who step reply image (allowed.ReplaceFails k im c named puts) = kept _ (tries k c.t c.out.there) (blobs_in im w.blobs)
  tracked_by who step reply image (allowed.AskFails name indices time im acc same) = falls w _ l (asks name indices time w.next_op acc) _ (blobs_in im w.blobs)
  tracked_by who step reply image (allowed.AskCloneFails source name names time t im acc same) = falls w _ l (asks_copy source name names time w.next_op t im acc) _ (blobs_in im w.blobs)
  tracked_by who step reply image (allowed.AskDeleteFails names im acc same) = falls w _ l (tracked_delete w l names) _ (blobs_in im w.blobs)
  tracked_by who step reply image (allowed.AskCleanupFails im acc same) = falls w _ l (tracked_cleanup w l) _ (blobs_in im w.blobs)
  tracked_by who step reply image (allowed.RaiseFails k im r same) = falls w _ l (raises k r.may.t r.may.out.there) _ (blobs_in im w.blobs)
  tracked_by who step reply image (allowed.SettleFails k im s same) = falls w _ l (settles_step k s) _ (blobs_in im w.blobs)
  tracked_by who step reply image (allowed.DropFails k im c same) = falls w _ l (drops_step k im c) _ (blobs_in im w.blobs)
  tracked_by who step reply image (allowed.ElectFails im room same) = falls w _ l (tracked_elect w l) _ (blobs_in im w.blobs)
  tracked_by who step reply image other = kept w l (blobs_in image w.blobs)

pub tracked_step : (f : Formats) (size : ℕ) (w : World) (m : Moment) → Tracked w → Allowed f size w m → Tracked (after f w m)
tracked_step f size w m l a = tracked_aside_of (stepped f w m) _ (aside_heard f w m) (elim a.answered [
  | inl alive ↦ tracked_by f size w l m.entry.who m.entry.step m.entry.reply m.image alive.1
  | inr dead ↦
      subst (λ reply. Tracked (record (answered f w m.entry.who m.entry.step reply m.image) { blobs = blobs_in m.image w.blobs })) (sym dead.refused)
      (subst (λ (x : World). Tracked (record x { blobs = blobs_in m.image w.blobs })) (sym (block_leaves f w m.entry.who m.entry.step dead.refusal m.image dead.blocks)) (kept w l (blobs_in m.image w.blobs)))
])

pub tracked_history : (f : Formats) (size : ℕ) (log : List Moment) (w : World) → Tracked w → IsLegal f size w log → Tracked (world_from f w log)
tracked_history f size [] w l legal = l
tracked_history f size (m ∷ log) w l legal = tracked_history f size log (after f w m) (tracked_step f size w m l legal.0) legal.1

-- the world that opening makes
pub tracked_opened : (blobs : Blobs) (cluster : ClusterRecord) (root : RootData) → RootIds root (first_id (suc cluster.ledger.term))
    → ((x y : RootIndex) → Has root.indices x → Has root.indices y → IsOneIndex x.name x.id y.name y.id) → Tracked (opened blobs cluster root)
tracked_opened blobs cluster root ids one =
    record {
      numbers = λ o op e. absurd (nothing o op e);
      delete_numbers = λ d x e. let (below, clean, from) = numbered_from 1 (kept_deletes cluster.ops) d x e in let b : d < 1 + length (kept_deletes cluster.ops) = below in omega (arith, b);
      apart = λ o op x e. absurd (nothing o op e);
      tickets = λ k t e. absurd (nothing k t e);
      begun = λ k t e. absurd (nothing k t e);
      first_ticket = omega arith;
      shards = λ k t i n e. absurd (nothing k t e);
      held = λ o op s j e. absurd (nothing o op e);
      finals = λ k t info rs made e. absurd (nothing k t e);
      drops = λ k t e. absurd (nothing k t e);
      deleting = λ k t uuids plan e. absurd (nothing k t e);
      deletions = record { modes = λ k t uuids plan e. absurd (nothing k t e); cleaning = λ k t e. absurd (nothing k t e) };
      one_swap = λ i j a. absurd (nothing i a.t a.there);
      named = record {
        unlisted = λ o op s e. absurd (nothing o op e);
        apart = λ o p a b e. absurd (nothing o a e);
        unused = λ o op x e. absurd (nothing o op e);
        indices = λ o p a b r q e. absurd (nothing o a e);
        once = λ o op r q e. absurd (nothing o op e);
        rooted = λ o op r x e. absurd (nothing o op e);
        root_indices = one;
        shards = λ o op e. absurd (nothing o op e);
        distinct = λ o op s z e. absurd (nothing o op e);
        results = λ o op s r e. absurd (nothing o op e);
        below = λ o op e. absurd (nothing o op e);
        root_below = ids;
      };
      in_term = record { from = omega arith; below = omega arith };
    }
