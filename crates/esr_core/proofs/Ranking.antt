-- Each step keeps the order of the generations that tickets have raised.
use Rattle.std.proofs.Common.{◌≡◌, ◌≢◌, ℕ, suc, ◌<◌, ◌≤◌, List, [], ◌∷◌, Bool, true, false, true≢false, Option, Some, None, refl, sym, ap, ◌∙◌, subst, inl, inr, arith, ◌+◌}
use Rattle.std.specs.Prelude.{if◌then◌else◌}
use Rattle.std.specs.Ordering.{nat_cmp}
use Rattle.std.specs.FinMap.{FinMap}
use Rattle.std.specs.FinMap as fin
use Rattle.esr_core.specs.Laws.NumberMaps.{was_in}
use Rattle.esr_core.proofs.Settling.{swap_master}
use Rattle.esr_model.specs.Names.{BlobName}
use Rattle.esr_model.specs.Values.{Bytes, RootData, ShardResult, ClusterRecord, Formats}
use Rattle.esr_model.specs.Image.{Image, Blobs}
use Rattle.esr_model.specs.Delete.{PrunedShard, kept_count}
use Rattle.esr_model.specs.Cleanup.{BlobSize}
use Rattle.esr_core.specs.Pruning.{planned}
use Rattle.esr_core.specs.World.{World, Op, Ticket, opened, Deletion}
use Rattle.esr_core.specs.Ready.{IsMaster}
use Rattle.esr_core.specs.Steps.{with_ticket, listing}
use Rattle.esr_core.specs.Entry.{Given, GivenShard, GivenFinalize, GivenDrop, Step, Reply, Moment, GivenRestore, ReadStep, Read, ReadBlob, RestoredShard, ReadFails, WasFetched, WasAbsent, HasEnded, GivenClone, GivenDelete, GivenCleanup, Prune, PruneStep}
use Rattle.esr_core.specs.After.{cleanup_opened, clone_opened, taken_by, taken_shard, with_given, change, committing, fetching, told_blob, done_of, done_by, failed_of, failed_by, is_stale, settled_of, dropped_of, tried, answered, blobs_in, after, test_left, delete_settled, delete_failed, delete_failed_by}
use Rattle.esr_core.specs.Allowed as allowed
use Rattle.esr_core.specs.Allowed.{MayPlan, SettlesDeletion, FailsDeletion, PruneAllows, FetchingShard, Planning, SettlingDelete, SettleDeleteFails, EndingDelete, FailingDelete, Gives, Settles, Fails, Drops, Dones, Allows, Allowed, MayRaise, ReadAllows, ReadFound, ReadMissing, RestoringShard, ReaderFailing, VerifyAllows, CommitTestFails}
use Rattle.esr_core.specs.History.{world_from, IsLegal}
use Rattle.esr_core.specs.Tracked.{Tracked}
use Rattle.esr_core.specs.Ranked.{Ranks, Ranked}
use Rattle.esr_core.specs.Laws.Asides.{blocked_stays, aside_by}
use Rattle.esr_core.specs.Laws.Maps.{nothing}
use Rattle.esr_core.proofs.Besides.{aside_taken, kept_aside}
use Rattle.esr_core.specs.Deletes.{asked_delete}
use Rattle.esr_core.specs.Laws.DeleteAsks.{delete_leaves}
use Rattle.esr_core.specs.Laws.Moments.{moment, settled_plain, delete_settled_plain}
use Rattle.esr_core.proofs.Moments.{not_latest}
use Rattle.esr_core.proofs.TrackingSteps.{tracked_step}

-- a ticket that goes on: nothing that ranks it changes, and it is out and unsettled only where it was
record Alike (t v : Ticket) : Type 0 where
  work : v.work ≡ t.work
  raised : v.raised ≡ t.raised
  term : v.term ≡ t.term
  out : v.out ≡ true → t.out ≡ true
  settled : v.settled ≡ false → t.settled ≡ false

alike_quiet : (t : Ticket) (noted : List BlobName) (wrote read : List (BlobName × Bytes)) (tried : Bool) (first drawn : ℕ) → Alike t (record t { noted = noted; wrote = wrote; read = read; tried_latest = tried; first = first; drawn = drawn })
alike_quiet t noted wrote read tried first drawn = record { work = refl; raised = refl; term = refl; out = λ e. e; settled = λ e. e }

alike_listing : (t : Ticket) (page : List BlobSize) → Alike t (listing t page)
alike_listing t page = record { work = refl; raised = refl; term = refl; out = λ e. e; settled = λ e. e }

alike_ended : (t : Ticket) → Alike t (record t { out = false })
alike_ended t = record { work = refl; raised = refl; term = refl; out = λ e. absurd (true≢false (sym e)); settled = λ e. e }

module _ (safe pending term : ℕ) (tickets : FinMap nat_cmp Ticket) (l : Ranks safe pending term tickets) where
  ranks_ticket : (k : ℕ) (t v : Ticket) → fin.get tickets k ≡ Some t → Alike t v → Ranks safe pending term (fin.insert tickets k v)
  ranks_ticket k t v there like =
      record {
        ordered = l.ordered;
        raised = λ j n u e is. elim (was_in tickets k v j u e) [
          | inl h ↦
              let x = l.raised k n t there (sym like.raised ∙ ap (λ (y : Ticket). y.raised) h.1 ∙ is) in
              (subst IsMaster (sym like.work ∙ ap (λ (y : Ticket). y.work) h.1) x.0, x.1)
          | inr h ↦ l.raised j n u h.1 is
        ];
        unsettled = λ j n u e out uns pres is. elim (was_in tickets k v j u e) [
          | inl h ↦ l.unsettled k n t there (like.out (ap (λ (y : Ticket). y.out) h.1 ∙ out)) (like.settled (ap (λ (y : Ticket). y.settled) h.1 ∙ uns))
              (sym like.term ∙ ap (λ (y : Ticket). y.term) h.1 ∙ pres) (sym like.raised ∙ ap (λ (y : Ticket). y.raised) h.1 ∙ is)
          | inr h ↦ l.unsettled j n u h.1 out uns pres is
        ];
      }

  -- a new ticket has raised nothing
  ranks_new : (k : ℕ) (v : Ticket) → v.raised ≡ None → Ranks safe pending term (fin.insert tickets k v)
  ranks_new k v none =
      record {
        ordered = l.ordered;
        raised = λ j n u e is. elim (was_in tickets k v j u e) [ inl h ↦ absurd (never n (sym none ∙ ap (λ (y : Ticket). y.raised) h.1 ∙ is)) | inr h ↦ l.raised j n u h.1 is ];
        unsettled = λ j n u e out uns pres is. elim (was_in tickets k v j u e) [ inl h ↦ absurd (never n (sym none ∙ ap (λ (y : Ticket). y.raised) h.1 ∙ is)) | inr h ↦ l.unsettled j n u h.1 out uns pres is ];
      }
    where
      never : (n : ℕ) → ◌≡◌ {A = Option ℕ} None (Some n) → ⊥
      never n e = cc

  -- the next generation is begun by a swap
  ranks_raise : (k : ℕ) (t : Ticket) → fin.get tickets k ≡ Some t → IsMaster t.work → Ranks safe (suc pending) term (fin.insert tickets k (record t { raised = Some pending }))
  ranks_raise k t there master =
      record {
        ordered = omega (arith, l.ordered);
        raised = λ j n u e is. elim (was_in tickets k (record t { raised = Some pending }) j u e) [
          | inl h ↦
              let same : pending ≡ n = some_nat (ap (λ (y : Ticket). y.raised) h.1 ∙ is) in
              (subst IsMaster (ap (λ (y : Ticket). y.work) h.1) master, omega (arith, same))
          | inr h ↦ let x = l.raised j n u h.1 is in let b : n < pending = x.1 in (x.0, omega (arith, b))
        ];
        unsettled = λ j n u e out uns pres is. elim (was_in tickets k (record t { raised = Some pending }) j u e) [
          | inl h ↦ let same : pending ≡ n = some_nat (ap (λ (y : Ticket). y.raised) h.1 ∙ is) in omega (arith, same, l.ordered)
          | inr h ↦ l.unsettled j n u h.1 out uns pres is
        ];
      }
    where
      some_nat : {a b : ℕ} → ◌≡◌ {A = Option ℕ} (Some a) (Some b) → a ≡ b
      some_nat e = cc

  -- the generation that a swap raised becomes the safe one, where no other swap is out
  ranks_settle : (k n : ℕ) (t : Ticket) → fin.get tickets k ≡ Some t → t.raised ≡ Some n
      → ((j : ℕ) (u : Ticket) → j ≢ k → fin.get tickets j ≡ Some u → u.out ≡ true → u.settled ≡ false → u.term ≡ term → IsMaster u.work → ⊥)
      → Ranks (suc n) pending term (fin.insert tickets k (record t { settled = true }))
  ranks_settle k n t there is alone =
      record {
        ordered = (let b : n < pending = (l.raised k n t there is).1 in omega (arith, b));
        raised = λ j m u e r. elim (was_in tickets k (record t { settled = true }) j u e) [
          | inl h ↦ let x = l.raised k m t there (ap (λ (y : Ticket). y.raised) h.1 ∙ r) in (subst IsMaster (ap (λ (y : Ticket). y.work) h.1) x.0, x.1)
          | inr h ↦ l.raised j m u h.1 r
        ];
        unsettled = λ j m u e out uns pres r. elim (was_in tickets k (record t { settled = true }) j u e) [
          | inl h ↦ absurd (true≢false (ap (λ (y : Ticket). y.settled) h.1 ∙ uns))
          | inr h ↦ absurd (alone j u h.0 h.1 out uns pres (l.raised j m u h.1 r).0)
        ];
      }

  -- in a new term no ticket is of the present one
  ranks_elect : (later : ℕ) → ((k : ℕ) (t : Ticket) → fin.get tickets k ≡ Some t → t.term ≢ later) → Ranks safe pending later tickets
  ranks_elect later older = record { ordered = l.ordered; raised = l.raised; unsettled = λ k n t there out uns pres is. absurd (older k t there pres) }

-- a record swap that failed
ranks_falls : (w up : World) → Ranked w → Ranked up → (b : Bool) (blobs : Blobs) → Ranked (record (if b then up else w) { deposed = true; blobs = blobs })
ranks_falls w up l u true blobs = u
ranks_falls w up l u false blobs = l

module _ (f : Formats) (size : ℕ) (w : World) (q : Tracked w) (l : Ranked w) where
  alike_at : (k : ℕ) (t v : Ticket) → fin.get w.tickets k ≡ Some t → Alike t v → Ranks w.safe w.pending w.term (fin.insert w.tickets k v)
  alike_at = ranks_ticket w.safe w.pending w.term w.tickets l

  changes : (k : ℕ) (t : Ticket) → fin.get w.tickets k ≡ Some t → (g : Ticket → Ticket) → Alike t (g t) → Ranked (change w k g)
  changes k t there g like = subst (λ o. Ranked (with_given w k g o)) (sym there) (alike_at k t (g t) there like)

  commits : (k : ℕ) (t : Ticket) → fin.get w.tickets k ≡ Some t → (name : BlobName) (o : Option Bytes) → Ranked (change w k (committing name o))
  commits k t there name None = changes k t there (committing name None) (alike_quiet t (name ∷ t.noted) t.wrote t.read t.tried_latest t.first t.drawn)
  commits k t there name (Some bytes) = changes k t there (committing name (Some bytes)) (alike_quiet t (name ∷ t.noted) ((name, bytes) ∷ t.wrote) t.read t.tried_latest t.first t.drawn)

  fetches : (k : ℕ) (t : Ticket) → fin.get w.tickets k ≡ Some t → (name : BlobName) (o : Option Bytes) → Ranked (change w k (fetching name o))
  fetches k t there name None = changes k t there (fetching name None) (alike_quiet t t.noted t.wrote t.read t.tried_latest t.first t.drawn)
  fetches k t there name (Some bytes) = changes k t there (fetching name (Some bytes)) (alike_quiet t t.noted t.wrote ((name, bytes) ∷ t.read) t.tried_latest t.first t.drawn)

  tries : (k : ℕ) (t : Ticket) → fin.get w.tickets k ≡ Some t → Ranked (tried w k)
  tries k t there = changes k t there (λ (x : Ticket). record x { tried_latest = true }) (alike_quiet t t.noted t.wrote t.read true t.first t.drawn)

  draws : (k n : ℕ) (t : Ticket) → fin.get w.tickets k ≡ Some t → Ranked (change w k (λ (x : Ticket). record x { first = w.next_id; drawn = n }))
  draws k n t there = changes k t there (λ (x : Ticket). record x { first = w.next_id; drawn = n }) (alike_quiet t t.noted t.wrote t.read t.tried_latest w.next_id n)

  ends : (k : ℕ) (t : Ticket) → fin.get w.tickets k ≡ Some t → Ranked (with_ticket w k (record t { out = false }))
  ends k t there = alike_at k t (record t { out = false }) there (alike_ended t)

  raises : (k : ℕ) (m : MayRaise f w k) → Ranked (record (change w k (λ (x : Ticket). record x { raised = Some w.pending })) { pending = suc w.pending })
  raises k m =
      subst (λ o. Ranked (record (with_given w k (λ (x : Ticket). record x { raised = Some w.pending }) o) { pending = suc w.pending })) (sym m.out.there)
      (ranks_raise w.safe w.pending w.term w.tickets l k m.t m.out.there (swap_master f m.t.work m.t.root m.s m.is))

  gives : (o : ℕ) (unit : Given) → Gives f w o unit → Ranked (taken_by f w o unit (fin.get w.ops o))
  gives o (GivenClone index number source base) g =
      subst (λ x. Ranked (taken_by f w o (GivenClone index number source base) x)) (sym g.ready.op_there) (subst (λ x. Ranked (taken_shard w o g.op base x)) (sym g.found) (ranks_new w.safe w.pending w.term w.tickets l w.next_ticket _ refl))
  gives o (GivenDelete uuids) g = deleting (fin.get w.ops o)
    where
      deleting : (found : Option Op) → Ranked (taken_by f w o (GivenDelete uuids) found)
      deleting None = ranks_new w.safe w.pending w.term w.tickets l w.next_ticket _ refl
      deleting (Some op) = ranks_new w.safe w.pending w.term w.tickets l w.next_ticket _ refl
  gives o GivenCleanup g = cleaning (fin.get w.ops o)
    where
      cleaning : (found : Option Op) → Ranked (taken_by f w o GivenCleanup found)
      cleaning None = ranks_new w.safe w.pending w.term w.tickets l w.next_ticket _ refl
      cleaning (Some op) = ranks_new w.safe w.pending w.term w.tickets l w.next_ticket _ refl
  gives o (GivenRestore index number uuid) g = kept_aside Ranked w _ (aside_taken w o index number (fin.get w.restores o)) l
  gives o (GivenShard index number base) g =
      subst (λ x. Ranked (taken_by f w o (GivenShard index number base) x)) (sym g.ready.op_there) (subst (λ x. Ranked (taken_shard w o g.op base x)) (sym g.found) (ranks_new w.safe w.pending w.term w.tickets l w.next_ticket _ refl))
  gives o (GivenFinalize info results) g = subst (λ x. Ranked (taken_by f w o (GivenFinalize info results) x)) (sym g.ready.op_there) (ranks_new w.safe w.pending w.term w.tickets l w.next_ticket _ refl)
  gives o GivenDrop g = dropping (fin.get w.ops o)
    where
      dropping : (found : Option Op) → Ranked (taken_by f w o GivenDrop found)
      dropping None = ranks_new w.safe w.pending w.term w.tickets l w.next_ticket _ refl
      dropping (Some op) = ranks_new w.safe w.pending w.term w.tickets l w.next_ticket _ refl

  does : (k : ℕ) (r : ShardResult) (image : Option Image) → Dones f size w k r image → Ranked (done_of w k r (fin.get w.tickets k))
  does k r image d = subst (λ x. Ranked (done_of w k r x)) (sym d.out.there) (subst (λ x. Ranked (done_by w k r d.t x)) (sym d.op_there) (ends k d.t d.out.there))

  fails_by : (k : ℕ) (t : Ticket) → fin.get w.tickets k ≡ Some t → (o : Option Op) → Ranked (failed_by w k t o)
  fails_by k t there None = l
  fails_by k t there (Some op) = ends k t there

  fails_of : (k : ℕ) (t : Ticket) → fin.get w.tickets k ≡ Some t → (b : Bool) → Ranked (if b then with_ticket w k (record t { out = false }) else failed_by w k t (fin.get w.ops t.op))
  fails_of k t there true = ends k t there
  fails_of k t there false = fails_by k t there (fin.get w.ops t.op)

  fails_step : (k : ℕ) (c : Fails w k) → Ranked (failed_of w k (fin.get w.tickets k))
  fails_step k c = subst (λ x. Ranked (failed_of w k x)) (sym c.out.there) (fails_of k c.t c.out.there (is_stale w c.t c.t.work))

  settles_step : (k : ℕ) → Settles f w k → Ranked (settled_of f w k (fin.get w.tickets k))
  settles_step k s =
      subst Ranked (sym (settled_plain f w k s)) (ranks_settle w.safe w.pending w.term w.tickets l k s.n s.t s.may.out.there s.may.raised alone)
    where
      alone : (j : ℕ) (u : Ticket) → j ≢ k → fin.get w.tickets j ≡ Some u → u.out ≡ true → u.settled ≡ false → u.term ≡ w.term → IsMaster u.work → ⊥
      alone j u away e out uns pres master =
          away (q.one_swap j k (record { t = u; there = e; out = out; unsettled = uns; present = pres; swaps = master })
          (record { t = s.t; there = s.may.out.there; out = s.may.out.out; unsettled = s.may.unsettled; present = s.present; swaps = subst IsMaster (sym s.work) tt }))

  drops_step : (k : ℕ) (image : Option Image) → Drops f w k image → Ranked (dropped_of w k (fin.get w.tickets k))
  drops_step k image d = subst (λ x. Ranked (dropped_of w k x)) (sym d.may.out.there) (ends k d.may.t d.may.out.there)

  -- ---- steps of a delete's ticket

  -- it has raised nothing before its plan
  plans : (k : ℕ) (shards : List PrunedShard) (image : Option Image) (p : MayPlan f w k shards image) → Ranked (record (change w k (planned f shards w.next_id)) { next_id = w.next_id + kept_count shards })
  plans k shards image p =
      subst (λ o. Ranked (record (with_given w k (planned f shards w.next_id) o) { next_id = w.next_id + kept_count shards })) (sym p.deleting.out.there)
      (ranks_new w.safe w.pending w.term w.tickets l k (planned f shards w.next_id p.t) p.unraised)

  deletion_settles : (k : ℕ) (s : SettlesDeletion f w k) → s.t.term ≡ w.term → Ranked (delete_settled f w k (fin.get w.tickets k))
  deletion_settles k s present =
      subst Ranked (sym (delete_settled_plain f w k s.n s.t s.s s.may)) (ranks_settle w.safe w.pending w.term w.tickets l k s.n s.t s.may.out.there s.may.raised alone)
    where
      alone : (j : ℕ) (u : Ticket) → j ≢ k → fin.get w.tickets j ≡ Some u → u.out ≡ true → u.settled ≡ false → u.term ≡ w.term → IsMaster u.work → ⊥
      alone j u away e out uns pres master =
          away (q.one_swap j k (record { t = u; there = e; out = out; unsettled = uns; present = pres; swaps = master })
          (record { t = s.t; there = s.may.out.there; out = s.may.out.out; unsettled = s.may.unsettled; present = present; swaps = subst IsMaster (sym s.deleting.work) tt }))

  deletion_fails : (k : ℕ) (c : FailsDeletion w k) → Ranked (delete_failed w k (fin.get w.tickets k))
  deletion_fails k c = subst (λ x. Ranked (delete_failed w k x)) (sym c.deleting.out.there) (by_term (is_stale w c.t c.t.work))
    where
      by_op : (x : Option Deletion) → Ranked (delete_failed_by w k c.t x)
      by_op None = l
      by_op (Some x) = ends k c.t c.deleting.out.there

      by_term : (b : Bool) → Ranked (if b then with_ticket w k (record c.t { out = false }) else delete_failed_by w k c.t (fin.get w.deletes c.t.op))
      by_term true = ends k c.t c.deleting.out.there
      by_term false = by_op (fin.get w.deletes c.t.op)

  prunes : (k : ℕ) (prune : Prune) (reply : Reply) (image : Option Image) → PruneAllows f w k prune reply image → Ranked (after f w (moment k (PruneStep prune) reply image))
  prunes who prune reply image (FetchingShard k name im g found) = fetches k g.t g.deleting.out.there name (told_blob f im name)
  prunes who prune reply image (Planning k shards im p fits back same) = plans k shards im p
  prunes who prune reply image (SettlingDelete k im s present same) = deletion_settles k s present
  prunes who prune reply image (SettleDeleteFails k im s present same) = ranks_falls w _ l (deletion_settles k s present) _ (blobs_in im w.blobs)
  prunes who prune reply image (EndingDelete k im e same) = changes k e.t e.deleting.out.there (λ (t : Ticket). record t { out = false }) (alike_ended e.t)
  prunes who prune reply image (FailingDelete k why im c same) = deletion_fails k c
  prunes who prune reply image other = l

  elects : Ranks w.safe w.pending (suc w.term) w.tickets
  elects = ranks_elect w.safe w.pending w.term w.tickets l (suc w.term) (λ k t there same. let b : t.term ≤ w.term = (q.tickets k t there).1 in absurd (omega (arith, b, same)))

  -- ---- reading

  reads : (k : ℕ) (read : Read) (reply : Reply) (image : Option Image) → ReadAllows f w k read reply image → Ranked (answered f w k (ReadStep read) reply image)
  reads k read reply image (ReadFound j name im stored by found) = kept_aside Ranked w _ (aside_by f w j (ReadBlob name) WasFetched im tt) l
  reads k read reply image (ReadMissing j name im stored by none) = kept_aside Ranked w _ (aside_by f w j (ReadBlob name) WasAbsent im tt) l
  reads k read reply image (RestoringShard j files bytes im q out done) = kept_aside Ranked w _ (aside_by f w j (RestoredShard files bytes) HasEnded im tt) l
  reads k read reply image (ReaderFailing j why im q out) = kept_aside Ranked w _ (aside_by f w j (ReadFails why) HasEnded im tt) l
  reads k read reply image other = l

  test_left_ranked : (name : BlobName) (was now : Option Bytes) → Ranked (test_left w name was now)
  test_left_ranked name None (Some bytes) = l
  test_left_ranked name was now = l

  verifies : (read : Read) (reply : Reply) (image : Option Image) → VerifyAllows f w read reply image → Ranked (answered f w 0 (ReadStep read) reply image)
  verifies read reply image (CommitTestFails name bytes im own leaves) = test_left_ranked name (fin.get w.blobs (f.names.text name)) (told_blob f im name)
  verifies read reply image other = l

  -- ---- each answer

  ranked_by : (who : ℕ) (step : Step) (reply : Reply) (image : Option Image) → Allows f size w who step reply image → Ranked (after f w (moment who step reply image))
  ranked_by who step reply image (allowed.Giving k o unit im is lowest g same) = gives o unit g
  ranked_by who step reply image (allowed.Drawing k n first im d same) = draws k n d.may.t d.may.out.there
  ranked_by who step reply image (allowed.Committing k name im c adds) = commits k c.t c.out.there name (told_blob f im name)
  ranked_by who step reply image (allowed.Finding k name im c found) = commits k c.t c.out.there name None
  ranked_by who step reply image (allowed.Replacing k im c named puts) = tries k c.t c.out.there
  ranked_by who step reply image (allowed.Fetching k name im g found) = fetches k g.t g.out.there name (told_blob f im name)
  ranked_by who step reply image (allowed.Listing k from page im g shape here) = changes k g.t g.out.there (λ (t : Ticket). listing t page) (alike_listing g.t page)
  ranked_by who step reply image (allowed.Raising k n im r same) = raises k r.may
  ranked_by who step reply image (allowed.Settling k im s same) = settles_step k s
  ranked_by who step reply image (allowed.Doing k r im d same) = does k r im d
  ranked_by who step reply image (allowed.Failing k why im c same) = fails_step k c
  ranked_by who step reply image (allowed.Finishing k im c same) = changes k c.t c.out.there (λ (t : Ticket). record t { out = false }) (alike_ended c.t)
  ranked_by who step reply image (allowed.Dropping k im c same) = drops_step k im c
  ranked_by who step reply image (allowed.Electing im room same) = elects
  ranked_by who step reply image (allowed.GoingInto names im acc same) = subst Ranked (sym (delete_leaves w names)) l
  ranked_by who step reply image (allowed.Reading k read rep im h same) = reads k read rep im h
  ranked_by who step reply image (allowed.Pruning k prune rep im h) = prunes k prune rep im h
  ranked_by who step reply image (allowed.Verifying read rep im h) = verifies read rep im h
  ranked_by who step reply image (allowed.Ruled command refusal im (allowed.Cleaning c d x recorded untaken there clean) same) = l
  ranked_by who step reply image (allowed.BeginFails k name im c same) = subst (λ (b : Bool). Ranked (record (if b then tried w k else w) { blobs = blobs_in im w.blobs })) (sym (not_latest name c.named.1)) l
  ranked_by who step reply image (allowed.BeginLatestFails k im c same) = tries k c.t c.out.there
  ranked_by who step reply image (allowed.ReplaceFails k im c named puts) = tries k c.t c.out.there
  ranked_by who step reply image (allowed.AskFails name indices time im acc same) = ranks_falls w _ l l _ (blobs_in im w.blobs)
  ranked_by who step reply image (allowed.AskCloneFails source name names time t im acc same) = ranks_falls w (clone_opened w name time t) l l _ (blobs_in im w.blobs)
  ranked_by who step reply image (allowed.AskDeleteFails names im acc same) = ranks_falls w (asked_delete w names) l (subst Ranked (sym (delete_leaves w names)) l) _ (blobs_in im w.blobs)
  ranked_by who step reply image (allowed.AskCleanupFails im acc same) = ranks_falls w (cleanup_opened w) l l _ (blobs_in im w.blobs)
  ranked_by who step reply image (allowed.RaiseFails k im r same) = ranks_falls w _ l (raises k r.may) _ (blobs_in im w.blobs)
  ranked_by who step reply image (allowed.SettleFails k im s same) = ranks_falls w _ l (settles_step k s) _ (blobs_in im w.blobs)
  ranked_by who step reply image (allowed.DropFails k im c same) = ranks_falls w _ l (drops_step k im c) _ (blobs_in im w.blobs)
  ranked_by who step reply image (allowed.ElectFails im room same) = ranks_falls w _ l elects _ (blobs_in im w.blobs)
  ranked_by who step reply image other = l

pub ranked_step : (f : Formats) (size : ℕ) (w : World) (m : Moment) → Tracked w → Ranked w → Allowed f size w m → Ranked (after f w m)
ranked_step f size w m q l a = elim a.answered [
  | inl alive ↦ ranked_by f size w q l m.entry.who m.entry.step m.entry.reply m.image alive.1
  | inr dead ↦ subst Ranked (sym (blocked_stays f w m dead)) l
]

pub ranked_history : (f : Formats) (size : ℕ) (log : List Moment) (w : World) → Tracked w → Ranked w → IsLegal f size w log → Ranked (world_from f w log)
ranked_history f size [] w q l legal = l
ranked_history f size (m ∷ log) w q l legal = ranked_history f size log (after f w m) (tracked_step f size w m q legal.0) (ranked_step f size w m q l legal.0) legal.1

pub ranked_opened : (blobs : Blobs) (cluster : ClusterRecord) (root : RootData) → cluster.ledger.safe ≤ cluster.ledger.pending → Ranked (opened blobs cluster root)
ranked_opened blobs cluster root ordered =
    record { ordered = ordered; raised = λ k n t e. absurd (nothing k t e); unsettled = λ k n t e. absurd (nothing k t e) }
