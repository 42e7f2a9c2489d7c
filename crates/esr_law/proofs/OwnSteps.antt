-- What the steps of a cleanup's ticket make of what it listed, raised and settled.
use Rattle.std.proofs.Common.{◌≡◌, ◌⊎◌, ℕ, suc, List, Bool, true, false, Option, Some, None, refl, sym, ap, ◌∙◌, subst, inl, inr}
use Rattle.std.specs.Prelude.{if◌then◌else◌}
use Rattle.std.specs.FinMap as fin
use Rattle.std.proofs.lemmas.Option.{same_Some, none-some}
use Rattle.esr_core.specs.Laws.NumberMaps.{same_in}
use Rattle.esr_model.specs.Names.{BlobName}
use Rattle.esr_model.specs.Values.{Bytes, SnapInfo, ShardResult, Formats}
use Rattle.esr_model.specs.Shelf.{Command}
use Rattle.esr_model.specs.Cleanup.{BlobSize, last_text, IsPageOf}
use Rattle.esr_model.specs.Image.{Image}
use Rattle.esr_core.specs.World.{World, Op, Deletion, Finalize, Deleting, Ticket, Swap, swap, record_of}
use Rattle.esr_core.specs.Ready.{IsShard}
use Rattle.esr_core.specs.Steps.{IsOut, listing, with_ticket}
use Rattle.esr_core.specs.Pruning.{planned}
use Rattle.esr_core.specs.Changes.{IsUnits}
use Rattle.esr_core.specs.Entry.{Prune, Step, AskStep, TakeStep, DrawStep, BeginStep, CommitStep, LatestStep, FetchStep, ListStep, RaiseStep, SettleStep, DoneStep, FailedStep, FinishStep, DroppedStep, ElectStep, LookStep, ReadStep, PruneStep, Reply, WasListed}
use Rattle.esr_core.specs.After.{with_given, committing, fetching, told_blob, delete_settled_by, delete_settled, delete_failed_by, delete_failed, failed_by, failed_of, dropped_of, is_stale, has_text, is_latest, tried, raised, answered}
use Rattle.esr_core.specs.Allowed as allowed
use Rattle.esr_core.specs.Allowed.{Told, SettlesDeletion, PruneAllows, Allows}

-- a cleanup's ticket
pub record IsCleaning (t : Ticket) : Type 0 where
  pub clean : t.clean ≡ true
  pub uuids : List ℕ
  pub plan : Option Swap
  pub work : t.work ≡ Deleting uuids plan

-- the ticket later on: it listed nothing more, and raised nothing again
pub record KeptOn (w : World) (k : ℕ) (t : Ticket) (up : World) : Type 0 where
  pub v : Ticket
  pub at : fin.get up.tickets k ≡ Some v
  pub listed : v.listed ≡ t.listed
  pub whole : v.whole ≡ t.whole
  pub raised : (v.raised ≡ t.raised) ⊎ (t.raised ≡ None)
  pub settled : v.settled ≡ t.settled
  pub safe : up.safe ≡ w.safe

-- the ticket in a world that a failed record swap left
pub record FallenOn (w : World) (k : ℕ) (t : Ticket) (up : World) : Type 0 where
  pub v : Ticket
  pub at : fin.get up.tickets k ≡ Some v
  pub listed : v.listed ≡ t.listed
  pub whole : v.whole ≡ t.whole
  pub settled : (v.settled ≡ t.settled) ⊎ (t.whole ≡ true)

-- what its step makes of it
pub data Own (f : Formats) (w : World) (k : ℕ) (t : Ticket) (step : Step) (reply : Reply) (image : Option Image) (up : World) : Type 0 where
  OnKeep : KeptOn w k t up → Own f w k t step reply image up
  OnPage : (from : Option Bytes) (page : List BlobSize) → step ≡ ListStep from → reply ≡ WasListed page → from ≡ last_text t.listed → Told image (λ blobs. IsPageOf w.blobs from page × (blobs ≡ w.blobs))
      → fin.get up.tickets k ≡ Some (listing t page) → up.safe ≡ w.safe → Own f w k t step reply image up
  OnSettle : (s : SettlesDeletion f w k) → s.t ≡ t → fin.get up.tickets k ≡ Some (record t { settled = true }) → up.safe ≡ suc s.n → Own f w k t step reply image up
  OnFall : up.deposed ≡ true → FallenOn w k t up → Own f w k t step reply image up

module _ (f : Formats) (size : ℕ) (w : World) where
  module _ (k : ℕ) (t : Ticket) (there : fin.get w.tickets k ≡ Some t) (c : IsCleaning t) where
    -- it is this ticket
    same_out : (u : Ticket) → IsOut w k u → u ≡ t
    same_out u out = same_Some u t (sym out.there ∙ there)

    no_shard : (u : Ticket) → IsOut w k u → IsShard u.work → ⊥
    no_shard u out h = subst IsShard (ap (λ (x : Ticket). x.work) (same_out u out) ∙ c.work) h

    no_final : (u : Ticket) → IsOut w k u → (info : SnapInfo) (results : List ShardResult) (made : Command) → u.work ≡ Finalize info results made → ⊥
    no_final u out info results made is = clash (sym is ∙ ap (λ (x : Ticket). x.work) (same_out u out) ∙ c.work)
      where
        clash : Finalize info results made ≡ Deleting c.uuids c.plan → ⊥
        clash e = cc

    -- the world as it was
    kept : KeptOn w k t w
    kept = record { v = t; at = there; listed = refl; whole = refl; raised = inl refl; settled = refl; safe = refl }

    -- the ticket given anew
    kept_by : (g : Ticket → Ticket) → (g t).listed ≡ t.listed → (g t).whole ≡ t.whole → ((g t).raised ≡ t.raised) ⊎ (t.raised ≡ None) → (g t).settled ≡ t.settled → (o : Option Ticket) → o ≡ Some t
        → KeptOn w k t (with_given w k g o)
    kept_by g listed whole raise settled None is = absurd (none-some t is)
    kept_by g listed whole raise settled (Some u) is =
        subst (λ (x : Ticket). KeptOn w k t (with_given w k g (Some x))) (sym (same_Some u t is)) (record { v = g t; at = same_in w.tickets k (g t); listed = listed; whole = whole; raised = raise; settled = settled; safe = refl })

    kept_with : (up : World) → KeptOn w k t up → (next pending : ℕ) → KeptOn w k t (record up { next_id = next; pending = pending })
    kept_with up h next pending = record { v = h.v; at = h.at; listed = h.listed; whole = h.whole; raised = h.raised; settled = h.settled; safe = h.safe }

    tried_kept : KeptOn w k t (tried w k)
    tried_kept = kept_by (λ (x : Ticket). record x { tried_latest = true }) refl refl (inl refl) refl (fin.get w.tickets k) there

    either_kept : (a b : World) (first : Bool) → KeptOn w k t a → KeptOn w k t b → KeptOn w k t (if first then a else b)
    either_kept a b true p q = p
    either_kept a b false p q = q

    -- the ticket over
    over : KeptOn w k t (with_ticket w k (record t { out = false }))
    over = record { v = record t { out = false }; at = same_in w.tickets k (record t { out = false }); listed = refl; whole = refl; raised = inl refl; settled = refl; safe = refl }

    put_kept : (name : BlobName) (b : Option Bytes) → KeptOn w k t (with_given w k (committing name b) (fin.get w.tickets k))
    put_kept name None = kept_by (committing name None) refl refl (inl refl) refl (fin.get w.tickets k) there
    put_kept name (Some b) = kept_by (committing name (Some b)) refl refl (inl refl) refl (fin.get w.tickets k) there

    read_kept : (name : BlobName) (b : Option Bytes) → KeptOn w k t (with_given w k (fetching name b) (fin.get w.tickets k))
    read_kept name None = kept_by (fetching name None) refl refl (inl refl) refl (fin.get w.tickets k) there
    read_kept name (Some b) = kept_by (fetching name (Some b)) refl refl (inl refl) refl (fin.get w.tickets k) there

    paged : (page : List BlobSize) (o : Option Ticket) → o ≡ Some t → (fin.get (with_given w k (λ (x : Ticket). listing x page) o).tickets k ≡ Some (listing t page)) × ((with_given w k (λ (x : Ticket). listing x page) o).safe ≡ w.safe)
    paged page None is = absurd (none-some t is)
    paged page (Some u) is = (same_in w.tickets k (listing u page) ∙ ap (λ (x : Ticket). Some (listing x page)) (same_Some u t is), refl)

    -- the settle
    settled_by : (o : Option Swap) (p : Option ℕ) (s : Swap) (n : ℕ) → o ≡ Some s → p ≡ Some n
        → (fin.get (delete_settled_by f w k t o p).tickets k ≡ Some (record t { settled = true })) × ((delete_settled_by f w k t o p).safe ≡ suc n)
    settled_by None p s n is at = absurd (none-some s is)
    settled_by (Some x) None s n is at = absurd (none-some n at)
    settled_by (Some x) (Some m) s n is at = (same_in w.tickets k (record t { settled = true }), ap suc (same_Some m n at))

    settled_up : (s : SettlesDeletion f w k) (o : Option Ticket) → o ≡ Some t → (fin.get (delete_settled f w k o).tickets k ≡ Some (record t { settled = true })) × ((delete_settled f w k o).safe ≡ suc s.n)
    settled_up s None is = absurd (none-some t is)
    settled_up s (Some u) is =
        subst (λ (x : Ticket). (fin.get (delete_settled f w k (Some x)).tickets k ≡ Some (record t { settled = true })) × ((delete_settled f w k (Some x)).safe ≡ suc s.n)) (sym (same_Some u t is))
        (settled_by (swap f t) t.raised s.s s.n (subst (λ (x : Ticket). swap f x ≡ Some s.s) mine s.may.is) (subst (λ (x : Ticket). x.raised ≡ Some s.n) mine s.may.raised))
      where
        mine : s.t ≡ t
        mine = same_out s.t s.may.out

    -- the failure of a delete or cleanup, and of another unit
    delete_over : (o : Option Ticket) → o ≡ Some t → KeptOn w k t (delete_failed w k o)
    delete_over None is = absurd (none-some t is)
    delete_over (Some u) is = subst (λ (x : Ticket). KeptOn w k t (delete_failed w k (Some x))) (sym (same_Some u t is))
        (either_kept (with_ticket w k (record t { out = false })) (delete_failed_by w k t (fin.get w.deletes t.op)) (is_stale w t t.work) over (by_op (fin.get w.deletes t.op)))
      where
        by_op : (x : Option Deletion) → KeptOn w k t (delete_failed_by w k t x)
        by_op None = kept
        by_op (Some x) = record { v = record t { out = false }; at = same_in w.tickets k (record t { out = false }); listed = refl; whole = refl; raised = inl refl; settled = refl; safe = refl }

    failure_over : (o : Option Ticket) → o ≡ Some t → KeptOn w k t (failed_of w k o)
    failure_over None is = absurd (none-some t is)
    failure_over (Some u) is =
        subst (λ (x : Ticket). KeptOn w k t (failed_of w k (Some x))) (sym (same_Some u t is)) (either_kept (with_ticket w k (record t { out = false })) (failed_by w k t (fin.get w.ops t.op)) (is_stale w t t.work) over (by_op (fin.get w.ops t.op)))
      where
        by_op : (x : Option Op) → KeptOn w k t (failed_by w k t x)
        by_op None = kept
        by_op (Some x) = record { v = record t { out = false }; at = same_in w.tickets k (record t { out = false }); listed = refl; whole = refl; raised = inl refl; settled = refl; safe = refl }

    drop_over : (o : Option Ticket) → o ≡ Some t → KeptOn w k t (dropped_of w k o)
    drop_over None is = absurd (none-some t is)
    drop_over (Some u) is =
        subst (λ (x : Ticket). KeptOn w k t (dropped_of w k (Some x))) (sym (same_Some u t is))
        (record { v = record t { out = false }; at = same_in w.tickets k (record t { out = false }); listed = refl; whole = refl; raised = inl refl; settled = refl; safe = refl })

    raise_kept : (u : Ticket) → IsOut w k u → u.raised ≡ None → KeptOn w k t (raised w k)
    raise_kept u out once =
        kept_with _ (kept_by (λ (x : Ticket). record x { raised = Some w.pending }) refl refl (inr (ap (λ (x : Ticket). x.raised) (sym (same_out u out)) ∙ once)) refl (fin.get w.tickets k) there) _ _

    -- a failed record swap leaves one of two worlds
    fallen_kept : (up : World) → KeptOn w k t up → FallenOn w k t up
    fallen_kept up h = record { v = h.v; at = h.at; listed = h.listed; whole = h.whole; settled = inl h.settled }

    either_fallen : (a b : World) (first : Bool) → FallenOn w k t a → FallenOn w k t b → FallenOn w k t (record (if first then a else b) { deposed = true })
    either_fallen a b true p q = record { v = p.v; at = p.at; listed = p.listed; whole = p.whole; settled = p.settled }
    either_fallen a b false p q = record { v = q.v; at = q.at; listed = q.listed; whole = q.whole; settled = q.settled }

    fallen_settled : (s : SettlesDeletion f w k) → FallenOn w k t (delete_settled f w k (fin.get w.tickets k))
    fallen_settled s =
        record {
          v = record t { settled = true };
          at = (settled_up s (fin.get w.tickets k) there).0;
          listed = refl;
          whole = refl;
          settled = inr (ap (λ (x : Ticket). x.whole) (sym mine) ∙ s.listed (ap (λ (x : Ticket). x.clean) mine ∙ c.clean));
        }
      where
        mine : s.t ≡ t
        mine = same_out s.t s.may.out

  pruning_step : (k : ℕ) (t : Ticket) (there : fin.get w.tickets k ≡ Some t) (c : IsCleaning t) (prune : Prune) (reply : Reply) (image : Option Image) → PruneAllows f w k prune reply image
      → Own f w k t (PruneStep prune) reply image (answered f w k (PruneStep prune) reply image)
  pruning_step k t there c prune reply image (allowed.FetchingShard j name im g found) = OnKeep (read_kept k t there c name (told_blob f im name))
  pruning_step k t there c prune reply image (allowed.Planning j shards im p fits back same) =
      OnKeep (kept_with k t there c _ (kept_by k t there c (planned f shards w.next_id) refl refl (inl refl) refl (fin.get w.tickets k) there) _ _)
  pruning_step k t there c prune reply image (allowed.SettlingDelete j im s present same) =
      let h = settled_up k t there c s (fin.get w.tickets k) there in OnSettle s (same_out k t there c s.t s.may.out) h.0 h.1
  pruning_step k t there c prune reply image (allowed.SettleDeleteFails j im s present same) =
      let up : World = delete_settled f w k (fin.get w.tickets k) in
      OnFall refl (either_fallen k t there c up w (has_text im (f.cluster.text (record_of up))) (fallen_settled k t there c s) (fallen_kept k t there c w (kept k t there c)))
  pruning_step k t there c prune reply image (allowed.EndingDelete j im d same) = OnKeep (kept_by k t there c (λ (x : Ticket). record x { out = false }) refl refl (inl refl) refl (fin.get w.tickets k) there)
  pruning_step k t there c prune reply image (allowed.FailingDelete j why im d same) = OnKeep (delete_over k t there c (fin.get w.tickets k) there)
  pruning_step k t there c prune reply image other = OnKeep (kept k t there c)

  pub own_step : (k : ℕ) (t : Ticket) (there : fin.get w.tickets k ≡ Some t) (c : IsCleaning t) (step : Step) (reply : Reply) (image : Option Image) → IsUnits step → Allows f size w k step reply image
      → Own f w k t step reply image (answered f w k step reply image)
  own_step k t there c (AskStep command) reply image unit a = absurd unit
  own_step k t there c TakeStep reply image unit a = absurd unit
  own_step k t there c ElectStep reply image unit a = absurd unit
  own_step k t there c LookStep reply image unit a = absurd unit
  own_step k t there c (ReadStep read) reply image unit a = absurd unit
  own_step k t there c (PruneStep prune) reply image unit (allowed.Pruning j p rep im h) = pruning_step k t there c p rep im h
  own_step k t there c (DrawStep n) reply image unit (allowed.Drawing j m first im d same) = absurd (no_shard k t there c d.may.t d.may.out d.may.shard)
  own_step k t there c (BeginStep name) reply image unit (allowed.BeginFails j n im b same) = OnKeep (either_kept k t there c (tried w k) w (is_latest n) (tried_kept k t there c) (kept k t there c))
  own_step k t there c (BeginStep name) reply image unit (allowed.BeginLatestFails j im p same) = OnKeep (tried_kept k t there c)
  own_step k t there c (CommitStep name) reply image unit (allowed.Committing j n im b adds) = OnKeep (put_kept k t there c n (told_blob f im n))
  own_step k t there c (CommitStep name) reply image unit (allowed.Finding j n im b found) = absurd (no_final k t there c b.t b.out b.info b.results b.made b.work)
  own_step k t there c LatestStep reply image unit (allowed.Replacing j im p named put) = OnKeep (tried_kept k t there c)
  own_step k t there c LatestStep reply image unit (allowed.ReplaceFails j im p named puts) = OnKeep (tried_kept k t there c)
  own_step k t there c (FetchStep name) reply image unit (allowed.Fetching j n im g found) = OnKeep (read_kept k t there c n (told_blob f im n))
  own_step k t there c (ListStep from) reply image unit (allowed.Listing j after page im g shape here) =
      let h = paged k t there c page (fin.get w.tickets k) there in OnPage after page refl refl (g.from_is ∙ ap (λ (x : Ticket). last_text x.listed) (same_out k t there c g.t g.out)) here h.0 h.1
  own_step k t there c RaiseStep reply image unit (allowed.Raising j n im r same) = OnKeep (raise_kept k t there c r.may.t r.may.out r.may.once)
  own_step k t there c RaiseStep reply image unit (allowed.RaiseFails j im r same) =
      OnFall refl
      (either_fallen k t there c (raised w k) w (has_text im (f.cluster.text (record_of (raised w k)))) (fallen_kept k t there c (raised w k) (raise_kept k t there c r.may.t r.may.out r.may.once)) (fallen_kept k t there c w (kept k t there c)))
  own_step k t there c SettleStep reply image unit (allowed.Settling j im s same) = absurd (no_final k t there c s.t s.may.out s.info s.results s.made s.work)
  own_step k t there c SettleStep reply image unit (allowed.SettleFails j im s same) = absurd (no_final k t there c s.t s.may.out s.info s.results s.made s.work)
  own_step k t there c (DoneStep result) reply image unit (allowed.Doing j r im d same) = absurd (no_shard k t there c d.t d.out (subst IsShard (sym d.is) tt))
  own_step k t there c (FailedStep why) reply image unit (allowed.Failing j y im d same) = OnKeep (failure_over k t there c (fin.get w.tickets k) there)
  own_step k t there c FinishStep reply image unit (allowed.Finishing j im d same) = OnKeep (kept_by k t there c (λ (x : Ticket). record x { out = false }) refl refl (inl refl) refl (fin.get w.tickets k) there)
  own_step k t there c DroppedStep reply image unit (allowed.Dropping j im d same) = OnKeep (drop_over k t there c (fin.get w.tickets k) there)
  own_step k t there c DroppedStep reply image unit (allowed.DropFails j im d same) =
      let up : World = dropped_of w k (fin.get w.tickets k) in
      OnFall refl (either_fallen k t there c up w (has_text im (f.cluster.text (record_of up))) (fallen_kept k t there c up (drop_over k t there c (fin.get w.tickets k) there)) (fallen_kept k t there c w (kept k t there c)))
  own_step k t there c step reply image unit other = OnKeep (kept k t there c)
