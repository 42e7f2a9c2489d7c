-- In each term an op has at most one ticket of a finalization, one of a drop, and one of a delete or cleanup.
use Rattle.std.proofs.Common.{◌≡◌, ◌≢◌, ◌⊎◌, ℕ, suc, ◌+◌, ◌<◌, ◌≤◌, List, [], ◌∷◌, map, Bool, true, false, Option, Some, None, refl, sym, ap, ◌∙◌, subst, inl, inr, ⊎_elim, arith, nat_cmp}
use Rattle.std.specs.Prelude.{if◌then◌else◌, ◌==◌}
use Rattle.std.proofs.lemmas.Bool.Decides.{eqb_tells}
use Rattle.std.specs.FinMap.{FinMap}
use Rattle.std.specs.FinMap as fin
use Rattle.std.proofs.lemmas.Option.{same_Some, none-some}
use Rattle.esr_model.specs.Names.{BlobName}
use Rattle.esr_model.specs.Values.{Bytes, ShardResult, IsOneEach, Formats}
use Rattle.esr_model.specs.Finalize.{finalized_root}
use Rattle.esr_model.specs.Delete.{kept_count}
use Rattle.esr_model.specs.Image.{Image}
use Rattle.esr_core.specs.World.{World, Op, Deletion, ShardWork, RestoreShard, Restoring, Work, Shard, Finalize, Deleting, Drop, Ticket, Swap, swap, swap_of, info_of, record_of}
use Rattle.esr_core.specs.Ready.{Goes, IsShard, IsMaster, SwapIsOut, ReadyFinalize, ReadyDrop, ReadyDelete, ReadyCleanup}
use Rattle.esr_core.specs.Steps.{IsOut, listing, noting, with_ticket, shard_ticket, final_ticket, plain_ticket}
use Rattle.esr_core.specs.Turns.{cleaning_ticket, fails}
use Rattle.esr_core.specs.Pruning.{planned}
use Rattle.esr_core.specs.Tracked.{Tracked}
use Rattle.esr_core.specs.Changes.{IsUnits, IsNewTicket, SameUnit, StepChange, NewDeletion, MergedDeletion, Settlement, DeletionFailure, OpDrop, Election, SwapFault, Maker, ClientStep, ReaderStep, UnitStep}
use Rattle.esr_core.specs.ReadTracked.{ReadTracked}
use Rattle.esr_core.specs.Entry.{Given, GivenShard, GivenClone, GivenFinalize, GivenDrop, GivenRestore, GivenDelete, GivenCleanup, Prune, Step, AskStep, TakeStep, DrawStep, BeginStep, CommitStep, LatestStep, FetchStep, ListStep, RaiseStep, SettleStep, DoneStep, FailedStep, FinishStep, DroppedStep, ElectStep, LookStep, ReadStep, PruneStep, Reply, Moment}
use Rattle.esr_core.specs.After.{shard_of, taken_shard, taken_restore_shard, taken_restore, taken_by, with_given, committing, fetching, told_blob, settled_by, settled_of, done_by, done_of, delete_settled_by, delete_settled, delete_failed_by, delete_failed, failed_by, failed_of, dropped_of, is_stale, has_text, is_latest, tried, raised, answered, after}
use Rattle.esr_core.specs.Restores.{restore_shard}
use Rattle.esr_core.specs.Allowed as allowed
use Rattle.esr_core.specs.Allowed.{Gives, PruneAllows, Allows, IsBlocked, Allowed}
use Rattle.esr_core.specs.History.{world_from, IsLegal}
use Rattle.esr_bounds.specs.Keys.{IsUntouched}
use Rattle.esr_bounds.specs.Most.{IsDelete}
use Rattle.esr_bounds.specs.Units.{IsFinalize, IsDropped, OneOf}
use Rattle.esr_bounds.specs.Laws.{MasterLaws}
use Rattle.esr_core.specs.Laws.NumberMaps.{nothing, was_in, left_in, gone_in, same_in}
use Rattle.esr_bounds.proofs.Works.{Works, answered_works}
use Rattle.esr_bounds.proofs.Given.{none_next, by_take, blocked_same}

-- ---- what becomes of a ticket by its own step

data Outcome (f : Formats) (w : World) (ops : FinMap nat_cmp Op) (deletes : FinMap nat_cmp Deletion) (t v : Ticket) : Type 0 where
  GoesOn : v.out ≡ t.out → v.settled ≡ t.settled → Outcome f w ops deletes t v
  -- it has settled: its op left, that of a cleanup aside
  Settles : v.out ≡ t.out → (s : Swap) → swap f t ≡ Some s → fin.get ops t.op ≡ None → (t.clean ≡ false → fin.get deletes t.op ≡ None) → Outcome f w ops deletes t v
  -- its op failed
  FailsOp : (IsDelete t.work → ⊥) → IsShard t.work ⊎ IsMaster t.work → ((op : Op) → fin.get ops t.op ≡ Some op → op.failed ≡ true) → Outcome f w ops deletes t v
  FailsDelete : IsDelete t.work → ((x : Deletion) → fin.get deletes t.op ≡ Some x → x.failed ≡ true) → Outcome f w ops deletes t v
  -- its op left
  Leaves : v.settled ≡ t.settled → fin.get ops t.op ≡ None → fin.get deletes t.op ≡ None → Outcome f w ops deletes t v
  -- it had settled before
  WasSettled : t.settled ≡ true → (IsDelete t.work → t.clean ≡ false) → Outcome f w ops deletes t v
  OfPast : t.term ≢ w.term → Outcome f w ops deletes t v
  OfShard : IsShard t.work → Outcome f w ops deletes t v

record OwnEnd (f : Formats) (w : World) (k : ℕ) (t : Ticket) (up : World) : Type 0 where
  v : Ticket
  at : fin.get up.tickets k ≡ Some v
  outcome : Outcome f w up.ops up.deletes t v

module _ (f : Formats) (w : World) where
  module _ (k : ℕ) (t : Ticket) (there : fin.get w.tickets k ≡ Some t) where
    same_ticket : (u : Ticket) → IsOut w k u → u ≡ t
    same_ticket u out = same_Some u t (sym out.there ∙ there)

    as_before : OwnEnd f w k t w
    as_before = record { v = t; at = there; outcome = GoesOn refl refl }

    anew : (g : Ticket → Ticket) → (g t).out ≡ t.out → (g t).settled ≡ t.settled → (o : Option Ticket) → o ≡ Some t → OwnEnd f w k t (with_given w k g o)
    anew g out settled None is = absurd (none-some t is)
    anew g out settled (Some u) is =
        subst (λ (x : Ticket). OwnEnd f w k t (with_given w k g (Some x))) (sym (same_Some u t is)) (record { v = g t; at = same_in w.tickets k (g t); outcome = GoesOn out settled })

    -- with other numbers
    besides : (up new : World) → new.tickets ≡ up.tickets → new.ops ≡ up.ops → new.deletes ≡ up.deletes → OwnEnd f w k t up → OwnEnd f w k t new
    besides up new tickets ops deletes h =
        record {
          v = h.v;
          at = ap (λ (m : FinMap nat_cmp Ticket). fin.get m k) tickets ∙ h.at;
          outcome = subst (λ (m : FinMap nat_cmp Op). Outcome f w m new.deletes t h.v) (sym ops) (subst (λ (m : FinMap nat_cmp Deletion). Outcome f w up.ops m t h.v) (sym deletes) h.outcome);
        }

    -- over, and nothing else
    over_as : (settled_or_past : (v : Ticket) → Outcome f w w.ops w.deletes t v) → OwnEnd f w k t (with_ticket w k (record t { out = false }))
    over_as why = record { v = record t { out = false }; at = same_in w.tickets k (record t { out = false }); outcome = why (record t { out = false }) }

    over_given : ((v : Ticket) → Outcome f w w.ops w.deletes t v) → OwnEnd f w k t (with_given w k (λ (x : Ticket). record x { out = false }) (fin.get w.tickets k))
    over_given why = subst (λ (o : Option Ticket). OwnEnd f w k t (with_given w k (λ (x : Ticket). record x { out = false }) o)) (sym there) (over_as why)

    tried_end : OwnEnd f w k t (tried w k)
    tried_end = anew (λ (x : Ticket). record x { tried_latest = true }) refl refl (fin.get w.tickets k) there

    either_end : (a b : World) (first : Bool) → OwnEnd f w k t a → OwnEnd f w k t b → OwnEnd f w k t (if first then a else b)
    either_end a b true p q = p
    either_end a b false p q = q

    fallen_end : (a b : World) (first : Bool) → OwnEnd f w k t a → OwnEnd f w k t b → OwnEnd f w k t (record (if first then a else b) { deposed = true })
    fallen_end a b true p q = besides a (record a { deposed = true }) refl refl refl p
    fallen_end a b false p q = besides b (record b { deposed = true }) refl refl refl q

    commit_end : (name : BlobName) (b : Option Bytes) → OwnEnd f w k t (with_given w k (committing name b) (fin.get w.tickets k))
    commit_end name None = anew (committing name None) refl refl (fin.get w.tickets k) there
    commit_end name (Some b) = anew (committing name (Some b)) refl refl (fin.get w.tickets k) there

    fetch_end : (name : BlobName) (b : Option Bytes) → OwnEnd f w k t (with_given w k (fetching name b) (fin.get w.tickets k))
    fetch_end name None = anew (fetching name None) refl refl (fin.get w.tickets k) there
    fetch_end name (Some b) = anew (fetching name (Some b)) refl refl (fin.get w.tickets k) there

    raise_end : OwnEnd f w k t (raised w k)
    raise_end =
        besides (with_given w k (λ (x : Ticket). record x { raised = Some w.pending }) (fin.get w.tickets k)) (raised w k) refl refl refl
        (anew (λ (x : Ticket). record x { raised = Some w.pending }) refl refl (fin.get w.tickets k) there)

    settle_end : (o : Option Swap) (n : Option ℕ) → swap f t ≡ o → OwnEnd f w k t (settled_by f w k t o n)
    settle_end (Some s) (Some n) is =
        record { v = record t { settled = true }; at = same_in w.tickets k (record t { settled = true }); outcome = Settles refl s is (gone_in w.ops t.op) (λ kept. gone_in w.deletes t.op) }
    settle_end o n is = as_before

    settled_end : OwnEnd f w k t (settled_of f w k (fin.get w.tickets k))
    settled_end = subst (λ (o : Option Ticket). OwnEnd f w k t (settled_of f w k o)) (sym there) (settle_end (swap f t) t.raised refl)

    left_gone : (b : Bool) → t.clean ≡ b → t.clean ≡ false → fin.get (if b then w.deletes else fin.remove w.deletes t.op) t.op ≡ None
    left_gone true is none = let clash : true ≡ false = sym is ∙ none in absurd cc
    left_gone false is none = gone_in w.deletes t.op

    delete_settle_end : (o : Option Swap) (n : Option ℕ) → swap f t ≡ o → OwnEnd f w k t (delete_settled_by f w k t o n)
    delete_settle_end (Some s) (Some n) is =
        record { v = record t { settled = true }; at = same_in w.tickets k (record t { settled = true }); outcome = Settles refl s is (gone_in w.ops t.op) (left_gone t.clean refl) }
    delete_settle_end o n is = as_before

    delete_settled_end : OwnEnd f w k t (delete_settled f w k (fin.get w.tickets k))
    delete_settled_end = subst (λ (o : Option Ticket). OwnEnd f w k t (delete_settled f w k o)) (sym there) (delete_settle_end (swap f t) t.raised refl)

    done_end : (r : ShardResult) → IsShard t.work → OwnEnd f w k t (done_of w k r (fin.get w.tickets k))
    done_end r shard = subst (λ (o : Option Ticket). OwnEnd f w k t (done_of w k r o)) (sym there) (by (fin.get w.ops t.op))
      where
        by : (o : Option Op) → OwnEnd f w k t (done_by w k r t o)
        by None = as_before
        by (Some op) = record { v = record t { out = false }; at = same_in w.tickets k (record t { out = false }); outcome = OfShard shard }

    -- one that is stale is of an older term, another of the present one
    by_term : (b : Bool) → (if t.term == w.term then false else true) ≡ b → (b ≡ true → t.term ≢ w.term) × (b ≡ false → t.term ≡ w.term)
    by_term b is = elim (eqb_tells t.term w.term) [
      | inl same ↦
          let e : false ≡ b = sym (ap (λ (c : Bool). if c then false else true) same.0) ∙ is in
          (λ on. let clash : false ≡ true = e ∙ on in absurd cc, λ off. same.1)
      | inr other ↦
          let e : true ≡ b = sym (ap (λ (c : Bool). if c then false else true) other.0) ∙ is in
          (λ on. other.1, λ off. let clash : true ≡ false = e ∙ off in absurd cc)
    ]

    stale_or_now : (work : Work) (b : Bool) → is_stale w t work ≡ b → (b ≡ true → t.term ≢ w.term) × (b ≡ false → IsShard work ⊎ (t.term ≡ w.term))
    stale_or_now (Shard index number) b is = (λ on. let clash : false ≡ true = is ∙ on in absurd cc, λ off. inl tt)
    stale_or_now (Finalize info results made) b is = let h = by_term b is in (h.0, λ off. inr (h.1 off))
    stale_or_now work b is = let h = by_term b is in (h.0, λ off. inr (h.1 off))

    failed_end : IsShard t.work ⊎ IsMaster t.work → (IsShard t.work ⊎ (t.term ≡ w.term) → (op : Op) → fin.get w.ops t.op ≡ Some op → IsDelete t.work → ⊥) → OwnEnd f w k t (failed_of w k (fin.get w.tickets k))
    failed_end unit no_delete = subst (λ (o : Option Ticket). OwnEnd f w k t (failed_of w k o)) (sym there) (by (is_stale w t t.work) refl)
      where
        one : (op : Option Op) → fin.get w.ops t.op ≡ op → IsShard t.work ⊎ (t.term ≡ w.term) → OwnEnd f w k t (failed_by w k t op)
        one None is now = as_before
        one (Some op) is now =
            record {
              v = record t { out = false };
              at = same_in w.tickets k (record t { out = false });
              outcome = FailsOp (no_delete now op is) unit (λ x e. ap (λ (y : Op). y.failed) (same_Some x _ (sym e ∙ same_in w.ops t.op (record op { shards = map (fails k) op.shards; failed = true }))));
            }

        by : (b : Bool) → is_stale w t t.work ≡ b → OwnEnd f w k t (if b then with_ticket w k (record t { out = false }) else failed_by w k t (fin.get w.ops t.op))
        by true stale = over_as (λ v. OfPast ((stale_or_now t.work true stale).0 refl))
        by false fresh = one (fin.get w.ops t.op) refl ((stale_or_now t.work false fresh).1 refl)

    delete_failed_end : IsDelete t.work → OwnEnd f w k t (delete_failed w k (fin.get w.tickets k))
    delete_failed_end delete = subst (λ (o : Option Ticket). OwnEnd f w k t (delete_failed w k o)) (sym there) (by (is_stale w t t.work) refl)
      where
        one : (x : Option Deletion) → OwnEnd f w k t (delete_failed_by w k t x)
        one None = as_before
        one (Some x) =
            record {
              v = record t { out = false };
              at = same_in w.tickets k (record t { out = false });
              outcome = FailsDelete delete (λ y e. ap (λ (z : Deletion). z.failed) (same_Some y _ (sym e ∙ same_in w.deletes t.op (record x { failed = true }))));
            }

        by : (b : Bool) → is_stale w t t.work ≡ b → OwnEnd f w k t (if b then with_ticket w k (record t { out = false }) else delete_failed_by w k t (fin.get w.deletes t.op))
        by true stale = over_as (λ v. OfPast ((stale_or_now t.work true stale).0 refl))
        by false fresh = one (fin.get w.deletes t.op)

    dropped_end : OwnEnd f w k t (dropped_of w k (fin.get w.tickets k))
    dropped_end = subst (λ (o : Option Ticket). OwnEnd f w k t (dropped_of w k o)) (sym there)
        (record { v = record t { out = false }; at = same_in w.tickets k (record t { out = false }); outcome = Leaves refl (gone_in w.ops t.op) (gone_in w.deletes t.op) })

  module _ (size : ℕ) (tracked : Tracked w) where
    pruning_end : (k : ℕ) (t : Ticket) (there : fin.get w.tickets k ≡ Some t) (prune : Prune) (reply : Reply) (image : Option Image) → PruneAllows f w k prune reply image → OwnEnd f w k t (answered f w k (PruneStep prune) reply image)
    pruning_end k t there prune reply image (allowed.FetchingShard j name im g found) = fetch_end k t there name (told_blob f im name)
    pruning_end k t there prune reply image (allowed.Planning j shards im p fits back same) =
        besides k t there (with_given w k (planned f shards w.next_id) (fin.get w.tickets k)) (record (with_given w k (planned f shards w.next_id) (fin.get w.tickets k)) { next_id = w.next_id + kept_count shards }) refl refl refl
        (anew k t there (planned f shards w.next_id) refl refl (fin.get w.tickets k) there)
    pruning_end k t there prune reply image (allowed.SettlingDelete j im s present same) = delete_settled_end k t there
    pruning_end k t there prune reply image (allowed.SettleDeleteFails j im s present same) =
        let up : World = delete_settled f w k (fin.get w.tickets k) in fallen_end k t there up w (has_text im (f.cluster.text (record_of up))) (delete_settled_end k t there) (as_before k t there)
    pruning_end k t there prune reply image (allowed.EndingDelete j im d same) =
        let mine : d.t ≡ t = same_ticket k t there d.t d.deleting.out in
        over_given k t there (λ v. WasSettled (ap (λ (x : Ticket). x.settled) (sym mine) ∙ d.settled) (λ delete. ap (λ (x : Ticket). x.clean) (sym mine) ∙ d.deletes))
    pruning_end k t there prune reply image (allowed.FailingDelete j why im d same) =
        delete_failed_end k t there (subst (λ (x : Ticket). IsDelete x.work) (same_ticket k t there d.t d.deleting.out) (subst IsDelete (sym d.deleting.work) tt))
    pruning_end k t there prune reply image other = as_before k t there

    own_end : (k : ℕ) (t : Ticket) (there : fin.get w.tickets k ≡ Some t) (step : Step) (reply : Reply) (image : Option Image) → IsUnits step → Allows f size w k step reply image → OwnEnd f w k t (answered f w k step reply image)
    own_end k t there (AskStep command) reply image unit a = absurd unit
    own_end k t there TakeStep reply image unit a = absurd unit
    own_end k t there ElectStep reply image unit a = absurd unit
    own_end k t there LookStep reply image unit a = absurd unit
    own_end k t there (ReadStep read) reply image unit a = absurd unit
    own_end k t there (PruneStep prune) reply image unit (allowed.Pruning j p rep im h) = pruning_end k t there prune reply image h
    own_end k t there (DrawStep n) reply image unit (allowed.Drawing j m first im d same) =
        besides k t there (with_given w k (λ (x : Ticket). record x { first = w.next_id; drawn = n }) (fin.get w.tickets k))
        (record (with_given w k (λ (x : Ticket). record x { first = w.next_id; drawn = n }) (fin.get w.tickets k)) { next_id = w.next_id + n }) refl refl refl
        (anew k t there (λ (x : Ticket). record x { first = w.next_id; drawn = n }) refl refl (fin.get w.tickets k) there)
    own_end k t there (BeginStep name) reply image unit (allowed.BeginFails j n im b same) = either_end k t there (tried w k) w (is_latest name) (tried_end k t there) (as_before k t there)
    own_end k t there (BeginStep name) reply image unit (allowed.BeginLatestFails j im p same) = tried_end k t there
    own_end k t there (CommitStep name) reply image unit (allowed.Committing j n im b adds) = commit_end k t there name (told_blob f image name)
    own_end k t there (CommitStep name) reply image unit (allowed.Finding j n im b found) = anew k t there (λ (x : Ticket). noting x name) refl refl (fin.get w.tickets k) there
    own_end k t there LatestStep reply image unit (allowed.Replacing j im p named put) = tried_end k t there
    own_end k t there LatestStep reply image unit (allowed.ReplaceFails j im p named puts) = tried_end k t there
    own_end k t there (FetchStep name) reply image unit (allowed.Fetching j n im g found) = fetch_end k t there name (told_blob f image name)
    own_end k t there (ListStep from) reply image unit (allowed.Listing j after page im g shape here) = anew k t there (λ (x : Ticket). listing x page) refl refl (fin.get w.tickets k) there
    own_end k t there RaiseStep reply image unit (allowed.Raising j n im r same) = raise_end k t there
    own_end k t there RaiseStep reply image unit (allowed.RaiseFails j im r same) = fallen_end k t there (raised w k) w (has_text image (f.cluster.text (record_of (raised w k)))) (raise_end k t there) (as_before k t there)
    own_end k t there SettleStep reply image unit (allowed.Settling j im s same) = settled_end k t there
    own_end k t there SettleStep reply image unit (allowed.SettleFails j im s same) =
        let up : World = settled_of f w k (fin.get w.tickets k) in fallen_end k t there up w (has_text image (f.cluster.text (record_of up))) (settled_end k t there) (as_before k t there)
    own_end k t there (DoneStep result) reply image unit (allowed.Doing j r im d same) = done_end k t there result (subst (λ (x : Ticket). IsShard x.work) (same_ticket k t there d.t d.out) (subst IsShard (sym d.is) tt))
    own_end k t there (FailedStep why) reply image unit (allowed.Failing j y im d same) =
        let mine : d.t ≡ t = same_ticket k t there d.t d.out in
        failed_end k t there (subst (λ (x : Ticket). IsShard x.work ⊎ IsMaster x.work) mine d.unit) (λ now op standing delete. no_delete mine now op standing t.work refl delete)
      where
        no_delete : d.t ≡ t → IsShard t.work ⊎ (t.term ≡ w.term) → (op : Op) → fin.get w.ops t.op ≡ Some op → (work : Work) → t.work ≡ work → IsDelete work → ⊥
        no_delete mine now op standing (Deleting uuids plan) is delete =
            let present : t.term ≡ w.term = ⊎_elim (λ (shard : IsShard t.work). absurd (subst IsShard is shard)) (λ (same : t.term ≡ w.term). same) now in
            let h = tracked.deleting k t uuids plan there (ap (λ (x : Ticket). x.out) (sym mine) ∙ d.out.out) (ap (λ (x : Ticket). x.settled) (sym mine) ∙ d.unsettled) present is in
            tracked.apart t.op op h.x standing h.there
        no_delete mine now op standing work is delete = delete
    own_end k t there FinishStep reply image unit (allowed.Finishing j im d same) =
        let mine : d.t ≡ t = same_ticket k t there d.t d.out in
        over_given k t there (λ v. ⊎_elim
        (λ done. WasSettled (ap (λ (x : Ticket). x.settled) (sym mine) ∙ done.0) (λ delete. absurd (no_delete mine done.1 t.work refl delete)))
        (λ stale. OfPast (λ now. stale.0 (ap (λ (x : Ticket). x.term) mine ∙ now)))
        d.done)
      where
        no_delete : d.t ≡ t → ((uuids : List ℕ) (plan : Option Swap) → d.t.work ≡ Deleting uuids plan → ⊥) → (work : Work) → t.work ≡ work → IsDelete work → ⊥
        no_delete mine none (Deleting uuids plan) is delete = none uuids plan (ap (λ (x : Ticket). x.work) mine ∙ is)
        no_delete mine none work is delete = delete
    own_end k t there DroppedStep reply image unit (allowed.Dropping j im d same) = dropped_end k t there
    own_end k t there DroppedStep reply image unit (allowed.DropFails j im d same) =
        let up : World = dropped_of w k (fin.get w.tickets k) in fallen_end k t there up w (has_text image (f.cluster.text (record_of up))) (dropped_end k t there) (as_before k t there)
    own_end k t there step reply image unit other = as_before k t there

-- ---- open deletes, and the term

-- a delete that is open was open before, unless it was asked just now
abbrev DeletesOn : World → FinMap nat_cmp Deletion → Type 0
DeletesOn w deletes = (d : ℕ) (v : Deletion) → fin.get deletes d ≡ Some v → (d ≡ w.next_op) ⊎ ((x : Deletion) × (fin.get w.deletes d ≡ Some x) × (v.failed ≡ false → x.failed ≡ false))

module _ (f : Formats) (w : World) where
  same_deletes : DeletesOn w w.deletes
  same_deletes d v e = inr (v, e, λ h. h)

  put_delete : (d : ℕ) (x y : Deletion) → fin.get w.deletes d ≡ Some x → (y.failed ≡ false → x.failed ≡ false) → DeletesOn w (fin.insert w.deletes d y)
  put_delete d x y there failed e v is = elim (was_in w.deletes d y e v is) [
    | inl here ↦ inr (x, ap (fin.get w.deletes) here.0 ∙ there, λ h. failed (ap (λ (z : Deletion). z.failed) here.1 ∙ h))
    | inr other ↦ inr (v, other.1, λ h. h)
  ]

  removed : (o : ℕ) (deletes : FinMap nat_cmp Deletion) → (deletes ≡ fin.remove w.deletes o) → DeletesOn w deletes
  removed o deletes is d v e = inr (v, (left_in w.deletes o d v (subst (λ (m : FinMap nat_cmp Deletion). fin.get m d ≡ Some v) is e)).1, λ h. h)

  deletes_on : (who : ℕ) (step : Step) (new : World) → StepChange f w who step new → DeletesOn w new.deletes
  deletes_on who step new (NewDeletion ask ops x aborts clean) = λ d v e. elim (was_in w.deletes w.next_op x d v e) [ inl here ↦ inl here.0 | inr other ↦ inr (v, other.1, λ h. h) ]
  deletes_on who step new (MergedDeletion ask ops d x y aborts there clean failed) = put_delete d x y there (λ h. sym failed ∙ h)
  deletes_on who step new (Settlement settle t s n names deletes there is raised left) = ⊎_elim
      (λ gone. removed t.op deletes gone)
      (λ kept. λ d v e. inr (v, subst (λ (m : FinMap nat_cmp Deletion). fin.get m d ≡ Some v) kept.1 e, λ h. h))
      left
  deletes_on who step new (DeletionFailure t x there standing) = put_delete t.op x (record x { failed = true }) standing (λ h. let clash : true ≡ false = h in absurd cc)
  deletes_on who step new (OpDrop drop t there) = removed t.op (fin.remove w.deletes t.op) refl
  deletes_on who step new (SwapFault swaps up change) = deletes_on who step up change
  deletes_on who step new other = same_deletes

  term_on : (who : ℕ) (step : Step) (new : World) → StepChange f w who step new → (new.term ≡ w.term) ⊎ (new.term ≡ suc w.term)
  term_on who step new (Election elect) = inr refl
  term_on who step new (SwapFault swaps up change) = term_on who step up change
  term_on who step new other = inl refl

-- ---- what holds of the tickets of the present term

-- while its op can go on it is out, so that its unit isn't ready again
pub record Holds (ops : FinMap nat_cmp Op) (deletes : FinMap nat_cmp Deletion) (t : Ticket) : Type 0 where
  pub final : IsFinalize t.work → (op : Op) → fin.get ops t.op ≡ Some op → Goes op → (t.out ≡ true) × (t.settled ≡ false)
  pub drop : IsDropped t.work → (t.settled ≡ false) × ((t.out ≡ true) ⊎ ((fin.get ops t.op ≡ None) × (fin.get deletes t.op ≡ None)))
  pub delete : IsDelete t.work → (x : Deletion) → fin.get deletes t.op ≡ Some x → x.failed ≡ false → (t.out ≡ true) × (t.clean ≡ false → t.settled ≡ false)

pub record MastersOnce (w : World) : Type 0 where
  pub numbered : (k : ℕ) (t : Ticket) → fin.get w.tickets k ≡ Some t → 1 ≤ k
  pub holds : (k : ℕ) (t : Ticket) → fin.get w.tickets k ≡ Some t → t.term ≡ w.term → Holds w.ops w.deletes t
  pub finals : OneOf IsFinalize w.tickets
  pub drops : OneOf IsDropped w.tickets
  pub deletes : OneOf IsDelete w.tickets

-- the kind of a unit stays
final_back : (t v : Ticket) → SameUnit t v → IsFinalize v.work → IsFinalize t.work
final_back t v same h = elim same.work [
  | inl kept ↦ subst IsFinalize kept h
  | inr plans ↦ absurd (subst IsFinalize plans.4 h)
]

drop_back : (t v : Ticket) → SameUnit t v → IsDropped v.work → IsDropped t.work
drop_back t v same h = elim same.work [
  | inl kept ↦ subst IsDropped kept h
  | inr plans ↦ absurd (subst IsDropped plans.4 h)
]

delete_back : (t v : Ticket) → SameUnit t v → IsDelete v.work → IsDelete t.work
delete_back t v same h = elim same.work [
  | inl kept ↦ subst IsDelete kept h
  | inr plans ↦ subst IsDelete (sym plans.3) tt
]

-- ---- a ticket that was there, after a step

module _ (f : Formats) (w : World) (step : Step) (new : World) (works : Works w step new) (deletes : DeletesOn w new.deletes)
    (t v : Ticket) (same : SameUnit t v) (begun : t.op < w.next_op) (h : Holds w.ops w.deletes t) (present : t.term ≡ w.term) where
  -- its op was open, and can have gone on
  old_op : (op : Op) → fin.get new.ops t.op ≡ Some op → Goes op → (was : Op) × (fin.get w.ops t.op ≡ Some was) × Goes was
  old_op op there goes = elim (works.ops t.op op there) [
    | inl asked ↦ let is : t.op ≡ w.next_op = asked.number in let below : t.op < w.next_op = begun in absurd (omega (arith, is, below))
    | inr was ↦ (was.op, was.there, record { unfailed = was.failed goes.unfailed; unaborted = was.aborted goes.unaborted })
  ]

  old_delete : (x : Deletion) → fin.get new.deletes t.op ≡ Some x → x.failed ≡ false → (was : Deletion) × (fin.get w.deletes t.op ≡ Some was) × (was.failed ≡ false)
  old_delete x there unfailed = elim (deletes t.op x there) [
    | inl asked ↦ let is : t.op ≡ w.next_op = asked in let below : t.op < w.next_op = begun in absurd (omega (arith, is, below))
    | inr was ↦ (was.0, was.1, was.2 unfailed)
  ]

  -- an op that left doesn't come back
  gone_op : fin.get w.ops t.op ≡ None → fin.get new.ops t.op ≡ None
  gone_op none = by (fin.get new.ops t.op) refl
    where
      by : (o : Option Op) → fin.get new.ops t.op ≡ o → fin.get new.ops t.op ≡ None
      by None is = is
      by (Some op) is = elim (works.ops t.op op is) [
        | inl asked ↦ let at : t.op ≡ w.next_op = asked.number in let below : t.op < w.next_op = begun in absurd (omega (arith, at, below))
        | inr was ↦ absurd (none-some was.op (sym none ∙ was.there))
      ]

  gone_delete : fin.get w.deletes t.op ≡ None → fin.get new.deletes t.op ≡ None
  gone_delete none = by (fin.get new.deletes t.op) refl
    where
      by : (o : Option Deletion) → fin.get new.deletes t.op ≡ o → fin.get new.deletes t.op ≡ None
      by None is = is
      by (Some x) is = elim (deletes t.op x is) [
        | inl asked ↦ let at : t.op ≡ w.next_op = asked in let below : t.op < w.next_op = begun in absurd (omega (arith, at, below))
        | inr was ↦ absurd (none-some was.0 (sym none ∙ was.1))
      ]

  -- of the op under the number that it has later on
  at_op : {X : Type 0} (m : FinMap nat_cmp X) (x : Option X) → fin.get m v.op ≡ x → fin.get m t.op ≡ x
  at_op m x e = ap (fin.get m) (sym same.op) ∙ e

  to_op : {X : Type 0} (m : FinMap nat_cmp X) (x : Option X) → fin.get m t.op ≡ x → fin.get m v.op ≡ x
  to_op m x e = ap (fin.get m) same.op ∙ e

  final_on : Outcome f w new.ops new.deletes t v → IsFinalize v.work → (op : Op) → fin.get new.ops v.op ≡ Some op → Goes op → (v.out ≡ true) × (v.settled ≡ false)
  final_on (GoesOn out settled) work op there goes =
      let was = old_op op (at_op new.ops (Some op) there) goes in
      let held = h.final (final_back t v same work) was.0 was.1 was.2 in
      (out ∙ held.0, settled ∙ held.1)
  final_on (Settles out s is gone left) work op there goes = absurd (none-some op (sym gone ∙ at_op new.ops (Some op) there))
  final_on (FailsOp no_delete unit failed) work op there goes = let clash : true ≡ false = sym (failed op (at_op new.ops (Some op) there)) ∙ goes.unfailed in absurd cc
  final_on (FailsDelete delete failed) work op there goes = absurd (clash t.work delete (final_back t v same work))
    where
      clash : (u : Work) → IsDelete u → IsFinalize u → ⊥
      clash (Finalize info results made) a b = a
      clash u a b = b
  final_on (Leaves settled gone left) work op there goes = absurd (none-some op (sym gone ∙ at_op new.ops (Some op) there))
  final_on (WasSettled settled clean) work op there goes =
      let was = old_op op (at_op new.ops (Some op) there) goes in
      let clash : true ≡ false = sym settled ∙ (h.final (final_back t v same work) was.0 was.1 was.2).1 in absurd cc
  final_on (OfPast past) work op there goes = absurd (past present)
  final_on (OfShard shard) work op there goes = absurd (clash t.work shard (final_back t v same work))
    where
      clash : (u : Work) → IsShard u → IsFinalize u → ⊥
      clash (Shard index number) a b = b
      clash (Finalize info results made) a b = a
      clash u a b = a

  drop_on : Outcome f w new.ops new.deletes t v → IsDropped v.work → (v.settled ≡ false) × ((v.out ≡ true) ⊎ ((fin.get new.ops v.op ≡ None) × (fin.get new.deletes v.op ≡ None)))
  drop_on (GoesOn out settled) work =
      let held = h.drop (drop_back t v same work) in (
        settled ∙ held.0,
        ⊎_elim (λ (on : t.out ≡ true). inl (out ∙ on)) (λ (gone : (fin.get w.ops t.op ≡ None) × (fin.get w.deletes t.op ≡ None)). inr (to_op new.ops None (gone_op gone.0), to_op new.deletes None (gone_delete gone.1))) held.1,
      )
  drop_on (Settles out s is gone left) work = absurd (clash t.work (drop_back t v same work) is)
    where
      clash : (u : Work) → IsDropped u → swap_of f u t.root ≡ Some s → ⊥
      clash Drop a e = none-some s e
      clash (Finalize info results made) a e = a
      clash u a e = a
  drop_on (FailsOp no_delete unit failed) work = absurd (clash t.work (drop_back t v same work) unit)
    where
      clash : (u : Work) → IsDropped u → IsShard u ⊎ IsMaster u → ⊥
      clash Drop a e = ⊎_elim (λ (b : IsShard Drop). b) (λ (b : IsMaster Drop). b) e
      clash (Finalize info results made) a e = a
      clash u a e = a
  drop_on (FailsDelete delete failed) work = absurd (clash t.work delete (drop_back t v same work))
    where
      clash : (u : Work) → IsDelete u → IsDropped u → ⊥
      clash (Deleting uuids plan) a b = b
      clash Drop a b = a
      clash u a b = b
  drop_on (Leaves settled gone left) work = (settled ∙ (h.drop (drop_back t v same work)).0, inr (to_op new.ops None gone, to_op new.deletes None left))
  drop_on (WasSettled settled clean) work = let clash : true ≡ false = sym settled ∙ (h.drop (drop_back t v same work)).0 in absurd cc
  drop_on (OfPast past) work = absurd (past present)
  drop_on (OfShard shard) work = absurd (clash t.work shard (drop_back t v same work))
    where
      clash : (u : Work) → IsShard u → IsDropped u → ⊥
      clash (Finalize info results made) a b = b
      clash Drop a b = a
      clash u a b = b

  delete_on : Outcome f w new.ops new.deletes t v → IsDelete v.work → (x : Deletion) → fin.get new.deletes v.op ≡ Some x → x.failed ≡ false → (v.out ≡ true) × (v.clean ≡ false → v.settled ≡ false)
  delete_on (GoesOn out settled) work x there unfailed =
      let was = old_delete x (at_op new.deletes (Some x) there) unfailed in
      let held = h.delete (delete_back t v same work) was.0 was.1 was.2 in
      (out ∙ held.0, λ clean. settled ∙ held.1 (sym same.clean ∙ clean))
  delete_on (Settles out s is gone left) work x there unfailed =
      let was = old_delete x (at_op new.deletes (Some x) there) unfailed in
      let held = h.delete (delete_back t v same work) was.0 was.1 was.2 in
      (out ∙ held.0, λ clean. absurd (none-some x (sym (left (sym same.clean ∙ clean)) ∙ at_op new.deletes (Some x) there)))
  delete_on (FailsOp no_delete unit failed) work x there unfailed = absurd (no_delete (delete_back t v same work))
  delete_on (FailsDelete delete failed) work x there unfailed = let clash : true ≡ false = sym (failed x (at_op new.deletes (Some x) there)) ∙ unfailed in absurd cc
  delete_on (Leaves settled gone left) work x there unfailed = absurd (none-some x (sym left ∙ at_op new.deletes (Some x) there))
  delete_on (WasSettled settled clean) work x there unfailed =
      let was = old_delete x (at_op new.deletes (Some x) there) unfailed in
      let own : IsDelete t.work = delete_back t v same work in
      let clash : true ≡ false = sym settled ∙ (h.delete own was.0 was.1 was.2).1 (clean own) in absurd cc
  delete_on (OfPast past) work x there unfailed = absurd (past present)
  delete_on (OfShard shard) work x there unfailed = absurd (clash t.work shard (delete_back t v same work))
    where
      clash : (u : Work) → IsShard u → IsDelete u → ⊥
      clash (Deleting uuids plan) a b = a
      clash u a b = b

  holds_on : Outcome f w new.ops new.deletes t v → Holds new.ops new.deletes v
  holds_on o = record { final = final_on o; drop = drop_on o; delete = delete_on o }

-- ---- a ticket that is given

-- its unit was ready; a delete or cleanup has no plan yet
abbrev pub ReadyOf : World → ℕ → Work → Type 0
ReadyOf w o (Shard index number) = Unit {0}
ReadyOf w o (Finalize info results made) = (op : Op) × (rs : List ShardResult) × ReadyFinalize w o op rs × (info.indices ≡ op.indices) × (rs ≡ results) × IsOneEach (finalized_root w.root info results).indices
ReadyOf w o (Deleting uuids plan) = (x : Deletion) × (ReadyDelete w o x ⊎ ReadyCleanup w o x) × (plan ≡ None)
ReadyOf w o Drop = ReadyDrop w o

module _ (f : Formats) (size : ℕ) (w : World) (tracked : Tracked w) (v : Ticket) where
  put_now : (u : Ticket) → fin.get (fin.insert w.tickets w.next_ticket u) w.next_ticket ≡ Some v → u ≡ v
  put_now u now = same_Some u v (sym (same_in w.tickets w.next_ticket u) ∙ now)

  ready_put : (u : Ticket) → fin.get (fin.insert w.tickets w.next_ticket u) w.next_ticket ≡ Some v → ReadyOf w u.op u.work → ReadyOf w v.op v.work
  ready_put u now ready = subst (λ (x : Ticket). ReadyOf w x.op x.work) (put_now u now) ready

  shard_ready : (o : ℕ) (op : Op) (base : Option ℕ) (s : Option ShardWork) → fin.get (taken_shard w o op base s).tickets w.next_ticket ≡ Some v → ReadyOf w v.op v.work
  shard_ready o op base None now = absurd (none_next f w tracked v now)
  shard_ready o op base (Some s) now = ready_put (shard_ticket w o op s base) now tt

  unit_ready : (o : ℕ) (unit : Given) → Gives f w o unit → (op : Option Op) → fin.get w.ops o ≡ op → fin.get (taken_by f w o unit op).tickets w.next_ticket ≡ Some v → ReadyOf w v.op v.work
  unit_ready o (GivenShard i n base) g (Some op) is now = shard_ready o op base (shard_of op.shards i n) now
  unit_ready o (GivenClone i n source base) g (Some op) is now = shard_ready o op base (shard_of op.shards i n) now
  unit_ready o (GivenRestore i n uuid) g op is now = absurd (by (fin.get w.restores o) now)
    where
      one : (r : Restoring) (s : Option RestoreShard) → fin.get (taken_restore_shard w o r s).tickets w.next_ticket ≡ Some v → ⊥
      one r None now = none_next f w tracked v now
      one r (Some s) now = none_next f w tracked v now

      by : (r : Option Restoring) → fin.get (taken_restore w o i n r).tickets w.next_ticket ≡ Some v → ⊥
      by None now = none_next f w tracked v now
      by (Some r) now = one r (restore_shard r.shards i n) now
  unit_ready o (GivenFinalize info results) g (Some op) is now =
      ready_put (final_ticket f w o op results) now (op, results, subst (λ (x : Op). ReadyFinalize w o x results) (same_Some g.op op (sym g.ready.op_there ∙ is)) g.ready, refl, refl, one_each)
    where
      one_each : IsOneEach (finalized_root w.root (info_of op results) results).indices
      one_each =
          subst (λ (x : Op). IsOneEach (finalized_root w.root (info_of x results) results).indices) (same_Some g.op op (sym g.ready.op_there ∙ is))
          (f.one_each (f.root.text (finalized_root w.root (info_of g.op results) results)) (finalized_root w.root (info_of g.op results) results) g.root_back)
  unit_ready o GivenDrop g op is now = ready_put (plain_ticket w o Drop) now g
  unit_ready o (GivenDelete uuids) g op is now = ready_put (plain_ticket w o (Deleting uuids None)) now (g.0, inl g.1, refl)
  unit_ready o GivenCleanup g op is now = ready_put (cleaning_ticket w o) now (g.0, inr g.1, refl)
  unit_ready o unit g op is now = absurd (none_next f w tracked v now)

  pub take_ready : (who : ℕ) (step : Step) (reply : Reply) (image : Option Image) → step ≡ TakeStep → Allows f size w who step reply image → fin.get (answered f w who step reply image).tickets w.next_ticket ≡ Some v
      → ReadyOf w v.op v.work
  take_ready who TakeStep reply image is (allowed.GivingNothing im none same) now = absurd (none_next f w tracked v now)
  take_ready who TakeStep reply image is (allowed.Giving k o unit im number lowest g same) now = unit_ready o unit g (fin.get w.ops o) refl now
  take_ready who step reply image is a now = absurd cc

-- where the unit is ready no ticket of the term has it
module _ (w : World) (tracked : Tracked w) (j : ℕ) (t : Ticket) (there : fin.get w.tickets j ≡ Some t) (present : t.term ≡ w.term) (h : Holds w.ops w.deletes t) where
  swap_out : t.out ≡ true → t.settled ≡ false → IsMaster t.work → SwapIsOut w.tickets w.term j
  swap_out out unsettled master = record { t = t; there = there; out = out; unsettled = unsettled; present = present; swaps = master }

  no_final : IsFinalize t.work → (op : Op) (rs : List ShardResult) → ReadyFinalize w t.op op rs → ⊥
  no_final work op rs ready =
      let held = h.final work op ready.op_there ready.goes in
      ready.no_swap j (swap_out held.0 held.1 (master t.work work))
    where
      master : (u : Work) → IsFinalize u → IsMaster u
      master (Finalize info results made) a = tt
      master (Deleting uuids plan) a = absurd a
      master u a = a

  no_drop : IsDropped t.work → ReadyDrop w t.op → ⊥
  no_drop work ready = ⊎_elim
      (λ (out : t.out ≡ true). ready.idle j (record { t = t; there = there; out = out; op_is = refl; counts = inr present }))
      (λ (gone : (fin.get w.ops t.op ≡ None) × (fin.get w.deletes t.op ≡ None)). ⊎_elim
      (λ stopped. none-some stopped.0 (sym gone.0 ∙ stopped.1))
      (λ stopped. none-some stopped.0 (sym gone.1 ∙ stopped.1))
      ready.stopped)
      (h.drop work).1

  no_delete : (work : Work) → t.work ≡ work → IsDelete work → (x : Deletion) → ReadyDelete w t.op x ⊎ ReadyCleanup w t.op x → ⊥
  no_delete (Deleting uuids plan) is own x (inl ready) =
      let held = h.delete (subst IsDelete (sym is) tt) x ready.there ready.unfailed in
      let clean : t.clean ≡ false = sym (tracked.deletions.modes j t uuids plan there is x ready.there) ∙ ready.deletes in
      ready.no_swap j (swap_out held.0 (held.1 clean) (subst IsMaster (sym is) tt))
  no_delete (Deleting uuids plan) is own x (inr ready) = ready.no_ticket j t there (h.delete (subst IsDelete (sym is) tt) x ready.there ready.unfailed).0
  no_delete work is own x ready = own

-- ---- a step

module _ (f : Formats) (size : ℕ) (laws : MasterLaws f size) (w : World) (m : Moment) (tracked : Tracked w) (reads : ReadTracked w) (a : Allowed f size w m) (once : MastersOnce w) where
  abbrev up : World
  up = answered f w m.entry.who m.entry.step m.entry.reply m.image

  changes : StepChange f w m.entry.who m.entry.step up
  changes = laws.change w m.entry.who m.entry.step m.entry.reply m.image

  blocked_is : IsBlocked w m → up ≡ w
  blocked_is b = blocked_same f size laws.change laws.frame w m b

  -- what became of a ticket that was there
  outcome_of : (k : ℕ) (t v : Ticket) → fin.get w.tickets k ≡ Some t → fin.get up.tickets k ≡ Some v → Outcome f w up.ops up.deletes t v
  outcome_of k t v there now = elim (eqb_tells k m.entry.who) [
    | inl mine ↦ own mine.1
    | inr other ↦ as_it_was (sym ((laws.frame w m).others k other.1 not_next) ∙ now)
  ]
    where
      not_next : k ≢ w.next_ticket
      not_next is = none_next f w tracked t (ap (fin.get w.tickets) (sym is) ∙ there)

      as_it_was : fin.get w.tickets k ≡ Some v → Outcome f w up.ops up.deletes t v
      as_it_was same = let is : v ≡ t = same_Some v t (sym same ∙ there) in GoesOn (ap (λ (x : Ticket). x.out) is) (ap (λ (x : Ticket). x.settled) is)

      blocked : IsBlocked w m → Outcome f w up.ops up.deletes t v
      blocked b = as_it_was (subst (λ (x : World). fin.get x.tickets k ≡ Some v) (blocked_is b) now)

      by : k ≡ m.entry.who → Allows f size w m.entry.who m.entry.step m.entry.reply m.image → Maker w m.entry.who m.entry.step → Outcome f w up.ops up.deletes t v
      by mine h (ClientStep nobody steps) = let some : 1 ≤ k = once.numbered k t there in let is : k ≡ m.entry.who = mine in let no : m.entry.who ≡ 0 = nobody in absurd (omega (arith, some, is, no))
      by mine h (ReaderStep q reading steps) = absurd (reads.apart.tickets m.entry.who q t reading.there (ap (fin.get w.tickets) (sym mine) ∙ there))
      by mine h (UnitStep u out steps) =
          let end = own_end f w size tracked m.entry.who t (ap (fin.get w.tickets) (sym mine) ∙ there) m.entry.step m.entry.reply m.image steps h in
          subst (Outcome f w up.ops up.deletes t) (same_Some end.v v (sym end.at ∙ ap (fin.get up.tickets) (sym mine) ∙ now)) end.outcome

      own : k ≡ m.entry.who → Outcome f w up.ops up.deletes t v
      own mine = elim a.answered [
        | inl alive ↦ elim (laws.maker w m a) [ inl maker ↦ by mine alive.1 maker | inr b ↦ blocked b ]
        | inr b ↦ blocked b
      ]

  -- the unit of one that was given was ready
  pub ready_now : (v : Ticket) → fin.get up.tickets w.next_ticket ≡ Some v → ReadyOf w v.op v.work
  ready_now v now = elim a.answered [
    | inl alive ↦ take_ready f size w tracked v m.entry.who m.entry.step m.entry.reply m.image (by_take f w tracked m.entry.who m.entry.step up changes v now) alive.1 now
    | inr b ↦ absurd (none_next f w tracked v (subst (λ (x : World). fin.get x.tickets w.next_ticket ≡ Some v) (blocked_is b) now))
  ]

  -- a ticket of the term that is the present one afterwards is of the one before
  of_term : (t : Ticket) (k : ℕ) → fin.get w.tickets k ≡ Some t → t.term ≡ up.term → t.term ≡ w.term
  of_term t k there present = ⊎_elim
      (λ (same : up.term ≡ w.term). present ∙ same)
      (λ (more : up.term ≡ suc w.term). let below : t.term ≤ w.term = (tracked.tickets k t there).1 in let at : t.term ≡ up.term = present in let is : up.term ≡ suc w.term = more in absurd (omega (arith, below, at, is)))
      (term_on f w m.entry.who m.entry.step up changes)

  new_holds : (v : Ticket) → IsNewTicket w v → Holds up.ops up.deletes v
  new_holds v new = record { final = λ work op there goes. (new.out, new.settled); drop = λ work. (new.settled, inl new.out); delete = λ work x there unfailed. (new.out, λ clean. new.settled) }

  holds_now : (k : ℕ) (v : Ticket) → fin.get up.tickets k ≡ Some v → v.term ≡ up.term → Holds up.ops up.deletes v
  holds_now k v now present = elim ((laws.frame w m).come k v now) [
    | inl old ↦
        let was : old.0.term ≡ w.term = of_term old.0 k old.1 (sym old.2.term ∙ present) in
        holds_on f w m.entry.step up (answered_works f w m.entry.who m.entry.step m.entry.reply m.image) (deletes_on f w m.entry.who m.entry.step up changes) old.0 v old.2 (tracked.begun k old.0 old.1) (once.holds k old.0 old.1 was) was
        (outcome_of k old.0 v old.1 now)
    | inr new ↦ new_holds v new.1
  ]

  one_on : (P : Work → Type 0) → ((t v : Ticket) → SameUnit t v → P v.work → P t.work)
      → ((j : ℕ) (t v : Ticket) → fin.get w.tickets j ≡ Some t → fin.get up.tickets w.next_ticket ≡ Some v → P t.work → P v.work → t.op ≡ v.op → t.term ≡ w.term → ⊥) → OneOf P w.tickets → OneOf P up.tickets
  one_on P back apart one j k t u at_j at_k is also op term = elim ((laws.frame w m).come j t at_j) [
    | inl x ↦ elim ((laws.frame w m).come k u at_k) [
      | inl y ↦ one j k x.0 y.0 x.1 y.1 (back x.0 t x.2 is) (back y.0 u y.2 also) (sym x.2.op ∙ op ∙ y.2.op) (sym x.2.term ∙ term ∙ y.2.term)
      | inr y ↦ absurd (apart j x.0 u x.1 (subst (λ (n : ℕ). fin.get up.tickets n ≡ Some u) y.0 at_k) (back x.0 t x.2 is) also (sym x.2.op ∙ op) (sym x.2.term ∙ term ∙ y.1.term))
    ]
    | inr x ↦ elim ((laws.frame w m).come k u at_k) [
      | inl y ↦ absurd (apart k y.0 t y.1 (subst (λ (n : ℕ). fin.get up.tickets n ≡ Some t) x.0 at_j) (back y.0 u y.2 also) is (sym y.2.op ∙ sym op) (sym y.2.term ∙ sym term ∙ x.1.term))
      | inr y ↦ x.0 ∙ sym y.0
    ]
  ]

  final_apart : (j : ℕ) (t v : Ticket) → fin.get w.tickets j ≡ Some t → fin.get up.tickets w.next_ticket ≡ Some v → IsFinalize t.work → IsFinalize v.work → t.op ≡ v.op → t.term ≡ w.term → ⊥
  final_apart j t v there now is also op term = by v.work also (subst (λ (o : ℕ). ReadyOf w o v.work) (sym op) (ready_now v now))
    where
      by : (work : Work) → IsFinalize work → ReadyOf w t.op work → ⊥
      by (Finalize info results made) own ready = no_final w tracked j t there term (once.holds j t there term) is ready.0 ready.1 ready.2
      by work own ready = own

  drop_apart : (j : ℕ) (t v : Ticket) → fin.get w.tickets j ≡ Some t → fin.get up.tickets w.next_ticket ≡ Some v → IsDropped t.work → IsDropped v.work → t.op ≡ v.op → t.term ≡ w.term → ⊥
  drop_apart j t v there now is also op term = by v.work also (subst (λ (o : ℕ). ReadyOf w o v.work) (sym op) (ready_now v now))
    where
      by : (work : Work) → IsDropped work → ReadyOf w t.op work → ⊥
      by Drop own ready = no_drop w tracked j t there term (once.holds j t there term) is ready
      by (Deleting uuids plan) own ready = own
      by work own ready = own

  delete_apart : (j : ℕ) (t v : Ticket) → fin.get w.tickets j ≡ Some t → fin.get up.tickets w.next_ticket ≡ Some v → IsDelete t.work → IsDelete v.work → t.op ≡ v.op → t.term ≡ w.term → ⊥
  delete_apart j t v there now is also op term = by v.work also (subst (λ (o : ℕ). ReadyOf w o v.work) (sym op) (ready_now v now))
    where
      by : (work : Work) → IsDelete work → ReadyOf w t.op work → ⊥
      by (Deleting uuids plan) own ready = no_delete w tracked j t there term (once.holds j t there term) t.work refl is ready.0 ready.1
      by work own ready = own

  numbered_now : (k : ℕ) (v : Ticket) → fin.get up.tickets k ≡ Some v → 1 ≤ k
  numbered_now k v now = elim ((laws.frame w m).come k v now) [
    | inl old ↦ once.numbered k old.0 old.1
    | inr new ↦ let first : 1 ≤ w.next_ticket = tracked.first_ticket in let is : k ≡ w.next_ticket = new.0 in omega (arith, first, is)
  ]

  pub masters_on : MastersOnce (after f w m)
  masters_on =
      record {
        numbered = numbered_now;
        holds = holds_now;
        finals = one_on IsFinalize final_back final_apart once.finals;
        drops = one_on IsDropped drop_back drop_apart once.drops;
        deletes = one_on IsDelete delete_back delete_apart once.deletes;
      }

pub masters_log : (f : Formats) (size : ℕ) (laws : MasterLaws f size) (w : World) (log : List Moment) → Tracked w → ReadTracked w → MastersOnce w → IsLegal f size w log → MastersOnce (world_from f w log)
masters_log f size laws w [] tracked reads once legal = once
masters_log f size laws w (m ∷ log) tracked reads once legal = masters_log f size laws (after f w m) log (laws.tracks w m tracked legal.0) (laws.reads w m tracked reads legal.0) (masters_on f size laws w m tracked reads legal.0 once) legal.1

-- where nothing was done so far
pub untouched_masters : (w : World) → IsUntouched w → MastersOnce w
untouched_masters w h =
    record {
      numbered = λ k t there. absurd (nothing w.tickets k t h.tickets there);
      holds = λ k t there. absurd (nothing w.tickets k t h.tickets there);
      finals = λ j k t u at_j. absurd (nothing w.tickets j t h.tickets at_j);
      drops = λ j k t u at_j. absurd (nothing w.tickets j t h.tickets at_j);
      deletes = λ j k t u at_j. absurd (nothing w.tickets j t h.tickets at_j);
    }
