-- The steps of the ticket of a delete or cleanup are allowed where the ticket can make them.
use Rattle.std.proofs.Common.{◌≡◌, ◌≢◌, ℕ, suc, ◌+◌, ◌<◌, ◌≤◌, Bool, true, false, List, [], map, Option, Some, None, refl, sym, ap, ◌∙◌, subst, inl, inr}
use Rattle.std.specs.Prelude.{filter, if◌then◌else◌}
use Rattle.std.specs.FinMap as fin
use Rattle.esr_model.specs.Names.{BlobName, Latest, ShardIndex}
use Rattle.esr_model.specs.Values.{RootData, ReadsBack, Formats}
use Rattle.esr_model.specs.Kept.{first_id}
use Rattle.esr_model.specs.Image.{Image}
use Rattle.esr_model.specs.Delete.{PrunedShard, kept_count, deleted_root}
use Rattle.esr_core.specs.World.{World, Ticket, Deletion, Work, Deleting, Swap, swap, record_ops, ledger_of}
use Rattle.esr_core.specs.Pruning.{planned_work, planned}
use Rattle.esr_core.specs.Steps.{with_ticket}
use Rattle.esr_core.specs.Tracked.{Tracked}
use Rattle.esr_core.specs.Entry.{Why, PruneStep, FetchShard, PlanShards, SettlePruned, RemoveDoomed, EndDelete, DeleteFails, DrawnFrom, WasFetched, WasAbsent, WasSettled, WasRemoved, HasEnded, Refused, DepotFault, IdsSpent, StaleTerm, Moment}
use Rattle.esr_core.specs.After.{with_given, change, is_stale, delete_settled, delete_failed_by, delete_failed}
use Rattle.esr_core.specs.Allowed.{Allows, IsDeleting, FetchesShard, MayPlan, SettlesDeletion, RemovesDoomed, EndsDelete, FailsDeletion, FetchingShard, ShardMissing, FetchShardFails, Planning, PlanSpent, SettlingDelete, SettleDeleteStale, RemovingDoomed, RemoveDoomedFails, EndingDelete, FailingDelete, Pruning}
use Rattle.esr_root.specs.Root.{Root}
use Rattle.esr_root.specs.Snaps.{lists}
use Rattle.esr_record.specs.Record.{Record}
use Rattle.esr_meta.specs.Info.{Info}
use Rattle.esr_formats.specs.Roots.{root_of, root_kind}
use Rattle.esr_formats.specs.Clusters.{cluster_of, op_of}
use Rattle.esr_ops.specs.Plan.{Plan, Seat, UnitKind, kind_of, seat_of, seat_out, IsPlanOf}
use Rattle.esr_desk.specs.Start.{Start, formats_of, world_of, ticket_of}
use Rattle.esr_desk.specs.Delete.Conditions.{CanFetchShard, CanPlan, CanSettleDelete, CanRemove, CanEndDelete, CanFailDelete}
use Rattle.esr_repo.specs.Repo.{HasInfos}
use Rattle.esr_repo.specs.Tickets.{AreOfOps}
use Rattle.esr_repo.specs.May.{CanTell, IsNamed, MayNote, MayRefuse, MaySwap, MayFetch, MayRemove}
use Rattle.esr_repo.specs.Grown.{out_is}
use Rattle.esr_repo.specs.DeleteWorld.{delete_is}
use Rattle.esr_repo.specs.InfosAfter.{InfosAfter}
use Rattle.esr_repo.specs.Stepping.{told_if, root_kind_is}
use Rattle.esr_repo.specs.WithOps.{cluster_from}
use Rattle.esr_steps.proofs.Stepping.{next_given, same_seats}
use Rattle.esr_steps.proofs.Written.{told_found}

uuids_same : (us uuids : List ℕ) (p plan : Option Swap) → Deleting us p ≡ Deleting uuids plan → us ≡ uuids
uuids_same us uuids p plan e = cc

is_deleting : (s : Start) (log : List Moment) (k : ℕ) (uuids : List ℕ) (plan : Option Swap) → Tracked (world_of s log) → AreOfOps (world_of s log) → (ticket_of s log k).out ≡ true → (ticket_of s log k).work ≡ Deleting uuids plan
    → IsDeleting (world_of s log) k (ticket_of s log k) uuids plan
is_deleting s log k uuids plan tracked of_ops out work =
    let is = out_is s log k out in
    record {
      out = is;
      work = work;
      bare = λ cleans. let bare = of_ops.bare k (ticket_of s log k) is.there cleans in uuids_same uuids [] plan bare.0 (sym work ∙ bare.1);
      mode = tracked.deletions.modes k (ticket_of s log k) uuids plan is.there work;
    }

-- ---- fetch

fetches_it : (s : Start) (log : List Moment) (k : ℕ) (name : BlobName) → Tracked (world_of s log) → AreOfOps (world_of s log) → CanFetchShard (ticket_of s log k) name → IsNamed s name → FetchesShard (formats_of s) (world_of s log) k name
fetches_it s log k name tracked of_ops can named =
    record {
      t = ticket_of s log k;
      uuids = can.uuids;
      deleting = is_deleting s log k can.uuids None tracked of_ops can.out can.work;
      unsettled = can.unsettled;
      stored = (named, λ e. differ (sym can.name_is ∙ e));
      index = can.index;
      number = can.number;
      generation = can.base;
      to_read = can.to_read;
      name_is = can.name_is;
    }
  where
    differ : ShardIndex can.index can.number can.base ≡ Latest → ⊥
    differ q = cc

pub may_fetch_shard : (s : Start) (old log : List Moment) (k : ℕ) (name : BlobName) → log ≡ old → Tracked (world_of s log) → AreOfOps (world_of s log) → CanFetchShard (ticket_of s old k) name
    → MayFetch s log k (PruneStep (FetchShard name)) name
may_fetch_shard s old log k name e tracked of_ops before =
    let can : CanFetchShard (ticket_of s log k) name = subst (λ (l : List Moment). CanFetchShard (ticket_of s l k) name) (sym e) before in
    record {
      is = refl;
      fetches = λ named image tells found. Pruning k (FetchShard name) WasFetched image (FetchingShard k name image (fetches_it s log k name tracked of_ops can named) (told_found s log name image found));
      misses = λ named image tells found. Pruning k (FetchShard name) WasAbsent image (ShardMissing k name image (fetches_it s log k name tracked of_ops can named) found);
      fails = λ named image tells same. Pruning k (FetchShard name) (Refused DepotFault) image (FetchShardFails k name image (fetches_it s log k name tracked of_ops can named) same);
    }

-- ---- plan

may_plan : (s : Start) (log : List Moment) (k : ℕ) (uuids : List ℕ) (shards : List PrunedShard) (image : Option Image) → Tracked (world_of s log) → AreOfOps (world_of s log) → CanPlan s (ticket_of s log k) uuids shards → CanTell s image
    → MayPlan (formats_of s) (world_of s log) k shards image
may_plan s log k uuids shards image tracked of_ops can tells =
    record {
      t = ticket_of s log k;
      uuids = uuids;
      deleting = is_deleting s log k uuids None tracked of_ops can.out can.work;
      unsettled = can.unsettled;
      unraised = can.unraised;
      unnoted = can.unnoted;
      one_each = can.one_each;
      of_root = can.of_root;
      are_read = told_if s image _ tells can.are_read;
      exact = told_if s image _ tells can.exact;
      writable = told_if s image _ tells can.writable;
    }

-- the list of ops doesn't read a plan
same_seat : (f : Formats) (shards : List PrunedShard) (first : ℕ) (t : Ticket) → seat_of (planned f shards first t) ≡ seat_of t
same_seat f shards first t = ap (λ (kind : UnitKind). record { kind = kind; clean = t.clean; op = t.op; term = t.term; raised = t.raised; settled = t.settled }) (same_kind t.work)
  where
    same_kind : (work : Work) → kind_of (planned_work f t shards first work) ≡ kind_of work
    same_kind (Deleting uuids plan) = refl
    same_kind work = refl

planned_plan : (f : Formats) (w : World) (k : ℕ) (shards : List PrunedShard) (next : ℕ) (p : Plan) → IsPlanOf w p → IsPlanOf (record (change w k (planned f shards w.next_id)) { next_id = next }) p
planned_plan f w k shards next p h = go (fin.get w.tickets k) refl
  where
    put : (t : Ticket) → fin.get w.tickets k ≡ Some t → (q : ℕ) → fin.get p.seats q ≡ seat_out (fin.get (fin.insert w.tickets k (planned f shards w.next_id t)) q)
    put t there q = h.seats q ∙ same_seats w.tickets k t (planned f shards w.next_id t) there (ap (λ (x : Seat). if t.out then Some x else None) (same_seat f shards w.next_id t)) q

    go : (o : Option Ticket) → fin.get w.tickets k ≡ o → IsPlanOf (record (with_given w k (planned f shards w.next_id) o) { next_id = next }) p
    go None there = record { ops = h.ops; deletes = h.deletes; completed = h.completed; seats = h.seats; next_op = h.next_op; next_ticket = h.next_ticket; restores = h.restores; restore_count = h.restore_count; readers = h.readers }
    go (Some t) there = record { ops = h.ops; deletes = h.deletes; completed = h.completed; seats = put t there; next_op = h.next_op; next_ticket = h.next_ticket; restores = h.restores; restore_count = h.restore_count; readers = h.readers }

pub may_plan_delete : (s : Start) (log : List Moment) (k : ℕ) (uuids : List ℕ) (shards : List PrunedShard) (first next : ℕ) → Tracked (world_of s log) → AreOfOps (world_of s log) → CanPlan s (ticket_of s log k) uuids shards
    → ReadsBack root_kind (deleted_root (ticket_of s log k).root uuids shards first) → first ≡ (world_of s log).next_id → next ≡ (world_of s log).next_id + kept_count shards → next < first_id (suc (world_of s log).term)
    → MayNote s log k (PruneStep (PlanShards shards)) (DrawnFrom first) None next
unfolding may_plan
may_plan_delete s log k uuids shards first next tracked of_ops can back first_is next_is below =
    let root : ReadsBack (formats_of s).root (deleted_root (ticket_of s log k).root uuids shards (world_of s log).next_id) =
    subst (λ kind. ReadsBack kind (deleted_root (ticket_of s log k).root uuids shards (world_of s log).next_id)) (sym (root_kind_is s))
    (subst (λ (n : ℕ). ReadsBack root_kind (deleted_root (ticket_of s log k).root uuids shards n)) first_is back) in
    record {
      plain = refl;
      allows = λ image tells same. subst (λ (n : ℕ). Allows (formats_of s) s.part_size (world_of s log) k (PruneStep (PlanShards shards)) (DrawnFrom n) image) (sym first_is)
          (Pruning k (PlanShards shards) (DrawnFrom (world_of s log).next_id) image
          (Planning k shards image (may_plan s log k uuids shards image tracked of_ops can tells) (subst (λ (n : ℕ). n < first_id (suc (world_of s log).term)) next_is below) root same));
      plan_is = λ image old h. planned_plan (formats_of s) (world_of s log) k shards ((world_of s log).next_id + kept_count shards) old h;
      next_is = λ image. next_is;
    }

pub may_spend_plan : (s : Start) (log : List Moment) (k : ℕ) (uuids : List ℕ) (shards : List PrunedShard) (first : ℕ) → Tracked (world_of s log) → AreOfOps (world_of s log) → CanPlan s (ticket_of s log k) uuids shards
    → first ≡ (world_of s log).next_id
    → first_id (suc (world_of s log).term) ≤ (world_of s log).next_id + kept_count shards → MayRefuse s log k (PruneStep (PlanShards shards)) (IdsSpent first)
may_spend_plan s log k uuids shards first tracked of_ops can first_is spent = record {
  plain = refl;
  allows = λ image tells same. subst (λ (n : ℕ). Allows (formats_of s) s.part_size (world_of s log) k (PruneStep (PlanShards shards)) (Refused (IdsSpent n)) image) (sym first_is)
      (Pruning k (PlanShards shards) (Refused (IdsSpent (world_of s log).next_id)) image (PlanSpent k shards image (may_plan s log k uuids shards image tracked of_ops can tells) spent same));
}

-- ---- settle

settles_it : (s : Start) (log : List Moment) (k : ℕ) (root : RootData) → Tracked (world_of s log) → AreOfOps (world_of s log) → CanSettleDelete s (ticket_of s log k) root → SettlesDeletion (formats_of s) (world_of s log) k
settles_it s log k root tracked of_ops can =
    let put = can.settle.put in
    record {
      t = ticket_of s log k;
      s = can.settle.change;
      n = can.settle.n;
      uuids = can.uuids;
      may = record { out = out_is s log k put.out; is = can.settle.is; unsettled = put.unsettled; raised = put.raised; written = put.written; ready = can.settle.ready; tried = can.settle.tried };
      deleting = is_deleting s log k can.uuids (Some can.settle.change) tracked of_ops put.out can.work;
      commands = can.commands;
      listed = can.listed;
    }

pub may_refuse_delete : (s : Start) (old log : List Moment) (k : ℕ) (root : RootData) (seat : Seat) (now : ℕ) → log ≡ old → Tracked (world_of s log) → AreOfOps (world_of s log) → CanSettleDelete s (ticket_of s old k) root
    → seat ≡ seat_of (ticket_of s log k)
    → now ≡ (world_of s log).term → seat.term ≢ now → MayRefuse s log k (PruneStep SettlePruned) (StaleTerm seat.term now)
unfolding settles_it
may_refuse_delete s old log k root seat now e tracked of_ops before seat_is now_is stale =
    let can : CanSettleDelete s (ticket_of s log k) root = subst (λ (l : List Moment). CanSettleDelete s (ticket_of s l k) root) (sym e) before in
    let own_is : seat.term ≡ (ticket_of s log k).term = ap (λ (x : Seat). x.term) seat_is in
    subst (MayRefuse s log k (PruneStep SettlePruned)) (ap (λ (n : ℕ). StaleTerm n (world_of s log).term) (sym own_is) ∙ ap (StaleTerm seat.term) (sym now_is))
    (record {
      plain = refl;
      allows = λ image tells same.
          Pruning k SettlePruned (Refused (StaleTerm (ticket_of s log k).term (world_of s log).term)) image (SettleDeleteStale k image (settles_it s log k root tracked of_ops can) (λ q. stale (own_is ∙ q ∙ sym now_is)) same);
    })

pub may_swap_delete : (s : Start) (log : List Moment) (k : ℕ) (root : Root) (infos left : List Info) (cluster : Record) (plan p : Plan) (next : ℕ) → AreOfOps (world_of s log) → InfosAfter s log → Tracked (world_of s log)
    → CanSettleDelete s (ticket_of s log k) (root_of root) → (ticket_of s log k).term ≡ (world_of s log).term → HasInfos s (world_of s log) infos → left ≡ filter (λ (i : Info). lists root.snapshots i.uuid) infos
    → IsPlanOf (world_of s log) plan
    → ((f : Formats) (w : World) (t : Ticket) (c : Swap) (n : ℕ) → IsPlanOf w plan → fin.get w.tickets k ≡ Some t → swap f t ≡ Some c → t.raised ≡ Some n → IsPlanOf (delete_settled f w k (Some t)) p)
    → ((n : ℕ) → (ticket_of s log k).raised ≡ Some n → (cluster_of cluster).ledger ≡ record { safe = suc n; pending = (world_of s log).pending; term = (world_of s log).term }) → map op_of cluster.ops ≡ record_ops p.ops p.deletes
    → next ≡ (world_of s log).next_id → MaySwap s log k (PruneStep SettlePruned) WasSettled cluster (Some root) (Some left) None (Some p) next
unfolding settles_it
may_swap_delete s log k root infos left cluster plan p next of_ops served tracked can present has left_is plan_is goes ledger ops next_is =
    let settle = can.settle in
    let there = (out_is s log k settle.put.out).there in
    let is = delete_is (formats_of s) (world_of s log) k (ticket_of s log k) settle.change settle.n there settle.is settle.put.raised in
    let new : IsPlanOf (delete_settled (formats_of s) (world_of s log) k (fin.get (world_of s log).tickets k)) p =
    subst (λ (o : Option Ticket). IsPlanOf (delete_settled (formats_of s) (world_of s log) k o) p) (sym there) (goes (formats_of s) (world_of s log) (ticket_of s log k) settle.change settle.n plan_is there settle.is settle.put.raised) in
    record {
      swaps = refl;
      answers = refl;
      allows = λ image tells same. Pruning k SettlePruned WasSettled image (SettlingDelete k image (settles_it s log k (root_of root) tracked of_ops can) present same);
      cluster_is = cluster_from _ cluster p new (ledger settle.n settle.put.raised ∙ ap ledger_of (sym is)) ops;
      root_is = λ old h. settle.root_is ∙ ap (λ (w : World). w.root) (sym is);
      infos_are = served.left k root infos left can present has left_is;
      plan_is = λ old h. new;
      next_is = next_is ∙ ap (λ (w : World). w.next_id) (sym is);
    }

-- ---- remove

removes_it : (s : Start) (log : List Moment) (k : ℕ) (names : List BlobName) (image : Option Image) → Tracked (world_of s log) → AreOfOps (world_of s log) → CanRemove s (ticket_of s log k) names → CanTell s image
    → RemovesDoomed (formats_of s) (world_of s log) k names image
removes_it s log k names image tracked of_ops can tells =
    record {
      t = ticket_of s log k;
      uuids = can.uuids;
      s = can.plan;
      deleting = is_deleting s log k can.uuids (Some can.plan) tracked of_ops can.out can.work;
      settled = can.settled;
      few = can.few;
      doomed = told_if s image _ tells can.doomed;
    }

pub may_remove_doomed : (s : Start) (old log : List Moment) (k : ℕ) (names : List BlobName) → log ≡ old → Tracked (world_of s log) → AreOfOps (world_of s log) → CanRemove s (ticket_of s old k) names
    → MayRemove s log k (PruneStep (RemoveDoomed names)) names
may_remove_doomed s old log k names e tracked of_ops before =
    let can : CanRemove s (ticket_of s log k) names = subst (λ (l : List Moment). CanRemove s (ticket_of s l k) names) (sym e) before in
    record {
      is = refl;
      removes = λ image tells gone. Pruning k (RemoveDoomed names) WasRemoved image (RemovingDoomed k names image (removes_it s log k names image tracked of_ops can tells) gone);
      fails = λ image tells less. Pruning k (RemoveDoomed names) (Refused DepotFault) image (RemoveDoomedFails k names image (removes_it s log k names image tracked of_ops can tells) less);
    }

-- ---- it ends

abbrev ended : Ticket → Ticket
ended t = record t { out = false }

ends_it : (s : Start) (log : List Moment) (k : ℕ) (image : Option Image) → Tracked (world_of s log) → AreOfOps (world_of s log) → CanEndDelete s log k → CanTell s image → EndsDelete (formats_of s) (world_of s log) k image
ends_it s log k image tracked of_ops can tells =
    record {
      t = ticket_of s log k;
      uuids = can.uuids;
      s = can.plan;
      deleting = is_deleting s log k can.uuids (Some can.plan) tracked of_ops can.out can.work;
      deletes = can.deletes;
      settled = can.settled;
      removed = told_if s image _ tells can.removed;
    }

pub may_end_delete : (s : Start) (old log : List Moment) (k : ℕ) (plan p : Plan) (next : ℕ) → log ≡ old → Tracked (world_of s log) → AreOfOps (world_of s log) → CanEndDelete s old k → IsPlanOf (world_of s log) plan
    → ((w : World) → IsPlanOf w plan → IsPlanOf (change w k ended) p) → next ≡ (world_of s log).next_id → MayNote s log k (PruneStep EndDelete) HasEnded (Some p) next
may_end_delete s old log k plan p next e tracked of_ops before plan_is goes next_is =
    let can : CanEndDelete s log k = subst (λ (l : List Moment). CanEndDelete s l k) (sym e) before in
    record {
      plain = refl;
      allows = λ image tells same. Pruning k EndDelete HasEnded image (EndingDelete k image (ends_it s log k image tracked of_ops can tells) same);
      plan_is = λ image q h. goes (world_of s log) plan_is;
      next_is = λ image. next_is ∙ sym (next_given (world_of s log) k ended);
    }

-- ---- it fails

next_failed : (w : World) (k : ℕ) (o : Option Ticket) → (delete_failed w k o).next_id ≡ w.next_id
next_failed w k None = refl
next_failed w k (Some t) = go (is_stale w t t.work)
  where
    by_delete : (x : Option Deletion) → (delete_failed_by w k t x).next_id ≡ w.next_id
    by_delete None = refl
    by_delete (Some x) = refl

    go : (b : Bool) → (if b then with_ticket w k (ended t) else delete_failed_by w k t (fin.get w.deletes t.op)).next_id ≡ w.next_id
    go true = refl
    go false = by_delete (fin.get w.deletes t.op)

fails_it : (s : Start) (log : List Moment) (k : ℕ) → Tracked (world_of s log) → AreOfOps (world_of s log) → CanFailDelete (ticket_of s log k) → FailsDeletion (world_of s log) k
fails_it s log k tracked of_ops can =
    let t : Ticket = ticket_of s log k in
    record {
      t = t;
      uuids = can.uuids;
      plan = can.plan;
      deleting = is_deleting s log k can.uuids can.plan tracked of_ops can.out can.work;
      may = elim can.may [
        | inl unsettled ↦ inl unsettled
        | inr cleans ↦ inr (cleans, λ present. let law = tracked.deletions.cleaning k t (out_is s log k can.out).there can.out present cleans in (law.x, law.there))
      ];
    }

pub may_fail_delete : (s : Start) (old log : List Moment) (k : ℕ) (why : Why) (p : Plan) (next : ℕ) → log ≡ old → Tracked (world_of s log) → AreOfOps (world_of s log) → CanFailDelete (ticket_of s old k)
    → IsPlanOf (delete_failed (world_of s log) k (fin.get (world_of s log).tickets k)) p → next ≡ (world_of s log).next_id
    → MayNote s log k (PruneStep (DeleteFails why)) HasEnded (Some p) next
may_fail_delete s old log k why p next e tracked of_ops before goes next_is =
    let can : CanFailDelete (ticket_of s log k) = subst (λ (l : List Moment). CanFailDelete (ticket_of s l k)) (sym e) before in
    record {
      plain = refl;
      allows = λ image tells same. Pruning k (DeleteFails why) HasEnded image (FailingDelete k why image (fails_it s log k tracked of_ops can) same);
      plan_is = λ image q h. goes;
      next_is = λ image. next_is ∙ sym (next_failed (world_of s log) k (fin.get (world_of s log).tickets k));
    }
