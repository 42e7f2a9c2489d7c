-- What the steps of the ticket of a delete or cleanup make of it.
use Rattle.std.proofs.Common.{◌≡◌, ℕ, Bool, true, false, List, map, Option, Some, None, Result, Ok, Err, IfOk, refl, sym, ap, ◌∙◌, subst, inl, inr}
use Rattle.std.specs.Prelude.{◌==◌, if◌then◌else◌}
use Rattle.std.proofs.lemmas.Bool.{eqb-true}
use Rattle.std.specs.FinMap as fin
use Rattle.esr_model.specs.Names.{BlobName}
use Rattle.esr_model.specs.Values.{Bytes, RootData}
use Rattle.esr_model.specs.Delete.{PrunedShard}
use Rattle.esr_core.specs.World.{World, Ticket, Deletion, Swap, Deleting}
use Rattle.esr_core.specs.Pruning.{planned}
use Rattle.esr_core.specs.Steps.{with_ticket, settled}
use Rattle.esr_core.specs.Tracked.{Tracked}
use Rattle.esr_core.specs.Entry.{Why, Step, PruneStep, FetchShard, PlanShards, SettlePruned, RemoveDoomed, EndDelete, DeleteFails, DrawnFrom, WasFetched, WasAbsent, WasSettled, WasRemoved, HasEnded, Refused, DepotFault, Moment}
use Rattle.esr_core.specs.After.{fetching, told_blob, is_stale, delete_settled, delete_failed_by, delete_failed}
use Rattle.esr_names.specs.declared.blob.BlobName.{BlobName as CodeName}
use Rattle.esr_formats.specs.Names.{name_of}
use Rattle.esr_desk.specs.Conditions.{CanSettle}
use Rattle.esr_desk.specs.Refusals.{refusal_of}
use Rattle.esr_desk.specs.Taken.{fetched_by, LeftBy, IsSettled}
use Rattle.esr_desk.specs.declared.refusal.StepRefusal.{StepRefusal}
use Rattle.esr_desk.specs.declared.refusal.StepRefusal.TheVariants as steps
use Rattle.esr_desk.specs.declared.refusal.EntryRefusal.TheVariants as code
use Rattle.esr_desk.specs.Start.{Start, formats_of, world_of, or_no_ticket, ticket_of}
use Rattle.esr_desk.specs.Delete.Conditions.{CanSettleDelete, CanFailDelete}
use Rattle.esr_repo.specs.Next.{Added, Did}
use Rattle.esr_repo.specs.Calls.{FetchDid}
use Rattle.esr_repo.specs.DeleteWorld.{settle, delete_is}
use Rattle.esr_repo.specs.Grown.{out_is, put_there, added_ticket, changed_ticket}
use Rattle.esr_repo.specs.Stepping.{did_from}
use Rattle.esr_steps.proofs.Stepping.{added_from}
use Rattle.esr_steps.proofs.Written.{fetch_from}
use Rattle.esr_steps.proofs.Swapping.{fell}

-- ---- fetch

fetched : {F : Type 0} (left : F → Option Bytes) (s : Start) (old new : List Moment) (k : ℕ) (name : BlobName) (r : Result (Option F) StepRefusal) → (ticket_of s old k).out ≡ true
    → FetchDid left s old new k (PruneStep (FetchShard name)) name r → IfOk r (λ o. ticket_of s new k ≡ fetched_by left name o (ticket_of s old k))
fetched left s old new k name (Ok None) out did = added_ticket s old new k (PruneStep (FetchShard name)) WasAbsent did k
fetched left s old new k name (Ok (Some f)) out did =
    added_ticket s old new k (PruneStep (FetchShard name)) WasFetched did.0 k
    ∙ changed_ticket s old k (fetching name (told_blob (formats_of s) did.0.image name)) out
    ∙ ap (λ (o : Option Bytes). fetching name o (ticket_of s old k)) did.1
fetched left s old new k name (Err e) out did = tt

pub shard_fetched : {F : Type 0} (left : F → Option Bytes) (s : Start) (old mid new : List Moment) (k : ℕ) (name : BlobName) (r : Result (Option F) StepRefusal) → mid ≡ old → (ticket_of s old k).out ≡ true
    → FetchDid left s mid new k (PruneStep (FetchShard name)) name r → IfOk r (λ o. ticket_of s new k ≡ fetched_by left name o (ticket_of s old k))
shard_fetched left s old mid new k name r e out did = fetched left s old new k name r out (fetch_from left s old mid new k (PruneStep (FetchShard name)) name r e did)

-- ---- plan

pub planned_ticket : (s : Start) (old new : List Moment) (k : ℕ) (shards : List PrunedShard) (first : ℕ) → first ≡ (world_of s old).next_id → (ticket_of s old k).out ≡ true
    → Added s old new k (PruneStep (PlanShards shards)) (DrawnFrom first) → ticket_of s new k ≡ planned (formats_of s) shards first (ticket_of s old k)
planned_ticket s old new k shards first first_is out a =
    added_ticket s old new k (PruneStep (PlanShards shards)) (DrawnFrom first) a k
    ∙ changed_ticket s old k (planned (formats_of s) shards (world_of s old).next_id) out
    ∙ ap (λ (n : ℕ). planned (formats_of s) shards n (ticket_of s old k)) (sym first_is)

-- ---- settle

settled_puts : (s : Start) (old : List Moment) (k : ℕ) (root : RootData) → CanSettle s (ticket_of s old k) root
    → or_no_ticket (fin.get (delete_settled (formats_of s) (world_of s old) k (fin.get (world_of s old).tickets k)).tickets k) ≡ settle (ticket_of s old k)
settled_puts s old k root can =
    ap (λ (w : World). or_no_ticket (fin.get w.tickets k)) (delete_is (formats_of s) (world_of s old) k (ticket_of s old k) can.change can.n (out_is s old k can.put.out).there can.is can.put.raised)
    ∙ ap or_no_ticket (put_there (world_of s old).tickets k (settle (ticket_of s old k)))

pub settled_ticket : (s : Start) (old mid new : List Moment) (k : ℕ) (root : RootData) → mid ≡ old → CanSettleDelete s (ticket_of s old k) root → Added s mid new k (PruneStep SettlePruned) WasSettled
    → ticket_of s new k ≡ record (ticket_of s old k) { settled = true }
settled_ticket s old mid new k root e can a =
    added_ticket s old new k (PruneStep SettlePruned) WasSettled (added_from s old mid new k (PruneStep SettlePruned) WasSettled e a) k ∙ settled_puts s old k root can.settle

pub settle_left : {X : Type 0} (s : Start) (old new : List Moment) (k : ℕ) (root : RootData) (r : Result X StepRefusal) → CanSettleDelete s (ticket_of s old k) root → Did s old new k (PruneStep SettlePruned) (λ x. WasSettled) r
    → LeftBy (IsSettled (ticket_of s old k)) r (ticket_of s old k) (ticket_of s new k)
settle_left s old new k root (Ok n) can did = tt
settle_left s old new k root (Err steps.Memory) can did = ap (λ (l : List Moment). ticket_of s l k) did
settle_left s old new k root (Err steps.TurnsSpent) can never = absurd never
settle_left s old new k root (Err (steps.Refused code.DepotFault)) can did =
    fell (formats_of s) (world_of s old) (delete_settled (formats_of s) (world_of s old) k (fin.get (world_of s old).tickets k)) did.image k
    (ticket_of s old k) (settle (ticket_of s old k)) (ticket_of s new k) refl (settled_puts s old k root can.settle)
    (added_ticket s old new k (PruneStep SettlePruned) (Refused DepotFault) did k)
settle_left s old new k root (Err (steps.Refused x)) can did = added_ticket s old new k (PruneStep SettlePruned) (Refused (refusal_of x)) did k

-- ---- remove

-- the ticket stays
pub remove_kept : {X : Type 0} (s : Start) (old new : List Moment) (k : ℕ) (names : List BlobName) (r : Result X StepRefusal) → Did s old new k (PruneStep (RemoveDoomed names)) (λ x. WasRemoved) r → ticket_of s new k ≡ ticket_of s old k
remove_kept s old new k names (Ok x) did = added_ticket s old new k (PruneStep (RemoveDoomed names)) WasRemoved did k
remove_kept s old new k names (Err steps.Memory) did = ap (λ (l : List Moment). ticket_of s l k) did
remove_kept s old new k names (Err steps.TurnsSpent) never = absurd never
remove_kept s old new k names (Err (steps.Refused code.DepotFault)) did = added_ticket s old new k (PruneStep (RemoveDoomed names)) (Refused DepotFault) did k
remove_kept s old new k names (Err (steps.Refused x)) did = added_ticket s old new k (PruneStep (RemoveDoomed names)) (Refused (refusal_of x)) did k

-- a removal of these names, after a check that added nothing
pub removes_from : {X : Type 0} (s : Start) (old mid new : List Moment) (k : ℕ) (step : Step) (names : List CodeName) (r : Result X StepRefusal) → mid ≡ old → step ≡ PruneStep (RemoveDoomed (map name_of names))
    → Did s mid new k step (λ x. WasRemoved) r
    → Did s old new k (PruneStep (RemoveDoomed (map name_of names))) (λ x. WasRemoved) r
removes_from s old mid new k step names r e is did = subst (λ (st : Step). Did s old new k st (λ x. WasRemoved) r) is (did_from s old mid new k step (λ x. WasRemoved) r e did)

-- ---- it ends

abbrev ended : Ticket → Ticket
ended t = record t { out = false }

pub ended_ticket : (s : Start) (old mid new : List Moment) (k : ℕ) → mid ≡ old → (ticket_of s old k).out ≡ true → Added s mid new k (PruneStep EndDelete) HasEnded → ticket_of s new k ≡ record (ticket_of s old k) { out = false }
ended_ticket s old mid new k e out added =
    let a = added_from s old mid new k (PruneStep EndDelete) HasEnded e added in
    added_ticket s old new k (PruneStep EndDelete) HasEnded a k ∙ changed_ticket s old k ended out

-- ---- it fails

-- of the present term it has its op
present_term : (w : World) (t : Ticket) (uuids : List ℕ) (plan : Option Swap) → t.work ≡ Deleting uuids plan → is_stale w t t.work ≡ false → t.term ≡ w.term
present_term w t uuids plan work fresh = go (t.term == w.term) refl (sym (ap (is_stale w t) work) ∙ fresh)
  where
    go : (b : Bool) → (t.term == w.term) ≡ b → (if b then false else true) ≡ false → t.term ≡ w.term
    go true q f = eqb-true t.term w.term q
    go false q f = cc

has_op : (w : World) (k : ℕ) (t : Ticket) → Tracked w → fin.get w.tickets k ≡ Some t → CanFailDelete t → t.term ≡ w.term → (x : Deletion) × (fin.get w.deletes t.op ≡ Some x)
has_op w k t tracked there can present = elim can.may [
  | inl unsettled ↦ let law = tracked.deleting k t can.uuids can.plan there can.out unsettled present can.work in (law.x, law.there)
  | inr cleans ↦ let law = tracked.deletions.cleaning k t there can.out present cleans in (law.x, law.there)
]

failed_puts : (w : World) (k : ℕ) (t : Ticket) → Tracked w → fin.get w.tickets k ≡ Some t → CanFailDelete t → or_no_ticket (fin.get (delete_failed w k (Some t)).tickets k) ≡ ended t
failed_puts w k t tracked there can = go (is_stale w t t.work) refl
  where
    puts : or_no_ticket (fin.get (fin.insert w.tickets k (ended t)) k) ≡ ended t
    puts = ap or_no_ticket (put_there w.tickets k (ended t))

    go : (b : Bool) → is_stale w t t.work ≡ b → or_no_ticket (fin.get (if b then with_ticket w k (ended t) else delete_failed_by w k t (fin.get w.deletes t.op)).tickets k) ≡ ended t
    go true e = puts
    go false e =
        let op = has_op w k t tracked there can (present_term w t can.uuids can.plan can.work e) in
        ap (λ (o : Option Deletion). or_no_ticket (fin.get (delete_failed_by w k t o).tickets k)) op.1 ∙ puts

pub failed_ticket : (s : Start) (old mid new : List Moment) (k : ℕ) (why : Why) → mid ≡ old → CanFailDelete (ticket_of s old k) → Tracked (world_of s mid) → Added s mid new k (PruneStep (DeleteFails why)) HasEnded
    → ticket_of s new k ≡ record (ticket_of s old k) { out = false }
failed_ticket s old mid new k why e can before added =
    let tracked : Tracked (world_of s old) = subst (λ (l : List Moment). Tracked (world_of s l)) e before in
    let a = added_from s old mid new k (PruneStep (DeleteFails why)) HasEnded e added in
    let there = (out_is s old k can.out).there in
    added_ticket s old new k (PruneStep (DeleteFails why)) HasEnded a k
    ∙ ap (λ (o : Option Ticket). or_no_ticket (fin.get (delete_failed (world_of s old) k o).tickets k)) there
    ∙ failed_puts (world_of s old) k (ticket_of s old k) tracked there can
