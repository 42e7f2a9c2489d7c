-- What a step of a delete's ticket leaves, whoever makes it: all but that ticket, the safe root, the deletes and what is doomed.
use Rattle.std.proofs.Common.{◌≡◌, ◌⊎◌, ℕ, suc, ◌+◌, ◌≤◌, List, ◌∷◌, ◌++◌, Bool, true, false, true≢false, cond, Option, Some, None, refl, sym, ap, ◌∙◌, inl, inr, arith, nat_cmp}
use Rattle.std.specs.Prelude.{if◌then◌else◌}
use Rattle.std.specs.Ordering.{eq_by_cmp}
use Rattle.std.specs.Cmp.{nat_cmp_total}
use Rattle.std.specs.FinMap.{FinMap, nat_cmp-IsAntisymmetric}
use Rattle.std.specs.FinMap as fin
use Rattle.esr_core.specs.Laws.NumberMaps.{nothing}
use Rattle.esr_model.specs.Names.{BlobName}
use Rattle.esr_model.specs.Values.{Bytes, RootData, Formats}
use Rattle.esr_model.specs.Image.{Image}
use Rattle.esr_model.specs.Delete.{PrunedShard, kept_count}
use Rattle.esr_core.specs.World.{World, Op, Deletion, Work, Deleting, Ticket, Swap, swap}
use Rattle.esr_core.specs.Steps.{with_ticket}
use Rattle.esr_core.specs.Pruning.{planned_work, planned, dooms}
use Rattle.esr_core.specs.Entry.{Prune, FetchShard, PlanShards, SettlePruned, EndDelete, DeleteFails, Reply, WasFetched}
use Rattle.esr_core.specs.After.{with_given, fetching, told_blob, is_stale, deletes_left, delete_settled_by, delete_settled, delete_failed_by, delete_failed, prune_step}

-- one ticket is given anew: under its number and term, and out only where it was; a delete's stays one, and no other changes its work
pub record Anew (tickets now : FinMap nat_cmp Ticket) (k : ℕ) : Type 0 where
  pub t : Ticket
  pub v : Ticket
  pub there : fin.get tickets k ≡ Some t
  pub is : now ≡ fin.insert tickets k v
  pub op : v.op ≡ t.op
  pub term : v.term ≡ t.term
  pub raised : v.raised ≡ t.raised
  pub out : v.out ≡ true → t.out ≡ true
  pub settled : v.settled ≡ false → t.settled ≡ false
  pub deleting : (uuids : List ℕ) (plan : Option Swap) → v.work ≡ Deleting uuids plan → (p : Option Swap) × (t.work ≡ Deleting uuids p)
  pub other : ((uuids : List ℕ) (plan : Option Swap) → t.work ≡ Deleting uuids plan → ⊥) → v.work ≡ t.work

abbrev pub SameTickets : FinMap nat_cmp Ticket → FinMap nat_cmp Ticket → ℕ → Type 0
SameTickets tickets now k = (now ≡ tickets) ⊎ Anew tickets now k

pub record PruneStays (w new : World) (k : ℕ) : Type 0 where
  pub pending : new.pending ≡ w.pending
  pub term : new.term ≡ w.term
  pub completed : new.completed ≡ w.completed
  pub next_op : new.next_op ≡ w.next_op
  pub next_ticket : new.next_ticket ≡ w.next_ticket
  pub next_id : w.next_id ≤ new.next_id
  pub restores : new.restores ≡ w.restores
  pub readers : new.readers ≡ w.readers
  pub caller : new.caller ≡ w.caller
  pub deletes : w.deletes ≡ fin.empty → new.deletes ≡ fin.empty
  pub tickets : SameTickets w.tickets new.tickets k

-- nothing is taken from a map that has nothing
pub none_left : {X : Type 0} (m : FinMap nat_cmp X) (k : ℕ) → m ≡ fin.empty → fin.remove m k ≡ fin.empty
none_left m k e = fin.same_map nat_cmp_total nat_cmp-IsAntisymmetric (fin.remove m k) fin.empty (λ q.
    fin.get-remove nat_cmp_total m k q
    ∙ ap (λ v. cond (eq_by_cmp nat_cmp q k) None v) (ap (λ n. fin.get n q) e ∙ fin.get-empty nat_cmp q)
    ∙ same_either (eq_by_cmp nat_cmp q k) None
    ∙ sym (fin.get-empty nat_cmp q))
  where
    same_either : {A : Type 0} (b : Bool) (x : A) → cond b x x ≡ x
    same_either true x = refl
    same_either false x = refl

-- the safe root, the ops, the deletes, what is doomed and one ticket may change
stays_with : (w : World) (k safe : ℕ) (root : RootData) (ops : FinMap nat_cmp Op) (deletes : FinMap nat_cmp Deletion) (doomed : List BlobName) (tickets : FinMap nat_cmp Ticket) → (w.deletes ≡ fin.empty → deletes ≡ fin.empty)
    → SameTickets w.tickets tickets k
    → PruneStays w (record w { safe = safe; root = root; ops = ops; deletes = deletes; doomed = doomed; tickets = tickets }) k
stays_with w k safe root ops deletes doomed tickets left given =
    record { pending = refl; term = refl; completed = refl; next_op = refl; next_ticket = refl; next_id = omega arith; restores = refl; readers = refl; caller = refl; deletes = left; tickets = given }

pub stays_same : (w : World) (k : ℕ) → PruneStays w w k
stays_same w k = record { pending = refl; term = refl; completed = refl; next_op = refl; next_ticket = refl; next_id = omega arith; restores = refl; readers = refl; caller = refl; deletes = λ e. e; tickets = inl refl }

-- the ticket given anew with its own work
anew : (tickets : FinMap nat_cmp Ticket) (k : ℕ) (t : Ticket) (read : List (BlobName × Bytes)) (settled out : Bool) → fin.get tickets k ≡ Some t → (out ≡ true → t.out ≡ true) → (settled ≡ false → t.settled ≡ false)
    → Anew tickets (fin.insert tickets k (record t { read = read; settled = settled; out = out })) k
anew tickets k t read settled out there o s =
    record { t = t; v = record t { read = read; settled = settled; out = out }; there = there; is = refl; op = refl; term = refl; raised = refl; out = o; settled = s; deleting = λ uuids plan e. (plan, e); other = λ none. refl }

ended : (tickets : FinMap nat_cmp Ticket) (k : ℕ) (t : Ticket) → fin.get tickets k ≡ Some t → Anew tickets (fin.insert tickets k (record t { out = false })) k
ended tickets k t there = anew tickets k t t.read t.settled false there (λ e. absurd (true≢false (sym e))) (λ e. e)

fetched : (tickets : FinMap nat_cmp Ticket) (k : ℕ) (t : Ticket) (name : BlobName) (bytes : Option Bytes) → fin.get tickets k ≡ Some t → Anew tickets (fin.insert tickets k (fetching name bytes t)) k
fetched tickets k t name None there = anew tickets k t t.read t.settled t.out there (λ e. e) (λ e. e)
fetched tickets k t name (Some b) there = anew tickets k t ((name, b) ∷ t.read) t.settled t.out there (λ e. e) (λ e. e)

-- a plan is a delete's
planned_deleting : (f : Formats) (t : Ticket) (shards : List PrunedShard) (first : ℕ) (work : Work) (uuids : List ℕ) (plan : Option Swap) → planned_work f t shards first work ≡ Deleting uuids plan
    → (p : Option Swap) × (work ≡ Deleting uuids p)
planned_deleting f t shards first (Deleting us p) uuids plan e = (p, ap (λ (x : List ℕ). Deleting x p) (same_uuids e))
  where
    same_uuids : {a b : List ℕ} {p q : Option Swap} → Deleting a p ≡ Deleting b q → a ≡ b
    same_uuids h = cc
planned_deleting f t shards first work uuids plan e = absurd (cc)

planned_other : (f : Formats) (t : Ticket) (shards : List PrunedShard) (first : ℕ) (work : Work) → ((uuids : List ℕ) (plan : Option Swap) → work ≡ Deleting uuids plan → ⊥) → planned_work f t shards first work ≡ work
planned_other f t shards first (Deleting us p) none = absurd (none us p refl)
planned_other f t shards first work none = refl

plan_anew : (f : Formats) (tickets : FinMap nat_cmp Ticket) (k : ℕ) (t : Ticket) (shards : List PrunedShard) (first : ℕ) → fin.get tickets k ≡ Some t → Anew tickets (fin.insert tickets k (planned f shards first t)) k
plan_anew f tickets k t shards first there =
    record {
      t = t;
      v = planned f shards first t;
      there = there;
      is = refl;
      op = refl;
      term = refl;
      raised = refl;
      out = λ e. e;
      settled = λ e. e;
      deleting = λ uuids plan e. planned_deleting f t shards first t.work uuids plan e;
      other = λ none. planned_other f t shards first t.work none;
    }

-- with one ticket, or none, given anew
stays_given : (w : World) (k : ℕ) (g : Ticket → Ticket) (next : ℕ) (o : Option Ticket) → w.next_id ≤ next → ((t : Ticket) → o ≡ Some t → Anew w.tickets (fin.insert w.tickets k (g t)) k)
    → PruneStays w (record (with_given w k g o) { next_id = next }) k
stays_given w k g next None le one = record { pending = refl; term = refl; completed = refl; next_op = refl; next_ticket = refl; next_id = le; restores = refl; readers = refl; caller = refl; deletes = λ e. e; tickets = inl refl }
stays_given w k g next (Some t) le one = record { pending = refl; term = refl; completed = refl; next_op = refl; next_ticket = refl; next_id = le; restores = refl; readers = refl; caller = refl; deletes = λ e. e; tickets = inr (one t refl) }

keeps_id : (w : World) (k : ℕ) (g : Ticket → Ticket) (o : Option Ticket) → PruneStays w (record (with_given w k g o) { next_id = w.next_id }) k → PruneStays w (with_given w k g o) k
keeps_id w k g None h = h
keeps_id w k g (Some t) h = h

stays_settled_by : (f : Formats) (w : World) (k : ℕ) (t : Ticket) (s : Option Swap) (n : Option ℕ) → fin.get w.tickets k ≡ Some t → PruneStays w (delete_settled_by f w k t s n) k
stays_settled_by f w k t (Some s) (Some n) there =
    stays_with w k (suc n) s.root (fin.remove w.ops t.op) (deletes_left w t) (dooms f t ++ w.doomed) (fin.insert w.tickets k (record t { settled = true })) (left_none t.clean)
    (inr (anew w.tickets k t t.read true t.out there (λ e. e) (λ e. absurd (true≢false e))))
  where
    left_none : (b : Bool) → w.deletes ≡ fin.empty → cond b w.deletes (fin.remove w.deletes t.op) ≡ fin.empty
    left_none true e = e
    left_none false e = none_left w.deletes t.op e
stays_settled_by f w k t s n there = stays_same w k

pub stays_settled : (f : Formats) (w : World) (k : ℕ) (o : Option Ticket) → fin.get w.tickets k ≡ o → PruneStays w (delete_settled f w k o) k
stays_settled f w k None there = stays_same w k
stays_settled f w k (Some t) there = stays_settled_by f w k t (swap f t) t.raised there

pub stays_either : (w a b : World) (k : ℕ) (first : Bool) → PruneStays w a k → PruneStays w b k → PruneStays w (if first then a else b) k
stays_either w a b k true p q = p
stays_either w a b k false p q = q

stays_ended : (w : World) (k : ℕ) (t : Ticket) → fin.get w.tickets k ≡ Some t → PruneStays w (with_ticket w k (record t { out = false })) k
stays_ended w k t there =
    record { pending = refl; term = refl; completed = refl; next_op = refl; next_ticket = refl; next_id = omega arith; restores = refl; readers = refl; caller = refl; deletes = λ e. e; tickets = inr (ended w.tickets k t there) }

stays_failed_by : (w : World) (k : ℕ) (t : Ticket) (x : Option Deletion) → fin.get w.tickets k ≡ Some t → fin.get w.deletes t.op ≡ x → PruneStays w (delete_failed_by w k t x) k
stays_failed_by w k t None there is = stays_same w k
stays_failed_by w k t (Some x) there is =
    stays_with w k w.safe w.root w.ops (fin.insert w.deletes t.op (record x { failed = true })) w.doomed (fin.insert w.tickets k (record t { out = false })) (λ e. absurd (nothing w.deletes t.op x e is)) (inr (ended w.tickets k t there))

stays_failed : (w : World) (k : ℕ) (o : Option Ticket) → fin.get w.tickets k ≡ o → PruneStays w (delete_failed w k o) k
stays_failed w k None there = stays_same w k
stays_failed w k (Some t) there =
    stays_either w (with_ticket w k (record t { out = false })) (delete_failed_by w k t (fin.get w.deletes t.op)) k (is_stale w t t.work) (stays_ended w k t there) (stays_failed_by w k t (fin.get w.deletes t.op) there refl)

pub prune_stays : (f : Formats) (w : World) (k : ℕ) (prune : Prune) (reply : Reply) (image : Option Image) → PruneStays w (prune_step f w k prune reply image) k
prune_stays f w k (FetchShard name) WasFetched image =
    keeps_id w k (fetching name (told_blob f image name)) (fin.get w.tickets k)
    (stays_given w k (fetching name (told_blob f image name)) w.next_id (fin.get w.tickets k) (omega arith) (λ t there. fetched w.tickets k t name (told_blob f image name) there))
prune_stays f w k (PlanShards shards) reply image =
    stays_given w k (planned f shards w.next_id) (w.next_id + kept_count shards) (fin.get w.tickets k) (omega arith) (λ t there. plan_anew f w.tickets k t shards w.next_id there)
prune_stays f w k SettlePruned reply image = stays_settled f w k (fin.get w.tickets k) refl
prune_stays f w k EndDelete reply image =
    keeps_id w k (λ (t : Ticket). record t { out = false }) (fin.get w.tickets k) (stays_given w k (λ (t : Ticket). record t { out = false }) w.next_id (fin.get w.tickets k) (omega arith) (λ t there. ended w.tickets k t there))
prune_stays f w k (DeleteFails why) reply image = stays_failed w k (fin.get w.tickets k) refl
prune_stays f w k prune reply image = stays_same w k
