-- What its own steps make of a ticket, and what it does by them.
use Rattle.std.proofs.Common.{◌≡◌, ℕ, ◌+◌, ◌≤◌, List, [], ◌∷◌, append-nil, map, Bool, true, false, Option, Some, None, refl, sym, ap, ◌∙◌, subst, inl, inr}
use Rattle.std.specs.Prelude.{if◌then◌else◌}
use Rattle.std.specs.FinMap as fin
use Rattle.std.proofs.lemmas.Option.{same_Some, none-some}
use Rattle.esr_model.specs.Lists.{Has-left, Has-right, Has-map}
use Rattle.esr_model.specs.Names.{BlobName, Latest}
use Rattle.esr_model.specs.Values.{Bytes, Has, ShardResult, ReadsBack, Formats}
use Rattle.esr_model.specs.Delete.{PrunedShard, kept_count, left_uuids, uuids_of, deleted_root}
use Rattle.esr_model.specs.Finalize.{finalized_root}
use Rattle.esr_model.specs.Image.{Image}
use Rattle.esr_model.specs.Cleanup.{BlobSize}
use Rattle.esr_core.specs.World.{World, Op, Deletion, Shard, Deleting, Ticket, Swap, swap, swap_of, metadata, record_of}
use Rattle.esr_core.specs.Steps.{IsOut, IsToFetch, MostDrawn, listing, noting, with_ticket}
use Rattle.esr_core.specs.Pruning.{AreOfRoot, delete_swap, planned_work, planned}
use Rattle.esr_core.specs.Changes.{IsUnits}
use Rattle.esr_core.specs.Entry.{Prune, RemoveDoomed, Step, DrawStep, BeginStep, CommitStep, LatestStep, FetchStep, ListStep, RaiseStep, SettleStep, DoneStep, FailedStep, FinishStep, DroppedStep, PruneStep, Reply, WasListed}
use Rattle.esr_core.specs.After.{with_given, committing, fetching, told_blob, settled_by, settled_of, done_by, done_of, delete_settled_by, delete_settled, delete_failed_by, delete_failed, failed_by, failed_of, dropped_of, is_stale, has_text, is_latest, tried, raised, answered}
use Rattle.esr_core.specs.Allowed as allowed
use Rattle.esr_core.specs.Allowed.{Commits, MayRaise, PruneAllows, Allows}
use Rattle.esr_bounds.specs.Keys.{Key, DrawKey, BeginKey, CommitKey, LatestKey, FetchKey, RaiseKey, SettleKey, DropKey, PlanKey, PrunedKey, NoneKey, EndKey, key}
use Rattle.esr_bounds.specs.Most.{ids_by, names_of, fetch_names, single_keys, IsDelete, MayDo}
use Rattle.esr_core.specs.Laws.NumberMaps.{same_in}
use Rattle.esr_bounds.proofs.Names.{own_named, may_named, fetch_named, bare, Grown, own_keys, name_keys}
use Rattle.esr_bounds.proofs.Further.{IsPlan, Planned, few_blobs, Further, alike, early, early_alike, of_shard}

end_single : Has single_keys EndKey
end_single = inr (inr (inr (inr (inr (inr (inr (inr (inl refl))))))))

latest_single : Has single_keys (BeginKey Latest)
latest_single = inr (inr (inr (inr (inr (inr (inr (inr (inr (inl refl)))))))))

-- a shard's ticket drew no more ids than it may
abbrev pub DrewFew : Formats → Ticket → Type 0
DrewFew f t = (index number : ℕ) → t.work ≡ Shard index number → t.drawn ≤ ids_by f t.place t.name number t.source

-- the ticket after its step
pub record Onward (f : Formats) (k : ℕ) (t : Ticket) (page : List BlobSize) (up : World) : Type 0 where
  pub v : Ticket
  pub at : fin.get up.tickets k ≡ Some v
  pub grown : Grown t v
  pub few : DrewFew f t → DrewFew f v
  pub further : Further f t page v

grown_same : (t : Ticket) → Grown t t
grown_same t = record { same = refl; work = inl refl; drew = λ index number is. inl (refl, refl); raised = inl refl }

-- what a page tells
abbrev pub page_of : Step → Reply → List BlobSize
page_of (ListStep from) (WasListed page) = page
page_of step reply = []

-- its unit, its ids and its generation are the same
still : (t v : Ticket) → bare v ≡ bare t → v.work ≡ t.work → v.first ≡ t.first → v.drawn ≡ t.drawn → v.raised ≡ t.raised → Grown t v
still t v same work first drawn raise = record { same = same; work = inl work; drew = λ index number is. inl (first, drawn); raised = inl raise }

module _ (f : Formats) (size : ℕ) (known : (place name : Bytes) (number : ℕ) → f.known place name number ≡ true) (w : World) where
  module _ (k : ℕ) (t : Ticket) (there : fin.get w.tickets k ≡ Some t) where
    -- it is this ticket
    same_out : (u : Ticket) → IsOut w k u → u ≡ t
    same_out u out = same_Some u t (sym out.there ∙ there)

    unsettled_of : (u : Ticket) → IsOut w k u → u.settled ≡ false → t.settled ≡ false
    unsettled_of u out unsettled = ap (λ (x : Ticket). x.settled) (sym (same_out u out)) ∙ unsettled

    as_before : Onward f k t [] w
    as_before = record { v = t; at = there; grown = grown_same t; few = λ few. few; further = alike f t t refl refl refl refl refl refl }

    -- given anew
    anew : (page : List BlobSize) (g : Ticket → Ticket) → Grown t (g t) → (DrewFew f t → DrewFew f (g t)) → Further f t page (g t) → (o : Option Ticket) → o ≡ Some t → Onward f k t page (with_given w k g o)
    anew page g grown few further None is = absurd (none-some t is)
    anew page g grown few further (Some u) is =
        subst (λ (x : Ticket). Onward f k t page (with_given w k g (Some x))) (sym (same_Some u t is)) (record { v = g t; at = same_in w.tickets k (g t); grown = grown; few = few; further = further })

    -- with other numbers, ops or deletes
    besides : (up new : World) → new.tickets ≡ up.tickets → Onward f k t [] up → Onward f k t [] new
    besides up new same h = record { v = h.v; at = ap (λ m. fin.get m k) same ∙ h.at; grown = h.grown; few = h.few; further = h.further }

    -- where its unit, its ids and its generation stay
    keeps : (v : Ticket) → Grown t v → (DrewFew f t → DrewFew f v) → Further f t [] v → (up : World) → up.tickets ≡ fin.insert w.tickets k v → Onward f k t [] up
    keeps v grown few further up is = record { v = v; at = ap (λ m. fin.get m k) is ∙ same_in w.tickets k v; grown = grown; few = few; further = further }

    over_onward : (up : World) → up.tickets ≡ fin.insert w.tickets k (record t { out = false }) → Onward f k t [] up
    over_onward up is = keeps (record t { out = false }) (still t (record t { out = false }) refl refl refl refl refl) (λ few. few) (alike f t (record t { out = false }) refl refl refl refl refl refl) up is

    ends_given : Onward f k t [] (with_given w k (λ (x : Ticket). record x { out = false }) (fin.get w.tickets k))
    ends_given = anew [] (λ (x : Ticket). record x { out = false }) (still t ((λ (x : Ticket). record x { out = false }) t) refl refl refl refl refl)
        (λ few. few) (alike f t ((λ (x : Ticket). record x { out = false }) t) refl refl refl refl refl refl) (fin.get w.tickets k) there

    tried_onward : Onward f k t [] (tried w k)
    tried_onward = anew [] (λ (x : Ticket). record x { tried_latest = true }) (still t ((λ (x : Ticket). record x { tried_latest = true }) t) refl refl refl refl refl)
        (λ few. few) (alike f t ((λ (x : Ticket). record x { tried_latest = true }) t) refl refl refl refl refl refl) (fin.get w.tickets k) there

    either_onward : (a b : World) (first : Bool) → Onward f k t [] a → Onward f k t [] b → Onward f k t [] (if first then a else b)
    either_onward a b true p q = p
    either_onward a b false p q = q

    -- a failed record swap leaves one of two worlds
    fallen_onward : (a b : World) (first : Bool) → Onward f k t [] a → Onward f k t [] b → Onward f k t [] (record (if first then a else b) { deposed = true })
    fallen_onward a b true p q = besides a (record a { deposed = true }) refl p
    fallen_onward a b false p q = besides b (record b { deposed = true }) refl q

    commit_onward : (name : BlobName) (b : Option Bytes) → Onward f k t [] (with_given w k (committing name b) (fin.get w.tickets k))
    commit_onward name None = anew [] (committing name None) (still t ((committing name None) t) refl refl refl refl refl) (λ few. few) (alike f t ((committing name None) t) refl refl refl refl refl refl) (fin.get w.tickets k) there
    commit_onward name (Some b) = anew [] (committing name (Some b)) (still t ((committing name (Some b)) t) refl refl refl refl refl) (λ few. few) (alike f t ((committing name (Some b)) t) refl refl refl refl refl refl) (fin.get w.tickets k) there

    note_onward : (name : BlobName) → Onward f k t [] (with_given w k (λ (x : Ticket). noting x name) (fin.get w.tickets k))
    note_onward name =
        anew [] (λ (x : Ticket). noting x name) (still t ((λ (x : Ticket). noting x name) t) refl refl refl refl refl) (λ few. few) (alike f t ((λ (x : Ticket). noting x name) t) refl refl refl refl refl refl) (fin.get w.tickets k) there

    fetch_onward : (name : BlobName) (b : Option Bytes) → ((v : Ticket) → bare v ≡ bare t → v.work ≡ t.work → v.listed ≡ t.listed → v.settled ≡ t.settled → Further f t [] v)
        → Onward f k t [] (with_given w k (fetching name b) (fin.get w.tickets k))
    fetch_onward name None further = anew [] (fetching name None) (still t ((fetching name None) t) refl refl refl refl refl) (λ few. few) (further ((fetching name None) t) refl refl refl refl) (fin.get w.tickets k) there
    fetch_onward name (Some b) further = anew [] (fetching name (Some b)) (still t ((fetching name (Some b)) t) refl refl refl refl refl) (λ few. few) (further ((fetching name (Some b)) t) refl refl refl refl) (fin.get w.tickets k) there

    -- a delete fetches before its settle, and a shard's ticket dooms nothing
    early_fetch : (u : Ticket) → IsOut w k u → u.settled ≡ false → (v : Ticket) → bare v ≡ bare t → v.work ≡ t.work → v.listed ≡ t.listed → v.settled ≡ t.settled → Further f t [] v
    early_fetch u out unsettled v same work listed settled = early_alike f t v same work listed (unsettled_of u out unsettled)

    shard_fetch : (name : BlobName) (u : Ticket) → IsOut w k u → IsToFetch u name → (v : Ticket) → bare v ≡ bare t → v.work ≡ t.work → v.listed ≡ t.listed → v.settled ≡ t.settled → Further f t [] v
    shard_fetch name u out to_fetch v same work listed settled = of_shard f t v to_fetch.0 to_fetch.1 same work listed settled (ap (λ (x : Ticket). x.work) (sym (same_out u out)) ∙ to_fetch.2)

    raise_onward : MayRaise f w k → Onward f k t [] (raised w k)
    raise_onward r =
        besides (with_given w k (λ (x : Ticket). record x { raised = Some w.pending }) (fin.get w.tickets k)) (raised w k) refl
        (anew [] (λ (x : Ticket). record x { raised = Some w.pending })
        (record { same = refl; work = inl refl; drew = λ index number is. inl (refl, refl); raised = inr (ap (λ (x : Ticket). x.raised) (sym (same_out r.t r.out)) ∙ r.once) }) (λ few. few)
        (early_alike f t (record t { raised = Some w.pending }) refl refl refl (unsettled_of r.t r.out r.unsettled)) (fin.get w.tickets k) there)

    settle_onward : t.settled ≡ false → (o : Option Swap) (n : Option ℕ) → Onward f k t [] (settled_by f w k t o n)
    settle_onward unsettled (Some s) (Some n) =
        keeps (record t { settled = true }) (still t (record t { settled = true }) refl refl refl refl refl) (λ few. few) (early_alike f t (record t { settled = true }) refl refl refl unsettled) (settled_by f w k t (Some s) (Some n)) refl
    settle_onward unsettled o n = as_before

    settled_onward : (u : Ticket) → IsOut w k u → u.settled ≡ false → Onward f k t [] (settled_of f w k (fin.get w.tickets k))
    settled_onward u out unsettled = subst (λ (o : Option Ticket). Onward f k t [] (settled_of f w k o)) (sym there) (settle_onward (unsettled_of u out unsettled) (swap f t) t.raised)

    delete_settle_onward : t.settled ≡ false → (o : Option Swap) (n : Option ℕ) → Onward f k t [] (delete_settled_by f w k t o n)
    delete_settle_onward unsettled (Some s) (Some n) =
        keeps (record t { settled = true }) (still t (record t { settled = true }) refl refl refl refl refl) (λ few. few) (early_alike f t (record t { settled = true }) refl refl refl unsettled) (delete_settled_by f w k t (Some s) (Some n)) refl
    delete_settle_onward unsettled o n = as_before

    delete_settled_onward : (u : Ticket) → IsOut w k u → u.settled ≡ false → Onward f k t [] (delete_settled f w k (fin.get w.tickets k))
    delete_settled_onward u out unsettled = subst (λ (o : Option Ticket). Onward f k t [] (delete_settled f w k o)) (sym there) (delete_settle_onward (unsettled_of u out unsettled) (swap f t) t.raised)

    done_onward : (r : ShardResult) → Onward f k t [] (done_of w k r (fin.get w.tickets k))
    done_onward r = subst (λ (o : Option Ticket). Onward f k t [] (done_of w k r o)) (sym there) (by (fin.get w.ops t.op))
      where
        by : (o : Option Op) → Onward f k t [] (done_by w k r t o)
        by None = as_before
        by (Some op) = over_onward (done_by w k r t (Some op)) refl

    failed_onward : Onward f k t [] (failed_of w k (fin.get w.tickets k))
    failed_onward = subst (λ (o : Option Ticket). Onward f k t [] (failed_of w k o)) (sym there)
        (either_onward (with_ticket w k (record t { out = false })) (failed_by w k t (fin.get w.ops t.op)) (is_stale w t t.work) (over_onward (with_ticket w k (record t { out = false })) refl) (by (fin.get w.ops t.op)))
      where
        by : (o : Option Op) → Onward f k t [] (failed_by w k t o)
        by None = as_before
        by (Some op) = over_onward (failed_by w k t (Some op)) refl

    delete_failed_onward : Onward f k t [] (delete_failed w k (fin.get w.tickets k))
    delete_failed_onward = subst (λ (o : Option Ticket). Onward f k t [] (delete_failed w k o)) (sym there)
        (either_onward (with_ticket w k (record t { out = false })) (delete_failed_by w k t (fin.get w.deletes t.op)) (is_stale w t t.work) (over_onward (with_ticket w k (record t { out = false })) refl) (by (fin.get w.deletes t.op)))
      where
        by : (o : Option Deletion) → Onward f k t [] (delete_failed_by w k t o)
        by None = as_before
        by (Some x) = over_onward (delete_failed_by w k t (Some x)) refl

    dropped_onward : Onward f k t [] (dropped_of w k (fin.get w.tickets k))
    dropped_onward = subst (λ (o : Option Ticket). Onward f k t [] (dropped_of w k o)) (sym there) (over_onward (dropped_of w k (Some t)) refl)

    -- ---- draws

    few_by : (place name : Bytes) (number n : ℕ) (source : Option ℕ) → (u : Ticket) → u.place ≡ place → u.name ≡ name → MostDrawn f u number n source → n ≤ ids_by f place name number source
    few_by place name number n None u at named most = subst (λ (p : Bytes). n ≤ ids_by f p name number None) at (subst (λ (x : Bytes). n ≤ ids_by f u.place x number None) named (most (known u.place u.name number)))
    few_by place name number n (Some source) u at named most = most

    draw_onward : (n : ℕ) → (d : allowed.MayDraw f w k n) → Onward f k t [] (with_given w k (λ (x : Ticket). record x { first = w.next_id; drawn = n }) (fin.get w.tickets k))
    draw_onward n d =
        anew [] (λ (x : Ticket). record x { first = w.next_id; drawn = n }) (record { same = refl; work = inl refl; drew = λ index number is. inr (ap (λ (x : Ticket). x.drawn) (sym mine) ∙ d.once); raised = inl refl })
        (λ few index number is. few_by t.place t.name number n t.source t refl refl (subst (λ (x : Ticket). MostDrawn f x number n x.source) mine (d.most index number (ap (λ (x : Ticket). x.work) mine ∙ is))))
        (alike f t (record t { first = w.next_id; drawn = n }) refl refl refl refl refl refl) (fin.get w.tickets k) there
      where
        mine : d.t ≡ t
        mine = same_out d.t d.out

    plan_onward : (shards : List PrunedShard) (uuids : List ℕ) → t.work ≡ Deleting uuids None → t.settled ≡ false → AreOfRoot t.root shards → ReadsBack f.root (deleted_root t.root uuids shards w.next_id)
        → Onward f k t [] (with_given w k (planned f shards w.next_id) (fin.get w.tickets k))
    plan_onward shards uuids is unsettled of_root back =
        anew [] (planned f shards w.next_id)
        (record {
          same = refl;
          work = inr (uuids, delete_swap f t.clean t.root t.read uuids shards w.next_id, is, plans);
          drew = λ index number shard. absurd (clash index number shard);
          raised = inl refl;
        })
        (λ few index number shard. absurd (clash_after index number shard))
        (early f t [] (planned f shards w.next_id t) refl (sym (append-nil t.listed)) (λ few. now_planned) unsettled)
        (fin.get w.tickets k) there
      where
        plans : planned_work f t shards w.next_id t.work ≡ Deleting uuids (Some (delete_swap f t.clean t.root t.read uuids shards w.next_id))
        plans = ap (planned_work f t shards w.next_id) is

        same_swap : (us : List ℕ) (a b : Swap) → Deleting uuids (Some a) ≡ Deleting us (Some b) → a ≡ b
        same_swap us a b e = cc

        same_uuids : (us : List ℕ) (a b : Swap) → Deleting uuids (Some a) ≡ Deleting us (Some b) → uuids ≡ us
        same_uuids us a b e = cc

        plan : Swap
        plan = delete_swap f t.clean t.root t.read uuids shards w.next_id

        is_plan : IsPlan t.root uuids plan
        is_plan = record {
          shards = shards;
          first = w.next_id;
          of_root = of_root;
          few = few_blobs f t.read (left_uuids uuids (uuids_of t.root)) w.next_id shards;
          root_is = refl;
          one_each = f.one_each (f.root.text (deleted_root t.root uuids shards w.next_id)) (deleted_root t.root uuids shards w.next_id) back;
        }

        now_planned : Planned (planned f shards w.next_id t)
        now_planned us s now =
            let same : Deleting uuids (Some plan) ≡ Deleting us (Some s) = sym plans ∙ now in
            subst (IsPlan t.root us) (same_swap us plan s same) (subst (λ (u : List ℕ). IsPlan t.root u plan) (same_uuids us plan s same) is_plan)

        clash : (index number : ℕ) → t.work ≡ Shard index number → ⊥
        clash index number shard = let no : Deleting uuids None ≡ Shard index number = sym is ∙ shard in cc

        clash_after : (index number : ℕ) → planned_work f t shards w.next_id t.work ≡ Shard index number → ⊥
        clash_after index number shard = let no : Deleting uuids (Some (delete_swap f t.clean t.root t.read uuids shards w.next_id)) ≡ Shard index number = sym plans ∙ shard in cc

    -- ---- each step

    -- an own step makes this of the ticket, and is one that it may do
    abbrev pub OwnStep : Step → Reply → World → Type 0
    OwnStep step reply up = Onward f k t (page_of step reply) up × MayDo f size t (key step)

    single : (x : Key) → Has single_keys x → MayDo f size t x
    single x h = inl (Has-left single_keys (own_keys f size t) x h)

    begins : (name : BlobName) → Has (names_of f size t) name → MayDo f size t (BeginKey name)
    begins name h =
        inl (Has-right single_keys (own_keys f size t) (BeginKey name)
        (Has-right (map FetchKey (fetch_names t t.work)) (name_keys f size t) (BeginKey name) (Has-left (map BeginKey (names_of f size t)) (map CommitKey (names_of f size t)) (BeginKey name) (Has-map BeginKey (names_of f size t) name h))))

    commits : (name : BlobName) → Has (names_of f size t) name → MayDo f size t (CommitKey name)
    commits name h =
        inl (Has-right single_keys (own_keys f size t) (CommitKey name)
        (Has-right (map FetchKey (fetch_names t t.work)) (name_keys f size t) (CommitKey name) (Has-right (map BeginKey (names_of f size t)) (map CommitKey (names_of f size t)) (CommitKey name) (Has-map CommitKey (names_of f size t) name h))))

    fetches : (name : BlobName) → Has (fetch_names t t.work) name → MayDo f size t (FetchKey name)
    fetches name h =
        inl (Has-right single_keys (own_keys f size t) (FetchKey name) (Has-left (map FetchKey (fetch_names t t.work)) (name_keys f size t) (FetchKey name) (Has-map FetchKey (fetch_names t t.work) name h)))

    commit_named : (name : BlobName) → Commits f size w k name → Has (names_of f size t) name
    commit_named name c = subst (λ (x : Ticket). Has (names_of f size x) name) (same_out c.t c.out) (may_named f size known c.t name c.bytes c.may c.numbered)

    found_named : (name : BlobName) → allowed.Refinds f w k name → Has (names_of f size t) name
    found_named name r =
        subst (λ (x : Ticket). Has (names_of f size x) name) (same_out r.t r.out)
        (own_named f size known r.t (record { root = finalized_root r.t.root r.info r.results; own = metadata f r.info; commands = r.made ∷ [] }) name r.bytes (ap (λ work. swap_of f work r.t.root) r.work) r.own)

    fetch_listed : (name : BlobName) → allowed.Fetches f w k name → MayDo f size t (FetchKey name)
    fetch_listed name g = fetches name (subst (λ (x : Ticket). Has (fetch_names x x.work) name) (same_out g.t g.out) (fetch_named f size known g.t name g.to_fetch))

    of_delete : (u : Ticket) (uuids : List ℕ) (plan : Option Swap) → IsOut w k u → u.work ≡ Deleting uuids plan → IsDelete t.work
    of_delete u uuids plan out work = subst (λ (x : Ticket). IsDelete x.work) (same_out u out) (subst IsDelete (sym work) tt)

    plans_of : (u : Ticket) (uuids : List ℕ) → IsOut w k u → u.work ≡ Deleting uuids None → t.work ≡ Deleting uuids None
    plans_of u uuids out work = ap (λ (x : Ticket). x.work) (sym (same_out u out)) ∙ work

    -- a removal
    removes : (names : List BlobName) → IsDelete t.work → MayDo f size t (key (PruneStep (RemoveDoomed names)))
    removes [] delete = single NoneKey (inr (inr (inr (inr (inr (inr (inr (inl refl))))))))
    removes (name ∷ names) delete = inr (tt, delete)

  pruning_step : (k : ℕ) (t : Ticket) (there : fin.get w.tickets k ≡ Some t) (prune : Prune) (reply : Reply) (image : Option Image) → PruneAllows f w k prune reply image
      → OwnStep k t there (PruneStep prune) reply (answered f w k (PruneStep prune) reply image)
  pruning_step k t there prune reply image (allowed.FetchingShard j name im g found) =
      (fetch_onward k t there name (told_blob f im name) (early_fetch k t there g.t g.deleting.out g.unsettled), inr (tt, of_delete k t there g.t g.uuids None g.deleting.out g.deleting.work))
  pruning_step k t there prune reply image (allowed.ShardMissing j name im g gone) = (as_before k t there, inr (tt, of_delete k t there g.t g.uuids None g.deleting.out g.deleting.work))
  pruning_step k t there prune reply image (allowed.FetchShardFails j name im g same) = (as_before k t there, inr (tt, of_delete k t there g.t g.uuids None g.deleting.out g.deleting.work))
  pruning_step k t there prune reply image (allowed.Planning j shards im p fits back same) = (
    besides k t there (with_given w k (planned f shards w.next_id) (fin.get w.tickets k)) (record (with_given w k (planned f shards w.next_id) (fin.get w.tickets k)) { next_id = w.next_id + kept_count shards }) refl
        (plan_onward k t there shards p.uuids (plans_of k t there p.t p.uuids p.deleting.out p.deleting.work) (unsettled_of k t there p.t p.deleting.out p.unsettled)
        (subst (λ (x : Ticket). AreOfRoot x.root shards) (same_out k t there p.t p.deleting.out) p.of_root) (subst (λ (x : Ticket). ReadsBack f.root (deleted_root x.root p.uuids shards w.next_id)) (same_out k t there p.t p.deleting.out) back)),
    single k t there PlanKey (inr (inr (inr (inr (inr (inl refl)))))),
  )
  pruning_step k t there prune reply image (allowed.PlanSpent j shards im p spent same) = (as_before k t there, single k t there PlanKey (inr (inr (inr (inr (inr (inl refl)))))))
  pruning_step k t there prune reply image (allowed.SettlingDelete j im s present same) = (delete_settled_onward k t there s.t s.may.out s.may.unsettled, single k t there PrunedKey (inr (inr (inr (inr (inr (inr (inl refl))))))))
  pruning_step k t there prune reply image (allowed.SettleDeleteStale j im s apart same) = (as_before k t there, single k t there PrunedKey (inr (inr (inr (inr (inr (inr (inl refl))))))))
  pruning_step k t there prune reply image (allowed.SettleDeleteFails j im s present same) =
      let up : World = delete_settled f w k (fin.get w.tickets k) in
      (fallen_onward k t there up w (has_text im (f.cluster.text (record_of up))) (delete_settled_onward k t there s.t s.may.out s.may.unsettled) (as_before k t there), single k t there PrunedKey (inr (inr (inr (inr (inr (inr (inl refl))))))))
  pruning_step k t there prune reply image (allowed.RemovingDoomed j names im r removed) = (as_before k t there, removes k t there names (of_delete k t there r.t r.uuids (Some r.s) r.deleting.out r.deleting.work))
  pruning_step k t there prune reply image (allowed.RemoveDoomedFails j names im r removes_some) = (as_before k t there, removes k t there names (of_delete k t there r.t r.uuids (Some r.s) r.deleting.out r.deleting.work))
  pruning_step k t there prune reply image (allowed.EndingDelete j im d same) = (ends_given k t there, single k t there EndKey end_single)
  pruning_step k t there prune reply image (allowed.FailingDelete j why im d same) = (delete_failed_onward k t there, single k t there EndKey end_single)

  pub own_step : (k : ℕ) (t : Ticket) (there : fin.get w.tickets k ≡ Some t) (step : Step) (reply : Reply) (image : Option Image) → IsUnits step → Allows f size w k step reply image
      → OwnStep k t there step reply (answered f w k step reply image)
  own_step k t there (PruneStep prune) reply image unit (allowed.Pruning j p rep im h) = pruning_step k t there prune reply image h
  own_step k t there (DrawStep n) reply image unit (allowed.Drawing j m first im d same) = (
    besides k t there (with_given w k (λ (x : Ticket). record x { first = w.next_id; drawn = n }) (fin.get w.tickets k))
        (record (with_given w k (λ (x : Ticket). record x { first = w.next_id; drawn = n }) (fin.get w.tickets k)) { next_id = w.next_id + n }) refl (draw_onward k t there n d.may),
    single k t there DrawKey (inl refl),
  )
  own_step k t there (DrawStep n) reply image unit (allowed.DrawSpent j m im d spent same) = (as_before k t there, single k t there DrawKey (inl refl))
  own_step k t there (BeginStep name) reply image unit (allowed.Beginning j n im b same) = (as_before k t there, begins k t there name (commit_named k t there name b))
  own_step k t there (BeginStep name) reply image unit (allowed.BeginningLatest j im p same) = (as_before k t there, single k t there (BeginKey Latest) latest_single)
  own_step k t there (BeginStep name) reply image unit (allowed.BeginFails j n im b same) = (either_onward k t there (tried w k) w (is_latest name) (tried_onward k t there) (as_before k t there), begins k t there name (commit_named k t there name b))
  own_step k t there (BeginStep name) reply image unit (allowed.BeginLatestFails j im p same) = (tried_onward k t there, single k t there (BeginKey Latest) latest_single)
  own_step k t there (CommitStep name) reply image unit (allowed.Committing j n im b adds) = (commit_onward k t there name (told_blob f image name), commits k t there name (commit_named k t there name b))
  own_step k t there (CommitStep name) reply image unit (allowed.Finding j n im b found) = (note_onward k t there name, commits k t there name (found_named k t there name b))
  own_step k t there (CommitStep name) reply image unit (allowed.Taken j n im b aside found) = (as_before k t there, commits k t there name (commit_named k t there name b))
  own_step k t there (CommitStep name) reply image unit (allowed.CommitFails j n im b leaves) = (as_before k t there, commits k t there name (commit_named k t there name b))
  own_step k t there LatestStep reply image unit (allowed.Replacing j im p named put) = (tried_onward k t there, single k t there LatestKey (inr (inl refl)))
  own_step k t there LatestStep reply image unit (allowed.ReplaceFails j im p named puts) = (tried_onward k t there, single k t there LatestKey (inr (inl refl)))
  own_step k t there (FetchStep name) reply image unit (allowed.Fetching j n im g found) = (fetch_onward k t there name (told_blob f image name) (shard_fetch k t there name g.t g.out g.to_fetch), fetch_listed k t there name g)
  own_step k t there (FetchStep name) reply image unit (allowed.Missing j n im g gone) = (as_before k t there, fetch_listed k t there name g)
  own_step k t there (FetchStep name) reply image unit (allowed.FetchFails j n im g same) = (as_before k t there, fetch_listed k t there name g)
  own_step k t there (ListStep from) reply image unit (allowed.Listing j after page im g shape here) = (
    anew k t there page (λ (x : Ticket). listing x page) (still t (listing t page) refl refl refl refl refl) (λ few. few)
        (early f t page (listing t page) refl refl (λ few. few) (unsettled_of k t there g.t g.out g.unsettled)) (fin.get w.tickets k) there,
    inr (tt, of_delete k t there g.t g.uuids g.plan g.out g.work),
  )
  own_step k t there (ListStep from) reply image unit (allowed.ListFails j after im g same) = (as_before k t there, inr (tt, of_delete k t there g.t g.uuids g.plan g.out g.work))
  own_step k t there RaiseStep reply image unit (allowed.Raising j n im r same) = (raise_onward k t there r.may, single k t there RaiseKey (inr (inr (inl refl))))
  own_step k t there RaiseStep reply image unit (allowed.RaiseStale j im r apart same) = (as_before k t there, single k t there RaiseKey (inr (inr (inl refl))))
  own_step k t there RaiseStep reply image unit (allowed.RaiseSpent j im r present spent same) = (as_before k t there, single k t there RaiseKey (inr (inr (inl refl))))
  own_step k t there RaiseStep reply image unit (allowed.RaiseFails j im r same) =
      (fallen_onward k t there (raised w k) w (has_text image (f.cluster.text (record_of (raised w k)))) (raise_onward k t there r.may) (as_before k t there), single k t there RaiseKey (inr (inr (inl refl))))
  own_step k t there SettleStep reply image unit (allowed.Settling j im s same) = (settled_onward k t there s.t s.may.out s.may.unsettled, single k t there SettleKey (inr (inr (inr (inl refl)))))
  own_step k t there SettleStep reply image unit (allowed.SettleStale j n u s im may apart same) = (as_before k t there, single k t there SettleKey (inr (inr (inr (inl refl)))))
  own_step k t there SettleStep reply image unit (allowed.SettleFails j im s same) =
      let up : World = settled_of f w k (fin.get w.tickets k) in
      (fallen_onward k t there up w (has_text image (f.cluster.text (record_of up))) (settled_onward k t there s.t s.may.out s.may.unsettled) (as_before k t there), single k t there SettleKey (inr (inr (inr (inl refl)))))
  own_step k t there (DoneStep result) reply image unit (allowed.Doing j r im d same) = (done_onward k t there result, single k t there EndKey end_single)
  own_step k t there (FailedStep why) reply image unit (allowed.Failing j y im d same) = (failed_onward k t there, single k t there EndKey end_single)
  own_step k t there FinishStep reply image unit (allowed.Finishing j im d same) = (ends_given k t there, single k t there EndKey end_single)
  own_step k t there DroppedStep reply image unit (allowed.Dropping j im d same) = (dropped_onward k t there, single k t there DropKey (inr (inr (inr (inr (inl refl))))))
  own_step k t there DroppedStep reply image unit (allowed.DropStale j im may apart same) = (as_before k t there, single k t there DropKey (inr (inr (inr (inr (inl refl))))))
  own_step k t there DroppedStep reply image unit (allowed.DropFails j im d same) =
      let up : World = dropped_of w k (fin.get w.tickets k) in
      (fallen_onward k t there up w (has_text image (f.cluster.text (record_of up))) (dropped_onward k t there) (as_before k t there), single k t there DropKey (inr (inr (inr (inr (inl refl))))))
  own_step k t there step reply image unit a = absurd unit
