-- What each change of tickets, ids and the term leaves of the order of a world.
use Rattle.std.proofs.Common.{◌≡◌, ◌≢◌, ◌⊎◌, ℕ, suc, ◌+◌, ◌<◌, ◌≤◌, List, Bool, true, false, Some, refl, sym, ap, ◌∙◌, subst, inl, inr, arith, Option, nat_cmp}
use Rattle.std.specs.FinMap.{FinMap}
use Rattle.std.specs.FinMap as fin
use Rattle.std.proofs.lemmas.Option.{same_Some}
use Rattle.esr_core.specs.Laws.NumberMaps.{was_in, same_in, other_in, split_at}
use Rattle.esr_model.specs.Names.{BlobName}
use Rattle.esr_model.specs.Values.{SnapInfo, ShardResult, RootData}
use Rattle.esr_model.specs.Shelf.{Command}
use Rattle.esr_model.specs.Kept.{first_id}
use Rattle.esr_model.specs.Image.{Blobs}
use Rattle.esr_core.specs.World.{World, Finalize, Drop, Ticket, Deletion, Deleting, Swap}
use Rattle.esr_core.specs.Ready.{IsShard, IsMaster, SwapIsOut}
use Rattle.esr_core.specs.Tracked.{ShardTracked, FinalTracked, DropTracked, Tracked, IsWithin, DeleteTracked, CleanTracked}
use Rattle.esr_core.specs.Laws.Maps.{Ops}
use Rattle.esr_core.specs.Laws.NameLaws.{named_up}
use Rattle.esr_core.specs.Laws.IdBounds.{root_up}
use Rattle.esr_core.proofs.Besides.{tracked_besides}

-- what isn't read of a world
pub tracked_aside : (w : World) → Tracked w → (blobs : Blobs) (safe pending : ℕ) (completed : List ℕ) (doomed : List BlobName) (deposed : Bool)
    → Tracked (record w { blobs = blobs; safe = safe; pending = pending; completed = completed; doomed = doomed; deposed = deposed })
tracked_aside w l blobs safe pending completed doomed deposed =
    tracked_besides w l blobs safe pending completed doomed deposed w.restores w.readers w.caller w.entries w.next_op w.next_ticket (omega arith) (omega arith)

-- ---- a ticket given anew

pub record Follows (t v : Ticket) : Type 0 where
  pub work : v.work ≡ t.work
  pub op : v.op ≡ t.op
  pub uuid : v.uuid ≡ t.uuid
  pub place : v.place ≡ t.place
  pub name : v.name ≡ t.name
  pub source : v.source ≡ t.source
  pub term : v.term ≡ t.term
  pub root : v.root ≡ t.root
  pub clean : v.clean ≡ t.clean
  pub out : v.out ≡ true → t.out ≡ true
  pub settled : v.settled ≡ false → t.settled ≡ false
  -- a shard's stays out
  pub shard : IsShard t.work → t.out ≡ true → v.out ≡ true

pub follows_same : (t : Ticket) → Follows t t
follows_same t = record { work = refl; op = refl; uuid = refl; place = refl; name = refl; source = refl; term = refl; root = refl; clean = refl; out = λ e. e; settled = λ e. e; shard = λ s e. e }

shard_follows : (ops : Ops) (j : ℕ) (t v : Ticket) (i n : ℕ) → Follows t v → ShardTracked ops j t i n → ShardTracked ops j v i n
shard_follows ops j t v i n f h =
    record {
      op = h.op;
      op_there = ap (fin.get ops) f.op ∙ h.op_there;
      uuid_is = f.uuid ∙ h.uuid_is;
      source_is = f.source ∙ h.source_is;
      s = h.s;
      s_there = h.s_there;
      state = h.state;
      index_is = h.index_is;
      number_is = h.number_is;
      place_is = h.place_is ∙ sym f.place;
      name_is = h.name_is ∙ sym f.name;
    }

delete_follows : (root : RootData) (deletes : FinMap nat_cmp Deletion) (next : ℕ) (t v : Ticket) (plan : Option Swap) → Follows t v → DeleteTracked root deletes next t plan → DeleteTracked root deletes next v plan
delete_follows root deletes next t v plan f h = record { x = h.x; there = ap (fin.get deletes) f.op ∙ h.there; unfailed = h.unfailed; root_is = f.root ∙ h.root_is; planned = h.planned }

-- with more ids
pub delete_up : (root : RootData) (deletes : FinMap nat_cmp Deletion) (c d : ℕ) (t : Ticket) (plan : Option Swap) → c ≤ d → DeleteTracked root deletes c t plan → DeleteTracked root deletes d t plan
delete_up root deletes c d t plan le h =
    record { x = h.x; there = h.there; unfailed = h.unfailed; root_is = h.root_is; planned = λ s e. let p = h.planned s e in record { shrinks = p.shrinks; below = root_up s.root c d le p.below } }

module _ (w : World) (l : Tracked w) (k : ℕ) (t v : Ticket) (there : fin.get w.tickets k ≡ Some t) (like : Follows t v) (drawn : v.first + v.drawn ≤ w.next_id) where
  -- each ticket follows one that was
  was : (j : ℕ) (u : Ticket) → fin.get (fin.insert w.tickets k v) j ≡ Some u → (x : Ticket) × (fin.get w.tickets j ≡ Some x) × Follows x u
  was j u e = elim (was_in w.tickets k v j u e) [ inl h ↦ (t, ap (fin.get w.tickets) h.0 ∙ there, subst (Follows t) h.1 like) | inr h ↦ (u, h.1, follows_same u) ]

  held_by : (o j : ℕ) → (h : Ticket) → fin.get w.tickets j ≡ Some h → IsShard h.work → h.out ≡ true → (u : Ticket) × (fin.get (fin.insert w.tickets k v) j ≡ Some u) × Follows h u × (u.out ≡ true)
  held_by o j h e shard out = elim (split_at j k) [
    | inl same ↦
        let one : t ≡ h = same_Some _ _ (sym there ∙ ap (fin.get w.tickets) (sym same) ∙ e) in
        let f : Follows h v = subst (λ x. Follows x v) one like in
        (v, ap (fin.get (fin.insert w.tickets k v)) same ∙ same_in w.tickets k v, f, f.shard shard out)
    | inr away ↦ (h, other_in w.tickets k v j away ∙ e, follows_same h, out)
  ]

  swap_was : (j : ℕ) → SwapIsOut (fin.insert w.tickets k v) w.term j → SwapIsOut w.tickets w.term j
  swap_was j h = let (x, xt, f) = was j h.t h.there in record { t = x; there = xt; out = f.out h.out; unsettled = f.settled h.unsettled; present = sym f.term ∙ h.present; swaps = subst IsMaster f.work h.swaps }

  pub tracked_ticket : Tracked (record w { tickets = fin.insert w.tickets k v })
  tracked_ticket =
      record {
        numbers = l.numbers;
        delete_numbers = l.delete_numbers;
        apart = l.apart;
        tickets = λ j u e. elim (was_in w.tickets k v j u e) [
          | inl h ↦
              let x = l.tickets k t there in
              subst (λ (y : Ticket). (j < w.next_ticket) × (y.term ≤ w.term) × (y.first + y.drawn ≤ w.next_id)) h.1 (subst (λ i. i < w.next_ticket) (sym h.0) x.0, subst (λ y. y ≤ w.term) (sym like.term) x.1, drawn)
          | inr h ↦ l.tickets j u h.1
        ];
        begun = λ j u e. let (x, xt, f) = was j u e in subst (λ y. y < w.next_op) (sym f.op) (l.begun j x xt);
        first_ticket = l.first_ticket;
        shards = λ j u i n e out is. let (x, xt, f) = was j u e in shard_follows w.ops j x u i n f (l.shards j x i n xt (f.out out) (sym f.work ∙ is));
        held = λ o op s j e m state.
            let h = l.held o op s j e m state in
            let (u, ut, f, out) = held_by o j h.t h.there (subst IsShard (sym h.work) tt) h.out in
            record { t = u; there = ut; out = out; op_is = f.op ∙ h.op_is; work = f.work ∙ h.work };
        finals = λ j u info rs made e out uns pres is.
            let (x, xt, f) = was j u e in
            let h = l.finals j x info rs made xt (f.out out) (f.settled uns) (sym f.term ∙ pres) (sym f.work ∙ is) in
            record { op = h.op; op_there = ap (fin.get w.ops) f.op ∙ h.op_there; done = h.done; goes = h.goes; uuid_is = f.uuid ∙ h.uuid_is; info_is = h.info_is; root_is = f.root ∙ h.root_is };
        drops = λ j u e out pres is.
            let (x, xt, f) = was j u e in
            let h = l.drops j x xt (f.out out) (sym f.term ∙ pres) (sym f.work ∙ is) in
            record {
              stopped = λ op ot. h.stopped op (ap (fin.get w.ops) (sym f.op) ∙ ot);
              idle = λ i y e out shard same. let (z, zt, g) = was i y e in h.idle i z zt (g.out out) (subst IsShard g.work shard) (sym g.op ∙ same ∙ f.op);
              failed = λ y yt. h.failed y (ap (fin.get w.deletes) (sym f.op) ∙ yt);
            };
        deleting = λ j u uuids plan e out uns pres is.
            let (x, xt, f) = was j u e in
            delete_follows w.root w.deletes w.next_id x u plan f (l.deleting j x uuids plan xt (f.out out) (f.settled uns) (sym f.term ∙ pres) (sym f.work ∙ is));
        deletions = record {
          modes = λ j u uuids plan e is x at. let (y, yt, f) = was j u e in l.deletions.modes j y uuids plan yt (sym f.work ∙ is) x (ap (fin.get w.deletes) (sym f.op) ∙ at) ∙ sym f.clean;
          cleaning = λ j u e out pres clean.
              let (y, yt, f) = was j u e in
              let h = l.deletions.cleaning j y yt (f.out out) (sym f.term ∙ pres) (sym f.clean ∙ clean) in
              record {
                x = h.x;
                there = ap (fin.get w.deletes) f.op ∙ h.there;
                cleans = h.cleans;
                unfailed = h.unfailed;
                alone = λ i z uuids plan ze zout zpres zis same. let (a, at, g) = was i z ze in h.alone i a uuids plan at (g.out zout) (sym g.term ∙ zpres) (sym g.work ∙ zis) (sym g.op ∙ same ∙ f.op);
              };
        };
        one_swap = λ i j a b. l.one_swap i j (swap_was i a) (swap_was j b);
        named = l.named;
        in_term = record { from = l.in_term.from; below = l.in_term.below };
      }

-- ---- a new ticket, of no shard

-- of a delete or cleanup: its op is a cleanup where it is one's, and no other ticket of the present term has it where one of them is a cleanup's
pub record NewMode (w : World) (v : Ticket) : Type 0 where
  pub x : Deletion
  pub there : fin.get w.deletes v.op ≡ Some x
  pub unfailed : x.failed ≡ false
  pub mode : x.clean ≡ v.clean
  pub alone : v.clean ≡ true → (k : ℕ) (t : Ticket) → fin.get w.tickets k ≡ Some t → t.out ≡ true → ⊥
  pub aside : (k : ℕ) (t : Ticket) → fin.get w.tickets k ≡ Some t → t.out ≡ true → t.term ≡ w.term → t.clean ≡ true → t.op ≢ v.op

module _ (w : World) (l : Tracked w) (v : Ticket) (term : v.term ≤ w.term) (drawn : v.first + v.drawn ≤ w.next_id) (begun : v.op < w.next_op) (no_shard : IsShard v.work → ⊥)
    (final : (info : SnapInfo) (results : List ShardResult) (made : Command) → v.work ≡ Finalize info results made → FinalTracked w.root w.ops v info results)
    (drop : v.work ≡ Drop → DropTracked w.ops w.deletes w.tickets v) (alone : IsMaster v.work → (k : ℕ) → SwapIsOut w.tickets w.term k → ⊥)
    (fresh : (uuids : List ℕ) (plan : Option Swap) → v.work ≡ Deleting uuids plan → DeleteTracked w.root w.deletes w.next_id v plan) (mode : (uuids : List ℕ) (plan : Option Swap) → v.work ≡ Deleting uuids plan → NewMode w v)
    (plain : v.clean ≡ true → (uuids : List ℕ) × (plan : Option Swap) × (v.work ≡ Deleting uuids plan)) where
  stays : (j : ℕ) (u : Ticket) → fin.get w.tickets j ≡ Some u → fin.get (fin.insert w.tickets w.next_ticket v) j ≡ Some u
  stays j u e = other_in w.tickets w.next_ticket v j (λ q. let b : j < w.next_ticket = (l.tickets j u e).0 in omega (arith, b, q)) ∙ e

  idle_on : (u : Ticket) → DropTracked w.ops w.deletes w.tickets u → DropTracked w.ops w.deletes (fin.insert w.tickets w.next_ticket v) u
  idle_on u d =
      record {
        stopped = d.stopped;
        idle = λ i y e out shard. elim (was_in w.tickets w.next_ticket v i y e) [ inl h ↦ absurd (no_shard (subst (λ (z : Ticket). IsShard z.work) (sym h.1) shard)) | inr h ↦ d.idle i y h.1 out shard ];
        failed = d.failed;
      }

  swap_is : (j : ℕ) → SwapIsOut (fin.insert w.tickets w.next_ticket v) w.term j → ((j ≡ w.next_ticket) × IsMaster v.work) ⊎ SwapIsOut w.tickets w.term j
  swap_is j s = elim (was_in w.tickets w.next_ticket v j s.t s.there) [
    | inl h ↦ inl (h.0, subst (λ (z : Ticket). IsMaster z.work) (sym h.1) s.swaps)
    | inr h ↦ inr (record { t = s.t; there = h.1; out = s.out; unsettled = s.unsettled; present = s.present; swaps = s.swaps })
  ]

  clean_new : v.clean ≡ true → CleanTracked w.term w.deletes (fin.insert w.tickets w.next_ticket v) w.next_ticket v
  clean_new clean =
      let (uuids, plan, work) = plain clean in
      let m = mode uuids plan work in
      record {
        x = m.x;
        there = m.there;
        cleans = m.mode ∙ clean;
        unfailed = m.unfailed;
        alone = λ i y us p e out pres is same. elim (was_in w.tickets w.next_ticket v i y e) [ inl h ↦ h.0 | inr h ↦ absurd (m.alone clean i y h.1 out) ];
      }

  clean_on : (j : ℕ) (u : Ticket) → fin.get w.tickets j ≡ Some u → u.out ≡ true → u.term ≡ w.term → u.clean ≡ true → CleanTracked w.term w.deletes w.tickets j u
      → CleanTracked w.term w.deletes (fin.insert w.tickets w.next_ticket v) j u
  clean_on j u e out pres clean c =
      record {
        x = c.x;
        there = c.there;
        cleans = c.cleans;
        unfailed = c.unfailed;
        alone = λ i y us p ye yout ypres is same. elim (was_in w.tickets w.next_ticket v i y ye) [
          | inl h ↦ absurd ((mode us p (ap (λ (z : Ticket). z.work) h.1 ∙ is)).aside j u e out pres clean (sym (ap (λ (z : Ticket). z.op) h.1 ∙ same)))
          | inr h ↦ c.alone i y us p h.1 yout ypres is same
        ];
      }

  pub tracked_new : Tracked (record w { tickets = fin.insert w.tickets w.next_ticket v; next_ticket = suc w.next_ticket })
  tracked_new =
      record {
        numbers = l.numbers;
        delete_numbers = l.delete_numbers;
        apart = l.apart;
        tickets = λ j u e. elim (was_in w.tickets w.next_ticket v j u e) [
          | inl h ↦ let same : j ≡ w.next_ticket = h.0 in subst (λ (y : Ticket). (j < suc w.next_ticket) × (y.term ≤ w.term) × (y.first + y.drawn ≤ w.next_id)) h.1 (omega (arith, same), term, drawn)
          | inr h ↦ let x = l.tickets j u h.1 in let b : j < w.next_ticket = x.0 in (omega (arith, b), x.1, x.2)
        ];
        begun = λ j u e. elim (was_in w.tickets w.next_ticket v j u e) [ inl h ↦ subst (λ (y : Ticket). y.op < w.next_op) h.1 begun | inr h ↦ l.begun j u h.1 ];
        first_ticket = omega arith;
        shards = λ j u i n e out is. elim (was_in w.tickets w.next_ticket v j u e) [
          | inl h ↦ absurd (no_shard (subst IsShard (sym (ap (λ (y : Ticket). y.work) h.1 ∙ is)) tt))
          | inr h ↦ l.shards j u i n h.1 out is
        ];
        held = λ o op s j e m state. let h = l.held o op s j e m state in record { t = h.t; there = stays j h.t h.there; out = h.out; op_is = h.op_is; work = h.work };
        finals = λ j u info rs made e out uns pres is. elim (was_in w.tickets w.next_ticket v j u e) [
          | inl h ↦ subst (λ (y : Ticket). FinalTracked w.root w.ops y info rs) h.1 (final info rs made (ap (λ (y : Ticket). y.work) h.1 ∙ is))
          | inr h ↦ l.finals j u info rs made h.1 out uns pres is
        ];
        drops = λ j u e out pres is. elim (was_in w.tickets w.next_ticket v j u e) [
          | inl h ↦ subst (DropTracked w.ops w.deletes (fin.insert w.tickets w.next_ticket v)) h.1 (idle_on v (drop (ap (λ (y : Ticket). y.work) h.1 ∙ is)))
          | inr h ↦ idle_on u (l.drops j u h.1 out pres is)
        ];
        deleting = λ j u uuids plan e out uns pres is. elim (was_in w.tickets w.next_ticket v j u e) [
          | inl h ↦ subst (λ (y : Ticket). DeleteTracked w.root w.deletes w.next_id y plan) h.1 (fresh uuids plan (ap (λ (y : Ticket). y.work) h.1 ∙ is))
          | inr h ↦ l.deleting j u uuids plan h.1 out uns pres is
        ];
        deletions = record {
          modes = λ j u uuids plan e is x at. elim (was_in w.tickets w.next_ticket v j u e) [
            | inl h ↦
                let m = mode uuids plan (ap (λ (y : Ticket). y.work) h.1 ∙ is) in
                ap (λ (y : Deletion). y.clean) (same_Some x m.x (sym at ∙ ap (λ (y : Ticket). fin.get w.deletes y.op) (sym h.1) ∙ m.there)) ∙ m.mode ∙ ap (λ (y : Ticket). y.clean) h.1
            | inr h ↦ l.deletions.modes j u uuids plan h.1 is x at
          ];
          cleaning = λ j u e out pres clean. elim (was_in w.tickets w.next_ticket v j u e) [
            | inl h ↦ subst (CleanTracked w.term w.deletes (fin.insert w.tickets w.next_ticket v) j) h.1
                (subst (λ (i : ℕ). CleanTracked w.term w.deletes (fin.insert w.tickets w.next_ticket v) i v) (sym h.0) (clean_new (ap (λ (y : Ticket). y.clean) h.1 ∙ clean)))
            | inr h ↦ clean_on j u h.1 out pres clean (l.deletions.cleaning j u h.1 out pres clean)
          ];
        };
        one_swap = λ i j a b. elim (swap_is i a) [
          | inl x ↦ elim (swap_is j b) [ inl y ↦ x.0 ∙ sym y.0 | inr y ↦ absurd (alone x.1 j y) ]
          | inr x ↦ elim (swap_is j b) [ inl y ↦ absurd (alone y.1 i x) | inr y ↦ l.one_swap i j x y ]
        ];
        named = l.named;
        in_term = record { from = l.in_term.from; below = l.in_term.below };
      }

-- ---- a delete that has its plan

module _ (w : World) (l : Tracked w) (k : ℕ) (t : Ticket) (there : fin.get w.tickets k ≡ Some t) (uuids : List ℕ) (p q : Option Swap) (work : t.work ≡ Deleting uuids p) (first n : ℕ) (drawn : first + n ≤ w.next_id)
    (within : t.out ≡ true → t.settled ≡ false → t.term ≡ w.term → (s : Swap) → q ≡ Some s → IsWithin w.root s.root w.next_id) where
  abbrev now : Ticket
  now = record t { first = first; drawn = n; work = Deleting uuids q }

  no_shard_now : IsShard (Deleting uuids q) → ⊥
  no_shard_now h = h

  plan_same : (us : List ℕ) (plan : Option Swap) → Deleting uuids q ≡ Deleting us plan → q ≡ plan
  plan_same us plan e = cc

  no_final : (info : SnapInfo) (results : List ShardResult) (made : Command) → Deleting uuids q ≡ Finalize info results made → ⊥
  no_final info results made e = cc

  no_drop : Deleting uuids q ≡ Drop → ⊥
  no_drop e = cc

  was_swap : (j : ℕ) → SwapIsOut (fin.insert w.tickets k (record t { first = first; drawn = n; work = Deleting uuids q })) w.term j → SwapIsOut w.tickets w.term j
  was_swap j h = elim (was_in w.tickets k now j h.t h.there) [
    | inl z ↦ record {
      t = t;
      there = ap (fin.get w.tickets) z.0 ∙ there;
      out = ap (λ (y : Ticket). y.out) z.1 ∙ h.out;
      unsettled = ap (λ (y : Ticket). y.settled) z.1 ∙ h.unsettled;
      present = ap (λ (y : Ticket). y.term) z.1 ∙ h.present;
      swaps = subst IsMaster (sym work) tt;
    }
    | inr z ↦ record { t = h.t; there = z.1; out = h.out; unsettled = h.unsettled; present = h.present; swaps = h.swaps }
  ]

  clean_now : (j : ℕ) (u : Ticket) → CleanTracked w.term w.deletes w.tickets j u → CleanTracked w.term w.deletes (fin.insert w.tickets k (record t { first = first; drawn = n; work = Deleting uuids q })) j u
  clean_now j u c =
      record {
        x = c.x;
        there = c.there;
        cleans = c.cleans;
        unfailed = c.unfailed;
        alone = λ i y us plan ye yout ypres is same. elim (was_in w.tickets k now i y ye) [
          | inl h ↦ h.0 ∙ c.alone k t uuids p there (ap (λ (z : Ticket). z.out) h.1 ∙ yout) (ap (λ (z : Ticket). z.term) h.1 ∙ ypres) work (ap (λ (z : Ticket). z.op) h.1 ∙ same)
          | inr h ↦ c.alone i y us plan h.1 yout ypres is same
        ];
      }

  clean_own : CleanTracked w.term w.deletes w.tickets k t → CleanTracked w.term w.deletes (fin.insert w.tickets k (record t { first = first; drawn = n; work = Deleting uuids q })) k (record t { first = first; drawn = n; work = Deleting uuids q })
  clean_own c = let n = clean_now k t c in record { x = n.x; there = n.there; cleans = n.cleans; unfailed = n.unfailed; alone = n.alone }

  pub tracked_planned : Tracked (record w { tickets = fin.insert w.tickets k (record t { first = first; drawn = n; work = Deleting uuids q }) })
  tracked_planned =
      record {
        numbers = l.numbers;
        delete_numbers = l.delete_numbers;
        apart = l.apart;
        tickets = λ j u e. elim (was_in w.tickets k now j u e) [
          | inl h ↦ let x = l.tickets k t there in subst (λ (y : Ticket). (j < w.next_ticket) × (y.term ≤ w.term) × (y.first + y.drawn ≤ w.next_id)) h.1 (subst (λ i. i < w.next_ticket) (sym h.0) x.0, x.1, drawn)
          | inr h ↦ l.tickets j u h.1
        ];
        begun = λ j u e. elim (was_in w.tickets k now j u e) [ inl h ↦ subst (λ (y : Ticket). y.op < w.next_op) h.1 (l.begun k t there) | inr h ↦ l.begun j u h.1 ];
        first_ticket = l.first_ticket;
        shards = λ j u i m e out is. elim (was_in w.tickets k now j u e) [
          | inl h ↦ absurd (no_shard_now (subst IsShard (sym (ap (λ (y : Ticket). y.work) h.1 ∙ is)) tt))
          | inr h ↦ l.shards j u i m h.1 out is
        ];
        held = λ o op s j e m state.
            let h = l.held o op s j e m state in
            let apart : j ≡ k → ⊥ = λ same. subst IsShard (sym h.work ∙ ap (λ (y : Ticket). y.work) (same_Some h.t t (sym h.there ∙ ap (fin.get w.tickets) same ∙ there)) ∙ work) tt in
            record { t = h.t; there = other_in w.tickets k now j apart ∙ h.there; out = h.out; op_is = h.op_is; work = h.work };
        finals = λ j u info rs made e out uns pres is. elim (was_in w.tickets k now j u e) [
          | inl h ↦ absurd (no_final info rs made (ap (λ (y : Ticket). y.work) h.1 ∙ is))
          | inr h ↦ l.finals j u info rs made h.1 out uns pres is
        ];
        drops = λ j u e out pres is. elim (was_in w.tickets k now j u e) [
          | inl h ↦ absurd (no_drop (ap (λ (y : Ticket). y.work) h.1 ∙ is))
          | inr h ↦
              let d = l.drops j u h.1 out pres is in
              record {
                stopped = d.stopped;
                idle = λ i y ye yout shard. elim (was_in w.tickets k now i y ye) [ inl z ↦ absurd (no_shard_now (subst (λ (x : Ticket). IsShard x.work) (sym z.1) shard)) | inr z ↦ d.idle i y z.1 yout shard ];
                failed = d.failed;
              }
        ];
        deleting = λ j u us plan e out uns pres is. elim (was_in w.tickets k now j u e) [
          | inl h ↦
              let o = ap (λ (y : Ticket). y.out) h.1 ∙ out in
              let s = ap (λ (y : Ticket). y.settled) h.1 ∙ uns in
              let r = ap (λ (y : Ticket). y.term) h.1 ∙ pres in
              let old = l.deleting k t uuids p there o s r work in
              let same : q ≡ plan = plan_same us plan (ap (λ (y : Ticket). y.work) h.1 ∙ is) in
              subst (λ (y : Ticket). DeleteTracked w.root w.deletes w.next_id y plan) h.1 (record { x = old.x; there = old.there; unfailed = old.unfailed; root_is = old.root_is; planned = λ swap at. within o s r swap (same ∙ at) })
          | inr h ↦ l.deleting j u us plan h.1 out uns pres is
        ];
        deletions = record {
          modes = λ j u us plan e is x at. elim (was_in w.tickets k now j u e) [
            | inl h ↦ l.deletions.modes k t uuids p there work x (ap (λ (y : Ticket). fin.get w.deletes y.op) h.1 ∙ at) ∙ ap (λ (y : Ticket). y.clean) h.1
            | inr h ↦ l.deletions.modes j u us plan h.1 is x at
          ];
          cleaning = λ j u e out pres clean. elim (was_in w.tickets k now j u e) [
            | inl h ↦
                subst (CleanTracked w.term w.deletes (fin.insert w.tickets k (record t { first = first; drawn = n; work = Deleting uuids q })) j) h.1
                (subst (λ (i : ℕ). CleanTracked w.term w.deletes (fin.insert w.tickets k (record t { first = first; drawn = n; work = Deleting uuids q })) i now) (sym h.0)
                (clean_own (l.deletions.cleaning k t there (ap (λ (y : Ticket). y.out) h.1 ∙ out) (ap (λ (y : Ticket). y.term) h.1 ∙ pres) (ap (λ (y : Ticket). y.clean) h.1 ∙ clean))))
            | inr h ↦ clean_now j u (l.deletions.cleaning j u h.1 out pres clean)
          ];
        };
        one_swap = λ i j a b. l.one_swap i j (was_swap i a) (was_swap j b);
        named = l.named;
        in_term = record { from = l.in_term.from; below = l.in_term.below };
      }

-- ---- a delete that has failed, of which no ticket is out

module _ (w : World) (l : Tracked w) (o : ℕ) (x : Deletion) (there : fin.get w.deletes o ≡ Some x)
    (idle : (k : ℕ) (t : Ticket) (uuids : List ℕ) (plan : Option Swap) → fin.get w.tickets k ≡ Some t → t.out ≡ true → t.settled ≡ false → t.term ≡ w.term → t.work ≡ Deleting uuids plan → t.op ≡ o → ⊥)
    (no_clean : (k : ℕ) (t : Ticket) → fin.get w.tickets k ≡ Some t → t.out ≡ true → t.term ≡ w.term → t.clean ≡ true → t.op ≢ o) where
  abbrev failed_one : Deletion
  failed_one = record x { failed = true }

  pub tracked_failed : Tracked (record w { deletes = fin.insert w.deletes o (record x { failed = true }) })
  tracked_failed =
      record {
        numbers = l.numbers;
        delete_numbers = λ d y e. elim (was_in w.deletes o failed_one d y e) [ inl h ↦ subst (λ n. n < w.next_op) (sym h.0) (l.delete_numbers o x there) | inr h ↦ l.delete_numbers d y h.1 ];
        apart = λ p op y e h. elim (was_in w.deletes o failed_one p y h) [ inl z ↦ l.apart o op x (ap (fin.get w.ops) (sym z.0) ∙ e) there | inr z ↦ l.apart p op y e z.1 ];
        tickets = l.tickets;
        begun = l.begun;
        first_ticket = l.first_ticket;
        shards = l.shards;
        held = l.held;
        finals = l.finals;
        drops = λ k t e out pres is. let d = l.drops k t e out pres is in record {
          stopped = d.stopped;
          idle = d.idle;
          failed = λ y yt. elim (was_in w.deletes o failed_one t.op y yt) [ inl h ↦ sym (ap (λ (z : Deletion). z.failed) h.1) | inr h ↦ d.failed y h.1 ];
        };
        deleting = λ k t uuids plan e out uns pres is.
            let h = l.deleting k t uuids plan e out uns pres is in
            record { x = h.x; there = other_in w.deletes o failed_one t.op (idle k t uuids plan e out uns pres is) ∙ h.there; unfailed = h.unfailed; root_is = h.root_is; planned = h.planned };
        deletions = record {
          modes = λ k t uuids plan e is y at. elim (was_in w.deletes o failed_one t.op y at) [
            | inl h ↦ sym (ap (λ (z : Deletion). z.clean) h.1) ∙ l.deletions.modes k t uuids plan e is x (ap (fin.get w.deletes) h.0 ∙ there)
            | inr h ↦ l.deletions.modes k t uuids plan e is y h.1
          ];
          cleaning = λ k t e out pres clean.
              let h = l.deletions.cleaning k t e out pres clean in
              record { x = h.x; there = other_in w.deletes o failed_one t.op (no_clean k t e out pres clean) ∙ h.there; cleans = h.cleans; unfailed = h.unfailed; alone = h.alone };
        };
        one_swap = l.one_swap;
        named = l.named;
        in_term = record { from = l.in_term.from; below = l.in_term.below };
      }

-- ---- ids and terms

-- ids drawn
pub tracked_drawn : (w : World) → Tracked w → (n : ℕ) → w.next_id + n < first_id (suc w.term) → Tracked (record w { next_id = w.next_id + n })
tracked_drawn w l n fits =
    record {
      numbers = l.numbers;
      delete_numbers = l.delete_numbers;
      apart = l.apart;
      tickets = λ k t e. let x = l.tickets k t e in let b : t.first + t.drawn ≤ w.next_id = x.2 in (x.0, x.1, omega (arith, b));
      begun = l.begun;
      first_ticket = l.first_ticket;
      shards = l.shards;
      held = l.held;
      finals = l.finals;
      drops = l.drops;
      deleting = λ k t uuids plan e out uns pres is. delete_up w.root w.deletes w.next_id (w.next_id + n) t plan (omega arith) (l.deleting k t uuids plan e out uns pres is);
      deletions = l.deletions;
      one_swap = l.one_swap;
      named = named_up w.root w.ops w.next_id (w.next_id + n) (omega arith) l.named;
      in_term = record { from = let b : first_id w.term ≤ w.next_id = l.in_term.from in omega (arith, b); below = fits };
    }

-- a new term: no ticket is of it
pub tracked_elect : (w : World) → Tracked w → Tracked (record w { term = suc w.term; next_id = first_id (suc w.term) })
tracked_elect w l =
    record {
      numbers = l.numbers;
      delete_numbers = l.delete_numbers;
      apart = l.apart;
      tickets = λ k t e. let x = l.tickets k t e in let a : t.term ≤ w.term = x.1 in let b : t.first + t.drawn ≤ w.next_id = x.2 in let c : w.next_id < first_id (suc w.term) = l.in_term.below in (x.0, omega (arith, a), omega (arith, b, c));
      begun = l.begun;
      first_ticket = l.first_ticket;
      shards = l.shards;
      held = l.held;
      finals = λ k t info rs made e out uns pres is. absurd (older k t e pres);
      drops = λ k t e out pres is. absurd (older k t e pres);
      deleting = λ k t uuids plan e out uns pres is. absurd (older k t e pres);
      deletions = record { modes = l.deletions.modes; cleaning = λ k t e out pres clean. absurd (older k t e pres) };
      one_swap = λ i j a b. absurd (older i a.t a.there a.present);
      named = named_up w.root w.ops w.next_id (first_id (suc w.term)) (let c : w.next_id < first_id (suc w.term) = l.in_term.below in omega (arith, c)) l.named;
      in_term = record { from = omega arith; below = omega arith };
    }
  where
    older : (k : ℕ) (t : Ticket) → fin.get w.tickets k ≡ Some t → t.term ≡ suc w.term → ⊥
    older k t e pres = let a : t.term ≤ w.term = (l.tickets k t e).1 in omega (arith, a, pres)
