-- The names and ids of a root and of the open ops, after each kind of change.
use Rattle.std.proofs.Common.{◌≡◌, ◌⊎◌, ℕ, suc, ◌<◌, List, [], ◌∷◌, Option, Some, map, refl, sym, ap, ◌∙◌, subst, inl, inr, arith}
use Rattle.std.specs.FinMap as fin
use Rattle.esr_core.specs.Laws.NumberMaps.{left_in}
use Rattle.esr_core.specs.Laws.ShardStates.{pending_done}
use Rattle.esr_model.specs.Values.{Bytes, Has, IndexRef, RootSnap, RootIndex, RootData, ShardResult, Formats}
use Rattle.esr_model.specs.Places.{places}
use Rattle.esr_model.specs.Kept.{RootIds}
use Rattle.esr_model.specs.Image.{Image}
use Rattle.esr_model.specs.Finalize.{Finalizes, done_at, finalized_root}
use Rattle.esr_core.specs.World.{World, Op, ShardWork, Done, AllDone, info_of}
use Rattle.esr_core.specs.Ids.{OpIds}
use Rattle.esr_core.specs.Entry.{CloneOf}
use Rattle.esr_core.specs.After.{cloned_op}
use Rattle.esr_core.specs.Allowed.{AcceptsClone}
use Rattle.esr_core.specs.Tracked.{IsOneIndex, IsWithin, Named}
use Rattle.esr_model.specs.Lists.{Has-append, Has-mapped}
use Rattle.esr_core.specs.Laws.DoneShards.{found_done}
use Rattle.esr_core.specs.Laws.NewRoots.{larger_is, Suits, finalized_is}
use Rattle.esr_core.specs.Laws.SortedLists.{shard_ref}
use Rattle.esr_core.specs.Laws.Maps.{Ops}
use Rattle.esr_core.specs.Laws.CloneOps.{copied_pending}
use Rattle.esr_core.specs.Laws.NameLaws.{one_sym, one_at, IsNewOp}
use Rattle.esr_core.proofs.AskedClones.{clone_root, clone_named, copied_places, copied_one}

-- ---- an op as one that was, in all but the states of its shards

pub record Alike (next : ℕ) (old now : Op) : Type 0 where
  pub name : now.name ≡ old.name
  pub uuid : now.uuid ≡ old.uuid
  pub indices : now.indices ≡ old.indices
  pub g : ShardWork → ShardWork
  pub shards : now.shards ≡ map g old.shards
  pub ref : (s : ShardWork) → (g s).ref ≡ s.ref
  pub number : (s : ShardWork) → (g s).number ≡ s.number
  pub done : (s : ShardWork) (r : ShardResult) → Has old.shards s → (g s).state ≡ Done r → (s.state ≡ Done r) ⊎ ((r.index ≡ s.ref.id) × (r.shard ≡ s.number) × (r.generation < next))

map_same : (xs : List ShardWork) → map (λ (s : ShardWork). s) xs ≡ xs
map_same [] = refl
map_same (x ∷ xs) = ap (λ ys. x ∷ ys) (map_same xs)

pub alike_same : (next : ℕ) (op : Op) → Alike next op op
alike_same next op = record { name = refl; uuid = refl; indices = refl; g = λ s. s; shards = sym (map_same op.shards); ref = λ s. refl; number = λ s. refl; done = λ s r m e. inl e }

map_places : (g : ShardWork → ShardWork) → ((s : ShardWork) → (g s).ref ≡ s.ref) → ((s : ShardWork) → (g s).number ≡ s.number) → (ss : List ShardWork)
    → map {B = IndexRef × ℕ} (λ (s : ShardWork). (s.ref, s.number)) (map g ss) ≡ map {B = IndexRef × ℕ} (λ (s : ShardWork). (s.ref, s.number)) ss
map_places g ref number [] = refl
map_places g ref number (s ∷ ss) = λ i. (ref s i, number s i) ∷ map_places g ref number ss i

-- ops of which each is alike to one that was
module _ (root : RootData) (ops now : Ops) (next : ℕ) (n : Named root ops next) (back : (o : ℕ) (op : Op) → fin.get now o ≡ Some op → (old : Op) × (fin.get ops o ≡ Some old) × Alike next old op) where
  pub named_from : Named root now next
  named_from =
      record {
        unlisted = λ o op s e m. let (old, there, a) = back o op e in let h = n.unlisted o old s there m in ((λ q. h.0 (q ∙ a.name)), (λ q. h.1 (q ∙ a.uuid)));
        apart = λ o p x y e h away.
            let (a, at, al) = back o x e in
            let (b, bt, bl) = back p y h in
            let z = n.apart o p a b at bt away in ((λ q. z.0 (sym al.name ∙ q ∙ bl.name)), (λ q. z.1 (sym al.uuid ∙ q ∙ bl.uuid)));
        unused = λ o op x e m has. let (old, there, a) = back o op e in n.unused o old x there m (subst (Has x.snapshots) a.uuid has);
        indices = λ o p x y r q e h rm qm.
            let (a, at, al) = back o x e in
            let (b, bt, bl) = back p y h in
            n.indices o p a b r q at bt (subst (λ l. Has l r) al.indices rm) (subst (λ l. Has l q) bl.indices qm);
        once = λ o op r q e rm qm same. let (old, there, a) = back o op e in n.once o old r q there (subst (λ l. Has l r) a.indices rm) (subst (λ l. Has l q) a.indices qm) same;
        rooted = λ o op r x e rm xm. let (old, there, a) = back o op e in n.rooted o old r x there (subst (λ l. Has l r) a.indices rm) xm;
        root_indices = n.root_indices;
        shards = λ o op e.
            let (old, there, a) = back o op e in
            ap (map {B = IndexRef × ℕ} (λ (s : ShardWork). (s.ref, s.number))) a.shards ∙ map_places a.g a.ref a.number old.shards ∙ n.shards o old there ∙ ap places (sym a.indices);
        distinct = λ o op s z e sm zm i k.
            let (old, there, a) = back o op e in
            let (x, xm, xe) = Has-mapped a.g old.shards s (subst (λ l. Has l s) a.shards sm) in
            let (y, ym, ye) = Has-mapped a.g old.shards z (subst (λ l. Has l z) a.shards zm) in
            let same : x ≡ y = n.distinct o old x y there xm ym
            (sym (ap (λ (v : IndexRef). v.id) (a.ref x)) ∙ ap (λ (v : ShardWork). v.ref.id) xe ∙ i ∙ sym (ap (λ (v : ShardWork). v.ref.id) ye) ∙ ap (λ (v : IndexRef). v.id) (a.ref y))
            (sym (a.number x) ∙ ap (λ (v : ShardWork). v.number) xe ∙ k ∙ sym (ap (λ (v : ShardWork). v.number) ye) ∙ a.number y) in
            sym xe ∙ ap a.g same ∙ ye;
        results = λ o op s r e m state.
            let (old, there, a) = back o op e in
            let (x, xm, xe) = Has-mapped a.g old.shards s (subst (λ l. Has l s) a.shards m) in
            let id : x.ref.id ≡ s.ref.id = sym (ap (λ (v : IndexRef). v.id) (a.ref x)) ∙ ap (λ (v : ShardWork). v.ref.id) xe in
            let number : x.number ≡ s.number = sym (a.number x) ∙ ap (λ (v : ShardWork). v.number) xe in
            elim (a.done x r xm (ap (λ (v : ShardWork). v.state) xe ∙ state)) [ inl was ↦ let h = n.results o old x r there xm was in (h.0 ∙ id, h.1 ∙ number) | inr z ↦ (z.0 ∙ id, z.1 ∙ number) ];
        below = λ o op e.
            let (old, there, a) = back o op e in
            let h = n.below o old there in
            record {
              uuid = subst (λ u. u < next) (sym a.uuid) h.uuid;
              indices = λ r m. h.indices r (subst (λ l. Has l r) a.indices m);
              done = λ s r m state. let (x, xm, xe) = Has-mapped a.g old.shards s (subst (λ l. Has l s) a.shards m) in elim (a.done x r xm (ap (λ (v : ShardWork). v.state) xe ∙ state)) [ inl was ↦ h.done x r xm was | inr z ↦ z.2 ];
            };
        root_below = n.root_below;
      }

-- an op that leaves
pub named_left : (root : RootData) (ops : Ops) (next o : ℕ) → Named root ops next → Named root (fin.remove ops o) next
named_left root ops next o n = named_from root ops (fin.remove ops o) next n (λ p q e. (q, (left_in ops o p q e).1, alike_same next q))

-- a root within
pub named_within : (root new : RootData) (ops : Ops) (next : ℕ) → IsWithin root new next → Named root ops next → Named new ops next
named_within root new ops next w n =
    record {
      unlisted = λ o op s e m. n.unlisted o op s e (w.shrinks.snapshots s m);
      apart = n.apart;
      unused = λ o op y e m has. let (x, there, name, id, was) = w.shrinks.indices y m in n.unused o op x e there (was op.uuid has);
      indices = n.indices;
      once = n.once;
      rooted = λ o op r y e rm m. let (x, there, name, id, was) = w.shrinks.indices y m in one_at r.name x.name r.name y.name r.id x.id r.id y.id (n.rooted o op r x e rm there) refl refl name id;
      root_indices = λ y z ym zm.
          let (x, there, name, id, was) = w.shrinks.indices y ym in
          let (v, v_there, v_name, v_id, v_was) = w.shrinks.indices z zm in
          one_at x.name v.name y.name z.name x.id v.id y.id z.id (n.root_indices x v there v_there) name id v_name v_id;
      shards = n.shards;
      distinct = n.distinct;
      results = n.results;
      below = n.below;
      root_below = w.below;
    }

-- the root with the snapshot of an op that leaves
module _ (root : RootData) (ops : Ops) (next : ℕ) (n : Named root ops next) (o : ℕ) (op : Op) (there : fin.get ops o ≡ Some op) (results : List ShardResult) (done : AllDone op.shards results) where
  suits : Suits root op
  suits =
      record {
        places = n.shards o op there;
        results = λ s r m e. n.results o op s r there m e;
        one_id = λ r q rm qm e. n.once o op r q there rm qm e;
        same_name = λ r x rm xm e. (n.rooted o op r x there rm xm).one_name e;
      }

  fins : Finalizes root (info_of op results) results (finalized_root root (info_of op results) results)
  fins = finalized_is root op results suits (λ x y xm ym e. (n.root_indices x y xm ym).one_name e) done

  others : Named root (fin.remove ops o) next
  others = named_left root ops next o n

  -- an index of the new root is as one of the old root or of the op
  new_rooted : (a : Bytes) (i : ℕ) → ((x : RootIndex) → Has root.indices x → IsOneIndex a i x.name x.id) → ((r : IndexRef) → Has op.indices r → IsOneIndex a i r.name r.id)
      → (y : RootIndex) → Has (finalized_root root (info_of op results) results).indices y → IsOneIndex a i y.name y.id
  new_rooted a i of_root of_op y m = elim (fins.names y m) [
    | inl h ↦ one_at a h.0.name a y.name i h.0.id i y.id (of_root h.0 h.1) refl refl h.2 h.3
    | inr h ↦ one_at a h.0.name a y.name i h.0.id i y.id (of_op h.0 h.1) refl refl h.2 h.3
  ]

  result_below : (i k g : ℕ) → done_at results i k ≡ Some g → g < next
  result_below i k g e =
      let (s, m, (r, state, is, ns, gen)) = found_done op.shards results done suits.results i k g e in
      subst (λ z. z < next) gen ((n.below o op there).done s r m state)

  of_old : (x : RootIndex) → Has root.indices x → (y : RootIndex) → Has (finalized_root root (info_of op results) results).indices y → IsOneIndex x.name x.id y.name y.id
  of_old x m = new_rooted x.name x.id (λ z zm. n.root_indices x z m zm) (λ r rm. one_sym r.name x.name r.id x.id (n.rooted o op r x there rm m))

  of_new : (r : IndexRef) → Has op.indices r → (y : RootIndex) → Has (finalized_root root (info_of op results) results).indices y → IsOneIndex r.name r.id y.name y.id
  of_new r m = new_rooted r.name r.id (λ z zm. n.rooted o op r z there m zm) (λ q qm. n.indices o o op op r q there there m qm)

  all_one : (x y : RootIndex) → Has (finalized_root root (info_of op results) results).indices x → Has (finalized_root root (info_of op results) results).indices y → IsOneIndex x.name x.id y.name y.id
  all_one x y xm ym = one_sym y.name x.name y.id x.id
      (new_rooted y.name y.id (λ z zm. one_sym z.name y.name z.id y.id (of_old z zm y ym)) (λ r rm. one_sym r.name y.name r.id y.id (of_new r rm y ym)) x xm)

  root_ids : RootIds (finalized_root root (info_of op results) results) next
  root_ids =
      record {
        generations = λ i k g gen. elim (larger_is _ (done_at results i k) g (sym (fins.generations i k) ∙ gen)) [ inl e ↦ n.root_below.generations i k g e | inr e ↦ result_below i k g e ];
        snapshots = λ s m. elim (Has-append root.snapshots _ s (subst (λ xs. Has xs s) fins.snapshots m)) [ inl old ↦ n.root_below.snapshots s old | inr e ↦ subst (λ (y : RootSnap). y.uuid < next) e (n.below o op there).uuid ];
        ids = λ y m. elim (fins.names y m) [ inl h ↦ subst (λ z. z < next) h.3 (n.root_below.ids h.0 h.1) | inr h ↦ subst (λ z. z < next) h.3 ((n.below o op there).indices h.0 h.1) ];
        uuids = λ y u m has. elim (fins.from y m u has) [ inl h ↦ subst (λ z. z < next) (sym h.0) (n.below o op there).uuid | inr h ↦ n.root_below.uuids h.0 u h.1 h.4 ];
        one_name = λ x y xm ym e. (all_one x y xm ym).one_name e;
      }

  pub named_root : Named (finalized_root root (info_of op results) results) (fin.remove ops o) next
  named_root =
      record {
        unlisted = λ p a s e m.
            let (away, was) = left_in ops o p a e in
            elim (Has-append root.snapshots _ s (subst (λ xs. Has xs s) fins.snapshots m)) [
              | inl old ↦ n.unlisted p a s was old
              | inr same ↦ let h = n.apart o p op a there was (λ q. away (sym q)) in ((λ q. h.0 (ap (λ (y : RootSnap). y.name) same ∙ q)), (λ q. h.1 (ap (λ (y : RootSnap). y.uuid) same ∙ q)))
            ];
        apart = others.apart;
        unused = λ p a y e m has.
            let (away, was) = left_in ops o p a e in
            elim (fins.from y m a.uuid has) [ inl h ↦ (n.apart p o a op was there away).1 h.0 | inr h ↦ n.unused p a h.0 was h.1 h.4 ];
        indices = others.indices;
        once = others.once;
        rooted = λ p a r y e rm ym.
            let was = (left_in ops o p a e).1 in
            new_rooted r.name r.id (λ x xm. n.rooted p a r x was rm xm) (λ q qm. n.indices p o a op r q was there rm qm) y ym;
        root_indices = all_one;
        shards = others.shards;
        distinct = others.distinct;
        results = others.results;
        below = others.below;
        root_below = root_ids;
      }

-- ---- a clone that is accepted: each of its indices is one of the root

module _ (w : World) (n : Named w.root w.ops w.next_id) (f : Formats) (source name : Bytes) (names : List Bytes) (moment o : ℕ) (taken : CloneOf) (image : Option Image) (a : AcceptsClone f w source name names moment o taken image) where
  clone_rooted : (r : IndexRef) (x : RootIndex) → Has taken.indices r → Has w.root.indices x → IsOneIndex r.name r.id x.name x.id
  clone_rooted r x m xm = let (y, ym, yn, yi, has) = clone_root f w source name names moment o taken image a r m in one_at y.name x.name r.name x.name y.id x.id r.id x.id (n.root_indices y x ym xm) yn yi refl refl

  clone_opened_one : (r : IndexRef) (p : ℕ) (q : Op) (z : IndexRef) → Has taken.indices r → fin.get w.ops p ≡ Some q → Has q.indices z → IsOneIndex r.name r.id z.name z.id
  clone_opened_one r p q z m there zm =
      let (y, ym, yn, yi, has) = clone_root f w source name names moment o taken image a r m in
      one_at y.name z.name r.name z.name y.id z.id r.id z.id (one_sym z.name y.name z.id y.id (n.rooted p q z y there zm ym)) yn yi refl refl

  clone_one : (r q : IndexRef) → Has taken.indices r → Has taken.indices q → IsOneIndex r.name r.id q.name q.id
  clone_one r q m k = let (y, ym, yn, yi, has) = clone_root f w source name names moment o taken image a q k in one_at r.name y.name r.name q.name r.id y.id r.id q.id (clone_rooted r y m ym) refl refl yn yi

  clone_once : (r q : IndexRef) → Has taken.indices r → Has taken.indices q → r.id ≡ q.id → r ≡ q
  clone_once r q m k e = clone_named f w source name names moment o taken image a r q m k ((clone_one r q m k).one_name e)

  clone_ids : OpIds (suc w.next_id) (cloned_op w name moment taken)
  clone_ids =
      record {
        uuid = omega arith;
        indices = λ r m. let (y, ym, yn, yi, has) = clone_root f w source name names moment o taken image a r m in let b : y.id < w.next_id = n.root_below.ids y ym in omega (arith, b, yi);
        done = λ s r m e. absurd (pending_done (sym (copied_pending (places taken.indices) s m) ∙ e));
      }

  pub new_cloned : IsNewOp w (cloned_op w name moment taken) (suc w.next_id)
  new_cloned =
      record {
        unused = a.may.copies.named.unused;
        uuid_is = refl;
        up = omega arith;
        rooted = clone_rooted;
        opened = clone_opened_one;
        one_index = clone_one;
        once = clone_once;
        ids = clone_ids;
        shards = copied_places (places taken.indices);
        distinct = λ s z sm zm i k.
            let made : Op = cloned_op w name moment taken in
            let places_is = copied_places (places taken.indices) in
            copied_one (places taken.indices) s z sm zm (clone_once s.ref z.ref (shard_ref made s sm places_is) (shard_ref made z zm places_is) i) k;
        pending = copied_pending (places taken.indices);
      }
