-- The names and ids of a root and of the open ops, after each kind of change.
use Rattle.std.proofs.Common.{◌≡◌, ◌≢◌, ◌⊎◌, ℕ, suc, ◌+◌, ◌<◌, ◌≤◌, List, Some, None, map, refl, sym, ap, ◌∙◌, subst, inl, inr, arith}
use Rattle.std.specs.FinMap as fin
use Rattle.esr_core.specs.Laws.NumberMaps.{was_in}
use Rattle.esr_model.specs.Values.{Bytes, Has, IndexRef, RootIndex, RootData}
use Rattle.esr_model.specs.Places.{places}
use Rattle.esr_core.specs.World.{World, Op, ShardWork, Pending}
use Rattle.esr_core.specs.Ids.{OpIds}
use Rattle.esr_core.specs.Entry.{AskedIndex}
use Rattle.esr_core.specs.After.{known_id, refs_from, new_names, all_pending, asked_op}
use Rattle.esr_core.specs.Allowed.{AreDistinct, IsUnused}
use Rattle.esr_core.specs.Tracked.{IsOneIndex, Named}
use Rattle.esr_core.specs.Laws.IdBounds.{root_up}
use Rattle.esr_core.specs.Laws.Maps.{Ops}
use Rattle.esr_core.specs.Laws.ShardStates.{pending_done}
use Rattle.esr_core.specs.Laws.SnapshotOps.{IsKnownId, ref_known, ref_ids, one_name, one_new, all_places, in_all, pending_one, unknown_root, unknown_open}
use Rattle.esr_core.specs.Laws.SortedLists.{shard_ref}

pub one_sym : (a b : Bytes) (i j : ℕ) → IsOneIndex a i b j → IsOneIndex b j a i
one_sym a b i j h = record { one_name = λ e. sym (h.one_name (sym e)); one_id = λ e. sym (h.one_id (sym e)) }

pub one_at : (a b c d : Bytes) (i j k l : ℕ) → IsOneIndex a i b j → a ≡ c → i ≡ k → b ≡ d → j ≡ l → IsOneIndex c k d l
one_at a b c d i j k l h p q r s = record { one_name = λ e. sym p ∙ h.one_name (q ∙ e ∙ sym s) ∙ r; one_id = λ e. sym q ∙ h.one_id (p ∙ e ∙ sym r) ∙ s }

-- ---- an op as one that was, in all but the states of its shards

-- ids drawn
pub named_up : (root : RootData) (ops : Ops) (c d : ℕ) → c ≤ d → Named root ops c → Named root ops d
named_up root ops c d le n =
    record {
      unlisted = n.unlisted;
      apart = n.apart;
      unused = n.unused;
      indices = n.indices;
      once = n.once;
      rooted = n.rooted;
      root_indices = n.root_indices;
      shards = n.shards;
      distinct = n.distinct;
      results = n.results;
      below = λ o op e. let h = n.below o op e in record { uuid = up op.uuid h.uuid; indices = λ r m. up r.id (h.indices r m); done = λ s r m state. up r.generation (h.done s r m state) };
      root_below = root_up root c d le n.root_below;
    }
  where
    up : (x : ℕ) → x < c → x < d
    up x h = omega (arith, le, h)

-- ---- an op that comes

-- one that is new, with the next id after it
pub record IsNewOp (w : World) (op : Op) (next : ℕ) : Type 0 where
  pub unused : IsUnused w op.name
  pub uuid_is : op.uuid ≡ w.next_id
  pub up : w.next_id ≤ next
  pub rooted : (r : IndexRef) (x : RootIndex) → Has op.indices r → Has w.root.indices x → IsOneIndex r.name r.id x.name x.id
  pub opened : (r : IndexRef) (p : ℕ) (q : Op) (z : IndexRef) → Has op.indices r → fin.get w.ops p ≡ Some q → Has q.indices z → IsOneIndex r.name r.id z.name z.id
  pub one_index : (r q : IndexRef) → Has op.indices r → Has op.indices q → IsOneIndex r.name r.id q.name q.id
  pub once : (r q : IndexRef) → Has op.indices r → Has op.indices q → r.id ≡ q.id → r ≡ q
  pub ids : OpIds next op
  pub shards : map (λ (s : ShardWork). (s.ref, s.number)) op.shards ≡ places op.indices
  pub distinct : (s z : ShardWork) → Has op.shards s → Has op.shards z → s.ref.id ≡ z.ref.id → s.number ≡ z.number → s ≡ z
  pub pending : (s : ShardWork) → Has op.shards s → s.state ≡ Pending

module _ (w : World) (n : Named w.root w.ops w.next_id) (op : Op) (next : ℕ) (c : IsNewOp w op next) where
  open_name : (p : ℕ) (b : Op) → fin.get w.ops p ≡ Some b → b.name ≡ op.name → ⊥
  open_name p b there q = c.unused b.uuid (inr (p, b, there, q, refl))

  open_uuid : (p : ℕ) (b : Op) → fin.get w.ops p ≡ Some b → b.uuid ≡ op.uuid → ⊥
  open_uuid p b there q = let h : b.uuid < w.next_id = (n.below p b there).uuid in let e : b.uuid ≡ w.next_id = q ∙ c.uuid_is in omega (arith, h, e)

  pub named_new : Named w.root (fin.insert w.ops w.next_op op) next
  named_new =
      let more : Named w.root w.ops next = named_up w.root w.ops w.next_id next c.up n in
      record {
        unlisted = λ o a s e m. elim (was_in w.ops w.next_op op o a e) [
          | inl h ↦
              subst (λ (y : Op). (s.name ≢ y.name) × (s.uuid ≢ y.uuid)) h.1
              ((λ q. c.unused s.uuid (inl (s, m, q, refl))), (λ q. let b : s.uuid < w.next_id = n.root_below.snapshots s m in let same : s.uuid ≡ w.next_id = q ∙ c.uuid_is in omega (arith, b, same)))
          | inr h ↦ n.unlisted o a s h.1 m
        ];
        apart = λ o p a b e h away. elim (was_in w.ops w.next_op op o a e) [
          | inl x ↦ elim (was_in w.ops w.next_op op p b h) [
            | inl y ↦ absurd (away (x.0 ∙ sym y.0))
            | inr y ↦ subst (λ (z : Op). (z.name ≢ b.name) × (z.uuid ≢ b.uuid)) x.1 ((λ q. open_name p b y.1 (sym q)), (λ q. open_uuid p b y.1 (sym q)))
          ]
          | inr x ↦ elim (was_in w.ops w.next_op op p b h) [
            | inl y ↦ subst (λ (z : Op). (a.name ≢ z.name) × (a.uuid ≢ z.uuid)) y.1 (open_name o a x.1, open_uuid o a x.1)
            | inr y ↦ n.apart o p a b x.1 y.1 away
          ]
        ];
        unused = λ o a x e m has. elim (was_in w.ops w.next_op op o a e) [
          | inl h ↦ let b : w.next_id < w.next_id = n.root_below.uuids x w.next_id m (subst (Has x.snapshots) (ap (λ (y : Op). y.uuid) (sym h.1) ∙ c.uuid_is) has) in omega (arith, b)
          | inr h ↦ n.unused o a x h.1 m has
        ];
        indices = λ o p a b r q e h rm qm. elim (was_in w.ops w.next_op op o a e) [
          | inl x ↦ elim (was_in w.ops w.next_op op p b h) [
            | inl y ↦ c.one_index r q (subst (λ (z : Op). Has z.indices r) (sym x.1) rm) (subst (λ (z : Op). Has z.indices q) (sym y.1) qm)
            | inr y ↦ c.opened r p b q (subst (λ (z : Op). Has z.indices r) (sym x.1) rm) y.1 qm
          ]
          | inr x ↦ elim (was_in w.ops w.next_op op p b h) [
            | inl y ↦ one_sym q.name r.name q.id r.id (c.opened q o a r (subst (λ (z : Op). Has z.indices q) (sym y.1) qm) x.1 rm)
            | inr y ↦ n.indices o p a b r q x.1 y.1 rm qm
          ]
        ];
        once = λ o a r q e rm qm same. elim (was_in w.ops w.next_op op o a e) [
          | inl h ↦ c.once r q (subst (λ (z : Op). Has z.indices r) (sym h.1) rm) (subst (λ (z : Op). Has z.indices q) (sym h.1) qm) same
          | inr h ↦ n.once o a r q h.1 rm qm same
        ];
        rooted = λ o a r x e rm xm. elim (was_in w.ops w.next_op op o a e) [ inl h ↦ c.rooted r x (subst (λ (z : Op). Has z.indices r) (sym h.1) rm) xm | inr h ↦ n.rooted o a r x h.1 rm xm ];
        root_indices = n.root_indices;
        shards = λ o a e. elim (was_in w.ops w.next_op op o a e) [
          | inl h ↦ subst (λ (z : Op). map (λ (s : ShardWork). (s.ref, s.number)) z.shards ≡ places z.indices) h.1 c.shards
          | inr h ↦ n.shards o a h.1
        ];
        distinct = λ o a s z e sm zm i k. elim (was_in w.ops w.next_op op o a e) [
          | inl h ↦ c.distinct s z (subst (λ (y : Op). Has y.shards s) (sym h.1) sm) (subst (λ (y : Op). Has y.shards z) (sym h.1) zm) i k
          | inr h ↦ n.distinct o a s z h.1 sm zm i k
        ];
        results = λ o a s r e m state. elim (was_in w.ops w.next_op op o a e) [
          | inl h ↦ absurd (pending_done (sym (c.pending s (subst (λ (y : Op). Has y.shards s) (sym h.1) m)) ∙ state))
          | inr h ↦ n.results o a s r h.1 m state
        ];
        below = λ o a e. elim (was_in w.ops w.next_op op o a e) [ inl h ↦ subst (OpIds next) h.1 c.ids | inr h ↦ more.below o a h.1 ];
        root_below = more.root_below;
      }

-- ---- a snapshot that is accepted

module _ (w : World) (n : Named w.root w.ops w.next_id) (name : Bytes) (indices : List AskedIndex) (moment : ℕ) (apart : AreDistinct indices) (unused : IsUnused w name) where
  known_below : (r : IndexRef) → IsKnownId w r → r.id < w.next_id
  known_below r (inl k) = subst (λ x. x < w.next_id) k.3 (n.root_below.ids k.0 k.1)
  known_below r (inr k) = let (p, q, z, there, zm, zn, zi) = k in subst (λ x. x < w.next_id) zi ((n.below p q there).indices z zm)

  -- its id is known, or its name is new and its id drawn
  kind : (r : IndexRef) → Has (refs_from w (suc w.next_id) indices) r → IsKnownId w r ⊎ ((w.next_id < r.id) × (known_id w r.name ≡ None))
  kind r m = elim (ref_known w indices (suc w.next_id) r m) [
    | inl k ↦ inl k
    | inr none ↦ elim (ref_ids w indices (suc w.next_id) r m) [ inl k ↦ inl k | inr z ↦ let up : suc w.next_id ≤ r.id = z.0 in inr (omega (arith, up), none) ]
  ]

  new_root : (r : IndexRef) (x : RootIndex) → Has (refs_from w (suc w.next_id) indices) r → Has w.root.indices x → IsOneIndex r.name r.id x.name x.id
  new_root r x m xm = elim (kind r m) [
    | inl (inl k) ↦ one_at k.0.name x.name r.name x.name k.0.id x.id r.id x.id (n.root_indices k.0 x k.1 xm) k.2 k.3 refl refl
    | inl (inr k) ↦ let (p, q, z, there, zm, zn, zi) = k in one_at z.name x.name r.name x.name z.id x.id r.id x.id (n.rooted p q z x there zm xm) zn zi refl refl
    | inr k ↦ record {
      one_name = λ e. absurd (let b : x.id < w.next_id = n.root_below.ids x xm in let up : w.next_id < r.id = k.0 in omega (arith, b, up, e));
      one_id = λ e. absurd (unknown_root w r.name k.1 x xm (sym e));
    }
  ]

  new_open : (r : IndexRef) (p : ℕ) (q : Op) (z : IndexRef) → Has (refs_from w (suc w.next_id) indices) r → fin.get w.ops p ≡ Some q → Has q.indices z → IsOneIndex r.name r.id z.name z.id
  new_open r p q z m there zm = elim (kind r m) [
    | inl (inl k) ↦ one_at k.0.name z.name r.name z.name k.0.id z.id r.id z.id (one_sym z.name k.0.name z.id k.0.id (n.rooted p q z k.0 there zm k.1)) k.2 k.3 refl refl
    | inl (inr k) ↦ let (s, t, y, yt, ym, yn, yi) = k in one_at y.name z.name r.name z.name y.id z.id r.id z.id (n.indices s p t q y z yt there ym zm) yn yi refl refl
    | inr k ↦ record {
      one_name = λ e. absurd (let b : z.id < w.next_id = (n.below p q there).indices z zm in let up : w.next_id < r.id = k.0 in omega (arith, b, up, e));
      one_id = λ e. absurd (unknown_open w r.name k.1 p q there z zm (sym e));
    }
  ]

  new_new : (r q : IndexRef) → Has (refs_from w (suc w.next_id) indices) r → Has (refs_from w (suc w.next_id) indices) q → IsOneIndex r.name r.id q.name q.id
  new_new r q rm qm =
      record {
        one_name = λ e. elim (kind r rm) [
          | inl (inl k) ↦ sym (k.2) ∙ sym ((new_root q k.0 qm k.1).one_name (sym e ∙ sym k.3))
          | inl (inr k) ↦ let (s, t, y, yt, ym, yn, yi) = k in sym yn ∙ sym ((new_open q s t y qm yt ym).one_name (sym e ∙ sym yi))
          | inr k ↦ one_new w known_below indices (suc w.next_id) (omega arith) r q rm qm k.0 e
        ];
        one_id = λ e. ap (λ (x : IndexRef). x.id) (one_name w indices (suc w.next_id) apart r q rm qm e);
      }

  once : (r q : IndexRef) → Has (refs_from w (suc w.next_id) indices) r → Has (refs_from w (suc w.next_id) indices) q → r.id ≡ q.id → r ≡ q
  once r q rm qm e = one_name w indices (suc w.next_id) apart r q rm qm ((new_new r q rm qm).one_name e)

  mine : OpIds (w.next_id + suc (new_names w indices)) (asked_op w name indices moment)
  mine =
      record {
        uuid = omega arith;
        indices = λ r m. elim (ref_ids w indices (suc w.next_id) r m) [ inl k ↦ let b : r.id < w.next_id = known_below r k in omega (arith, b) | inr z ↦ let b : r.id < suc w.next_id + new_names w indices = z.1 in omega (arith, b) ];
        done = λ s r m e. absurd (pending_done (sym (in_all w indices (suc w.next_id) s m).0 ∙ e));
      }

  one_shard : (s z : ShardWork) → Has (all_pending indices (refs_from w (suc w.next_id) indices)) s → Has (all_pending indices (refs_from w (suc w.next_id) indices)) z → s.ref.id ≡ z.ref.id → s.number ≡ z.number → s ≡ z
  one_shard s z sm zm i k =
      let made : Op = asked_op w name indices moment in
      pending_one w indices (suc w.next_id) apart s z sm zm (once s.ref z.ref (shard_ref made s sm (all_places w indices (suc w.next_id))) (shard_ref made z zm (all_places w indices (suc w.next_id))) i) k

  pub new_asked : IsNewOp w (asked_op w name indices moment) (w.next_id + suc (new_names w indices))
  new_asked =
      record {
        unused = unused;
        uuid_is = refl;
        up = omega arith;
        rooted = new_root;
        opened = new_open;
        one_index = new_new;
        once = once;
        ids = mine;
        shards = all_places w indices (suc w.next_id);
        distinct = one_shard;
        pending = λ s m. (in_all w indices (suc w.next_id) s m).0;
      }
