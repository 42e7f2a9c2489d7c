-- The op of a snapshot that is accepted: its ids and shards.
use Rattle.std.proofs.Common.{◌≡◌, ◌⊎◌, ℕ, zero, suc, ◌+◌, ◌<◌, ◌≤◌, List, [], ◌∷◌, ◌++◌, true≢false, Option, Some, None, map, refl, sym, ap, ◌∙◌, subst, inl, inr, arith}
use Rattle.std.proofs.lemmas.Option.{same_Some, none-some}
use Rattle.std.proofs.lemmas.Bool.{cond-true, cond-false}
use Rattle.std.specs.FinMap as fin
use Rattle.esr_model.specs.Values.{Bytes, Has, IndexRef, RootIndex}
use Rattle.esr_model.specs.Places.{numbered, places}
use Rattle.esr_core.specs.World.{World, Op, ShardWork, Pending}
use Rattle.esr_core.specs.Entry.{AskedIndex}
use Rattle.esr_core.specs.After.{or_else, root_index_id, index_id, open_index_id, known_id, ref_by, next_by, refs_from, new_names, pending_shards, all_pending}
use Rattle.esr_core.specs.Allowed.{AreDistinct}
use Rattle.esr_core.specs.Laws.Maps.{entry_got, got_entry}
use Rattle.esr_core.specs.Laws.Tests.{told, same_one, same_true}
use Rattle.esr_model.specs.Lists.{Has-either}

root_found : (xs : List RootIndex) (name : Bytes) (id : ℕ) → root_index_id xs name ≡ Some id → (x : RootIndex) × Has xs x × (x.name ≡ name) × (x.id ≡ id)
root_found [] name id e = absurd (none-some id e)
root_found (x ∷ xs) name id e = elim (same_one x.name name) [
  | inl h ↦ (x, inl refl, h.1, same_Some _ _ (sym (cond-true _ _ _ h.0) ∙ e))
  | inr h ↦ let (y, m, n, i) = root_found xs name id (sym (cond-false _ _ _ h) ∙ e) in (y, inr m, n, i)
]

ref_found : (refs : List IndexRef) (name : Bytes) (id : ℕ) → index_id refs name ≡ Some id → (r : IndexRef) × Has refs r × (r.name ≡ name) × (r.id ≡ id)
ref_found [] name id e = absurd (none-some id e)
ref_found (r ∷ refs) name id e = elim (same_one r.name name) [
  | inl h ↦ (r, inl refl, h.1, same_Some _ _ (sym (cond-true _ _ _ h.0) ∙ e))
  | inr h ↦ let (y, m, n, i) = ref_found refs name id (sym (cond-false _ _ _ h) ∙ e) in (y, inr m, n, i)
]

open_found : (ops : List (ℕ × Op)) (name : Bytes) (id : ℕ) → open_index_id ops name ≡ Some id → (p : ℕ × Op) × Has ops p × ((r : IndexRef) × Has p.1.indices r × (r.name ≡ name) × (r.id ≡ id))
open_found [] name id e = absurd (none-some id e)
open_found (p ∷ ops) name id e = elim (told (index_id p.1.indices name)) [
  | inr h ↦ let same : h.0 ≡ id = same_Some _ _ (sym (ap (λ o. or_else o (open_index_id ops name)) h.1) ∙ e) in (p, inl refl, ref_found p.1.indices name id (h.1 ∙ ap Some same))
  | inl h ↦ let (q, m, r) = open_found ops name id (sym (ap (λ o. or_else o (open_index_id ops name)) h) ∙ e) in (q, inr m, r)
]

-- a known id is that of an index of the root, or of an open op
abbrev pub IsKnownId : World → IndexRef → Type 0
IsKnownId w r =
    ((x : RootIndex) × Has w.root.indices x × (x.name ≡ r.name) × (x.id ≡ r.id))
    ⊎ ((p : ℕ) × (q : Op) × (z : IndexRef) × (fin.get w.ops p ≡ Some q) × Has q.indices z × (z.name ≡ r.name) × (z.id ≡ r.id))

known_is : (w : World) (a : AskedIndex) (id : ℕ) → known_id w a.name ≡ Some id → IsKnownId w (record { id = id; name = a.name; shards = a.shards })
known_is w a id e = elim (told (root_index_id w.root.indices a.name)) [
  | inr h ↦ let same : h.0 ≡ id = same_Some _ _ (sym (ap (λ o. or_else o (open_index_id (fin.entries w.ops) a.name)) h.1) ∙ e) in inl (root_found w.root.indices a.name id (h.1 ∙ ap Some same))
  | inl h ↦
      let (p, m, (r, rm, name, is)) = open_found (fin.entries w.ops) a.name id (sym (ap (λ o. or_else o (open_index_id (fin.entries w.ops) a.name)) h) ∙ e) in
      inr (p.0, p.1, r, entry_got w.ops p.0 p.1 m, rm, name, is)
]

pub ref_name : (a : AskedIndex) (o : Option ℕ) (next : ℕ) → (ref_by a o next).name ≡ a.name
ref_name a None next = refl
ref_name a (Some id) next = refl

module _ (w : World) where
  -- an index has a known id, or one of those that are drawn
  pub ref_ids : (asked : List AskedIndex) (next : ℕ) (r : IndexRef) → Has (refs_from w next asked) r → IsKnownId w r ⊎ ((next ≤ r.id) × (r.id < next + new_names w asked))
  ref_ids [] next r m = absurd m
  ref_ids (a ∷ asked) next r m = elim (told (known_id w a.name)) [
    | inr h ↦ by_known h.0 h.1 (subst (λ o. Has (ref_by a o next ∷ refs_from w (next_by o next) asked) r) h.1 m) (ref_ids asked next r)
    | inl h ↦ by_new h (subst (λ o. Has (ref_by a o next ∷ refs_from w (next_by o next) asked) r) h m) (ref_ids asked (suc next) r)
  ]
    where
      by_known : (id : ℕ) → known_id w a.name ≡ Some id → Has (record { id = id; name = a.name; shards = a.shards } ∷ refs_from w next asked) r
          → (Has (refs_from w next asked) r → IsKnownId w r ⊎ ((next ≤ r.id) × (r.id < next + new_names w asked)))
          → IsKnownId w r ⊎ ((next ≤ r.id) × (r.id < next + next_by (known_id w a.name) (new_names w asked)))
      by_known id e (inl same) rest = inl (subst (IsKnownId w) same (known_is w a id e))
      by_known id e (inr later) rest = elim (rest later) [ inl k ↦ inl k | inr k ↦ inr (k.0, subst (λ o. r.id < next + next_by o (new_names w asked)) (sym e) k.1) ]

      by_new : known_id w a.name ≡ None → Has (record { id = next; name = a.name; shards = a.shards } ∷ refs_from w (suc next) asked) r
          → (Has (refs_from w (suc next) asked) r → IsKnownId w r ⊎ ((suc next ≤ r.id) × (r.id < suc next + new_names w asked)))
          → IsKnownId w r ⊎ ((next ≤ r.id) × (r.id < next + next_by (known_id w a.name) (new_names w asked)))
      by_new e (inl same) rest =
          let is : next ≡ r.id = ap (λ (x : IndexRef). x.id) same in
          inr (omega (arith, is), subst (λ o. r.id < next + next_by o (new_names w asked)) (sym e) (omega (arith, is)))
      by_new e (inr later) rest = elim (rest later) [
        | inl k ↦ inl k
        | inr k ↦ let a0 : suc next ≤ r.id = k.0 in let b0 : r.id < suc next + new_names w asked = k.1 in inr (omega (arith, a0), subst (λ o. r.id < next + next_by o (new_names w asked)) (sym e) (omega (arith, b0)))
      ]

  ref_names : (asked : List AskedIndex) (next : ℕ) (r : IndexRef) → Has (refs_from w next asked) r → (a : AskedIndex) × Has asked a × (r.name ≡ a.name)
  ref_names [] next r m = absurd m
  ref_names (a ∷ asked) next r (inl same) = (a, inl refl, ap (λ (x : IndexRef). x.name) (sym same) ∙ ref_name a (known_id w a.name) next)
  ref_names (a ∷ asked) next r (inr m) = let (b, n, e) = ref_names asked (next_by (known_id w a.name) next) r m in (b, inr n, e)

  -- one index to each name
  pub one_name : (asked : List AskedIndex) (next : ℕ) → AreDistinct asked → (r q : IndexRef) → Has (refs_from w next asked) r → Has (refs_from w next asked) q → r.name ≡ q.name → r ≡ q
  one_name [] next d r q m n e = absurd m
  one_name (a ∷ asked) next d r q (inl x) (inl y) e = sym x ∙ y
  one_name (a ∷ asked) next d r q (inl x) (inr n) e =
      let (b, there, name) = ref_names asked (next_by (known_id w a.name) next) q n in
      absurd (d.0 b there (sym (ref_name a (known_id w a.name) next) ∙ ap (λ (z : IndexRef). z.name) x ∙ e ∙ name))
  one_name (a ∷ asked) next d r q (inr m) (inl y) e =
      let (b, there, name) = ref_names asked (next_by (known_id w a.name) next) r m in
      absurd (d.0 b there (sym (ref_name a (known_id w a.name) next) ∙ ap (λ (z : IndexRef). z.name) y ∙ sym e ∙ name))
  one_name (a ∷ asked) next d r q (inr m) (inr n) e = one_name asked (next_by (known_id w a.name) next) d.1 r q m n e

  -- two that were drawn have two ids
  pub one_new : ((r : IndexRef) → IsKnownId w r → r.id < w.next_id) → (asked : List AskedIndex) (next : ℕ) → w.next_id < next → (r q : IndexRef) → Has (refs_from w next asked) r → Has (refs_from w next asked) q → w.next_id < r.id
      → r.id ≡ q.id → r.name ≡ q.name
  one_new below [] next up r q m n new e = absurd m
  one_new below (a ∷ asked) next up r q m n new e = elim (told (known_id w a.name)) [
    | inr h ↦
        by_known h.0 h.1 (subst (λ o. Has (ref_by a o next ∷ refs_from w (next_by o next) asked) r) h.1 m) (subst (λ o. Has (ref_by a o next ∷ refs_from w (next_by o next) asked) q) h.1 n) (λ x y. one_new below asked next up r q x y new e)
    | inl h ↦
        by_new (subst (λ o. Has (ref_by a o next ∷ refs_from w (next_by o next) asked) r) h m) (subst (λ o. Has (ref_by a o next ∷ refs_from w (next_by o next) asked) q) h n)
        (λ x y. one_new below asked (suc next) (omega (arith, up)) r q x y new e)
  ]
    where
      too_low : (id : ℕ) → known_id w a.name ≡ Some id → (x : IndexRef) → record { id = id; name = a.name; shards = a.shards } ≡ x → w.next_id < x.id → ⊥
      too_low id known x same high = let b : id < w.next_id = below (record { id = id; name = a.name; shards = a.shards }) (known_is w a id known) in let i : id ≡ x.id = ap (λ (z : IndexRef). z.id) same in omega (arith, b, i, high)

      by_known : (id : ℕ) → known_id w a.name ≡ Some id → Has (record { id = id; name = a.name; shards = a.shards } ∷ refs_from w next asked) r → Has (record { id = id; name = a.name; shards = a.shards } ∷ refs_from w next asked) q
          → (Has (refs_from w next asked) r → Has (refs_from w next asked) q → r.name ≡ q.name) → r.name ≡ q.name
      by_known id known (inl x) y rest = absurd (too_low id known r x new)
      by_known id known (inr x) (inl y) rest = absurd (too_low id known q y (omega (arith, new, e)))
      by_known id known (inr x) (inr y) rest = rest x y

      later_up : (x : IndexRef) → Has (refs_from w (suc next) asked) x → w.next_id < x.id → suc next ≤ x.id
      later_up x there high = elim (ref_ids asked (suc next) x there) [ inl k ↦ absurd (let b : x.id < w.next_id = below x k in omega (arith, b, high)) | inr k ↦ k.0 ]

      by_new : Has (record { id = next; name = a.name; shards = a.shards } ∷ refs_from w (suc next) asked) r → Has (record { id = next; name = a.name; shards = a.shards } ∷ refs_from w (suc next) asked) q
          → (Has (refs_from w (suc next) asked) r → Has (refs_from w (suc next) asked) q → r.name ≡ q.name) → r.name ≡ q.name
      by_new (inl x) (inl y) rest = ap (λ (z : IndexRef). z.name) (sym x ∙ y)
      by_new (inl x) (inr y) rest = absurd (let i : next ≡ r.id = ap (λ (z : IndexRef). z.id) x in let b : suc next ≤ q.id = later_up q y (omega (arith, new, e)) in omega (arith, i, b, e))
      by_new (inr x) (inl y) rest = absurd (let i : next ≡ q.id = ap (λ (z : IndexRef). z.id) y in let b : suc next ≤ r.id = later_up r x new in omega (arith, i, b, e))
      by_new (inr x) (inr y) rest = rest x y

  abbrev place_of : ShardWork → IndexRef × ℕ
  place_of s = (s.ref, s.number)

  map_append : (xs ys : List ShardWork) → map place_of (xs ++ ys) ≡ map place_of xs ++ map place_of ys
  map_append [] ys = refl
  map_append (x ∷ xs) ys = ap (λ zs. place_of x ∷ zs) (map_append xs ys)

  pending_places : (a : AskedIndex) (r : IndexRef) (first n : ℕ) → map place_of (pending_shards a r first n) ≡ numbered r first n
  pending_places a r first zero = refl
  pending_places a r first (suc n) = ap (λ zs. (r, first) ∷ zs) (pending_places a r (suc first) n)

  pub all_places : (asked : List AskedIndex) (next : ℕ) → map place_of (all_pending asked (refs_from w next asked)) ≡ places (refs_from w next asked)
  all_places [] next = refl
  all_places (a ∷ asked) next =
      let r : IndexRef = ref_by a (known_id w a.name) next in
      map_append (pending_shards a r 0 r.shards) (all_pending asked (refs_from w (next_by (known_id w a.name) next) asked))
      ∙ (λ j. pending_places a r 0 r.shards j ++ all_places asked (next_by (known_id w a.name) next) j)

  in_pending : (a : AskedIndex) (r : IndexRef) (first n : ℕ) (s : ShardWork) → Has (pending_shards a r first n) s → (s.state ≡ Pending) × (s.ref ≡ r) × (s.place ≡ a.place)
  in_pending a r first zero s m = absurd m
  in_pending a r first (suc n) s (inl e) = (ap (λ (x : ShardWork). x.state) (sym e), ap (λ (x : ShardWork). x.ref) (sym e), ap (λ (x : ShardWork). x.place) (sym e))
  in_pending a r first (suc n) s (inr m) = in_pending a r (suc first) n s m

  pub in_all : (asked : List AskedIndex) (next : ℕ) (s : ShardWork) → Has (all_pending asked (refs_from w next asked)) s → (s.state ≡ Pending) × ((a : AskedIndex) × Has asked a × (s.ref.name ≡ a.name) × (s.place ≡ a.place))
  in_all [] next s m = absurd m
  in_all (a ∷ asked) next s m =
      let r : IndexRef = ref_by a (known_id w a.name) next in
      elim (Has-either (pending_shards a r 0 r.shards) (all_pending asked (refs_from w (next_by (known_id w a.name) next) asked)) s m) [
        | inl h ↦ let (state, ref, place) = in_pending a r 0 r.shards s h in (state, (a, inl refl, ap (λ (x : IndexRef). x.name) ref ∙ ref_name a (known_id w a.name) next, place))
        | inr h ↦ let (state, (b, n, name, place)) = in_all asked (next_by (known_id w a.name) next) s h in (state, (b, inr n, name, place))
      ]

-- ---- the shards

-- a name is asked once
pub asked_one : (asked : List AskedIndex) → AreDistinct asked → (a b : AskedIndex) → Has asked a → Has asked b → a.name ≡ b.name → a ≡ b
asked_one [] d a b m n e = absurd m
asked_one (x ∷ asked) d a b (inl p) (inl q) e = sym p ∙ q
asked_one (x ∷ asked) d a b (inl p) (inr n) e = absurd (d.0 b n (ap (λ (z : AskedIndex). z.name) p ∙ e))
asked_one (x ∷ asked) d a b (inr m) (inl q) e = absurd (d.0 a m (ap (λ (z : AskedIndex). z.name) q ∙ sym e))
asked_one (x ∷ asked) d a b (inr m) (inr n) e = asked_one asked d.1 a b m n e

-- a shard stands once
pub pending_one : (w : World) (asked : List AskedIndex) (next : ℕ) → AreDistinct asked → (s z : ShardWork) → Has (all_pending asked (refs_from w next asked)) s → Has (all_pending asked (refs_from w next asked)) z → s.ref ≡ z.ref
    → s.number ≡ z.number → s ≡ z
pending_one w asked next d s z sm zm ref number =
    let (s_state, (x, x_there, x_name, x_place)) = in_all w asked next s sm in
    let (z_state, (y, y_there, y_name, y_place)) = in_all w asked next z zm in
    let same : x ≡ y = asked_one asked d x y x_there y_there (sym x_name ∙ ap (λ (r : IndexRef). r.name) ref ∙ y_name) in
    λ j. record { ref = ref j; number = number j; place = (x_place ∙ ap (λ (b : AskedIndex). b.place) same ∙ sym y_place) j; state = (s_state ∙ sym z_state) j }

-- ---- names that are not known

-- no value is found where neither look-up finds one
pub neither : {A : Type 0} (a b : Option A) → or_else a b ≡ None → (a ≡ None) × (b ≡ None)
neither None b e = (refl, e)
neither (Some a) b e = absurd (none-some a (sym e))

root_unknown : (xs : List RootIndex) (name : Bytes) → root_index_id xs name ≡ None → (x : RootIndex) → Has xs x → x.name ≡ name → ⊥
root_unknown [] name e x m same = m
root_unknown (y ∷ xs) name e x m same = elim (same_one y.name name) [
  | inl h ↦ none-some y.id (sym e ∙ cond-true _ _ _ h.0)
  | inr h ↦ elim m [ inl q ↦ true≢false (sym (same_true y.name name (ap (λ (z : RootIndex). z.name) q ∙ same)) ∙ h) | inr rest ↦ root_unknown xs name (sym (cond-false _ _ _ h) ∙ e) x rest same ]
]

index_unknown : (refs : List IndexRef) (name : Bytes) → index_id refs name ≡ None → (r : IndexRef) → Has refs r → r.name ≡ name → ⊥
index_unknown [] name e r m same = m
index_unknown (q ∷ refs) name e r m same = elim (same_one q.name name) [
  | inl h ↦ none-some q.id (sym e ∙ cond-true _ _ _ h.0)
  | inr h ↦ elim m [ inl p ↦ true≢false (sym (same_true q.name name (ap (λ (z : IndexRef). z.name) p ∙ same)) ∙ h) | inr rest ↦ index_unknown refs name (sym (cond-false _ _ _ h) ∙ e) r rest same ]
]

open_unknown : (ops : List (ℕ × Op)) (name : Bytes) → open_index_id ops name ≡ None → (p : ℕ) (q : Op) → Has ops (p, q) → (r : IndexRef) → Has q.indices r → r.name ≡ name → ⊥
open_unknown [] name e p q m r rm same = m
open_unknown (x ∷ ops) name e p q m r rm same =
    let h = neither (index_id x.1.indices name) (open_index_id ops name) e in
    elim m [
      | inl is ↦ index_unknown x.1.indices name h.0 r (subst (λ (y : ℕ × Op). Has y.1.indices r) (sym is) rm) same
      | inr rest ↦ open_unknown ops name h.1 p q rest r rm same
    ]

pub unknown_root : (w : World) (name : Bytes) → known_id w name ≡ None → (x : RootIndex) → Has w.root.indices x → x.name ≡ name → ⊥
unknown_root w name e = root_unknown w.root.indices name (neither (root_index_id w.root.indices name) (open_index_id (fin.entries w.ops) name) e).0

pub unknown_open : (w : World) (name : Bytes) → known_id w name ≡ None → (p : ℕ) (q : Op) → fin.get w.ops p ≡ Some q → (r : IndexRef) → Has q.indices r → r.name ≡ name → ⊥
unknown_open w name e p q there = open_unknown (fin.entries w.ops) name (neither (root_index_id w.root.indices name) (open_index_id (fin.entries w.ops) name) e).1 p q (got_entry w.ops p q there)

-- an index has a known id, or its name is new
pub ref_known : (w : World) (asked : List AskedIndex) (next : ℕ) (r : IndexRef) → Has (refs_from w next asked) r → IsKnownId w r ⊎ (known_id w r.name ≡ None)
ref_known w [] next r m = absurd m
ref_known w (a ∷ asked) next r (inl same) = subst (λ (x : IndexRef). IsKnownId w x ⊎ (known_id w x.name ≡ None)) same (elim (told (known_id w a.name)) [
  | inl none ↦ inr (ap (known_id w) (ref_name a (known_id w a.name) next) ∙ none)
  | inr h ↦ inl (subst (λ o. IsKnownId w (ref_by a o next)) (sym h.1) (known_is w a h.0 h.1))
])
ref_known w (a ∷ asked) next r (inr m) = ref_known w asked (next_by (known_id w a.name) next) r m
