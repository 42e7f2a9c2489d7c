-- What is to be known of the root with a snapshot more.
use Rattle.std.proofs.Common.{◌≡◌, ◌⊎◌, ℕ, zero, suc, pred, ◌+◌, ◌<◌, List, [], ◌∷◌, ◌++◌, true, false, true≢false, ◌==◌, Option, Some, None, map, refl, sym, ap, ◌∙◌, subst, inl, inr, arith, nat_cmp, max}
use Rattle.std.proofs.lemmas.Bool.Decides.{eqb_tells}
use Rattle.std.specs.declared.cmp.Ordering.{Ordering}
use Rattle.std.specs.declared.cmp.Ordering.TheVariants.{Less, Equal, Greater}
use Rattle.std.specs.Ordering.{eq_by_cmp, is_eq}
use Rattle.std.specs.Cmp.{eq_by_cmp_equiv}
use Rattle.std.specs.Cmp.Lexicographic.{slice_cmp, nat_list_cmp_total}
use Rattle.std.specs.Prelude.{if◌then◌else◌}
use Rattle.std.proofs.lemmas.Bool.{cases_Bool, cond-true, cond-false}
use Rattle.std.proofs.lemmas.Option.{same_Some, none-some}
use Rattle.esr_model.specs.Places.{places, by_order, sorted_by, put_by}
use Rattle.esr_model.specs.Names.{BlobName}
use Rattle.esr_model.specs.Values.{Bytes, IndexRef, RootIndex, RootData, SnapInfo, ShardResult, IsOneEach, Formats}
use Rattle.esr_model.specs.Image.{Has, index_at, at_shard, at_shard_of, RootIs}
use Rattle.esr_model.specs.Finalize.{Finalizes, finalized_root, finalized_indices, named_first, larger, done_at, merged, ref_of, with_ref, has_id, new_indices}
use Rattle.esr_core.specs.World.{Op, ShardWork, Done, AllDone, info_of, Work, Finalize, Swap, swap_of, metadata}
use Rattle.esr_core.specs.Generations.{OpLaw}
use Rattle.esr_model.specs.Shelf.{Command}
use Rattle.esr_core.specs.Laws.DoneShards.{found_done}
use Rattle.esr_core.specs.Laws.SortedLists.{in_places, Has-sorted, sorted-Has}
use Rattle.esr_core.specs.Laws.Tests.{told}
use Rattle.esr_model.specs.Lists.{Has-map, Has-mapped, Has-append, Has-left, Has-right, Has-either}

pub larger_none : (a : Option ℕ) → larger a None ≡ a
larger_none None = refl
larger_none (Some x) = refl

pub merged_at : (results : List ShardResult) (id k : ℕ) (gs : List (Option ℕ)) (n j q : ℕ) → q ≡ k + j
    → ((g : ℕ) → done_at results id q ≡ Some g → j < n) → at_shard (merged results id k gs n) j ≡ larger (at_shard gs j) (done_at results id q)
merged_at results id k (g ∷ gs) n zero q e below = let same : k ≡ q = omega arith in ap (λ x. larger g (done_at results id x)) same
merged_at results id k (g ∷ gs) n (suc j) q e below = merged_at results id (suc k) gs (pred n) j q (omega arith) (λ h is. let b : suc j < n = below h is in omega arith)
merged_at results id k [] zero j q e below = elim (told (done_at results id q)) [
  | inl none ↦ sym none
  | inr some ↦ absurd (let b : j < 0 = below some.0 some.1 in omega arith)
]
merged_at results id k [] (suc n) zero q e below = let same : k ≡ q = omega arith in ap (done_at results id) same
merged_at results id k [] (suc n) (suc j) q e below = merged_at results id (suc k) [] n j q (omega arith) (λ h is. let b : suc j < suc n = below h is in omega arith)

pub index_found : (xs : List RootIndex) (id : ℕ) (x : RootIndex) → index_at xs id ≡ Some x → Has xs x × (x.id ≡ id)
index_found [] id x e = absurd (none-some x e)
index_found (y ∷ ys) id x e = elim (eqb_tells y.id id) [
  | inl h ↦ let same : y ≡ x = same_Some _ _ (sym (cond-true _ _ _ h.0) ∙ e) in (inl same, ap (λ (z : RootIndex). z.id) (sym same) ∙ h.1)
  | inr h ↦ let rest = index_found ys id x (sym (cond-false _ _ _ h.0) ∙ e) in (inr rest.0, rest.1)
]

index_none : (xs : List RootIndex) (id : ℕ) → index_at xs id ≡ None → has_id xs id ≡ false
index_none [] id e = refl
index_none (y ∷ ys) id e = elim (eqb_tells y.id id) [
  | inl h ↦ absurd (none-some y (sym e ∙ cond-true _ _ _ h.0))
  | inr h ↦ cond-false _ _ _ h.0 ∙ index_none ys id (sym (cond-false _ _ _ h.0) ∙ e)
]

has_found : (xs : List RootIndex) (id : ℕ) → has_id xs id ≡ true → (x : RootIndex) × Has xs x × (x.id ≡ id)
has_found [] id e = absurd (true≢false (sym e))
has_found (y ∷ ys) id e = elim (eqb_tells y.id id) [
  | inl h ↦ (y, inl refl, h.1)
  | inr h ↦ let (x, m, i) = has_found ys id (sym (cond-false _ _ _ h.0) ∙ e) in (x, inr m, i)
]

ref_found : (refs : List IndexRef) (id : ℕ) (r : IndexRef) → ref_of refs id ≡ Some r → Has refs r × (r.id ≡ id)
ref_found [] id r e = absurd (none-some r e)
ref_found (y ∷ ys) id r e = elim (eqb_tells y.id id) [
  | inl h ↦ let same : y ≡ r = same_Some _ _ (sym (cond-true _ _ _ h.0) ∙ e) in (inl same, ap (λ (z : IndexRef). z.id) (sym same) ∙ h.1)
  | inr h ↦ let rest = ref_found ys id r (sym (cond-false _ _ _ h.0) ∙ e) in (inr rest.0, rest.1)
]

ref_there : (refs : List IndexRef) (id : ℕ) (r : IndexRef) → Has refs r → r.id ≡ id → ref_of refs id ≡ None → ⊥
ref_there [] id r m i e = m
ref_there (y ∷ ys) id r m i e = elim (eqb_tells y.id id) [
  | inl h ↦ none-some y (sym e ∙ cond-true _ _ _ h.0)
  | inr h ↦ elim m [ inl same ↦ h.1 (ap (λ (z : IndexRef). z.id) same ∙ i) | inr rest ↦ ref_there ys id r rest i (sym (cond-false _ _ _ h.0) ∙ e) ]
]

name_kept : (info : SnapInfo) (results : List ShardResult) (x : RootIndex) (o : Option IndexRef) → (with_ref info results x o).name ≡ x.name
name_kept info results x None = refl
name_kept info results x (Some r) = refl

id_kept : (info : SnapInfo) (results : List ShardResult) (x : RootIndex) (o : Option IndexRef) → (with_ref info results x o).id ≡ x.id
id_kept info results x None = refl
id_kept info results x (Some r) = refl

snapshots_kept : (info : SnapInfo) (results : List ShardResult) (x : RootIndex) (o : Option IndexRef) (u : ℕ) → Has x.snapshots u → Has (with_ref info results x o).snapshots u
snapshots_kept info results x None u h = h
snapshots_kept info results x (Some r) u h = Has-left x.snapshots (info.uuid ∷ []) u h

snapshots_from : (info : SnapInfo) (results : List ShardResult) (x : RootIndex) (o : Option IndexRef) (u : ℕ) → Has (with_ref info results x o).snapshots u → Has x.snapshots u ⊎ ((info.uuid ≡ u) × ((r : IndexRef) × (o ≡ Some r)))
snapshots_from info results x None u h = inl h
snapshots_from info results x (Some r) u h = elim (Has-append x.snapshots info.uuid u h) [ inl m ↦ inl m | inr e ↦ inr (e, (r, refl)) ]

snapshots_new : (info : SnapInfo) (results : List ShardResult) (x : RootIndex) (o : Option IndexRef) → (o ≡ None → ⊥) → Has (with_ref info results x o).snapshots info.uuid
snapshots_new info results x None some = absurd (some refl)
snapshots_new info results x (Some r) some = Has-right x.snapshots (info.uuid ∷ []) info.uuid (inl refl)

abbrev fresh : SnapInfo → List ShardResult → IndexRef → RootIndex
fresh info results r = record { name = r.name; id = r.id; snapshots = info.uuid ∷ []; generations = merged results r.id 0 [] r.shards }

new_from : (info : SnapInfo) (results : List ShardResult) (old : List RootIndex) (refs : List IndexRef) (y : RootIndex) → Has (new_indices info results old refs) y → (r : IndexRef) × Has refs r × (fresh info results r ≡ y)
new_from info results old [] y h = absurd h
new_from info results old (r ∷ refs) y h = elim (cases_Bool (has_id old r.id)) [
  | inl e ↦ let (q, m, same) = new_from info results old refs y (subst (λ xs. Has xs y) (cond-true _ _ _ e) h) in (q, inr m, same)
  | inr e ↦ elim (at_head (subst (λ xs. Has xs y) (cond-false _ _ _ e) h)) [
    | inl same ↦ (r, inl refl, same)
    | inr rest ↦ let (q, m, same) = new_from info results old refs y rest in (q, inr m, same)
  ]
]
  where
    at_head : Has (fresh info results r ∷ new_indices info results old refs) y → (fresh info results r ≡ y) ⊎ Has (new_indices info results old refs) y
    at_head x = x

new_made : (info : SnapInfo) (results : List ShardResult) (old : List RootIndex) (refs : List IndexRef) (r : IndexRef) → Has refs r → has_id old r.id ≡ false → Has (new_indices info results old refs) (fresh info results r)
new_made info results old [] r h e = absurd h
new_made info results old (q ∷ refs) r (inl same) e =
    subst (λ xs. Has xs (fresh info results r)) (sym (cond-false _ _ _ (ap (λ (x : IndexRef). has_id old x.id) same ∙ e))) (inl (ap (fresh info results) same))
new_made info results old (q ∷ refs) r (inr m) e =
    let rest : Has (new_indices info results old refs) (fresh info results r) = new_made info results old refs r m e in
    elim (cases_Bool (has_id old q.id)) [
      | inl t ↦ subst (λ xs. Has xs (fresh info results r)) (sym (cond-true _ _ _ t)) rest
      | inr t ↦ subst (λ xs. Has xs (fresh info results r)) (sym (cond-false _ _ _ t)) (inr rest)
    ]

-- a new index is one that the old ones don't have
new_absent : (info : SnapInfo) (results : List ShardResult) (old : List RootIndex) (refs : List IndexRef) (y : RootIndex) → Has (new_indices info results old refs) y
    → (r : IndexRef) × Has refs r × (has_id old r.id ≡ false) × (fresh info results r ≡ y)
new_absent info results old [] y h = absurd h
new_absent info results old (r ∷ refs) y h = elim (cases_Bool (has_id old r.id)) [
  | inl e ↦ let (q, m, absent, same) = new_absent info results old refs y (subst (λ xs. Has xs y) (cond-true _ _ _ e) h) in (q, inr m, absent, same)
  | inr e ↦ elim (at_head (subst (λ xs. Has xs y) (cond-false _ _ _ e) h)) [
    | inl same ↦ (r, inl refl, e, same)
    | inr rest ↦ let (q, m, absent, same) = new_absent info results old refs y rest in (q, inr m, absent, same)
  ]
]
  where
    at_head : Has (fresh info results r ∷ new_indices info results old refs) y → (fresh info results r ≡ y) ⊎ Has (new_indices info results old refs) y
    at_head x = x

has_there : (xs : List RootIndex) (x : RootIndex) (id : ℕ) → Has xs x → x.id ≡ id → has_id xs id ≡ true
has_there [] x id m e = absurd m
has_there (y ∷ ys) x id m e = elim (eqb_tells y.id id) [
  | inl h ↦ cond-true _ _ _ h.0
  | inr h ↦ elim m [ inl same ↦ absurd (h.1 (ap (λ (z : RootIndex). z.id) same ∙ e)) | inr rest ↦ cond-false _ _ _ h.0 ∙ has_there ys x id rest e ]
]

-- of two indices of one name each comes first
first_of_one : (x y : RootIndex) → x.name ≡ y.name → named_first x y ≡ true
first_of_one x y e = tied (slice_cmp nat_cmp x.name y.name) (subst (λ n. eq_by_cmp (slice_cmp nat_cmp) x.name n ≡ true) e ((eq_by_cmp_equiv nat_list_cmp_total).refl x.name))
  where
    tied : (r : Ordering) → is_eq r ≡ true → by_order r true ≡ true
    tied Less h = refl
    tied Equal h = refl
    tied Greater h = absurd (true≢false (sym h))

-- one name to each id
abbrev pub IsOneName : List RootIndex → Type 0
IsOneName indices = (x y : RootIndex) → Has indices x → Has indices y → x.id ≡ y.id → x.name ≡ y.name

-- in an ordered list that has one name to each id a look-up finds what it finds in the list
index_put : (x : RootIndex) (xs : List RootIndex) (id : ℕ) → ((y : RootIndex) → Has xs y → y.id ≡ x.id → y.name ≡ x.name) → index_at (put_by named_first x xs) id ≡ index_at (x ∷ xs) id
index_put x [] id one = refl
index_put x (y ∷ ys) id one = elim (cases_Bool (named_first x y)) [
  | inl t ↦ ap (λ zs. index_at zs id) (cond-true _ _ _ t)
  | inr t ↦ ap (λ zs. index_at zs id) (cond-false _ _ _ t) ∙ later t (index_put x ys id (λ z m. one z (inr m)))
]
  where
    later : named_first x y ≡ false → index_at (put_by named_first x ys) id ≡ index_at (x ∷ ys) id → index_at (y ∷ put_by named_first x ys) id ≡ index_at (x ∷ y ∷ ys) id
    later t rest = elim (eqb_tells y.id id) [
      | inl h ↦ elim (eqb_tells x.id id) [
        | inl i ↦ absurd (true≢false (sym (first_of_one x y (sym (one y (inl refl) (h.1 ∙ sym i.1)))) ∙ t))
        | inr i ↦ cond-true _ _ _ h.0 ∙ sym (cond-true _ _ _ h.0) ∙ sym (cond-false _ _ _ i.0)
      ]
      | inr h ↦ elim (eqb_tells x.id id) [
        | inl i ↦ cond-false _ _ _ h.0 ∙ rest ∙ cond-true _ _ _ i.0 ∙ sym (cond-true _ _ _ i.0)
        | inr i ↦ cond-false _ _ _ h.0 ∙ rest ∙ cond-false _ _ _ i.0 ∙ sym (cond-false _ _ _ h.0) ∙ sym (cond-false _ _ _ i.0)
      ]
    ]

index_sorted : (xs : List RootIndex) → IsOneName xs → (id : ℕ) → index_at (sorted_by named_first xs) id ≡ index_at xs id
index_sorted [] one id = refl
index_sorted (x ∷ xs) one id =
    index_put x (sorted_by named_first xs) id (λ y m e. one y x (inr (Has-sorted named_first xs y m)) (inl refl) e) ∙ ap (λ o. if x.id == id then Some x else o) (index_sorted xs (λ a b am bm. one a b (inr am) (inr bm)) id)

-- the safe root lists each index once
pub root_one_each : (f : Formats) (has : BlobName → Bytes → Type 0) (safe : ℕ) (root : RootData) → RootIs f has safe root → IsOneEach root.indices
root_one_each f has zero root is x y xm ym e = absurd (subst (λ (r : RootData). Has r.indices x) is xm)
root_one_each f has (suc n) root is x y xm ym e = f.one_each is.bytes root is.reads x y xm ym e

-- the index of an id in the old part of the new root
index_kept : (info : SnapInfo) (results : List ShardResult) (old : List RootIndex) (news : List RootIndex) (id : ℕ) (x : RootIndex) → index_at old id ≡ Some x
    → index_at (map (λ (z : RootIndex). with_ref info results z (ref_of info.indices z.id)) old ++ news) id ≡ Some (with_ref info results x (ref_of info.indices x.id))
index_kept info results [] news id x e = absurd (none-some x e)
index_kept info results (y ∷ ys) news id x e = elim (eqb_tells y.id id) [
  | inl h ↦
      let same : y ≡ x = same_Some _ _ (sym (cond-true _ _ _ h.0) ∙ e) in
      cond-true _ _ _ (ap (λ i. i == id) (id_kept info results y (ref_of info.indices y.id)) ∙ h.0) ∙ ap (λ (z : RootIndex). Some (with_ref info results z (ref_of info.indices z.id))) same
  | inr h ↦ cond-false _ _ _ (ap (λ i. i == id) (id_kept info results y (ref_of info.indices y.id)) ∙ h.0) ∙ index_kept info results ys news id x (sym (cond-false _ _ _ h.0) ∙ e)
]

-- and past it
index_past : (info : SnapInfo) (results : List ShardResult) (old : List RootIndex) (news : List RootIndex) (id : ℕ) → index_at old id ≡ None
    → index_at (map (λ (z : RootIndex). with_ref info results z (ref_of info.indices z.id)) old ++ news) id ≡ index_at news id
index_past info results [] news id e = refl
index_past info results (y ∷ ys) news id e = elim (eqb_tells y.id id) [
  | inl h ↦ absurd (none-some y (sym e ∙ cond-true _ _ _ h.0))
  | inr h ↦ cond-false _ _ _ (ap (λ i. i == id) (id_kept info results y (ref_of info.indices y.id)) ∙ h.0) ∙ index_past info results ys news id (sym (cond-false _ _ _ h.0) ∙ e)
]

-- the generations of an index that the old root doesn't have
new_generations : (info : SnapInfo) (results : List ShardResult) (old : List RootIndex) (refs : List IndexRef) (id shard : ℕ) → index_at old id ≡ None
    → ((g : ℕ) → done_at results id shard ≡ Some g → (r : IndexRef) × Has refs r × (r.id ≡ id))
    → ((r : IndexRef) → Has refs r → r.id ≡ id → (g : ℕ) → done_at results id shard ≡ Some g → shard < r.shards)
    → at_shard_of (index_at (new_indices info results old refs) id) shard ≡ done_at results id shard
new_generations info results old [] id shard none some below = elim (told (done_at results id shard)) [
  | inl e ↦ sym e
  | inr e ↦ absurd (some e.0 e.1).1
]
new_generations info results old (r ∷ refs) id shard none some below = elim (eqb_tells r.id id) [
  | inl h ↦
      let absent : has_id old r.id ≡ false = ap (has_id old) h.1 ∙ index_none old id none in
      ap (λ xs. at_shard_of (index_at xs id) shard) (cond-false _ _ _ absent) ∙ ap (λ x. at_shard_of x shard) (cond-true _ _ _ h.0)
      ∙ merged_at results r.id 0 [] r.shards shard shard (omega arith) (λ g e. below r (inl refl) h.1 g (ap (λ i. done_at results i shard) (sym h.1) ∙ e)) ∙ ap (λ i. done_at results i shard) h.1
  | inr h ↦
      let rest : at_shard_of (index_at (new_indices info results old refs) id) shard ≡ done_at results id shard =
      new_generations info results old refs id shard none
      (λ g e. let (q, m, i) = some g e in (q, elim m [ inl same ↦ absurd (h.1 (ap (λ (z : IndexRef). z.id) same ∙ i)) | inr m' ↦ m' ], i))
      (λ q m. below q (inr m)) in
      elim (cases_Bool (has_id old r.id)) [
        | inl t ↦ ap (λ xs. at_shard_of (index_at xs id) shard) (cond-true _ _ _ t) ∙ rest
        | inr t ↦ ap (λ xs. at_shard_of (index_at xs id) shard) (cond-false _ _ _ t) ∙ ap (λ x. at_shard_of x shard) (cond-false _ _ _ h.0) ∙ rest
      ]
]

-- what a root and an op have to do with one another
pub record Suits (root : RootData) (op : Op) : Type 0 where
  pub places : map (λ (s : ShardWork). (s.ref, s.number)) op.shards ≡ places op.indices
  pub results : (s : ShardWork) (r : ShardResult) → Has op.shards s → s.state ≡ Done r → (r.index ≡ s.ref.id) × (r.shard ≡ s.number)
  pub one_id : (r q : IndexRef) → Has op.indices r → Has op.indices q → r.id ≡ q.id → r ≡ q
  pub same_name : (r : IndexRef) (x : RootIndex) → Has op.indices r → Has root.indices x → r.id ≡ x.id → r.name ≡ x.name

module _ (root : RootData) (op : Op) (results : List ShardResult) (law : Suits root op) (one : IsOneName root.indices) (done : AllDone op.shards results) where
  -- a result is of an index of the op, and of a shard that it has
  result_of : (id shard g : ℕ) → done_at results id shard ≡ Some g → (r : IndexRef) × Has op.indices r × (r.id ≡ id) × (shard < r.shards)
  result_of id shard g e =
      let (s, m, (r, state, i, n, gen)) = found_done op.shards results done law.results id shard g e in
      let place : Has (places op.indices) (s.ref, s.number) = subst (λ xs. Has xs (s.ref, s.number)) law.places (Has-map (λ (z : ShardWork). (z.ref, z.number)) op.shards s m) in
      let (ref_is, below) = in_places op.indices (s.ref, s.number) place in
      (s.ref, ref_is, i, subst (λ k. k < s.ref.shards) n below)

  generations : (id shard : ℕ) → at_shard_of (index_at (map (λ (x : RootIndex). with_ref (info_of op results) results x (ref_of op.indices x.id)) root.indices ++ new_indices (info_of op results) results root.indices op.indices) id) shard
      ≡ larger (at_shard_of (index_at root.indices id) shard) (done_at results id shard)
  generations id shard = elim (told (index_at root.indices id)) [
    | inl none ↦
        ap (λ x. at_shard_of x shard) (index_past (info_of op results) results root.indices (new_indices (info_of op results) results root.indices op.indices) id none)
        ∙ new_generations (info_of op results) results root.indices op.indices id shard none
        (λ g e. let (r, m, i, b) = result_of id shard g e in (r, m, i))
        (λ r m i g e. let (q, n, j, b) = result_of id shard g e in subst (λ (z : IndexRef). shard < z.shards) (law.one_id q r n m (j ∙ sym i)) b)
        ∙ sym (ap (λ x. larger (at_shard_of x shard) (done_at results id shard)) none)
    | inr some ↦
        let x : RootIndex = some.0 in
        let id_is : x.id ≡ id = (index_found root.indices id x some.1).1 in
        ap (λ y. at_shard_of y shard) (index_kept (info_of op results) results root.indices (new_indices (info_of op results) results root.indices op.indices) id x some.1)
        ∙ at_ref x id_is (ref_of op.indices x.id) refl
        ∙ sym (ap (λ y. larger (at_shard_of y shard) (done_at results id shard)) some.1)
  ]
    where
      at_ref : (x : RootIndex) → x.id ≡ id → (o : Option IndexRef) → ref_of op.indices x.id ≡ o → at_shard (with_ref (info_of op results) results x o).generations shard ≡ larger (at_shard x.generations shard) (done_at results id shard)
      at_ref x i None e = elim (told (done_at results id shard)) [
        | inl none ↦ sym (ap (larger (at_shard x.generations shard)) none ∙ larger_none (at_shard x.generations shard))
        | inr some ↦ absurd (let (r, m, j, b) = result_of id shard some.0 some.1 in ref_there op.indices x.id r m (j ∙ sym i) e)
      ]
      at_ref x i (Some r) e =
          let found = ref_found op.indices x.id r e in
          merged_at results x.id 0 x.generations r.shards shard shard (omega arith)
          (λ g is. let (q, m, j, b) = result_of id shard g (ap (λ k. done_at results k shard) (sym i) ∙ is) in subst (λ (z : IndexRef). shard < z.shards) (law.one_id q r m found.0 (j ∙ sym i ∙ sym found.1)) b)
          ∙ ap (λ k. larger (at_shard x.generations shard) (done_at results k shard)) i

  -- each id has one name
  all_one : IsOneName (finalized_indices root (info_of op results) results)
  all_one x y xm ym e =
      let g : RootIndex → RootIndex = λ x. with_ref (info_of op results) results x (ref_of op.indices x.id) in
      elim (Has-either (map g root.indices) (new_indices (info_of op results) results root.indices op.indices) x xm) [
        | inl xo ↦ elim (Has-either (map g root.indices) (new_indices (info_of op results) results root.indices op.indices) y ym) [
          | inl yo ↦
              let (a, am, ae) = Has-mapped g root.indices x xo in
              let (b, bm, be) = Has-mapped g root.indices y yo in
              let same : a.name ≡ b.name =
              one a b am bm (sym (id_kept (info_of op results) results a (ref_of op.indices a.id)) ∙ ap (λ (z : RootIndex). z.id) ae ∙ e ∙ sym (ap (λ (z : RootIndex). z.id) be)
              ∙ id_kept (info_of op results) results b (ref_of op.indices b.id)) in
              ap (λ (z : RootIndex). z.name) (sym ae) ∙ name_kept (info_of op results) results a (ref_of op.indices a.id) ∙ same ∙ sym (name_kept (info_of op results) results b (ref_of op.indices b.id)) ∙ ap (λ (z : RootIndex). z.name) be
          | inr yn ↦
              let (a, am, ae) = Has-mapped g root.indices x xo in
              let (r, rm, absent, re) = new_absent (info_of op results) results root.indices op.indices y yn in
              absurd (true≢false (sym (has_there root.indices a r.id am (sym (id_kept (info_of op results) results a (ref_of op.indices a.id)) ∙ ap (λ (z : RootIndex). z.id) ae ∙ e ∙ sym (ap (λ (z : RootIndex). z.id) re))) ∙ absent))
        ]
        | inr xn ↦ elim (Has-either (map g root.indices) (new_indices (info_of op results) results root.indices op.indices) y ym) [
          | inl yo ↦
              let (b, bm, be) = Has-mapped g root.indices y yo in
              let (r, rm, absent, re) = new_absent (info_of op results) results root.indices op.indices x xn in
              absurd (true≢false (sym (has_there root.indices b r.id bm (sym (id_kept (info_of op results) results b (ref_of op.indices b.id)) ∙ ap (λ (z : RootIndex). z.id) be ∙ sym e ∙ sym (ap (λ (z : RootIndex). z.id) re))) ∙ absent))
          | inr yn ↦
              let (r, rm, r_absent, re) = new_absent (info_of op results) results root.indices op.indices x xn in
              let (q, qm, q_absent, qe) = new_absent (info_of op results) results root.indices op.indices y yn in
              let same : r ≡ q = law.one_id r q rm qm (ap (λ (z : RootIndex). z.id) re ∙ e ∙ sym (ap (λ (z : RootIndex). z.id) qe)) in
              ap (λ (z : RootIndex). z.name) (sym re) ∙ ap (λ (z : IndexRef). z.name) same ∙ ap (λ (z : RootIndex). z.name) qe
        ]
      ]

  only : (a u : ℕ) → Has (a ∷ []) u → u ≡ a
  only a u (inl e) = sym e
  only a u (inr h) = absurd h

  pub finalized_is : Finalizes root (info_of op results) results (finalized_root root (info_of op results) results)
  unfolding finalized_root
  finalized_is =
      let info : SnapInfo = info_of op results in
      let g : RootIndex → RootIndex = λ x. with_ref info results x (ref_of op.indices x.id) in
      let news : List RootIndex = new_indices info results root.indices op.indices in
      let all : List RootIndex = map g root.indices ++ news in
      record {
        snapshots = refl;
        kept = λ x m. (
          g x,
          sorted-Has named_first all (g x) (Has-left (map g root.indices) news (g x) (Has-map g root.indices x m)),
          name_kept info results x (ref_of op.indices x.id),
          id_kept info results x (ref_of op.indices x.id),
          snapshots_kept info results x (ref_of op.indices x.id),
        );
        from = λ y m u has. elim (Has-either (map g root.indices) news y (Has-sorted named_first all y m)) [
          | inl old ↦
              let (x, x_there, same) = Has-mapped g root.indices y old in
              elim (snapshots_from info results x (ref_of op.indices x.id) u (subst (λ (z : RootIndex). Has z.snapshots u) (sym same) has)) [
                | inl was ↦ inr (x, x_there, sym (name_kept info results x (ref_of op.indices x.id)) ∙ ap (λ (z : RootIndex). z.name) same, sym (id_kept info results x (ref_of op.indices x.id)) ∙ ap (λ (z : RootIndex). z.id) same, was)
                | inr new ↦
                    let (e, (r, some)) = new in
                    let found = ref_found op.indices x.id r some in
                    inl (
                      sym e,
                      (
                        r,
                        found.0,
                        law.same_name r x found.0 x_there found.1 ∙ sym (name_kept info results x (ref_of op.indices x.id)) ∙ ap (λ (z : RootIndex). z.name) same,
                        found.1
                            ∙ sym (id_kept info results x (ref_of op.indices x.id)) ∙ ap (λ (z : RootIndex). z.id) same,
                      ),
                    )
              ]
          | inr new ↦
              let (r, r_there, same) = new_from info results root.indices op.indices y new in
              inl (only info.uuid u (subst (λ (z : RootIndex). Has z.snapshots u) (sym same) has), (r, r_there, ap (λ (z : RootIndex). z.name) same, ap (λ (z : RootIndex). z.id) same))
        ];
        names = λ y m. elim (Has-either (map g root.indices) news y (Has-sorted named_first all y m)) [
          | inl old ↦
              let (x, x_there, same) = Has-mapped g root.indices y old in
              inl (x, x_there, sym (name_kept info results x (ref_of op.indices x.id)) ∙ ap (λ (z : RootIndex). z.name) same, sym (id_kept info results x (ref_of op.indices x.id)) ∙ ap (λ (z : RootIndex). z.id) same)
          | inr new ↦
              let (r, r_there, same) = new_from info results root.indices op.indices y new in
              inr (r, r_there, ap (λ (z : RootIndex). z.name) same, ap (λ (z : RootIndex). z.id) same)
        ];
        made = λ r m. elim (cases_Bool (has_id root.indices r.id)) [
          | inl old ↦
              let (x, x_there, i) = has_found root.indices r.id old in (
                g x,
                sorted-Has named_first all (g x) (Has-left (map g root.indices) news (g x) (Has-map g root.indices x x_there)),
                name_kept info results x (ref_of op.indices x.id) ∙ sym (law.same_name r x m x_there (sym i)),
                id_kept info results x (ref_of op.indices x.id) ∙ i,
                snapshots_new info results x (ref_of op.indices x.id) (ref_there op.indices x.id r m (sym i)),
              )
          | inr new ↦ (fresh info results r, sorted-Has named_first all (fresh info results r) (Has-right (map g root.indices) news (fresh info results r) (new_made info results root.indices op.indices r m new)), refl, refl, inl refl)
        ];
        generations = λ id shard. ap (λ o. at_shard_of o shard) (index_sorted all all_one id) ∙ generations id shard;
      }

pub finalizes : (f : Formats) (has : BlobName → Bytes → Type 0) (root : RootData) (op : Op) (results : List ShardResult) → OpLaw f has root op → IsOneEach root.indices → AllDone op.shards results
    → Finalizes root (info_of op results) results (finalized_root root (info_of op results) results)
finalizes f has root op results law one done =
    finalized_is root op results (record {
      places = law.places;
      results = λ s r m state. let d = law.done s r m state in (d.index_is, d.shard_is);
      one_id = law.one_id;
      same_name = law.same_name;
    }) (λ x y xm ym e. ap (λ (z : RootIndex). z.name) (one x y xm ym e)) done

-- the larger of two is one of them, and not below either
pub larger_is : (a b : Option ℕ) (g : ℕ) → larger a b ≡ Some g → (a ≡ Some g) ⊎ (b ≡ Some g)
larger_is None b g e = inr e
larger_is (Some x) None g e = inl e
larger_is (Some x) (Some y) g e = let h : max x y ≡ g = same_Some _ _ e in let k : (x ≡ g) ⊎ (y ≡ g) = grind arith in elim k [ inl p ↦ inl (ap Some p) | inr p ↦ inr (ap Some p) ]

pub larger_old : (a b : Option ℕ) (g : ℕ) → a ≡ Some g → (now : ℕ) × (larger a b ≡ Some now) × ((now ≡ g) ⊎ ((g < now) × (b ≡ Some now)))
larger_old a None g e = (g, ap (λ x. larger x None) e, inl refl)
larger_old a (Some y) g e = (max g y, ap (λ x. larger x (Some y)) e, cases)
  where
    cases : (max g y ≡ g) ⊎ ((g < max g y) × (Some y ≡ Some (max g y)))
    cases = let k : (max g y ≡ g) ⊎ ((g < y) × (max g y ≡ y)) = grind arith in elim k [ inl p ↦ inl p | inr p ↦ inr (omega (arith, p.0, p.1), ap Some (sym p.1)) ]

pub larger_new : (a b : Option ℕ) (g : ℕ) → b ≡ Some g → (now : ℕ) × (larger a b ≡ Some now) × ((now ≡ g) ⊎ ((g < now) × (a ≡ Some now)))
larger_new None b g e = (g, e, inl refl)
larger_new (Some x) b g e = (max x g, ap (larger (Some x)) e, cases)
  where
    cases : (max x g ≡ g) ⊎ ((g < max x g) × (Some x ≡ Some (max x g)))
    cases = let k : (max x g ≡ g) ⊎ ((g < x) × (max x g ≡ x)) = grind arith in elim k [ inl p ↦ inl p | inr p ↦ inr (omega (arith, p.0, p.1), ap Some (sym p.1)) ]

-- the swap of a finalization
pub of_swap : (f : Formats) (work : Work) (root : RootData) (s : Swap) → swap_of f work root ≡ Some s
    → (info : SnapInfo) (results : List ShardResult) (made : Command) → work ≡ Finalize info results made → record { root = finalized_root root info results; own = metadata f info; commands = made ∷ [] } ≡ s
of_swap f work root s e info results made is = same_Some _ _ (ap (λ x. swap_of f x root) (sym is) ∙ e)
