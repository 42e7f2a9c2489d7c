-- The root that a delete writes, by what it has of the old one: its snapshots, its indices, and the generation of each shard.
use Rattle.std.proofs.Common.{◌≡◌, ◌⊎◌, ℕ, zero, suc, Bool, true, false, List, [], ◌∷◌, map, set, Option, Some, None, option_map, refl, sym, ap, ◌∙◌, subst, inl, inr}
use Rattle.std.specs.Prelude.{◌==◌, if◌then◌else◌}
use Rattle.std.proofs.lemmas.Bool.Decides.{eqb_tells}
use Rattle.std.proofs.lemmas.Option.{none-some}
use Rattle.std.proofs.lemmas.Bool.{cond-true, cond-false, cases_Bool}
use Rattle.esr_model.specs.Values.{RootIndex, RootData, IsOneEach, Bytes, RootSnap}
use Rattle.esr_model.specs.Image.{Has, Generation, index_at, at_shard, at_shard_of}
use Rattle.esr_model.specs.Delete.{names_uuid, left_snaps, PrunedShard, next_after, own_id, fresh_from, left_uuids, left_index, left_indices, left_root, fresh_in, set_fresh, renewed, deleted_root, is_index, index_bytes}
use Rattle.esr_model.specs.Names.{BlobName}
use Rattle.esr_core.specs.Laws.NewRoots.{index_found}
use Rattle.esr_core.specs.Laws.Tests.{pair_tells, clash}

pub one_found : (xs : List RootIndex) → IsOneEach xs → (x : RootIndex) → Has xs x → (id : ℕ) → x.id ≡ id → index_at xs id ≡ Some x
one_found [] one x m id same = absurd m
one_found (z ∷ xs) one x m id same = elim (eqb_tells z.id id) [
  | inl t ↦ cond-true _ _ _ t.0 ∙ ap (λ (y : RootIndex). Some y) (one z x (inl refl) m (t.1 ∙ sym same))
  | inr t ↦ cond-false _ _ _ t.0 ∙ elim m [
    | inl e ↦ absurd (t.1 (ap (λ (y : RootIndex). y.id) e ∙ same))
    | inr rest ↦ one_found xs (λ a b p q. one a b (inr p) (inr q)) x rest id same
  ]
]

-- what is left of an index
abbrev pub left_of : List ℕ → RootIndex → RootIndex
left_of uuids x = record { name = x.name; id = x.id; snapshots = left_uuids uuids x.snapshots; generations = x.generations }

pub uuid_was : (uuids us : List ℕ) (u : ℕ) → Has (left_uuids uuids us) u → Has us u
uuid_was uuids [] u m = absurd m
uuid_was uuids (v ∷ us) u m = elim (cases_Bool (names_uuid uuids v)) [
  | inl b ↦ inr (uuid_was uuids us u (subst (λ (l : List ℕ). Has l u) (cond-true _ _ _ b) m))
  | inr b ↦ elim (subst (λ (l : List ℕ). Has l u) (cond-false _ _ _ b) m) [ inl e ↦ inl e | inr rest ↦ inr (uuid_was uuids us u rest) ]
]

pub uuid_left : (uuids us : List ℕ) (u : ℕ) → Has us u → names_uuid uuids u ≡ false → Has (left_uuids uuids us) u
uuid_left uuids [] u m e = absurd m
uuid_left uuids (v ∷ us) u m e = elim (cases_Bool (names_uuid uuids v)) [
  | inl b ↦ subst (λ (l : List ℕ). Has l u) (sym (cond-true _ _ _ b)) (elim m [
    | inl same ↦ absurd (not_both (names_uuid uuids v) b (ap (names_uuid uuids) same ∙ e))
    | inr rest ↦ uuid_left uuids us u rest e
  ])
  | inr b ↦ subst (λ (l : List ℕ). Has l u) (sym (cond-false _ _ _ b)) (elim m [ inl same ↦ inl same | inr rest ↦ inr (uuid_left uuids us u rest e) ])
]
  where
    not_both : (b : Bool) → b ≡ true → b ≡ false → ⊥
    not_both b p q = cc

-- an index that is left is what is left of one
one_was : (uuids : List ℕ) (x : RootIndex) (us : List ℕ) (rest : List RootIndex) (y : RootIndex) → left_uuids uuids x.snapshots ≡ us → Has (left_index x us rest) y → (y ≡ left_of uuids x) ⊎ Has rest y
one_was uuids x [] rest y e m = inr m
one_was uuids x (u ∷ us) rest y e (inl same) = inl (sym same ∙ (λ j. record { name = x.name; id = x.id; snapshots = sym e j; generations = x.generations }))
one_was uuids x (u ∷ us) rest y e (inr m) = inr m

pub index_was : (uuids : List ℕ) (xs : List RootIndex) (y : RootIndex) → Has (left_indices uuids xs) y → (x : RootIndex) × Has xs x × (y ≡ left_of uuids x)
index_was uuids [] y m = absurd m
index_was uuids (x ∷ xs) y m = elim (one_was uuids x (left_uuids uuids x.snapshots) (left_indices uuids xs) y refl m) [
  | inl e ↦ (x, inl refl, e)
  | inr rest ↦ let (z, there, e) = index_was uuids xs y rest in (z, inr there, e)
]

later_left : (x : RootIndex) (us : List ℕ) (rest : List RootIndex) (y : RootIndex) → Has rest y → Has (left_index x us rest) y
later_left x [] rest y m = m
later_left x (u ∷ us) rest y m = inr m

first_left : (uuids : List ℕ) (x : RootIndex) (us : List ℕ) (rest : List RootIndex) (u : ℕ) → left_uuids uuids x.snapshots ≡ us → Has us u → Has (left_index x us rest) (left_of uuids x)
first_left uuids x [] rest u e m = absurd m
first_left uuids x (v ∷ us) rest u e m = inl (λ j. record { name = x.name; id = x.id; snapshots = sym e j; generations = x.generations })

-- one that has a snapshot that isn't named is left
pub index_left : (uuids : List ℕ) (xs : List RootIndex) (x : RootIndex) (u : ℕ) → Has xs x → Has x.snapshots u → names_uuid uuids u ≡ false → Has (left_indices uuids xs) (left_of uuids x)
index_left uuids [] x u m mine e = absurd m
index_left uuids (z ∷ xs) x u (inl same) mine e =
    let own : Has z.snapshots u = subst (λ (y : RootIndex). Has y.snapshots u) (sym same) mine in
    subst (λ (y : RootIndex). Has (left_indices uuids (z ∷ xs)) (left_of uuids y)) same (first_left uuids z (left_uuids uuids z.snapshots) (left_indices uuids xs) u refl (uuid_left uuids z.snapshots u own e))
index_left uuids (z ∷ xs) x u (inr m) mine e = later_left z (left_uuids uuids z.snapshots) (left_indices uuids xs) (left_of uuids x) (index_left uuids xs x u m mine e)

pub left_one_each : (uuids : List ℕ) (xs : List RootIndex) → IsOneEach xs → IsOneEach (left_indices uuids xs)
left_one_each uuids xs one a b p q same =
    let (x, x_there, a_is) = index_was uuids xs a p in
    let (y, y_there, b_is) = index_was uuids xs b q in
    let ids : x.id ≡ y.id = sym (ap (λ (z : RootIndex). z.id) a_is) ∙ same ∙ ap (λ (z : RootIndex). z.id) b_is in
    a_is ∙ ap (left_of uuids) (one x y x_there y_there ids) ∙ sym b_is

-- a generation that is left was there
pub generation_was : (root : RootData) → IsOneEach root.indices → (uuids : List ℕ) (i k g : ℕ) → Generation (left_root root uuids) i k g → Generation root i k g
generation_was root one uuids i k g gen = go (index_at (left_indices uuids root.indices) i) refl gen
  where
    go : (o : Option RootIndex) → index_at (left_indices uuids root.indices) i ≡ o → at_shard_of o k ≡ Some g → Generation root i k g
    go None e at = absurd (none-some g at)
    go (Some y) e at =
        let (there, id) = index_found (left_indices uuids root.indices) i y e in
        let (x, x_there, y_is) = index_was uuids root.indices y there in
        let same : x.id ≡ i = sym (ap (λ (z : RootIndex). z.id) y_is) ∙ id in
        ap (λ (z : Option RootIndex). at_shard_of z k) (one_found root.indices one x x_there i same) ∙ sym (ap (λ (z : RootIndex). at_shard z.generations k) y_is) ∙ at

index_fresh : (i k : ℕ) (to : Option ℕ) (xs : List RootIndex) (j : ℕ) → index_at (map (fresh_in i k to) xs) j ≡ option_map (fresh_in i k to) (index_at xs j)
index_fresh i k to [] j = refl
index_fresh i k to (x ∷ xs) j = elim (cases_Bool (x.id == j)) [
  | inl e ↦ cond-true _ _ _ e ∙ sym (ap (option_map (fresh_in i k to)) (cond-true _ _ _ e))
  | inr e ↦ cond-false _ _ _ e ∙ index_fresh i k to xs j ∙ sym (ap (option_map (fresh_in i k to)) (cond-false _ _ _ e))
]

set_own : (gs : List (Option ℕ)) (k : ℕ) (to : Option ℕ) (g : ℕ) → at_shard (set gs k to) k ≡ Some g → to ≡ Some g
set_own [] k to g e = absurd (none-some g e)
set_own (x ∷ gs) zero to g e = e
set_own (x ∷ gs) (suc k) to g e = set_own gs k to g e

set_other : (gs : List (Option ℕ)) (k n : ℕ) (to : Option ℕ) → (n ≡ k → ⊥) → at_shard (set gs k to) n ≡ at_shard gs n
set_other (x ∷ gs) zero zero to h = absurd (h refl)
set_other (x ∷ gs) (suc k) (suc n) to h = set_other gs k n to (λ e. h (ap suc e))
set_other gs k n to h = refl

pub fresh_of : (i k : ℕ) (to : Option ℕ) (root : RootData) (j n : ℕ) → at_shard_of (index_at (set_fresh i k to root).indices j) n ≡ at_shard_of (option_map (fresh_in i k to) (index_at root.indices j)) n
fresh_of i k to root j n = ap (λ (o : Option RootIndex). at_shard_of o n) (index_fresh i k to root.indices j)

pub same_id : (a b : ℕ) → a ≡ b → (a == b) ≡ true
same_id a b e = elim (eqb_tells a b) [ inl t ↦ t.0 | inr t ↦ absurd (t.1 e) ]

-- of the shard itself
pub fresh_own : (i k g : ℕ) (to : Option ℕ) (root : RootData) → Generation (set_fresh i k to root) i k g → to ≡ Some g
fresh_own i k g to root gen = go (index_at root.indices i) refl (sym (fresh_of i k to root i k) ∙ gen)
  where
    go : (o : Option RootIndex) → index_at root.indices i ≡ o → at_shard_of (option_map (fresh_in i k to) o) k ≡ Some g → to ≡ Some g
    go None e at = absurd (none-some g at)
    go (Some x) e at =
        let own : (x.id == i) ≡ true = same_id x.id i (index_found root.indices i x e).1 in
        set_own x.generations k to g (ap (λ (gs : List (Option ℕ)). at_shard gs k) (sym (cond-true _ _ _ own)) ∙ at)

-- of any other
pub fresh_other : (i k j n : ℕ) (to : Option ℕ) (root : RootData) → (i ≡ j → k ≡ n → ⊥) → at_shard_of (index_at (set_fresh i k to root).indices j) n ≡ at_shard_of (index_at root.indices j) n
fresh_other i k j n to root apart = fresh_of i k to root j n ∙ go (index_at root.indices j) refl
  where
    go : (o : Option RootIndex) → index_at root.indices j ≡ o → at_shard_of (option_map (fresh_in i k to) o) n ≡ at_shard_of o n
    go None e = refl
    go (Some x) e = elim (eqb_tells x.id i) [
      | inl t ↦
          ap (λ (gs : List (Option ℕ)). at_shard gs n) (cond-true _ _ _ t.0)
          ∙ set_other x.generations k n to (λ same. apart (sym t.1 ∙ (index_found root.indices j x e).1) (sym same))
      | inr t ↦ ap (λ (gs : List (Option ℕ)). at_shard gs n) (cond-false _ _ _ t.0)
    ]

-- no two are of one shard
abbrev pub AreApart : List PrunedShard → Type 0
AreApart [] = Unit {0}
AreApart (p ∷ shards) = ((q : PrunedShard) → Has shards q → p.index ≡ q.index → p.number ≡ q.number → ⊥) × AreApart shards

pub fresh_none : (next : ℕ) (shards : List PrunedShard) (i k : ℕ) → ((q : PrunedShard) → Has shards q → i ≡ q.index → k ≡ q.number → ⊥) → fresh_from next shards i k ≡ None
fresh_none next [] i k h = refl
fresh_none next (p ∷ shards) i k h = elim (pair_tells p.index i p.number k) [
  | inl t ↦ absurd (h p (inl refl) (sym t.1.0) (sym t.1.1))
  | inr t ↦ cond-false _ _ _ t.0 ∙ fresh_none (next_after next p) shards i k (λ q m. h q (inr m))
]

-- a generation of the new root is a fresh one, or that of the old one where none is fresh
pub renewed_was : (shards : List PrunedShard) (next : ℕ) (root : RootData) (i k g : ℕ) → AreApart shards → Generation (renewed next shards root) i k g
    → ((fresh_from next shards i k ≡ None) × Generation root i k g) ⊎ (fresh_from next shards i k ≡ Some (Some g))
renewed_was [] next root i k g apart gen = inl (refl, gen)
renewed_was (p ∷ shards) next root i k g apart gen =
    let rest = renewed_was shards (next_after next p) (set_fresh p.index p.number (own_id next p) root) i k g apart.1 gen in
    elim (pair_tells p.index i p.number k) [
      | inl t ↦
          let none : fresh_from (next_after next p) shards i k ≡ None = fresh_none (next_after next p) shards i k (λ q m a b. apart.0 q m (t.1.0 ∙ a) (t.1.1 ∙ b)) in
          elim rest [
            | inl old ↦
                let here : Generation (set_fresh i k (own_id next p) root) i k g = subst (λ (x : ℕ × ℕ). Generation (set_fresh x.0 x.1 (own_id next p) root) i k g) (λ j. (t.1.0 j, t.1.1 j)) old.1 in
                inr (cond-true _ _ _ t.0 ∙ ap (λ (o : Option ℕ). Some o) (fresh_own i k g (own_id next p) root here))
            | inr now ↦ absurd (no_fresh (sym none ∙ now))
          ]
      | inr t ↦ elim rest [
        | inl old ↦ inl (cond-false _ _ _ t.0 ∙ old.0, sym (fresh_other p.index p.number i k (own_id next p) root t.1) ∙ old.1)
        | inr now ↦ inr (cond-false _ _ _ t.0 ∙ now)
      ]
    ]
  where
    no_fresh : ◌≡◌ {A = Option (Option ℕ)} None (Some (Some g)) → ⊥
    no_fresh e = cc

-- names, ids and snapshots stay
pub renewed_snapshots : (shards : List PrunedShard) (next : ℕ) (root : RootData) → (renewed next shards root).snapshots ≡ root.snapshots
renewed_snapshots [] next root = refl
renewed_snapshots (p ∷ shards) next root = renewed_snapshots shards (next_after next p) (set_fresh p.index p.number (own_id next p) root)

-- the same index, its generations aside
pub record IsAlike (x y : RootIndex) : Type 0 where
  pub name : x.name ≡ y.name
  pub id : x.id ≡ y.id
  pub snapshots : x.snapshots ≡ y.snapshots

fresh_was : (i k : ℕ) (to : Option ℕ) (xs : List RootIndex) (y : RootIndex) → Has (map (fresh_in i k to) xs) y → (x : RootIndex) × Has xs x × IsAlike x y
fresh_was i k to [] y m = absurd m
fresh_was i k to (x ∷ xs) y (inl e) = (x, inl refl, record { name = ap (λ (z : RootIndex). z.name) e; id = ap (λ (z : RootIndex). z.id) e; snapshots = ap (λ (z : RootIndex). z.snapshots) e })
fresh_was i k to (x ∷ xs) y (inr m) = let (z, there, alike) = fresh_was i k to xs y m in (z, inr there, alike)

fresh_left : (i k : ℕ) (to : Option ℕ) (xs : List RootIndex) (x : RootIndex) → Has xs x → Has (map (fresh_in i k to) xs) (fresh_in i k to x)
fresh_left i k to [] x m = absurd m
fresh_left i k to (z ∷ xs) x (inl e) = inl (ap (fresh_in i k to) e)
fresh_left i k to (z ∷ xs) x (inr m) = inr (fresh_left i k to xs x m)

pub renewed_index_was : (shards : List PrunedShard) (next : ℕ) (root : RootData) (y : RootIndex) → Has (renewed next shards root).indices y → (x : RootIndex) × Has root.indices x × IsAlike x y
renewed_index_was [] next root y m = (y, m, record { name = refl; id = refl; snapshots = refl })
renewed_index_was (p ∷ shards) next root y m =
    let (z, there, a) = renewed_index_was shards (next_after next p) (set_fresh p.index p.number (own_id next p) root) y m in
    let (x, first, b) = fresh_was p.index p.number (own_id next p) root.indices z there in
    (x, first, record { name = b.name ∙ a.name; id = b.id ∙ a.id; snapshots = b.snapshots ∙ a.snapshots })

pub renewed_index : (shards : List PrunedShard) (next : ℕ) (root : RootData) (x : RootIndex) → Has root.indices x → (y : RootIndex) × Has (renewed next shards root).indices y × IsAlike x y
renewed_index [] next root x m = (x, m, record { name = refl; id = refl; snapshots = refl })
renewed_index (p ∷ shards) next root x m =
    let (y, there, a) = renewed_index shards (next_after next p) (set_fresh p.index p.number (own_id next p) root) (fresh_in p.index p.number (own_id next p) x) (fresh_left p.index p.number (own_id next p) root.indices x m) in
    (y, there, record { name = a.name; id = a.id; snapshots = a.snapshots })

module _ (root : RootData) (one : IsOneEach root.indices) (uuids : List ℕ) (shards : List PrunedShard) (first : ℕ) (apart : AreApart shards) where
  pub deleted_snapshots : (deleted_root root uuids shards first).snapshots ≡ left_snaps uuids root.snapshots
  unfolding deleted_root
  deleted_snapshots = renewed_snapshots shards first (left_root root uuids)

  pub deleted_generations : (i k g : ℕ) → Generation (deleted_root root uuids shards first) i k g → ((fresh_from first shards i k ≡ None) × Generation root i k g) ⊎ (fresh_from first shards i k ≡ Some (Some g))
  unfolding deleted_root
  deleted_generations i k g gen = elim (renewed_was shards first (left_root root uuids) i k g apart gen) [
    | inl old ↦ inl (old.0, generation_was root one uuids i k g old.1)
    | inr now ↦ inr now
  ]

pub has_names : (us : List ℕ) (u : ℕ) → Has us u → names_uuid us u ≡ true
has_names [] u m = absurd m
has_names (x ∷ us) u m = elim (eqb_tells x u) [
  | inl t ↦ cond-true _ _ _ t.0
  | inr t ↦ cond-false _ _ _ t.0 ∙ elim m [ inl e ↦ absurd (t.1 e) | inr rest ↦ has_names us u rest ]
]

pub names_has : (us : List ℕ) (u : ℕ) → names_uuid us u ≡ true → Has us u
names_has [] u e = absurd (clash false e refl)
names_has (x ∷ us) u e = elim (eqb_tells x u) [
  | inl t ↦ inl t.1
  | inr t ↦ inr (names_has us u (sym (cond-false _ _ _ t.0) ∙ e))
]

pub bytes_same : (read : List (BlobName × Bytes)) (p q : PrunedShard) → p.index ≡ q.index → p.number ≡ q.number → p.base ≡ q.base → index_bytes read p ≡ index_bytes read q
bytes_same [] p q a b c = refl
bytes_same (blob ∷ read) p q a b c = λ j. if is_index (a j) (b j) (c j) blob.0 then Some blob.1 else bytes_same read p q a b c j

-- what is left is of what was
pub left_has : (uuids : List ℕ) (ss : List RootSnap) (s : RootSnap) → Has (left_snaps uuids ss) s → Has ss s
left_has uuids [] s h = h
left_has uuids (x ∷ xs) s h = elim (cases_Bool (names_uuid uuids x.uuid)) [
  | inl b ↦ inr (left_has uuids xs s (subst (λ l. Has l s) (cond-true _ _ _ b) h))
  | inr b ↦ elim (subst (λ l. Has l s) (cond-false _ _ _ b) h) [ inl e ↦ inl e | inr m ↦ inr (left_has uuids xs s m) ]
]
