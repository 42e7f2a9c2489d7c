-- The ids of a root, and the first of them that isn't below a bound.
use Rattle.std.proofs.Common.{◌≡◌, ◌⊎◌, inl, inr, ℕ, zero, suc, ◌<◌, Bool, true, false, ◌==◌, List, [], ◌∷◌, ◌++◌, map, Option, Some, None, option_map, length, drop, get_or, ◌+◌, refl, sym, ap, ◌∙◌, subst, ⊎_elim, nat_lt}
use Rattle.std.specs.Prelude.{if◌then◌else◌}
use Rattle.std.proofs.lemmas.Bool.{cases_Bool, ltb-true, lt-ltb}
use Rattle.esr_root.specs.declared.snaps.RootSnap.{RootSnap as CodeSnap}
use Rattle.esr_root.specs.declared.indices.RootIndex.{RootIndex as CodeIndex}
use Rattle.esr_model.specs.Values.{Has, RootSnap, RootIndex, RootData, IsOneEach}
use Rattle.esr_model.specs.Image.{index_at, at_shard, at_shard_of}
use Rattle.esr_model.specs.Kept.{RootIds}
use Rattle.esr_formats.specs.Ids.{number_of}
use Rattle.std.proofs.lemmas.List.{drop_more}
use Rattle.esr_model.specs.Lists.{Has-left, Has-right, Has-either}
use Rattle.esr_root.specs.Root.{Root}
use Rattle.esr_formats.specs.Roots.{root_of, root_snap_of, root_index_of}
use Rattle.esr_opening.specs.Foreign.{generation_ids, index_ids, snapshot_ids, root_ids, first_from}
use Rattle.esr_agreement.specs.AgreementTests.{index_found}

-- ---- none is at the bound or above it

split_first : (b : Bool) (r : Option ℕ) (x : ℕ) → (if b then r else Some x) ≡ None → (b ≡ true) × (r ≡ None)
split_first true r x h = (refl, h)
split_first false r x h = absurd cc

pub all_below : (bound : ℕ) (ids : List ℕ) → first_from bound ids ≡ None → (id : ℕ) → Has ids id → id < bound
all_below bound [] none id h = absurd h
all_below bound (x ∷ ids) none id h =
    let first = split_first (nat_lt x bound) (first_from bound ids) x none in
    ⊎_elim (λ here. subst (λ n. n < bound) here (ltb-true x bound first.0)) (λ later. all_below bound ids first.1 id later) h

pub first_none : (bound : ℕ) (ids : List ℕ) → ((id : ℕ) → Has ids id → id < bound) → first_from bound ids ≡ None
first_none bound [] below = refl
first_none bound (x ∷ ids) below = ap (λ (b : Bool). if b then first_from bound ids else Some x) (lt-ltb x bound (below x (inl refl))) ∙ first_none bound ids (λ id has. below id (inr has))

-- ---- which ids there are

pub uuid_in : (snaps : List RootSnap) (s : RootSnap) → Has snaps s → Has (snapshot_ids snaps) s.uuid
uuid_in [] s none = absurd none
uuid_in (x ∷ xs) s (inl here) = inl (ap (λ (z : RootSnap). z.uuid) here)
uuid_in (x ∷ xs) s (inr later) = inr (uuid_in xs s later)

pub index_in : (xs : List RootIndex) (x : RootIndex) → Has xs x → Has (index_ids xs) x.id
index_in [] x none = absurd none
index_in (y ∷ ys) x (inl here) = inl (ap (λ (z : RootIndex). z.id) here)
index_in (y ∷ ys) x (inr later) = inr (Has-right (generation_ids y.generations) (index_ids ys) x.id (index_in ys x later))

pub generation_in_list : (gs : List (Option ℕ)) (k g : ℕ) → at_shard gs k ≡ Some g → Has (generation_ids gs) g
generation_in_list [] k g h = absurd cc
generation_in_list (None ∷ gs) zero g h = absurd cc
generation_in_list (Some x ∷ gs) zero g h = inl cc
generation_in_list (None ∷ gs) (suc k) g h = generation_in_list gs k g h
generation_in_list (Some x ∷ gs) (suc k) g h = inr (generation_in_list gs k g h)

pub generation_in_indices : (xs : List RootIndex) (i k g : ℕ) → at_shard_of (index_at xs i) k ≡ Some g → Has (index_ids xs) g
generation_in_indices [] i k g h = absurd cc
generation_in_indices (x ∷ xs) i k g h =
    elim (cases_Bool (x.id == i)) [
      | inl same ↦
          let here : at_shard x.generations k ≡ Some g = sym (ap (λ (b : Bool). at_shard_of (if b then Some x else index_at xs i) k) same) ∙ h in
          inr (Has-left (generation_ids x.generations) (index_ids xs) g (generation_in_list x.generations k g here))
      | inr other ↦
          let later : at_shard_of (index_at xs i) k ≡ Some g = sym (ap (λ (b : Bool). at_shard_of (if b then Some x else index_at xs i) k) other) ∙ h in
          inr (Has-right (generation_ids x.generations) (index_ids xs) g (generation_in_indices xs i k g later))
    ]

-- ---- whose they are

uuid_of : (snaps : List RootSnap) (id : ℕ) → Has (snapshot_ids snaps) id → (s : RootSnap) × Has snaps s × (s.uuid ≡ id)
uuid_of [] id none = absurd none
uuid_of (x ∷ xs) id (inl here) = (x, inl refl, here)
uuid_of (x ∷ xs) id (inr later) = let s = uuid_of xs id later in (s.0, inr s.1, s.2)

generation_of : (gs : List (Option ℕ)) (id : ℕ) → Has (generation_ids gs) id → (k : ℕ) × (at_shard gs k ≡ Some id)
generation_of [] id none = absurd none
generation_of (None ∷ gs) id has = let k = generation_of gs id has in (suc k.0, k.1)
generation_of (Some g ∷ gs) id (inl here) = (zero, ap (λ (n : ℕ). Some n) here)
generation_of (Some g ∷ gs) id (inr later) = let k = generation_of gs id later in (suc k.0, k.1)

-- the id of an index, or a generation of it
index_of : (xs : List RootIndex) (id : ℕ) → Has (index_ids xs) id → (x : RootIndex) × Has xs x × ((x.id ≡ id) ⊎ Has (generation_ids x.generations) id)
index_of [] id none = absurd none
index_of (x ∷ xs) id (inl here) = (x, inl refl, inl here)
index_of (x ∷ xs) id (inr later) = elim (Has-either (generation_ids x.generations) (index_ids xs) id later) [
  | inl own ↦ (x, inl refl, inr own)
  | inr rest ↦ let i = index_of xs id rest in (i.0, inr i.1, i.2)
]

index_id_below : (root : RootData) (bound : ℕ) → IsOneEach root.indices → RootIds root bound → (id : ℕ) (x : RootIndex) → Has root.indices x → (x.id ≡ id) ⊎ Has (generation_ids x.generations) id → id < bound
index_id_below root bound one ids id x has (inl own) = subst (λ n. n < bound) own (ids.ids x has)
index_id_below root bound one ids id x has (inr generation) =
    let k = generation_of x.generations id generation in
    let y = index_found root.indices x has in
    let same : y.0 ≡ x = one y.0 x y.2 has y.3 in
    ids.generations x.id k.0 id (ap (λ (o : Option RootIndex). at_shard_of o k.0) (y.1 ∙ ap (λ (z : RootIndex). Some z) same) ∙ k.1)

id_below : (root : RootData) (bound : ℕ) → IsOneEach root.indices → RootIds root bound → (id : ℕ) → Has (root_ids root) id → id < bound
id_below root bound one ids id has = elim (Has-either (snapshot_ids root.snapshots) (index_ids root.indices) id has) [
  | inl uuid ↦ let s = uuid_of root.snapshots id uuid in subst (λ n. n < bound) s.2 (ids.snapshots s.0 s.1)
  | inr index ↦ let x = index_of root.indices id index in index_id_below root bound one ids id x.0 x.1 x.2
]

-- a root with one index to each id, all of whose ids lie below a bound
pub none_foreign : (root : RootData) (bound : ℕ) → IsOneEach root.indices → RootIds root bound → first_from bound (root_ids root) ≡ None
none_foreign root bound one ids = first_none bound (root_ids root) (id_below root bound one ids)

-- ---- the first of two lists

abbrev pub or_else : Option ℕ → Option ℕ → Option ℕ
or_else None b = b
or_else (Some a) b = Some a

pub first_of_both : (bound : ℕ) (xs ys : List ℕ) → first_from bound (xs ++ ys) ≡ or_else (first_from bound xs) (first_from bound ys)
first_of_both bound [] ys = refl
first_of_both bound (x ∷ xs) ys = elim (cases_Bool (nat_lt x bound)) [
  | inl less ↦ (let t = less in rw (t) (first_of_both bound xs ys))
  | inr more ↦ (let t = more in rw (t) refl)
]

-- ---- of the code

abbrev own_ids : CodeIndex → List ℕ
own_ids i = i.id.number ∷ generation_ids (map (option_map number_of) i.generations)

abbrev ids_of : List CodeIndex → List ℕ
ids_of is = index_ids (map root_index_of is)

at_index : (bound : ℕ) (is : List CodeIndex) (k : ℕ) (i : CodeIndex) → k < length is → i ≡ get_or is k i
    → first_from bound (ids_of (drop k is)) ≡ or_else (first_from bound (own_ids i)) (first_from bound (ids_of (drop (k + 1) is)))
at_index bound is k i less there =
    ap (λ (l : List CodeIndex). first_from bound (ids_of l)) (drop_more is k i less ∙ ap (λ (z : CodeIndex). z ∷ drop (k + 1) is) (sym there))
    ∙ first_of_both bound (own_ids i) (ids_of (drop (k + 1) is))

pub found_here : (bound : ℕ) (is : List CodeIndex) (k : ℕ) (i : CodeIndex) (id : ℕ) → k < length is → i ≡ get_or is k i → Some id ≡ first_from bound (own_ids i) → Some id ≡ first_from bound (ids_of (drop k is))
found_here bound is k i id less there here = sym (at_index bound is k i less there ∙ ap (λ (o : Option ℕ). or_else o (first_from bound (ids_of (drop (k + 1) is)))) (sym here))

pub none_here : (bound : ℕ) (is : List CodeIndex) (k : ℕ) (i : CodeIndex) → k < length is → i ≡ get_or is k i → None ≡ first_from bound (own_ids i)
    → first_from bound (ids_of (drop k is)) ≡ first_from bound (ids_of (drop (k + 1) is))
none_here bound is k i less there here = at_index bound is k i less there ∙ ap (λ (o : Option ℕ). or_else o (first_from bound (ids_of (drop (k + 1) is)))) (sym here)

abbrev uuids_of : List CodeSnap → List ℕ
uuids_of ss = snapshot_ids (map root_snap_of ss)

pub uuid_first : (bound : ℕ) (root : Root) (snaps : List CodeSnap) (id : ℕ) → snaps ≡ root.snapshots → Some id ≡ first_from bound (uuids_of snaps) → Some id ≡ first_from bound (root_ids (root_of root))
uuid_first bound root snaps id is found =
    let own : Some id ≡ first_from bound (uuids_of root.snapshots) = found ∙ ap (λ (ss : List CodeSnap). first_from bound (uuids_of ss)) is in
    sym (first_of_both bound (uuids_of root.snapshots) (ids_of root.indices) ∙ ap (λ (o : Option ℕ). or_else o (first_from bound (ids_of root.indices))) (sym own))

pub index_first : (bound : ℕ) (root : Root) (snaps : List CodeSnap) (is : List CodeIndex) (r : Option ℕ) → snaps ≡ root.snapshots → is ≡ root.indices → None ≡ first_from bound (uuids_of snaps) → r ≡ first_from bound (ids_of is)
    → r ≡ first_from bound (root_ids (root_of root))
index_first bound root snaps is r at to none found =
    let own : None ≡ first_from bound (uuids_of root.snapshots) = none ∙ ap (λ (ss : List CodeSnap). first_from bound (uuids_of ss)) at in
    found ∙ ap (λ (x : List CodeIndex). first_from bound (ids_of x)) to
    ∙ sym (first_of_both bound (uuids_of root.snapshots) (ids_of root.indices) ∙ ap (λ (o : Option ℕ). or_else o (first_from bound (ids_of root.indices))) (sym own))
