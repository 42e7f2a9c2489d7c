-- The root that a delete writes: the code's steps by the definitions' own.
use Rattle.std.proofs.Common.{◌≡◌, ◌⊎◌, ℕ, zero, suc, ◌+◌, ◌-◌, ◌<◌, ◌≤◌, Bool, true, false, List, [], ◌∷◌, ◌++◌, length, map, set, drop, get_or, drop-cons, add-one, replicate, Option, None, option_map, refl, sym, ap, ◌∙◌, subst, arith, inl, inr}
use Rattle.std.specs.Prelude.{not, filter, ◌==◌, if◌then◌else◌}
use Rattle.std.specs.List.{list_any}
use Rattle.std.specs.Cmp.{both_ways}
use Rattle.std.specs.Str.{bytes_eq}
use Rattle.std.specs.declared.cmp.Ordering.TheVariants.{Less}
use Rattle.std.proofs.lemmas.Bool.{cases_Bool, true≢false, eqb-true, eq-eqb}
use Rattle.std.proofs.lemmas.List.{append-nil, length-map, length-set, map-set, drop_all}
use Rattle.esr_names.specs.declared.ids.Id.{Id}
use Rattle.esr_root.specs.Ids.{has_id}
use Rattle.esr_root.specs.Generations.{padded, with_generation}
use Rattle.esr_root.specs.Indices.{AreIndices, same_index, by_name, is_named}
use Rattle.esr_root.specs.Root.{Root}
use Rattle.esr_root.specs.Changes.{thinned, has_some, without_of, set_generation_in, set_generation_of}
use Rattle.esr_root.specs.declared.snaps.RootSnap.{RootSnap as CodeSnap}
use Rattle.esr_root.specs.declared.indices.RootIndex.{RootIndex as CodeIndex}
use Rattle.esr_formats.specs.Ids.{number_of}
use Rattle.esr_formats.specs.Roots.{root_of, root_snap_of, root_index_of}
use Rattle.esr_model.specs.Values.{Bytes, Has, RootSnap, RootIndex, RootData}
use Rattle.esr_model.specs.Delete.{names_uuid, left_snaps, PrunedShard, next_after, own_id, left_uuids, left_index, left_indices, left_root, fresh_in, set_fresh, renewed, deleted_root}
use Rattle.esr_model.specs.Lists.{Has-map, apart_has, rising_has}
use Rattle.esr_results.specs.declared.pruned.PrunedShard.{PrunedShard as CodePruned}
use Rattle.esr_results.specs.Pruned.{pruned_of, IsPlaced, ArePlaced}
use Rattle.esr_newroot.specs.ByteTests.{named_so, below}
use Rattle.esr_newroot.proofs.Changed.{numbers}

-- ---- without some snapshots

names_same : (u : Id) (us : List Id) → names_uuid (map number_of us) u.number ≡ has_id u us
names_same u [] = refl
names_same u (x ∷ us) = elim (cases_Bool (x.number == u.number)) [
  | inl same ↦ rw same refl
  | inr other ↦ rw other (names_same u us)
]

snaps_left : (us : List Id) (ss : List CodeSnap) → map root_snap_of (filter (λ s. not (has_id s.uuid us)) ss) ≡ left_snaps (map number_of us) (map root_snap_of ss)
snaps_left us [] = refl
snaps_left us (s ∷ ss) = elim (cases_Bool (has_id s.uuid us)) [
  | inl named ↦ rw (named, names_same s.uuid us ∙ named) (snaps_left us ss)
  | inr other ↦ rw (other, names_same s.uuid us ∙ other) (ap (λ (xs : List RootSnap). root_snap_of s ∷ xs) (snaps_left us ss))
]

uuids_left : (us vs : List Id) → map number_of (filter (λ u. not (has_id u us)) vs) ≡ left_uuids (map number_of us) (map number_of vs)
uuids_left us [] = refl
uuids_left us (v ∷ vs) = elim (cases_Bool (has_id v us)) [
  | inl named ↦ rw (named, names_same v us ∙ named) (uuids_left us vs)
  | inr other ↦ rw (other, names_same v us ∙ other) (ap (λ (xs : List ℕ). v.number ∷ xs) (uuids_left us vs))
]

none_is_zero : (n : ℕ) → (suc n == 0) ≡ false
none_is_zero n = elim (cases_Bool (suc n == 0)) [
  | inl is ↦ let zero_is : suc n ≡ 0 = eqb-true (suc n) 0 is in absurd (omega (arith, zero_is))
  | inr not_so ↦ not_so
]

index_left : (i : CodeIndex) (ts : List Id) (rest : List CodeIndex)
    → map root_index_of (filter has_some (record { name = i.name; id = i.id; snapshots = ts; generations = i.generations } ∷ rest)) ≡ left_index (root_index_of i) (map number_of ts) (map root_index_of (filter has_some rest))
index_left i [] rest = refl
index_left i (t ∷ ts) rest =
    let some : (length (t ∷ ts) == 0) ≡ false = none_is_zero (length ts) in
    rw some refl

indices_left : (us : List Id) (is : List CodeIndex) → map root_index_of (filter has_some (map (thinned us) is)) ≡ left_indices (map number_of us) (map root_index_of is)
indices_left us [] = refl
indices_left us (i ∷ is) =
    index_left i (filter (λ u. not (has_id u us)) i.snapshots) (map (thinned us) is)
    ∙ (λ j. left_index (root_index_of i) (uuids_left us i.snapshots j) (indices_left us is j))

pub root_left : (r : Root) (us : List Id) → root_of (without_of r us) ≡ left_root (root_of r) (map number_of us)
root_left r us = λ j. record { snapshots = snaps_left us r.snapshots j; indices = indices_left us r.indices j }

-- ---- one shard

with_to : (gs : List (Option Id)) (k : ℕ) (to : Option Id) → k < length (numbers gs) → numbers (with_generation gs k to) ≡ set (numbers gs) k (option_map number_of to)
with_to gs k to low =
    let none : (k + 1) - length gs ≡ 0 = omega (arith, length-map gs (option_map number_of)) in
    map-set (option_map number_of) (padded (k + 1) gs) k to
    ∙ ap (λ (hs : List (Option Id)). set (numbers hs) k (option_map number_of to)) (ap (λ (n : ℕ). gs ++ replicate n None) none ∙ append-nil gs)

with_numbers : CodeIndex → List (Option ℕ) → RootIndex
with_numbers i gs = record { name = i.name; id = i.id.number; snapshots = map number_of i.snapshots; generations = gs }

fresh_one : (name : Bytes) (k : ℕ) (to : Option Id) (id : ℕ) (i : CodeIndex) → bytes_eq i.name name ≡ (i.id.number == id) → (i.id.number ≡ id → k < length (numbers i.generations))
    → root_index_of (set_generation_in name k to i) ≡ fresh_in id k (option_map number_of to) (root_index_of i)
unfolding with_numbers
fresh_one name k to id i named low = elim (cases_Bool (i.id.number == id)) [
  | inl same ↦ let own : bytes_eq i.name name ≡ true = named ∙ same in rw (own, same) (ap (with_numbers i) (with_to i.generations k to (low (eqb-true i.id.number id same))))
  | inr other ↦ let foreign : bytes_eq i.name name ≡ false = named ∙ other in rw (foreign, other) refl
]

fresh_each : (name : Bytes) (k : ℕ) (to : Option Id) (id : ℕ) (is : List CodeIndex) → ((i : CodeIndex) → Has is i → (bytes_eq i.name name ≡ (i.id.number == id)) × (i.id.number ≡ id → k < length (numbers i.generations)))
    → map root_index_of (map (set_generation_in name k to) is) ≡ map (fresh_in id k (option_map number_of to)) (map root_index_of is)
fresh_each name k to id [] h = refl
fresh_each name k to id (i ∷ is) h =
    let own = h i (inl refl) in
    λ j. fresh_one name k to id i own.0 own.1 j ∷ fresh_each name k to id is (λ x m. h x (inr m)) j

-- no index has the id
stays_one : (id k : ℕ) (to : Option ℕ) (x : RootIndex) → (x.id == id) ≡ false → fresh_in id k to x ≡ x
stays_one id k to x other = rw other refl

stays_each : (id k : ℕ) (to : Option ℕ) (is : List CodeIndex) → ((i : CodeIndex) → Has is i → (i.id.number == id) ≡ false) → map root_index_of is ≡ map (fresh_in id k to) (map root_index_of is)
stays_each id k to [] h = refl
stays_each id k to (i ∷ is) h = λ j. sym (stays_one id k to (root_index_of i) (h i (inl refl))) j ∷ stays_each id k to is (λ x m. h x (inr m)) j

-- ---- an index of the root has its name exactly where it has its id

fits : (is : List CodeIndex) → AreIndices is → (i j : CodeIndex) → Has is i → Has is j → bytes_eq i.name j.name ≡ (i.id.number == j.id.number)
fits is are i j a b =
    both_ways (bytes_eq i.name j.name) (i.id.number == j.id.number)
    (λ e. by_order e (rising_has by_name is i j are.rises a b))
    (λ e. by_id e (apart_has same_index is i j are.distinct a b))
  where
    by_order : bytes_eq i.name j.name ≡ true → (i ≡ j) ⊎ ((by_name i j ≡ Less) ⊎ (by_name j i ≡ Less)) → (i.id.number == j.id.number) ≡ true
    by_order e (inl one) = eq-eqb i.id.number j.id.number (ap (λ (x : CodeIndex). x.id.number) one)
    by_order e (inr (inl less)) = absurd (true≢false (sym e ∙ (below i.name j.name less).0))
    by_order e (inr (inr less)) = absurd (true≢false (sym e ∙ (below j.name i.name less).1))

    by_id : (i.id.number == j.id.number) ≡ true → (i ≡ j) ⊎ ((same_index i j ≡ false) ⊎ (same_index j i ≡ false)) → bytes_eq i.name j.name ≡ true
    by_id e (inl one) = named_so i.name j.name (ap (λ (x : CodeIndex). x.name) one)
    by_id e (inr (inl other)) = absurd (true≢false (sym e ∙ other))
    by_id e (inr (inr other)) = absurd (true≢false (sym (eq-eqb j.id.number i.id.number (sym (eqb-true i.id.number j.id.number e))) ∙ other))

-- the name is known to the code
pub known : (is : List CodeIndex) (j : CodeIndex) → Has is j → list_any (is_named j.name) is ≡ true
known [] j m = absurd m
known (i ∷ is) j (inl e) = let own : bytes_eq i.name j.name ≡ true = named_so i.name j.name (ap (λ (x : CodeIndex). x.name) e) in rw own refl
known (i ∷ is) j (inr m) = elim (cases_Bool (bytes_eq i.name j.name)) [ inl own ↦ rw own refl | inr other ↦ rw other (known is j m) ]

-- the root where the index at hand has the id
pub renewed_here : (root : Root) (shard : CodePruned) (to : Option Id) (j : CodeIndex) (r : Root) → AreIndices root.indices → IsPlaced (root_of root) (pruned_of shard) → Has root.indices j → (j.id.number == shard.shard.index.number) ≡ true
    → r ≡ set_generation_of root j.name shard.shard.number to → root_of r ≡ set_fresh shard.shard.index.number shard.shard.number (option_map number_of to) (root_of root)
renewed_here root shard to j r are placed there is_it r_is =
    let id : j.id.number ≡ shard.shard.index.number = eqb-true j.id.number shard.shard.index.number is_it in
    ap root_of r_is
    ∙ (λ n. record {
      snapshots = map root_snap_of root.snapshots;
      indices = fresh_each j.name shard.shard.number to shard.shard.index.number root.indices
          (λ i m. (fits root.indices are i j m there ∙ ap (λ (k : ℕ). i.id.number == k) id, λ same. placed.long (root_index_of i) (Has-map root_index_of root.indices i m) same)) n;
    })

-- the root where no index has it
pub renewed_none : (root r : Root) (shard : CodePruned) (to : Option Id) → ((i : CodeIndex) → Has root.indices i → (i.id.number == shard.shard.index.number) ≡ false) → r ≡ root
    → root_of r ≡ set_fresh shard.shard.index.number shard.shard.number (option_map number_of to) (root_of root)
renewed_none root r shard to none r_is =
    ap root_of r_is ∙ (λ n. record { snapshots = map root_snap_of root.snapshots; indices = stays_each shard.shard.index.number shard.shard.number (option_map number_of to) root.indices none n })

-- ---- a loop over some list

pub next_item : {A : Type 0} (xs : List A) (k : ℕ) (x : A) → k < length xs → x ≡ get_or xs k x → drop k xs ≡ x ∷ drop (k + 1) xs
next_item {A} xs k x low is = let split : drop k xs ≡ get_or xs k x ∷ drop (k + 1) xs = rw add-one (drop-cons xs k x low) in split ∙ ap (λ (y : A). y ∷ drop (k + 1) xs) (sym is)

-- the first so many are passed
abbrev pub Passed : List CodeIndex → ℕ → ℕ → Type 0
Passed is id k = (i : CodeIndex) → Has is i → Has (drop k is) i ⊎ ((i.id.number == id) ≡ false)

pub passed_one : (is : List CodeIndex) (id k : ℕ) (x : CodeIndex) → k < length is → x ≡ get_or is k x → (x.id.number == id) ≡ false → Passed is id k → Passed is id (k + 1)
passed_one is id k x low is_it other h i m = elim (h i m) [
  | inl there ↦ elim (subst (λ (xs : List CodeIndex). Has xs i) (next_item is k x low is_it) there) [
    | inl same ↦ inr (subst (λ (y : CodeIndex). (y.id.number == id) ≡ false) same other)
    | inr rest ↦ inl rest
  ]
  | inr gone ↦ inr gone
]

pub all_passed : (is : List CodeIndex) (id k : ℕ) → length is ≤ k → Passed is id k → (i : CodeIndex) → Has is i → (i.id.number == id) ≡ false
all_passed is id k past h i m = elim (h i m) [
  | inl there ↦ absurd (subst (λ (xs : List CodeIndex). Has xs i) (drop_all k is past) there)
  | inr gone ↦ gone
]

pub item_there : {A : Type 0} (xs : List A) (k : ℕ) (x : A) → k < length xs → x ≡ get_or xs k x → Has xs x
item_there [] k x low is = absurd (omega (arith, low))
item_there (y ∷ xs) zero x low is = inl (sym is)
item_there (y ∷ xs) (suc k) x low is = inr (item_there xs k x (omega (arith, low)) is)

-- ---- places stay

placed_fresh : (root : RootData) (id k : ℕ) (to : Option ℕ) (p : PrunedShard) → IsPlaced root p → IsPlaced (set_fresh id k to root) p
placed_fresh root id k to p h = record { few = h.few; long = λ x m same. go root.indices h.long x m same }
  where
    long_one : (y : RootIndex) → length (fresh_in id k to y).generations ≡ length y.generations
    long_one y = elim (cases_Bool (y.id == id)) [ inl e ↦ rw e (length-set y.generations k to) | inr e ↦ rw e refl ]

    go : (ys : List RootIndex) → ((y : RootIndex) → Has ys y → y.id ≡ p.index → p.number < length y.generations) → (x : RootIndex) → Has (map (fresh_in id k to) ys) x → x.id ≡ p.index → p.number < length x.generations
    go [] low x m same = absurd m
    go (y ∷ ys) low x (inl e) same =
        let lt : p.number < length y.generations = low y (inl refl) (ap (λ (z : RootIndex). z.id) e ∙ same) in
        subst (λ (z : RootIndex). p.number < length z.generations) e (omega (arith, lt, long_one y))
    go (y ∷ ys) low x (inr m) same = go ys (λ z n. low z (inr n)) x m same

placed_left : (root : RootData) (uuids : List ℕ) (p : PrunedShard) → IsPlaced root p → IsPlaced (left_root root uuids) p
placed_left root uuids p h = record { few = h.few; long = λ x m same. go root.indices h.long x m same }
  where
    one : (y : RootIndex) (us : List ℕ) (rest : List RootIndex) (x : RootIndex) → (y.id ≡ p.index → p.number < length y.generations) → (Has rest x → x.id ≡ p.index → p.number < length x.generations)
        → Has (left_index y us rest) x → x.id ≡ p.index → p.number < length x.generations
    one y [] rest x low later m same = later m same
    one y (u ∷ us) rest x low later (inl e) same =
        let lt : p.number < length y.generations = low (ap (λ (z : RootIndex). z.id) e ∙ same) in subst (λ (gs : List (Option ℕ)). p.number < length gs) (ap (λ (z : RootIndex). z.generations) e) lt
    one y (u ∷ us) rest x low later (inr m) same = later m same

    go : (ys : List RootIndex) → ((y : RootIndex) → Has ys y → y.id ≡ p.index → p.number < length y.generations) → (x : RootIndex) → Has (left_indices uuids ys) x → x.id ≡ p.index → p.number < length x.generations
    go [] low x m same = absurd m
    go (y ∷ ys) low x m same = one y (left_uuids uuids y.snapshots) (left_indices uuids ys) x (low y (inl refl)) (go ys (λ z n. low z (inr n)) x) m same

-- ---- the loop over the shards

-- so many shards have their new generation
pub record Renews (root : RootData) (uuids : List ℕ) (shards : List CodePruned) (first i next : ℕ) (new : RootData) : Type 0 where
  pub rest : renewed next (map pruned_of (drop i shards)) new ≡ deleted_root root uuids (map pruned_of shards) first
  pub placed : ArePlaced new (map pruned_of (drop i shards))
  pub most : next ≤ first + i

pub renews_none : (root : Root) (uuids : List Id) (shards : List CodePruned) (first : ℕ) (new : Root) → ArePlaced (root_of root) (map pruned_of shards) → new ≡ without_of root uuids
    → Renews (root_of root) (map number_of uuids) shards first 0 first (root_of new)
unfolding deleted_root
renews_none root uuids shards first new placed new_is =
    let is_left : root_of new ≡ left_root (root_of root) (map number_of uuids) = ap root_of new_is ∙ root_left root uuids in
    record {
      rest = ap (renewed first (map pruned_of shards)) is_left;
      placed = λ p m. subst (λ (r : RootData). IsPlaced r p) (sym is_left) (placed_left (root_of root) (map number_of uuids) p (placed p m));
      most = omega arith;
    }

pub renews_one : (root : RootData) (uuids : List ℕ) (shards : List CodePruned) (first i next : ℕ) (old new : RootData) (x : CodePruned) (after : ℕ) → i < length shards → x ≡ get_or shards i x
    → new ≡ set_fresh x.shard.index.number x.shard.number (own_id next (pruned_of x)) old → after ≡ next_after next (pruned_of x) → Renews root uuids shards first i next old → Renews root uuids shards first (i + 1) after new
renews_one root uuids shards first i next old new x after low is new_is after_is h =
    let split : map pruned_of (drop i shards) ≡ pruned_of x ∷ map pruned_of (drop (i + 1) shards) = ap (map pruned_of) (next_item shards i x low is) in
    record {
      rest = (λ j. renewed (after_is j) (map pruned_of (drop (i + 1) shards)) (new_is j)) ∙ ap (λ (ps : List PrunedShard). renewed next ps old) (sym split) ∙ h.rest;
      placed = λ p m. subst (λ (r : RootData). IsPlaced r p) (sym new_is)
          (placed_fresh old x.shard.index.number x.shard.number (own_id next (pruned_of x)) p (h.placed p (subst (λ (ps : List PrunedShard). Has ps p) (sym split) (inr m))));
      most = by_kept x.kept after_is;
    }
  where
    by_kept : (b : Bool) → after ≡ (if b then suc next else next) → after ≤ first + (i + 1)
    by_kept true e = let le = h.most in omega (arith, e, le)
    by_kept false e = let le = h.most in omega (arith, e, le)

-- the shard at hand has its place
pub placed_here : (root : RootData) (uuids : List ℕ) (shards : List CodePruned) (first i next : ℕ) (old : RootData) (x : CodePruned) → i < length shards → x ≡ get_or shards i x → Renews root uuids shards first i next old
    → IsPlaced old (pruned_of x)
placed_here root uuids shards first i next old x low is h = h.placed (pruned_of x) (subst (λ (ps : List PrunedShard). Has ps (pruned_of x)) (sym (ap (map pruned_of) (next_item shards i x low is))) (inl refl))

pub renews_all : (root : RootData) (uuids : List ℕ) (shards : List CodePruned) (first i next : ℕ) (new : RootData) → length shards ≤ i → Renews root uuids shards first i next new
    → new ≡ deleted_root root uuids (map pruned_of shards) first
renews_all root uuids shards first i next new past h = ap (λ (ps : List CodePruned). renewed next (map pruned_of ps) new) (sym (drop_all i shards past)) ∙ h.rest
