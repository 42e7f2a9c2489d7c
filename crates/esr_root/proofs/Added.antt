-- A root with one more snapshot keeps the rules of a root, and has the generations that it had.
use Rattle.std.proofs.Common.{◌≡◌, ℕ, zero, suc, ◌+◌, ◌-◌, ◌<◌, ◌≤◌, ◌^◌, ◌==◌, Bool, true, false, ◌||◌, List, [], ◌∷◌, ◌++◌, length, replicate, Option, None, Ok, Err, refl, sym, ap, ◌∙◌, subst, arith, inl, inr}
use Rattle.std.specs.Prelude.{insert, slice_index_or, slice_set}
use Rattle.std.specs.List.{list_any, list_all, AllByRecursion, IsDistinct}
use Rattle.std.specs.List.Sorted.{IsStrictlySortedBy}
use Rattle.std.specs.Ordering.{nat_cmp, match_ordering}
use Rattle.std.specs.Str.{bytes_eq}
use Rattle.std.specs.Cmp.Lexicographic.{slice_cmp}
use Rattle.std.specs.declared.cmp.Ordering.{Ordering}
use Rattle.std.specs.declared.cmp.Ordering.TheVariants.{Less, Equal, Greater}
use Rattle.std.proofs.lemmas.Cmp.{nat_list_cmp_total}
use Rattle.std.proofs.lemmas.Bool.{cases_Bool, eqb-true, true≢false, or_parts, and_parts}
use Rattle.std.proofs.lemmas.Slice.Eq.{bytes_eq-Decides}
use Rattle.std.proofs.lemmas.List.Folds.{list_any-append}
use Rattle.esr_names.specs.declared.ids.Id.{Id}
use Rattle.esr_names.specs.declared.index_ref.IndexRef.{IndexRef}
use Rattle.esr_root.specs.Ids.{same_id, has_id}
use Rattle.esr_root.specs.Generations.{generation_in, padded}
use Rattle.esr_root.specs.Snaps.{IsSnap, clashes, lists}
use Rattle.esr_root.specs.Indices.{IsIndex, AreIndices, IsListed, IsRef, same_index, by_name, is_named, place_from}
use Rattle.esr_root.specs.Root.{Root, IsRoot}
use Rattle.esr_root.specs.Changes.{grown, first, with_index, with_each, Fits, MayAdd, add_of, generation_among, generation_at}
use Rattle.esr_root.specs.declared.snaps.RootSnap.{RootSnap}
use Rattle.esr_root.specs.declared.indices.RootIndex.{RootIndex}
use Rattle.esr_root.specs.NameOrder.{same_name, other_below, other_above, flipped}
use Rattle.esr_root.specs.IdLaws.{same_id-flip, same_id-is, same_id-refl}
use Rattle.esr_root.specs.Lists.{all_push, all_weaken, all_both, distinct_push}
use Rattle.esr_root.specs.RootLists.{AreGenerations-padded}

-- a name below the first of some that rise is below them all
below_all : (name : List ℕ) (i : RootIndex) (is : List RootIndex) → slice_cmp nat_cmp name i.name ≡ Less → AllByRecursion (λ j. by_name i j ≡ Less) is
    → AllByRecursion (λ j. slice_cmp nat_cmp name j.name ≡ Less) is
below_all name i is e h = all_weaken (λ j. by_name i j ≡ Less) (λ j. slice_cmp nat_cmp name j.name ≡ Less) (λ j less. nat_list_cmp_total.trans name i.name j.name e less) is h

-- ---- each index, with one more snapshot of one

pub with_all : (P : RootIndex → Type 0) (uuid : Id) (x : IndexRef) (is : List RootIndex) → AllByRecursion P is → P (first uuid x)
    → AllByRecursion (λ i. slice_cmp nat_cmp x.name i.name ≡ Equal → P (grown uuid x.shards i)) is → AllByRecursion P (with_index uuid x is)
with_all P uuid x [] h one more = (one, tt)
with_all P uuid x (i ∷ is) h one more = by_order (with_all P uuid x is h.1 one more.1) (slice_cmp nat_cmp x.name i.name) refl
  where
    by_order : AllByRecursion P (with_index uuid x is) → (o : Ordering) → slice_cmp nat_cmp x.name i.name ≡ o
        → AllByRecursion P (match_ordering o (first uuid x ∷ i ∷ is) (grown uuid x.shards i ∷ is) (i ∷ with_index uuid x is))
    by_order rest Less e = (one, h)
    by_order rest Equal e = (more.0 e, h.1)
    by_order rest Greater e = (h.0, rest)

-- what the indices are, that the snapshot may come into those of a name
abbrev pub Takes : Id → IndexRef → RootIndex → Type 0
Takes uuid x i = (is_named x.name i ≡ same_id i.id x.id) × (is_named x.name i ≡ true → has_id uuid i.snapshots ≡ false)

with_distinct : (uuid : Id) (x : IndexRef) (is : List RootIndex) → IsDistinct same_index is → IsStrictlySortedBy by_name is → AllByRecursion (Takes uuid x) is
    → IsDistinct same_index (with_index uuid x is)
unfolding IsDistinct IsStrictlySortedBy
with_distinct uuid x [] h rises takes = (tt, tt)
with_distinct uuid x (i ∷ is) h rises takes = by_order (with_distinct uuid x is h.1 rises.1 takes.1) (slice_cmp nat_cmp x.name i.name) refl
  where
    unlike : (j : RootIndex) → Takes uuid x j → bytes_eq j.name x.name ≡ false → same_id x.id j.id ≡ false
    unlike j take other = same_id-flip x.id j.id ∙ sym take.0 ∙ other

    by_order : IsDistinct same_index (with_index uuid x is) → (o : Ordering) → slice_cmp nat_cmp x.name i.name ≡ o
        → IsDistinct same_index (match_ordering o (first uuid x ∷ i ∷ is) (grown uuid x.shards i ∷ is) (i ∷ with_index uuid x is))
    by_order more Less e =
        let rest = all_both (Takes uuid x) (λ j. slice_cmp nat_cmp x.name j.name ≡ Less) (λ j. same_id x.id j.id ≡ false)
        (λ j take below. unlike j take (other_above j.name x.name (flipped x.name j.name Less below))) is takes.1 (below_all x.name i is e rises.0) in
        ((unlike i takes.0 (other_above i.name x.name (flipped x.name i.name Less e)), rest), h)
    by_order more Equal e = h
    by_order more Greater e =
        let own : same_id i.id x.id ≡ false = sym takes.0.0 ∙ other_below i.name x.name (flipped x.name i.name Greater e) in (
          with_all (λ j. same_index i j ≡ false) uuid x is h.0 own (all_weaken (λ j. same_index i j ≡ false) (λ j. slice_cmp nat_cmp x.name j.name ≡ Equal → same_index i j ≡ false) (λ j other e2. other) is h.0),
          more,
        )

with_sorted : (uuid : Id) (x : IndexRef) (is : List RootIndex) → IsStrictlySortedBy by_name is → IsStrictlySortedBy by_name (with_index uuid x is)
unfolding IsStrictlySortedBy
with_sorted uuid x [] rises = (tt, tt)
with_sorted uuid x (i ∷ is) rises = by_order (with_sorted uuid x is rises.1) (slice_cmp nat_cmp x.name i.name) refl
  where
    by_order : IsStrictlySortedBy by_name (with_index uuid x is) → (o : Ordering) → slice_cmp nat_cmp x.name i.name ≡ o
        → IsStrictlySortedBy by_name (match_ordering o (first uuid x ∷ i ∷ is) (grown uuid x.shards i ∷ is) (i ∷ with_index uuid x is))
    by_order more Less e = ((e, below_all x.name i is e rises.0), rises)
    by_order more Equal e = rises
    by_order more Greater e = (
      with_all (λ j. by_name i j ≡ Less) uuid x is rises.0 (flipped x.name i.name Greater e)
          (all_weaken (λ j. by_name i j ≡ Less) (λ j. slice_cmp nat_cmp x.name j.name ≡ Equal → by_name i j ≡ Less) (λ j less e2. less) is rises.0),
      more,
    )

-- ---- the rules of an index

first_is : (uuid : Id) (x : IndexRef) → uuid.number < 2 ^ 128 → IsRef x → x.shards ≤ 1024 → IsIndex (first uuid x)
unfolding IsDistinct
first_is uuid x small good few = record {
  name = good.name;
  id = good.id;
  snapshots = record { each = (small, tt); some = refl; distinct = (tt, tt) };
  generations = AreGenerations-padded x.shards [] few (record { few = omega arith; each = tt });
}

some_push : (us : List Id) (u : Id) → (length (us ++ u ∷ []) == 0) ≡ false
some_push [] u = refl
some_push (v ∷ us) u = elim (cases_Bool (length (v ∷ (us ++ u ∷ [])) == 0)) [
  | inl none ↦ let zero_long : suc (length (us ++ u ∷ [])) ≡ 0 = eqb-true _ _ none in absurd (omega arith)
  | inr some ↦ some
]

grown_is : (uuid : Id) (shards : ℕ) (i : RootIndex) → uuid.number < 2 ^ 128 → shards ≤ 1024 → IsIndex i → has_id uuid i.snapshots ≡ false → IsIndex (grown uuid shards i)
grown_is uuid shards i small few h fresh = record {
  name = h.name;
  id = h.id;
  snapshots = record { each = all_push (λ u. u.number < 2 ^ 128) i.snapshots uuid h.snapshots.each small; some = some_push i.snapshots uuid; distinct = distinct_push same_id i.snapshots uuid h.snapshots.distinct fresh };
  generations = AreGenerations-padded shards i.generations few h.generations;
}

AreIndices-with_index : (uuid : Id) (x : IndexRef) (is : List RootIndex) → uuid.number < 2 ^ 128 → IsRef x → x.shards ≤ 1024 → AreIndices is → AllByRecursion (Takes uuid x) is
    → AreIndices (with_index uuid x is)
AreIndices-with_index uuid x is small good few h takes = record {
  each = with_all IsIndex uuid x is h.each (first_is uuid x small good few)
      (all_both IsIndex (Takes uuid x) (λ i. slice_cmp nat_cmp x.name i.name ≡ Equal → IsIndex (grown uuid x.shards i))
      (λ i one take e. grown_is uuid x.shards i small few one (take.1 (same_name i.name x.name (flipped x.name i.name Equal e)))) is h.each takes);
  distinct = with_distinct uuid x is h.distinct h.rises takes;
  rises = with_sorted uuid x is h.rises;
}

-- ---- one after another

-- another index still takes the snapshot
still_takes : (uuid : Id) (x y : IndexRef) (is : List RootIndex) → bytes_eq x.name y.name ≡ false → same_id x.id y.id ≡ false → AllByRecursion (Takes uuid y) is
    → AllByRecursion (Takes uuid y) (with_index uuid x is)
still_takes uuid x y is name id takes =
    with_all (Takes uuid y) uuid x is takes (name ∙ sym id, (λ same. absurd (true≢false (sym same ∙ name))))
    (all_weaken (Takes uuid y) (λ i. slice_cmp nat_cmp x.name i.name ≡ Equal → Takes uuid y (grown uuid x.shards i)) (λ i take e. (take.0, (λ same. absurd (true≢false (sym same ∙ other i e))))) is takes)
  where
    other : (i : RootIndex) → slice_cmp nat_cmp x.name i.name ≡ Equal → is_named y.name i ≡ false
    other i e =
        let is_it : x.name ≡ i.name = (bytes_eq-Decides x.name i.name).0 (same_name x.name i.name e) in
        subst (λ (n : List ℕ). bytes_eq n y.name ≡ false) is_it name

-- the indices that still take the snapshot, once one has it
still_take : (uuid : Id) (x : IndexRef) (xs : List IndexRef) (is : List RootIndex) → AllByRecursion (λ y. bytes_eq x.name y.name ≡ false) xs → AllByRecursion (λ y. same_id x.id y.id ≡ false) xs
    → AllByRecursion (λ y. AllByRecursion (Takes uuid y) is) xs → AllByRecursion (λ y. AllByRecursion (Takes uuid y) (with_index uuid x is)) xs
still_take uuid x xs is names ids takes =
    let apart = all_both (λ y. bytes_eq x.name y.name ≡ false) (λ y. same_id x.id y.id ≡ false) (λ y. (bytes_eq x.name y.name ≡ false) × (same_id x.id y.id ≡ false)) (λ y n i. (n, i)) xs names ids in
    all_both (λ y. (bytes_eq x.name y.name ≡ false) × (same_id x.id y.id ≡ false)) (λ y. AllByRecursion (Takes uuid y) is) (λ y. AllByRecursion (Takes uuid y) (with_index uuid x is))
    (λ y differ take. still_takes uuid x y is differ.0 differ.1 take) xs apart takes

-- each index, with one more snapshot of each of some
pub with_each_all : (P : RootIndex → Type 0) (uuid : Id) (xs : List IndexRef) (is : List RootIndex)
    → IsDistinct (λ x y. bytes_eq x.name y.name) xs → IsDistinct (λ x y. same_id x.id y.id) xs → AllByRecursion (λ x. AllByRecursion (Takes uuid x) is) xs → AllByRecursion P is
    → ((x : IndexRef) → P (first uuid x)) → ((x : IndexRef) (i : RootIndex) → has_id uuid i.snapshots ≡ false → P i → P (grown uuid x.shards i)) → AllByRecursion P (with_each uuid xs is)
unfolding IsDistinct
with_each_all P uuid [] is names ids takes h one more = h
with_each_all P uuid (x ∷ xs) is names ids takes h one more =
    with_each_all P uuid xs (with_index uuid x is) names.1 ids.1 (still_take uuid x xs is names.0 ids.0 takes.1)
    (with_all P uuid x is h (one x)
    (all_both P (Takes uuid x) (λ i. slice_cmp nat_cmp x.name i.name ≡ Equal → P (grown uuid x.shards i))
    (λ i own take e. more x i (take.1 (same_name i.name x.name (flipped x.name i.name Equal e))) own) is h takes.0)) one more

AreIndices-with_each : (uuid : Id) (xs : List IndexRef) (is : List RootIndex) → uuid.number < 2 ^ 128 → AllByRecursion IsRef xs → AllByRecursion (λ x. x.shards ≤ 1024) xs
    → IsDistinct (λ x y. bytes_eq x.name y.name) xs → IsDistinct (λ x y. same_id x.id y.id) xs
    → AreIndices is → AllByRecursion (λ x. AllByRecursion (Takes uuid x) is) xs → AreIndices (with_each uuid xs is)
unfolding IsDistinct
AreIndices-with_each uuid [] is small good few names ids h takes = h
AreIndices-with_each uuid (x ∷ xs) is small good few names ids h takes =
    AreIndices-with_each uuid xs (with_index uuid x is) small good.1 few.1 names.1 ids.1 (AreIndices-with_index uuid x is small good.0 few.0 h takes.0) (still_take uuid x xs is names.0 ids.0 takes.1)

-- ---- a snapshot that isn't listed is in no index

pub fresh_of : (ss : List RootSnap) (s : RootSnap) → list_any (λ old. clashes old s) ss ≡ false → lists ss s.uuid ≡ false
fresh_of [] s h = refl
fresh_of (t ∷ ss) s h =
    let parts = or_parts (clashes t s) (list_any (λ old. clashes old s) ss) h in
    let own = or_parts (bytes_eq t.name s.name) (same_id t.uuid s.uuid) parts.0 in
    rw own.1 (fresh_of ss s parts.1)

not_in : (ss : List RootSnap) (u : Id) (us : List Id) → lists ss u ≡ false → list_all (lists ss) us ≡ true → has_id u us ≡ false
not_in ss u [] none all = refl
not_in ss u (v ∷ us) none all =
    let parts = and_parts (lists ss v) (list_all (lists ss) us) all in
    rw (differs v parts.0) (not_in ss u us none parts.1)
  where
    differs : (v : Id) → lists ss v ≡ true → same_id v u ≡ false
    differs v there = elim (cases_Bool (same_id v u)) [
      | inl same ↦
          let e : v ≡ u = same_id-is v u same in
          absurd (true≢false (sym there ∙ ap (lists ss) e ∙ none))
      | inr other ↦ other
    ]

-- ---- all are listed

lists_more : (ss : List RootSnap) (s : RootSnap) (u : Id) → lists ss u ≡ true → lists (ss ++ s ∷ []) u ≡ true
lists_more ss s u h = list_any-append (λ t. same_id t.uuid u) ss (s ∷ []) ∙ rw h refl

lists_last : (ss : List RootSnap) (s : RootSnap) → lists (ss ++ s ∷ []) s.uuid ≡ true
lists_last [] s = rw (same_id-refl s.uuid) refl
lists_last (t ∷ ss) s = rw (lists_last ss s) (or_true (same_id t.uuid s.uuid))
  where
    or_true : (x : Bool) → (x || true) ≡ true
    or_true true = refl
    or_true false = refl

all_more : (ss : List RootSnap) (s : RootSnap) (us : List Id) → list_all (lists ss) us ≡ true → list_all (lists (ss ++ s ∷ [])) us ≡ true
all_more ss s [] h = refl
all_more ss s (u ∷ us) h =
    let parts = and_parts (lists ss u) (list_all (lists ss) us) h in
    rw (lists_more ss s u parts.0) (all_more ss s us parts.1)

all_push_listed : (p : Id → Bool) (us : List Id) (u : Id) → list_all p us ≡ true → p u ≡ true → list_all p (us ++ u ∷ []) ≡ true
all_push_listed p [] u h one = rw one refl
all_push_listed p (v ∷ us) u h one =
    let parts = and_parts (p v) (list_all p us) h in
    rw parts.0 (all_push_listed p us u parts.1 one)

listed_each : (ss : List RootSnap) (uuid : Id) (xs : List IndexRef) (is : List RootIndex) → lists ss uuid ≡ true → AllByRecursion (IsListed ss) is → AllByRecursion (IsListed ss) (with_each uuid xs is)
listed_each ss uuid [] is there h = h
listed_each ss uuid (x ∷ xs) is there h =
    listed_each ss uuid xs (with_index uuid x is) there
    (with_all (IsListed ss) uuid x is h (all_push_listed (lists ss) [] uuid refl there)
    (all_weaken (IsListed ss) (λ i. slice_cmp nat_cmp x.name i.name ≡ Equal → IsListed ss (grown uuid x.shards i)) (λ i listed e. all_push_listed (lists ss) i.snapshots uuid listed there) is h))

-- ---- the new root

-- the indices of a root take a new snapshot
all_take : (ss : List RootSnap) (uuid : Id) (x : IndexRef) (is : List RootIndex) → lists ss uuid ≡ false → AllByRecursion (IsListed ss) is → Fits is x → AllByRecursion (Takes uuid x) is
all_take ss uuid x is none listed fits =
    all_both (IsListed ss) (λ i. is_named x.name i ≡ same_id i.id x.id) (Takes uuid x) (λ i all fit. (fit, (λ same. not_in ss uuid i.snapshots none all))) is listed fits

pub takes_added : (r : Root) (s : RootSnap) (xs : List IndexRef) → IsRoot r → MayAdd r s xs → AllByRecursion (λ x. AllByRecursion (Takes s.uuid x) r.indices) xs
takes_added r s xs h may =
    all_weaken (Fits r.indices) (λ x. AllByRecursion (Takes s.uuid x) r.indices)
    (λ x fits. all_take r.snapshots s.uuid x r.indices (fresh_of r.snapshots s may.fresh) h.listed fits) xs may.known

pub not_in_any : (r : Root) (s : RootSnap) (xs : List IndexRef) → IsRoot r → MayAdd r s xs → AllByRecursion (λ i. has_id s.uuid i.snapshots ≡ false) r.indices
not_in_any r s xs h may =
    all_weaken (IsListed r.snapshots) (λ i. has_id s.uuid i.snapshots ≡ false) (λ i all. not_in r.snapshots s.uuid i.snapshots (fresh_of r.snapshots s may.fresh) all) r.indices h.listed

pub AreIndices-added : (r : Root) (s : RootSnap) (xs : List IndexRef) → IsRoot r → IsSnap s → AllByRecursion IsRef xs → MayAdd r s xs → AreIndices (with_each s.uuid xs r.indices)
AreIndices-added r s xs h one good may =
    AreIndices-with_each s.uuid xs r.indices one.uuid good may.few may.names may.ids h.indices (takes_added r s xs h may)

pub listed_added : (r : Root) (s : RootSnap) (xs : List IndexRef) → IsRoot r → AllByRecursion (IsListed (r.snapshots ++ s ∷ [])) (with_each s.uuid xs r.indices)
listed_added r s xs h =
    listed_each (r.snapshots ++ s ∷ []) s.uuid xs r.indices (lists_last r.snapshots s)
    (all_weaken (IsListed r.snapshots) (IsListed (r.snapshots ++ s ∷ [])) (λ i all. all_more r.snapshots s i.snapshots all) r.indices h.listed)

-- ---- generations

none_replicated : (n k : ℕ) → generation_in (replicate n None) k ≡ None
none_replicated (suc n) (suc k) = none_replicated n k
none_replicated n k = refl

generation_in-append : (gs : List (Option Id)) (n k : ℕ) → generation_in (gs ++ replicate n None) k ≡ generation_in gs k
generation_in-append [] n k = none_replicated n k
generation_in-append (g ∷ gs) n zero = refl
generation_in-append (g ∷ gs) n (suc k) = generation_in-append gs n k

pub generation_in-padded : (n : ℕ) (gs : List (Option Id)) (k : ℕ) → generation_in (padded n gs) k ≡ generation_in gs k
generation_in-padded n gs k = generation_in-append gs (n - length gs) k

none_among : (name : List ℕ) (k : ℕ) (is : List RootIndex) → AllByRecursion (λ i. is_named name i ≡ false) is → generation_among is name k ≡ None
none_among name k [] h = refl
none_among name k (i ∷ is) h = rw h.0 (none_among name k is h.1)

-- none of the indices that rise above a name has it
none_above : (x : IndexRef) (name : List ℕ) (k : ℕ) (is : List RootIndex) → bytes_eq x.name name ≡ true → AllByRecursion (λ j. slice_cmp nat_cmp x.name j.name ≡ Less) is → generation_among is name k ≡ None
none_above x name k is same h =
    let e : x.name ≡ name = (bytes_eq-Decides x.name name).0 same in
    none_among name k is (all_weaken (λ j. slice_cmp nat_cmp x.name j.name ≡ Less) (λ j. is_named name j ≡ false)
    (λ j below. subst (λ (n : List ℕ). bytes_eq j.name n ≡ false) e (other_above j.name x.name (flipped x.name j.name Less below))) is h)

generation_among-with_index : (uuid : Id) (x : IndexRef) (is : List RootIndex) (name : List ℕ) (k : ℕ) → IsStrictlySortedBy by_name is
    → generation_among (with_index uuid x is) name k ≡ generation_among is name k
unfolding IsStrictlySortedBy
generation_among-with_index uuid x [] name k rises = elim (cases_Bool (bytes_eq x.name name)) [
  | inl same ↦ rw same (generation_in-padded x.shards [] k)
  | inr other ↦ rw other refl
]
generation_among-with_index uuid x (i ∷ is) name k rises = by_order (generation_among-with_index uuid x is name k rises.1) (slice_cmp nat_cmp x.name i.name) refl
  where
    by_order : generation_among (with_index uuid x is) name k ≡ generation_among is name k → (o : Ordering) → slice_cmp nat_cmp x.name i.name ≡ o
        → generation_among (match_ordering o (first uuid x ∷ i ∷ is) (grown uuid x.shards i ∷ is) (i ∷ with_index uuid x is)) name k ≡ generation_among (i ∷ is) name k
    by_order rest Less e = elim (cases_Bool (bytes_eq x.name name)) [
      | inl same ↦ rw same (generation_in-padded x.shards [] k ∙ sym (none_above x name k (i ∷ is) same (e, below_all x.name i is e rises.0)))
      | inr other ↦ rw other refl
    ]
    by_order rest Equal e = elim (cases_Bool (bytes_eq i.name name)) [
      | inl same ↦ rw same (generation_in-padded x.shards i.generations k)
      | inr other ↦ rw other refl
    ]
    by_order rest Greater e = elim (cases_Bool (bytes_eq i.name name)) [
      | inl same ↦ rw same refl
      | inr other ↦ rw other rest
    ]

generation_among-with_each : (uuid : Id) (xs : List IndexRef) (is : List RootIndex) (name : List ℕ) (k : ℕ) → IsStrictlySortedBy by_name is
    → generation_among (with_each uuid xs is) name k ≡ generation_among is name k
generation_among-with_each uuid [] is name k rises = refl
generation_among-with_each uuid (x ∷ xs) is name k rises =
    generation_among-with_each uuid xs (with_index uuid x is) name k (with_sorted uuid x is rises) ∙ generation_among-with_index uuid x is name k rises

pub generation_at-added : (r : Root) (s : RootSnap) (xs : List IndexRef) → IsRoot r → (name : List ℕ) (k : ℕ) → generation_at (add_of r s xs) name k ≡ generation_at r name k
generation_at-added r s xs h name k = generation_among-with_each s.uuid xs r.indices name k h.indices.rises

-- ---- the place of an index

-- an index that stands at a place is grown there
pub placed_at : (uuid : Id) (x : IndexRef) (k n : ℕ) (is : List RootIndex) → place_from k x.name is ≡ Ok n
    → (j : ℕ) × (n ≡ k + j) × (j < length is) × ((d : RootIndex) → with_index uuid x is ≡ slice_set is j (grown uuid x.shards (slice_index_or is j d)))
placed_at uuid x k n [] h = cc
placed_at uuid x k n (i ∷ is) h = by_order (placed_at uuid x (k + 1) n is) (slice_cmp nat_cmp x.name i.name) h
  where
    by_order : (place_from (k + 1) x.name is ≡ Ok n → (j : ℕ) × (n ≡ k + 1 + j) × (j < length is) × ((d : RootIndex) → with_index uuid x is ≡ slice_set is j (grown uuid x.shards (slice_index_or is j d))))
        → (o : Ordering) → match_ordering o (Err k) (Ok k) (place_from (k + 1) x.name is) ≡ Ok n
        → (j : ℕ) × (n ≡ k + j) × (j < length (i ∷ is))
        × ((d : RootIndex) → match_ordering o (first uuid x ∷ i ∷ is) (grown uuid x.shards i ∷ is) (i ∷ with_index uuid x is) ≡ slice_set (i ∷ is) j (grown uuid x.shards (slice_index_or (i ∷ is) j d)))
    by_order rest Less e = cc
    by_order rest Equal e = let same : k ≡ n = cc in (0, omega arith, omega arith, (λ d. refl))
    by_order rest Greater e =
        let later = rest e in
        (suc later.0, omega (arith, later.1), omega (arith, later.2), (λ d. ap (λ (js : List RootIndex). i ∷ js) (later.3 d)))

-- an index that has no place comes to where it belongs
pub placed_before : (uuid : Id) (x : IndexRef) (k n : ℕ) (is : List RootIndex) → place_from k x.name is ≡ Err n
    → (j : ℕ) × (n ≡ k + j) × (j ≤ length is) × (with_index uuid x is ≡ insert is j (first uuid x))
placed_before uuid x k n [] h = let same : k ≡ n = cc in (0, omega arith, omega arith, refl)
placed_before uuid x k n (i ∷ is) h = by_order (placed_before uuid x (k + 1) n is) (slice_cmp nat_cmp x.name i.name) h
  where
    by_order : (place_from (k + 1) x.name is ≡ Err n → (j : ℕ) × (n ≡ k + 1 + j) × (j ≤ length is) × (with_index uuid x is ≡ insert is j (first uuid x)))
        → (o : Ordering) → match_ordering o (Err k) (Ok k) (place_from (k + 1) x.name is) ≡ Err n
        → (j : ℕ) × (n ≡ k + j) × (j ≤ length (i ∷ is)) × (match_ordering o (first uuid x ∷ i ∷ is) (grown uuid x.shards i ∷ is) (i ∷ with_index uuid x is) ≡ insert (i ∷ is) j (first uuid x))
    by_order rest Less e = let same : k ≡ n = cc in (0, omega arith, omega arith, refl)
    by_order rest Equal e = cc
    by_order rest Greater e =
        let later = rest e in
        (suc later.0, omega (arith, later.1), omega (arith, later.2), ap (λ (js : List RootIndex). i ∷ js) later.3)
