-- A root with fewer snapshots keeps the rules of a root, and the generations of the indices that stay.
use Rattle.std.proofs.Common.{◌≡◌, ℕ, ◌<◌, ◌^◌, Bool, true, false, not, List, [], ◌∷◌, map, refl, sym, ◌∙◌, subst, inl, inr}
use Rattle.std.specs.Prelude.{filter}
use Rattle.std.specs.List.{list_any, list_all, AllByRecursion, IsDistinct}
use Rattle.std.specs.List.Sorted.{IsStrictlySortedBy}
use Rattle.std.specs.Str.{bytes_eq}
use Rattle.std.proofs.lemmas.Bool.{cases_Bool, true≢false, not-true, and_parts}
use Rattle.std.specs.declared.cmp.Ordering.TheVariants.{Less}
use Rattle.std.proofs.lemmas.Slice.Eq.{bytes_eq-Decides}
use Rattle.std.proofs.lemmas.Map.Views.{any-filter_same}
use Rattle.std.proofs.lemmas.List.Kept.{IsStrictlySortedBy-filter}
use Rattle.esr_names.specs.declared.ids.Id.{Id}
use Rattle.esr_root.specs.Ids.{same_id, has_id}
use Rattle.esr_root.specs.Snaps.{IsSnap, AreSnaps, clashes, lists}
use Rattle.esr_root.specs.Indices.{IsIndex, AreIndices, IsListed, same_index, by_name, is_named}
use Rattle.esr_root.specs.Root.{Root, IsRoot}
use Rattle.esr_root.specs.Changes.{thinned, has_some, without_of, generation_among, generation_at}
use Rattle.esr_root.specs.declared.snaps.RootSnap.{RootSnap}
use Rattle.esr_root.specs.declared.indices.RootIndex.{RootIndex}
use Rattle.esr_root.specs.IdLaws.{same_id-is}
use Rattle.esr_root.specs.NameOrder.{other_above, flipped}
use Rattle.esr_root.specs.Lists.{any_from_none, all_filter, all_map, all_weaken, distinct_filter}

-- a snapshot that is not taken out
abbrev pub stays : List Id → Id → Bool
stays uuids u = not (has_id u uuids)

pub AreSnaps-filter : (p : RootSnap → Bool) (ss : List RootSnap) → AreSnaps ss → AreSnaps (filter p ss)
AreSnaps-filter p ss h = record { each = all_filter IsSnap p ss h.each; distinct = distinct_filter clashes p ss h.distinct }

-- ---- indices

-- what an index is, but for having a snapshot
record IsThin (i : RootIndex) : Type 0 where
  whole : has_some i ≡ true → IsIndex i

thin : (uuids : List Id) (i : RootIndex) → IsIndex i → IsThin (thinned uuids i)
thin uuids i h = record {
  whole = λ some. record {
    name = h.name;
    id = h.id;
    generations = h.generations;
    snapshots = record { each = all_filter (λ u. u.number < 2 ^ 128) (stays uuids) i.snapshots h.snapshots.each; some = not-true _ some; distinct = distinct_filter same_id (stays uuids) i.snapshots h.snapshots.distinct };
  };
}

all_whole : (is : List RootIndex) → AllByRecursion IsThin is → AllByRecursion IsIndex (filter has_some is)
all_whole [] h = tt
all_whole (i ∷ is) h = elim (cases_Bool (has_some i)) [
  | inl some ↦ rw some (h.0.whole some, all_whole is h.1)
  | inr none ↦ rw none (all_whole is h.1)
]

-- taking snapshots out leaves names and ids
distinct_thinned : (uuids : List Id) (is : List RootIndex) → IsDistinct same_index is → IsDistinct same_index (map (thinned uuids) is)
unfolding IsDistinct
distinct_thinned uuids [] h = tt
distinct_thinned uuids (i ∷ is) h = (all_map (λ j. same_index i j ≡ false) (thinned uuids) is h.0, distinct_thinned uuids is h.1)

sorted_thinned : (uuids : List Id) (is : List RootIndex) → IsStrictlySortedBy by_name is → IsStrictlySortedBy by_name (map (thinned uuids) is)
unfolding IsStrictlySortedBy
sorted_thinned uuids [] h = tt
sorted_thinned uuids (i ∷ is) h = (all_map (λ j. by_name i j ≡ Less) (thinned uuids) is h.0, sorted_thinned uuids is h.1)

pub AreIndices-without : (uuids : List Id) (is : List RootIndex) → AreIndices is → AreIndices (filter has_some (map (thinned uuids) is))
AreIndices-without uuids is h = record {
  each = all_whole (map (thinned uuids) is) (all_map IsThin (thinned uuids) is (all_weaken IsIndex (λ i. IsThin (thinned uuids i)) (thin uuids) is h.each));
  distinct = distinct_filter same_index has_some (map (thinned uuids) is) (distinct_thinned uuids is h.distinct);
  rises = IsStrictlySortedBy-filter by_name has_some (map (thinned uuids) is) (sorted_thinned uuids is h.rises);
}

-- ---- all are listed

lists_stays : (uuids : List Id) (ss : List RootSnap) (u : Id) → lists ss u ≡ true → stays uuids u ≡ true → lists (filter (λ s. stays uuids s.uuid) ss) u ≡ true
lists_stays uuids ss u there stay =
    any-filter_same (λ (s : RootSnap). same_id s.uuid u) (λ s. stays uuids s.uuid) true (λ s same. subst (λ (v : Id). stays uuids v ≡ true) (sym (same_id-is s.uuid u same)) stay) ss ∙ there

listed_stay : (uuids : List Id) (ss : List RootSnap) (us : List Id) → list_all (lists ss) us ≡ true
    → list_all (lists (filter (λ s. stays uuids s.uuid) ss)) (filter (stays uuids) us) ≡ true
listed_stay uuids ss [] h = refl
listed_stay uuids ss (u ∷ us) h =
    let parts = and_parts (lists ss u) (list_all (lists ss) us) h in
    elim (cases_Bool (stays uuids u)) [
      | inl stay ↦ rw (stay, lists_stays uuids ss u parts.0 stay) (listed_stay uuids ss us parts.1)
      | inr gone ↦ rw gone (listed_stay uuids ss us parts.1)
    ]

pub listed_without : (r : Root) (uuids : List Id) → IsRoot r → AllByRecursion (IsListed (without_of r uuids).snapshots) (without_of r uuids).indices
listed_without r uuids h =
    let ss : List RootSnap = filter (λ s. stays uuids s.uuid) r.snapshots in
    all_filter (IsListed ss) has_some (map (thinned uuids) r.indices)
    (all_map (IsListed ss) (thinned uuids) r.indices
    (all_weaken (IsListed r.snapshots) (λ i. IsListed ss (thinned uuids i)) (λ i all. listed_stay uuids r.snapshots i.snapshots all) r.indices h.listed))

-- ---- generations

-- no index after one has its name
none_after : (name : List ℕ) (i : RootIndex) (is : List RootIndex) → is_named name i ≡ true → AllByRecursion (λ j. by_name i j ≡ Less) is → AllByRecursion (λ j. is_named name j ≡ false) is
none_after name i is same h =
    let e : i.name ≡ name = (bytes_eq-Decides i.name name).0 same in
    all_weaken (λ j. by_name i j ≡ Less) (λ j. is_named name j ≡ false) (λ j less. subst (λ (n : List ℕ). bytes_eq j.name n ≡ false) e (other_above j.name i.name (flipped i.name j.name Less less))) is h

none_thinned : (uuids : List Id) (name : List ℕ) (is : List RootIndex) → AllByRecursion (λ j. is_named name j ≡ false) is → list_any (is_named name) (filter has_some (map (thinned uuids) is)) ≡ false
none_thinned uuids name is h =
    any_from_none (is_named name) (filter has_some (map (thinned uuids) is)) (all_filter (λ j. is_named name j ≡ false) has_some (map (thinned uuids) is) (all_map (λ j. is_named name j ≡ false) (thinned uuids) is h))

generation_among-thinned : (uuids : List Id) (is : List RootIndex) (name : List ℕ) (k : ℕ) → IsStrictlySortedBy by_name is
    → list_any (is_named name) (filter has_some (map (thinned uuids) is)) ≡ true
    → generation_among (filter has_some (map (thinned uuids) is)) name k ≡ generation_among is name k
unfolding IsStrictlySortedBy
generation_among-thinned uuids [] name k rises there = refl
generation_among-thinned uuids (i ∷ is) name k rises there = elim (cases_Bool (has_some (thinned uuids i))) [
  | inl some ↦ elim (cases_Bool (is_named name i)) [
    | inl same ↦ rw (some, same) refl
    | inr other ↦ let rest = rw (some, other) at there in rw (some, other) (generation_among-thinned uuids is name k rises.1 rest)
  ]
  | inr none ↦ let rest = rw none at there in elim (cases_Bool (is_named name i)) [
    | inl same ↦ absurd (true≢false (sym rest ∙ none_thinned uuids name is (none_after name i is same rises.0)))
    | inr other ↦ rw (none, other) (generation_among-thinned uuids is name k rises.1 rest)
  ]
]

pub generation_at-without : (r : Root) (uuids : List Id) → IsRoot r → (name : List ℕ) (k : ℕ) → list_any (is_named name) (without_of r uuids).indices ≡ true
    → generation_at (without_of r uuids) name k ≡ generation_at r name k
generation_at-without r uuids h name k there = generation_among-thinned uuids r.indices name k h.indices.rises there
