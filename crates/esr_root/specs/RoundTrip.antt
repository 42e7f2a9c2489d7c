-- What is written of a root is read as that root.
use Rattle.std.proofs.Common.{◌≡◌, ℕ, ◌<◌, ◌^◌, ◌==◌, nat_lt, false, List, [], ◌∷◌, ◌++◌, length, map, codes, Option, Some, None, Ok, refl, sym, ap, ◌∙◌, subst, arith, inl, inr}
use Rattle.std.specs.List.{list_any, AllByRecursion, IsDistinct}
use Rattle.std.specs.List.Sorted.{IsStrictlySortedBy}
use Rattle.std.specs.Str.{bytes_eq}
use Rattle.std.specs.Ordering.{nat_cmp, ordering_reverse}
use Rattle.std.specs.Cmp.Lexicographic.{slice_cmp}
use Rattle.std.specs.declared.cmp.Ordering.TheVariants.{Less, Greater}
use Rattle.std.proofs.lemmas.Cmp.{nat_list_cmp_total}
use Rattle.std.proofs.lemmas.Bool.{le-ltb, cases_Bool, eqb-false}
use Rattle.std.proofs.lemmas.Slice.Eq.{bytes_eq-Decides}
use Rattle.std.proofs.lemmas.List.{append_assoc, append-nil, length-map, map-append}
use Rattle.serde_json.specs.Data.{array, no_members}
use Rattle.serde_json.specs.View.{items_of}
use Rattle.serde_json.specs.Read.{max_depth}
use Rattle.esr_names.specs.IdText.{id_text}
use Rattle.esr_names.specs.declared.ids.Id.{Id}
use Rattle.esr_names.specs.IdTextLaws.{read_id-id_text, length-id_text}
use Rattle.esr_json.specs.Access.{member_at, text_at, number_at, number_or, items_at, items_or_none, members_at, members_list}
use Rattle.esr_json.specs.Named.{with_members, Rising}
use Rattle.esr_json.specs.Shallow.{IsShallow, MembersAreShallow}
use Rattle.esr_json.specs.Items.{items_listed_of}
use Rattle.esr_json.specs.Members.{members_list-with_members}
use Rattle.esr_json.specs.ShallowValues.{IsShallow-array_map, MembersAreShallow-none, MembersAreShallow-with_members}
use Rattle.esr_root.specs.Ids.{same_id, has_id}
use Rattle.esr_root.specs.Generations.{IsGeneration}
use Rattle.esr_root.specs.Snaps.{IsSnap, clashes}
use Rattle.esr_root.specs.Indices.{IsIndex, IsListed, same_index, by_name}
use Rattle.esr_root.specs.Root.{Root, IsRoot}
use Rattle.esr_root.specs.Reading.{name_of, id_of, state_of, snap_of, snaps_from, root_of, id_item, ids_from, generation_of, generations_from, generations_of, index_of, indices_from}
use Rattle.esr_root.specs.Text.{snap_data, id_data, generation_data, index_data, index_entry, root_data}
use Rattle.esr_root.specs.declared.snaps.RootSnap.{RootSnap}
use Rattle.esr_root.specs.declared.indices.RootIndex.{RootIndex}
use Rattle.esr_root.specs.IdLaws.{repeats_from_distinct}
use Rattle.esr_root.specs.Lists.{distinct_before}

-- ---- snapshots

snap_of-snap_data : (s : RootSnap) → IsSnap s → snap_of (snap_data s) ≡ Ok s
unfolding snap_of name_of id_of state_of text_at number_or number_at member_at
snap_of-snap_data s h =
    let low : nat_lt s.state 0 ≡ false = le-ltb s.state 0 (omega arith) in
    let small : s.state < 256 = h.state in
    let high : nat_lt 255 s.state ≡ false = le-ltb 255 s.state (omega arith) in
    rw (h.name, read_id-id_text s.uuid h.uuid, low, high) refl

snaps_from-data : (before ss : List RootSnap) → AllByRecursion IsSnap ss → IsDistinct clashes (before ++ ss) → snaps_from before (map snap_data ss) ≡ Ok (before ++ ss)
unfolding snaps_from
snaps_from-data before [] h apart = rw append-nil refl
snaps_from-data before (s ∷ ss) h apart =
    rw (snap_of-snap_data s h.0, distinct_before clashes before s ss apart)
    (snaps_from-data (before ++ s ∷ []) ss h.1 (subst (IsDistinct clashes) (sym (append_assoc before (s ∷ []) ss)) apart) ∙ ap Ok (append_assoc before (s ∷ []) ss))

-- ---- indices

ids_from-data : (before us : List Id) → AllByRecursion (λ u. u.number < 2 ^ 128) us → ids_from before (map id_data us) ≡ Ok (before ++ us)
unfolding ids_from id_item
ids_from-data before [] h = rw append-nil refl
ids_from-data before (u ∷ us) h = rw (read_id-id_text u h.0) (ids_from-data (before ++ u ∷ []) us h.1 ∙ ap Ok (append_assoc before (u ∷ []) us))

-- the texts for none are too short for an id
not_id : (u : Id) (s : List ℕ) → (length s == 22) ≡ false → bytes_eq (id_text u.number) s ≡ false
not_id u s short = elim (cases_Bool (bytes_eq (id_text u.number) s)) [
  | inl same ↦
      let text : id_text u.number ≡ s = (bytes_eq-Decides (id_text u.number) s).0 same in
      let long : length s ≡ 22 = ap length (sym text) ∙ length-id_text u.number in
      absurd (eqb-false (length s) 22 short long)
  | inr other ↦ other
]

generation_of-data : (g : Option Id) → IsGeneration g → generation_of (generation_data g) ≡ Ok g
generation_of-data None h = refl
generation_of-data (Some u) h = rw (not_id u (codes "_new") refl, not_id u (codes "_deleted") refl, read_id-id_text u h) refl

generations_from-data : (before gs : List (Option Id)) → AllByRecursion IsGeneration gs → generations_from before (map generation_data gs) ≡ Ok (before ++ gs)
unfolding generations_from
generations_from-data before [] h = rw append-nil refl
generations_from-data before (g ∷ gs) h = rw (generation_of-data g h.0) (generations_from-data (before ++ g ∷ []) gs h.1 ∙ ap Ok (append_assoc before (g ∷ []) gs))

index_of-data : (i : RootIndex) → IsIndex i → index_of (index_entry i) ≡ Ok i
unfolding index_of id_of text_at items_at items_or_none member_at generations_of
index_of-data i h =
    let few : nat_lt 1024 (length (map generation_data i.generations)) ≡ false = le-ltb 1024 _ (rw (length-map i.generations generation_data) h.generations.few) in
    rw (
      h.name,
      read_id-id_text i.id h.id,
      items_listed_of (map id_data i.snapshots),
      ids_from-data [] i.snapshots h.snapshots.each,
      items_listed_of (map generation_data i.generations),
      few,
      generations_from-data [] i.generations h.generations.each,
    ) refl

-- the ids of the indices that were read
abbrev ids_before : List RootIndex → List Id
ids_before is = map (λ i. i.id) is

has_id-before : (u : Id) (is : List RootIndex) → has_id u (ids_before is) ≡ list_any (λ j. same_id j.id u) is
has_id-before u [] = refl
has_id-before u (i ∷ is) = rw (has_id-before u is) refl

indices_from-data : (snaps : List RootSnap) (before is : List RootIndex) → AllByRecursion IsIndex is → AllByRecursion (IsListed snaps) is → IsDistinct same_index (before ++ is)
    → indices_from snaps (ids_before before) before (map index_entry is) ≡ Ok (before ++ is)
unfolding indices_from
indices_from-data snaps before [] h listed apart = rw append-nil refl
indices_from-data snaps before (i ∷ is) h listed apart =
    let fresh : has_id i.id (ids_before before) ≡ false = has_id-before i.id before ∙ distinct_before same_index before i is apart in
    let more : ids_before before ++ i.id ∷ [] ≡ ids_before (before ++ i ∷ []) = sym (map-append (λ (j : RootIndex). j.id) before (i ∷ [])) in
    let rest = indices_from-data snaps (before ++ i ∷ []) is h.1 listed.1 (subst (IsDistinct same_index) (sym (append_assoc before (i ∷ []) is)) apart) in
    rw (index_of-data i h.0, fresh, repeats_from_distinct i.snapshots h.0.snapshots.distinct, listed.0, h.0.snapshots.some, more) (rest ∙ ap Ok (append_assoc before (i ∷ []) is))

-- ---- the order of the members

above : (i : RootIndex) (is : List RootIndex) → AllByRecursion (λ j. by_name i j ≡ Less) is → AllByRecursion (λ name. slice_cmp nat_cmp name i.name ≡ Greater) (map (λ j. j.name) is)
above i [] h = tt
above i (j ∷ is) h = (nat_list_cmp_total.antisymm j.name i.name ∙ ap ordering_reverse h.0, above i is h.1)

pub Rising-names : (is : List RootIndex) → IsStrictlySortedBy by_name is → Rising (map (λ i. i.name) is)
unfolding IsStrictlySortedBy
Rising-names [] h = tt
Rising-names (i ∷ is) h = (above i is h.0, Rising-names is h.1)

members_listed : (is : List RootIndex) → IsStrictlySortedBy by_name is → members_list (with_members no_members (map index_entry is)) ≡ map index_entry is
members_listed is h = members_list-with_members (λ (i : RootIndex). i.name) index_data is (Rising-names is h)

pub root_of-root_data : (r : Root) → IsRoot r → root_of (root_data r) ≡ Ok r
unfolding root_of root_data items_at members_at member_at
root_of-root_data r h =
    rw (
      items_listed_of (map snap_data r.snapshots),
      members_listed r.indices h.indices.rises,
      snaps_from-data [] r.snapshots h.snapshots.each h.snapshots.distinct,
      indices_from-data r.snapshots [] r.indices h.indices.each h.listed h.indices.distinct,
    ) refl

-- ---- what the writer asks of the value

snap_shallow : (s : RootSnap) → IsShallow 1 (snap_data s)
snap_shallow s = (refl, omega arith)

id_shallow : (u : Id) → IsShallow 0 (id_data u)
id_shallow u = (refl, omega arith)

generation_shallow : (g : Option Id) → IsShallow 0 (generation_data g)
generation_shallow None = (refl, omega arith)
generation_shallow (Some u) = (refl, omega arith)

index_shallow : (i : RootIndex) → IsShallow 2 (index_data i)
index_shallow i =
    let generations : IsShallow 1 (array (items_of (map generation_data i.generations))) = IsShallow-array_map 0 generation_data generation_shallow i.generations in
    let ids : IsShallow 1 (array (items_of (map id_data i.snapshots))) = IsShallow-array_map 0 id_data id_shallow i.snapshots in
    (rw (generations.0, ids.0) refl, omega (arith, generations.1, ids.1))

pub root_shallow : (r : Root) → IsShallow max_depth (root_data r)
unfolding root_data
root_shallow r =
    let indices : MembersAreShallow 2 (with_members no_members (map index_entry r.indices)) =
    MembersAreShallow-with_members 2 (λ (i : RootIndex). i.name) index_data index_shallow no_members r.indices (MembersAreShallow-none 2) in
    let snaps : IsShallow 2 (array (items_of (map snap_data r.snapshots))) = IsShallow-array_map 1 snap_data snap_shallow r.snapshots in
    (rw (indices.0, snaps.0) refl, omega (arith, indices.1, snaps.1))
