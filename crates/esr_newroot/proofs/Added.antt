-- A root with one more snapshot, by the names of its indices.
use Rattle.std.proofs.Common.{◌≡◌, ℕ, zero, suc, ◌-◌, true, false, List, [], ◌∷◌, ◌++◌, length, map, replicate, Option, Some, None, option_map, refl, sym, ap, ◌∙◌, subst, arith, inl, inr}
use Rattle.std.specs.Prelude.{if◌then◌else◌}
use Rattle.std.specs.List.{AllByRecursion, IsDistinct}
use Rattle.std.specs.List.Sorted.{IsStrictlySortedBy}
use Rattle.std.specs.Ordering.{nat_cmp, match_ordering}
use Rattle.std.specs.Str.{bytes_eq}
use Rattle.std.specs.Cmp.Lexicographic.{slice_cmp}
use Rattle.std.specs.declared.cmp.Ordering.{Ordering}
use Rattle.std.specs.declared.cmp.Ordering.TheVariants.{Less, Equal, Greater}
use Rattle.std.proofs.lemmas.Bool.{cases_Bool}
use Rattle.std.proofs.lemmas.Cmp.{nat_list_cmp_total}
use Rattle.std.proofs.lemmas.List.{map-append, length-map}
use Rattle.esr_names.specs.declared.ids.Id.{Id}
use Rattle.esr_names.specs.declared.index_ref.IndexRef.{IndexRef}
use Rattle.esr_root.specs.Indices.{by_name}
use Rattle.esr_root.specs.Changes.{grown, first, with_index, with_each}
use Rattle.esr_root.specs.declared.indices.RootIndex.{RootIndex as CodeIndex}
use Rattle.esr_root.specs.NameOrder.{flipped}
use Rattle.esr_formats.specs.Ids.{number_of}
use Rattle.esr_formats.specs.Roots.{root_index_of}
use Rattle.esr_model.specs.Values.{Bytes, RootIndex}
use Rattle.esr_newroot.specs.Named.{index_named, ref_named}
use Rattle.esr_newroot.specs.ByteTests.{named_so, differ}
use Rattle.esr_newroot.proofs.Choices.{chosen, passed, same_names, other_names, equals, above}
use Rattle.esr_newroot.proofs.Rising.{Rises, IsBelow, below_all, below_none}
use Rattle.esr_newroot.specs.RefLists.{one_name}
use Rattle.esr_newroot.proofs.Refs.{by_refs, at_ref, by_one}

-- ---- the code's rule of names, by the definitions' values

below_of : (name : Bytes) (is : List CodeIndex) → AllByRecursion (λ i. slice_cmp nat_cmp name i.name ≡ Less) is → IsBelow name (map root_index_of is)
below_of name [] h = tt
below_of name (i ∷ is) h = (h.0, below_of name is h.1)

pub rises_of : (is : List CodeIndex) → IsStrictlySortedBy by_name is → Rises (map root_index_of is)
unfolding IsStrictlySortedBy
rises_of [] h = tt
rises_of (i ∷ is) h = (below_of i.name is h.0, rises_of is h.1)

-- ---- one index

-- the index with a snapshot more, or a new one
abbrev pub added : Id → IndexRef → Option RootIndex → Option RootIndex
added uuid q None = Some (record { name = q.name; id = q.id.number; snapshots = uuid.number ∷ []; generations = replicate q.shards None })
added uuid q (Some y) = Some (record { name = y.name; id = y.id; snapshots = y.snapshots ++ uuid.number ∷ []; generations = y.generations ++ replicate (q.shards - length y.generations) None })

map-replicate : (n : ℕ) → map (option_map number_of) (replicate n None) ≡ replicate n None
map-replicate zero = refl
map-replicate (suc n) = ap (λ (gs : List (Option ℕ)). None ∷ gs) (map-replicate n)

first_of : (uuid : Id) (q : IndexRef) → Some (root_index_of (first uuid q)) ≡ added uuid q None
first_of uuid q = ap (λ (gs : List (Option ℕ)). with_numbers gs) (ap (λ (n : ℕ). map (option_map number_of) (replicate n None)) (omega arith) ∙ map-replicate q.shards)
  where
    with_numbers : List (Option ℕ) → Option RootIndex
    with_numbers gs = Some (record { name = q.name; id = q.id.number; snapshots = uuid.number ∷ []; generations = gs })

grown_of : (uuid : Id) (q : IndexRef) (i : CodeIndex) → Some (root_index_of (grown uuid q.shards i)) ≡ added uuid q (Some (root_index_of i))
grown_of uuid q i = ap (with_numbers (map number_of (i.snapshots ++ uuid ∷ []))) numbers ∙ ap (λ (us : List ℕ). with_numbers us padded_numbers) (map-append number_of i.snapshots (uuid ∷ []))
  where
    with_numbers : List ℕ → List (Option ℕ) → Option RootIndex
    with_numbers us gs = Some (record { name = i.name; id = i.id.number; snapshots = us; generations = gs })

    padded_numbers : List (Option ℕ)
    padded_numbers = map (option_map number_of) i.generations ++ replicate (q.shards - length (map (option_map number_of) i.generations)) None

    numbers : map (option_map number_of) (i.generations ++ replicate (q.shards - length i.generations) None) ≡ padded_numbers
    numbers =
        map-append (option_map number_of) i.generations (replicate (q.shards - length i.generations) None)
        ∙ ap (λ (gs : List (Option ℕ)). map (option_map number_of) i.generations ++ gs) (map-replicate (q.shards - length i.generations))
        ∙ ap (λ (n : ℕ). map (option_map number_of) i.generations ++ replicate (q.shards - n) None) (sym (length-map i.generations (option_map number_of)))

-- what the snapshot's references of a name make of the index of that name
abbrev Step : Id → IndexRef → List CodeIndex → List CodeIndex → Bytes → Type 0
Step uuid q is more name = index_named name (map root_index_of more) ≡ (if bytes_eq q.name name then added uuid q (index_named name (map root_index_of is)) else index_named name (map root_index_of is))

named-with_index : (uuid : Id) (q : IndexRef) (is : List CodeIndex) (name : Bytes) → IsStrictlySortedBy by_name is → Step uuid q is (with_index uuid q is) name
unfolding IsStrictlySortedBy
named-with_index uuid q [] name h = ap (λ (o : Option RootIndex). if bytes_eq q.name name then o else None) (first_of uuid q)
named-with_index uuid q (i ∷ is) name h = by_case (slice_cmp nat_cmp q.name i.name) refl (named-with_index uuid q is name h.1)
  where
    rest : Option RootIndex
    rest = index_named name (map root_index_of is)

    whole : Option RootIndex
    whole = index_named name (map root_index_of (i ∷ is))

    found : bytes_eq i.name name ≡ true → whole ≡ Some (root_index_of i)
    found same = chosen (Some (root_index_of i)) rest same

    missed : bytes_eq i.name name ≡ false → whole ≡ rest
    missed other = passed (Some (root_index_of i)) rest other

    new : slice_cmp nat_cmp q.name i.name ≡ Less → bytes_eq q.name name ≡ true → whole ≡ None
    new e same =
        let low : IsBelow q.name (map root_index_of (i ∷ is)) = (e, below_all q.name i.name (map root_index_of is) e (below_of i.name is h.0)) in
        subst (λ (n : Bytes). index_named n (map root_index_of (i ∷ is)) ≡ None) (same_names q.name name same) (below_none q.name (map root_index_of (i ∷ is)) low)

    by_case : (o : Ordering) → slice_cmp nat_cmp q.name i.name ≡ o → Step uuid q is (with_index uuid q is) name
        → Step uuid q (i ∷ is) (match_ordering o (first uuid q ∷ i ∷ is) (grown uuid q.shards i ∷ is) (i ∷ with_index uuid q is)) name
    by_case Less e step = elim (cases_Bool (bytes_eq q.name name)) [
      | inl same ↦ chosen (Some (root_index_of (first uuid q))) whole same ∙ first_of uuid q ∙ sym (chosen (added uuid q whole) whole same ∙ ap (added uuid q) (new e same))
      | inr other ↦ passed (Some (root_index_of (first uuid q))) whole other ∙ sym (passed (added uuid q whole) whole other)
    ]
    by_case Equal e step = elim (cases_Bool (bytes_eq i.name name)) [
      | inl same ↦
          let own : bytes_eq q.name name ≡ true = named_so q.name name (equals q.name i.name e ∙ same_names i.name name same) in
          chosen (Some (root_index_of (grown uuid q.shards i))) rest same ∙ grown_of uuid q i ∙ sym (chosen (added uuid q whole) whole own ∙ ap (added uuid q) (found same))
      | inr other ↦
          let differs : bytes_eq q.name name ≡ false = other_names q.name name (λ is_it. differ i.name name other (sym (equals q.name i.name e) ∙ is_it)) in
          passed (Some (root_index_of (grown uuid q.shards i))) rest other ∙ sym (passed (added uuid q whole) whole differs ∙ missed other)
    ]
    by_case Greater e step = elim (cases_Bool (bytes_eq i.name name)) [
      | inl same ↦
          let differs : bytes_eq q.name name ≡ false = other_names q.name name (λ is_it. differ q.name i.name (above q.name i.name e).0 (is_it ∙ sym (same_names i.name name same))) in
          chosen (Some (root_index_of i)) (index_named name (map root_index_of (with_index uuid q is))) same ∙ sym (passed (added uuid q whole) whole differs ∙ found same)
      | inr other ↦
          passed (Some (root_index_of i)) (index_named name (map root_index_of (with_index uuid q is))) other ∙ step
          ∙ ap (λ (o : Option RootIndex). if bytes_eq q.name name then added uuid q o else o) (sym (missed other))
    ]

-- ---- names still rise

below-with_index : (name : Bytes) (uuid : Id) (q : IndexRef) (is : List CodeIndex) → AllByRecursion (λ i. slice_cmp nat_cmp name i.name ≡ Less) is → slice_cmp nat_cmp name q.name ≡ Less
    → AllByRecursion (λ i. slice_cmp nat_cmp name i.name ≡ Less) (with_index uuid q is)
below-with_index name uuid q [] h one = (one, tt)
below-with_index name uuid q (i ∷ is) h one = by_case (slice_cmp nat_cmp q.name i.name) (below-with_index name uuid q is h.1 one)
  where
    by_case : (o : Ordering) → AllByRecursion (λ i. slice_cmp nat_cmp name i.name ≡ Less) (with_index uuid q is)
        → AllByRecursion (λ i. slice_cmp nat_cmp name i.name ≡ Less) (match_ordering o (first uuid q ∷ i ∷ is) (grown uuid q.shards i ∷ is) (i ∷ with_index uuid q is))
    by_case Less rest = (one, h)
    by_case Equal rest = h
    by_case Greater rest = (h.0, rest)

below_later : (a b : Bytes) (is : List CodeIndex) → slice_cmp nat_cmp a b ≡ Less → AllByRecursion (λ i. slice_cmp nat_cmp b i.name ≡ Less) is → AllByRecursion (λ i. slice_cmp nat_cmp a i.name ≡ Less) is
below_later a b [] e h = tt
below_later a b (i ∷ is) e h = (nat_list_cmp_total.trans a b i.name e h.0, below_later a b is e h.1)

rises-with_index : (uuid : Id) (q : IndexRef) (is : List CodeIndex) → IsStrictlySortedBy by_name is → IsStrictlySortedBy by_name (with_index uuid q is)
unfolding IsStrictlySortedBy
rises-with_index uuid q [] h = (tt, tt)
rises-with_index uuid q (i ∷ is) h = by_case (slice_cmp nat_cmp q.name i.name) refl (rises-with_index uuid q is h.1)
  where
    by_case : (o : Ordering) → slice_cmp nat_cmp q.name i.name ≡ o → IsStrictlySortedBy by_name (with_index uuid q is)
        → IsStrictlySortedBy by_name (match_ordering o (first uuid q ∷ i ∷ is) (grown uuid q.shards i ∷ is) (i ∷ with_index uuid q is))
    by_case Less e rest = ((e, below_later q.name i.name is e h.0), h)
    by_case Equal e rest = h
    by_case Greater e rest = (below-with_index i.name uuid q is h.0 (flipped q.name i.name Greater e), rest)

-- ---- each of the snapshot's

with_each_by : (uuid : Id) (qs : List IndexRef) (is : List CodeIndex) (name : Bytes) → IsStrictlySortedBy by_name is
    → index_named name (map root_index_of (with_each uuid qs is)) ≡ by_refs (added uuid) name qs (index_named name (map root_index_of is))
with_each_by uuid [] is name h = refl
with_each_by uuid (q ∷ qs) is name h = with_each_by uuid qs (with_index uuid q is) name (rises-with_index uuid q is h) ∙ ap (by_refs (added uuid) name qs) (named-with_index uuid q is name h)

pub named-with_each : (uuid : Id) (qs : List IndexRef) (is : List CodeIndex) (name : Bytes) → IsDistinct one_name qs → IsStrictlySortedBy by_name is
    → index_named name (map root_index_of (with_each uuid qs is)) ≡ at_ref (added uuid) (ref_named name qs) (index_named name (map root_index_of is))
named-with_each uuid qs is name d h = with_each_by uuid qs is name h ∙ by_one (added uuid) name qs (index_named name (map root_index_of is)) d
