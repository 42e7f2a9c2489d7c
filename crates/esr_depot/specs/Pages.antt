-- What a page is of the names from which it is taken.
use Rattle.std.proofs.Common.{◌≡◌, ◌⊎◌, inl, inr, ⊎_elim, ℕ, zero, suc, ◌≤◌, Bool, true, false, cond, List, [], ◌∷◌, length, map, take, Option, Some, None, refl, sym, ◌∙◌, ap, subst, arith}
use Rattle.std.specs.Prelude.{T, ◌&&◌, nat_lt}
use Rattle.std.proofs.lemmas.List.{length-take}
use Rattle.std.specs.List.{filter}
use Rattle.std.specs.declared.cmp.Ordering.{Ordering}
use Rattle.std.specs.declared.cmp.Ordering.TheVariants.{Less, Equal, Greater}
use Rattle.std.specs.Ordering.{nat_cmp, is_lt, is_eq, eq_by_cmp, ordering_reverse}
use Rattle.std.specs.Cmp.{tied_itself}
use Rattle.std.specs.Cmp.Lexicographic.{slice_cmp, nat_list_cmp_total}
use Rattle.std.specs.FinMap.{entries, get-entries, entries_sorted, slice_cmp-IsAntisymmetric, nat_cmp-IsAntisymmetric}
use Rattle.std.specs.FinMap.Entries.{find, below_all, is_sorted}
use Rattle.esr_depot.specs.Image.{Blobs, sizes_of}
use Rattle.esr_depot.specs.Listing.{Size, Has, IsAfter, IsRising, IsPage, is_after, page_from, last_name, IsPageOf}

-- ---- those that pass a test

module _ (p : Size → Bool) where
  or_more : (b : Bool) (t : Size) (sizes : List Size) (s : Size) → Has sizes s → Has (cond b (t ∷ sizes) sizes) s
  or_more true t sizes s has = inr has
  or_more false t sizes s has = has

  in_filter : (sizes : List Size) (s : Size) → Has sizes s → p s ≡ true → Has (filter p sizes) s
  in_filter [] s has is = absurd has
  in_filter (t ∷ rest) s (inl same) is = subst (λ (b : Bool). Has (cond b (t ∷ filter p rest) (filter p rest)) s) (sym (ap p same ∙ is)) (inl same)
  in_filter (t ∷ rest) s (inr has) is = or_more (p t) t (filter p rest) s (in_filter rest s has is)

  from_filter : (sizes : List Size) (s : Size) → Has (filter p sizes) s → Has sizes s × (p s ≡ true)
  from_filter [] s has = absurd has
  from_filter (t ∷ rest) s has =
      elim (p t) as (λ b. p t ≡ b → Has (cond b (t ∷ filter p rest) (filter p rest)) s → Has (t ∷ rest) s × (p s ≡ true)) [
        | true ↦ λ is h. ⊎_elim (λ same. (inl same, ap p (sym same) ∙ is)) (λ m. let r = from_filter rest s m in (inr r.0, r.1)) h
        | false ↦ λ is h. let r = from_filter rest s h in (inr r.0, r.1)
      ] refl has

  rising_filter : (sizes : List Size) → IsRising sizes → IsRising (filter p sizes)
  rising_filter [] rising = tt
  rising_filter (t ∷ rest) rising =
      let more = rising_filter rest rising.1 in
      elim (p t) as (λ b. IsRising (cond b (t ∷ filter p rest) (filter p rest))) [
        | true ↦ (λ u h. rising.0 u (from_filter rest u h).0, more)
        | false ↦ more
      ]

-- ---- the first ones

in_take : (n : ℕ) (sizes : List Size) (s : Size) → Has (take n sizes) s → Has sizes s
in_take (suc n) (t ∷ rest) s (inl same) = inl same
in_take (suc n) (t ∷ rest) s (inr has) = inr (in_take n rest s has)
in_take n sizes s has = absurd has

rising_take : (n : ℕ) (sizes : List Size) → IsRising sizes → IsRising (take n sizes)
rising_take (suc n) (t ∷ rest) rising = (λ u h. rising.0 u (in_take n rest u h), rising_take n rest rising.1)
rising_take n sizes rising = tt

-- one of a rising list is among the first, or these are as many as asked for, and it comes after their last
first_or_later : (n : ℕ) (sizes : List Size) (s : Size) → IsRising sizes → Has sizes s → Has (take (suc n) sizes) s ⊎ ((length (take (suc n) sizes) ≡ suc n) × IsAfter (last_name (take (suc n) sizes)) s.0)
first_or_later n [] s rising has = absurd has
first_or_later n (t ∷ rest) s rising (inl same) = inl (inl same)
first_or_later zero (t ∷ rest) s rising (inr has) = inr (refl, rising.0 s has)
first_or_later (suc n) (t ∷ []) s rising (inr has) = absurd has
first_or_later (suc n) (t ∷ u ∷ rest) s rising (inr has) =
    ⊎_elim (λ h. inl (inr h)) (λ later. inr (ap suc later.0, later.1)) (first_or_later n (u ∷ rest) s rising.1 has)

-- ---- a page of a rising list

less : (o : Ordering) → is_lt o ≡ true → o ≡ Less
less Less is = refl
less Equal is = absurd cc
less Greater is = absurd cc

after_is : (after : Option (List ℕ)) (name : List ℕ) → is_after after name ≡ true → IsAfter after name
after_is None name is = tt
after_is (Some from) name is = less (slice_cmp nat_cmp from name) is

is_after_is : (after : Option (List ℕ)) (name : List ℕ) → IsAfter after name → is_after after name ≡ true
is_after_is None name later = refl
is_after_is (Some from) name later = ap is_lt later

at_most : (n : ℕ) (sizes : List Size) → length (take n sizes) ≤ n
at_most n sizes = omega (arith, length-take n sizes)

-- the test that a page makes of each name
abbrev passes : Option (List ℕ) → Size → Bool
passes after s = is_after after s.0

pub page_is : (after : Option (List ℕ)) (sizes : List Size) → IsRising sizes → IsPage after (page_from after sizes)
page_is after sizes rising = record {
  few = at_most 1000 (filter (passes after) sizes);
  follow = λ s has. after_is after s.0 (from_filter (passes after) sizes s (in_take 1000 (filter (passes after) sizes) s has)).1;
  rising = rising_take 1000 (filter (passes after) sizes) (rising_filter (passes after) sizes rising);
}

-- ---- a page of blobs

first : (a b : Bool) → T (a && b) → T a
first true b both = tt
first false b both = both

second : (a b : Bool) → T (a && b) → T b
second true b both = both
second false b both = absurd both

below : (o : Ordering) → T (is_lt o) → o ≡ Less
below Less is = refl
below Equal is = absurd is
below Greater is = absurd is

pub tied : (o : Ordering) → is_eq o ≡ true → o ≡ Equal
tied Less is = absurd cc
tied Equal is = refl
tied Greater is = absurd cc

abbrev sizes : List (List ℕ × List ℕ) → List Size
sizes es = map (λ e. (e.0, length e.1)) es

below_each : (name : List ℕ) (es : List (List ℕ × List ℕ)) (s : Size) → T (below_all (slice_cmp nat_cmp) name es) → Has (sizes es) s → slice_cmp nat_cmp name s.0 ≡ Less
below_each name [] s all has = absurd has
below_each name (e ∷ es) s all (inl same) = subst (λ (t : Size). slice_cmp nat_cmp name t.0 ≡ Less) same (below (slice_cmp nat_cmp name e.0) (first _ _ all))
below_each name (e ∷ es) s all (inr has) = below_each name es s (second _ _ all) has

rising_sizes : (es : List (List ℕ × List ℕ)) → T (is_sorted (slice_cmp nat_cmp) es) → IsRising (sizes es)
rising_sizes [] sorted = tt
rising_sizes (e ∷ es) sorted = (λ s has. below_each e.0 es s (first _ _ sorted) has, rising_sizes es (second _ _ sorted))

-- what is listed is found with its length
found_size : (es : List (List ℕ × List ℕ)) (s : Size) → T (is_sorted (slice_cmp nat_cmp) es) → Has (sizes es) s → (bytes : List ℕ) × (find (slice_cmp nat_cmp) s.0 es ≡ Some bytes) × (length bytes ≡ s.1)
found_size [] s sorted has = absurd has
found_size (e ∷ es) s sorted (inl same) =
    let itself : eq_by_cmp (slice_cmp nat_cmp) s.0 e.0 ≡ true = subst (λ (t : Size). eq_by_cmp (slice_cmp nat_cmp) t.0 e.0 ≡ true) same (ap is_eq (tied_itself nat_list_cmp_total e.0)) in
    (e.1, ap (λ b. cond b (Some e.1) (find (slice_cmp nat_cmp) s.0 es)) itself, ap (λ (t : Size). t.1) same)
found_size (e ∷ es) s sorted (inr has) =
    let lower : slice_cmp nat_cmp e.0 s.0 ≡ Less = below_each e.0 es s (first _ _ sorted) has in
    let other : eq_by_cmp (slice_cmp nat_cmp) s.0 e.0 ≡ false = ap is_eq (nat_list_cmp_total.antisymm s.0 e.0 ∙ ap ordering_reverse lower) in
    let r = found_size es s (second _ _ sorted) has in
    (r.0, ap (λ b. cond b (Some e.1) (find (slice_cmp nat_cmp) s.0 es)) other ∙ r.1, r.2)

-- what is found is listed with its length
size_found : (name bytes : List ℕ) (es : List (List ℕ × List ℕ)) → find (slice_cmp nat_cmp) name es ≡ Some bytes → Has (sizes es) (name, length bytes)
size_found name bytes [] is = absurd cc
size_found name bytes (e ∷ es) is =
    elim (eq_by_cmp (slice_cmp nat_cmp) name e.0) as (λ b. eq_by_cmp (slice_cmp nat_cmp) name e.0 ≡ b → cond b (Some e.1) (find (slice_cmp nat_cmp) name es) ≡ Some bytes → Has (sizes (e ∷ es)) (name, length bytes)) [
      | true ↦ λ tie found.
          let same : name ≡ e.0 = slice_cmp-IsAntisymmetric nat_cmp-IsAntisymmetric name e.0 (tied (slice_cmp nat_cmp name e.0) tie) in
          let value : e.1 ≡ bytes = cc in
          inl (λ i. (sym same i, length (value i)))
      | false ↦ λ tie found. inr (size_found name bytes es found)
    ] refl is

pub sizes_rise : (blobs : Blobs) → IsRising (sizes_of blobs)
sizes_rise blobs = rising_sizes (entries blobs) (entries_sorted blobs)

-- the first names after one are a page of the blobs
pub page_is_of : (blobs : Blobs) (after : Option (List ℕ)) → IsPageOf blobs after (page_from after (sizes_of blobs))
page_is_of blobs after =
    let later : List Size = filter (passes after) (sizes_of blobs) in
    let rise : IsRising later = rising_filter (passes after) (sizes_of blobs) (sizes_rise blobs) in record {
      there = λ s has.
          let listed : Has (sizes_of blobs) s = (from_filter (passes after) (sizes_of blobs) s (in_take 1000 later s has)).0 in
          let found = found_size (entries blobs) s (entries_sorted blobs) listed in
          (found.0, get-entries blobs s.0 ∙ found.1, found.2);
      all = λ name bytes there is.
          let listed : Has (sizes_of blobs) (name, length bytes) = size_found name bytes (entries blobs) (sym (get-entries blobs name) ∙ there) in
          let has : Has later (name, length bytes) = in_filter (passes after) (sizes_of blobs) (name, length bytes) listed (is_after_is after name is) in
          ⊎_elim (λ here. inl ((name, length bytes), here, refl)) (λ past. inr (ap (λ n. nat_lt n 1000) past.0, past.1)) (first_or_later 999 later (name, length bytes) rise has);
    }
