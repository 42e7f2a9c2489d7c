-- Indices whose names rise: they are known by what each name finds, and sorting makes such lists.
use Rattle.std.proofs.Common.{◌≡◌, true, List, [], ◌∷◌, Some, None, refl, sym, ap, ◌∙◌, subst, inl, inr}
use Rattle.std.specs.Prelude.{if◌then◌else◌}
use Rattle.std.specs.List.{AllByRecursion}
use Rattle.std.specs.List.Sorted.{IsStrictlySortedBy}
use Rattle.std.specs.Ordering.{nat_cmp}
use Rattle.std.specs.Str.{bytes_eq}
use Rattle.std.specs.Cmp.Lexicographic.{slice_cmp}
use Rattle.std.specs.declared.cmp.Ordering.{Ordering}
use Rattle.std.specs.declared.cmp.Ordering.TheVariants.{Less, Equal, Greater}
use Rattle.std.proofs.lemmas.Bool.{cases_Bool}
use Rattle.std.proofs.lemmas.Cmp.{nat_list_cmp_total}
use Rattle.esr_root.specs.NameOrder.{flipped}
use Rattle.esr_model.specs.Values.{Bytes, RootIndex}
use Rattle.esr_model.specs.Places.{by_order, put_by, sorted_by}
use Rattle.esr_model.specs.Finalize.{named_first}
use Rattle.esr_newroot.specs.Named.{index_named}
use Rattle.esr_newroot.specs.ByteTests.{named_so, below}
use Rattle.esr_newroot.proofs.Choices.{chosen, passed, same_names, equals, above}
use Rattle.esr_newroot.proofs.Named.{some_is, none_some, named-sorted}

abbrev pub name_order : RootIndex → RootIndex → Ordering
name_order x y = slice_cmp nat_cmp x.name y.name

-- a name is below each of these
abbrev pub IsBelow : Bytes → List RootIndex → Type 0
IsBelow name ys = AllByRecursion (λ y. slice_cmp nat_cmp name y.name ≡ Less) ys

abbrev pub Rises : List RootIndex → Type 0
Rises ys = IsStrictlySortedBy name_order ys

-- no name stands twice
abbrev pub AreApart : List RootIndex → Type 0
AreApart [] = Unit {0}
AreApart (y ∷ ys) = (index_named y.name ys ≡ None) × AreApart ys

pub below_all : (a b : Bytes) (ys : List RootIndex) → slice_cmp nat_cmp a b ≡ Less → IsBelow b ys → IsBelow a ys
below_all a b [] e h = tt
below_all a b (y ∷ ys) e h = (nat_list_cmp_total.trans a b y.name e h.0, below_all a b ys e h.1)

pub below_none : (name : Bytes) (ys : List RootIndex) → IsBelow name ys → index_named name ys ≡ None
below_none name [] h = refl
below_none name (y ∷ ys) h = passed (Some y) (index_named name ys) (below name y.name h.0).1 ∙ below_none name ys h.1

pub apart_rising : (ys : List RootIndex) → Rises ys → AreApart ys
unfolding IsStrictlySortedBy
apart_rising [] h = tt
apart_rising (y ∷ ys) h = (below_none y.name ys h.0, apart_rising ys h.1)

first_named : (y : RootIndex) (ys : List RootIndex) → index_named y.name (y ∷ ys) ≡ Some y
first_named y ys = chosen (Some y) (index_named y.name ys) (named_so y.name y.name refl)

-- ---- known by what each name finds

abbrev FindSame : List RootIndex → List RootIndex → Type 0
FindSame xs ys = (name : Bytes) → index_named name xs ≡ index_named name ys

-- the first of two lists that find the same has no smaller name
not_below : (x : RootIndex) (xs : List RootIndex) (y : RootIndex) (ys : List RootIndex) → Rises (y ∷ ys) → FindSame (x ∷ xs) (y ∷ ys) → slice_cmp nat_cmp x.name y.name ≡ Less → ⊥
unfolding IsStrictlySortedBy
not_below x xs y ys h same e =
    let none : index_named x.name (y ∷ ys) ≡ None = below_none x.name (y ∷ ys) (e, below_all x.name y.name ys e h.0) in
    none_some (sym none ∙ sym (same x.name) ∙ first_named x xs)

find_rest : (x : RootIndex) (xs ys : List RootIndex) → IsBelow x.name xs → IsBelow x.name ys → FindSame (x ∷ xs) (x ∷ ys) → FindSame xs ys
find_rest x xs ys low_xs low_ys same name = elim (cases_Bool (bytes_eq x.name name)) [
  | inl is ↦
      let one : x.name ≡ name = same_names x.name name is in
      subst (λ (n : Bytes). index_named n xs ≡ index_named n ys) one (below_none x.name xs low_xs ∙ sym (below_none x.name ys low_ys))
  | inr other ↦ sym (passed (Some x) (index_named name xs) other) ∙ same name ∙ passed (Some x) (index_named name ys) other
]

pub same_rising : (xs ys : List RootIndex) → Rises xs → Rises ys → FindSame xs ys → xs ≡ ys
unfolding IsStrictlySortedBy
same_rising [] [] hx hy same = refl
same_rising [] (y ∷ ys) hx hy same = absurd (none_some (same y.name ∙ first_named y ys))
same_rising (x ∷ xs) [] hx hy same = absurd (none_some (sym (same x.name) ∙ first_named x xs))
same_rising (x ∷ xs) (y ∷ ys) hx hy same = by_case (slice_cmp nat_cmp x.name y.name) refl (same_rising xs ys hx.1 hy.1)
  where
    by_case : (o : Ordering) → slice_cmp nat_cmp x.name y.name ≡ o → (FindSame xs ys → xs ≡ ys) → (x ∷ xs) ≡ (y ∷ ys)
    by_case Less e rest = absurd (not_below x xs y ys hy same e)
    by_case Greater e rest = absurd (not_below y ys x xs hx (λ name. sym (same name)) (flipped x.name y.name Greater e))
    by_case Equal e rest =
        let name : x.name ≡ y.name = equals x.name y.name e in
        let found : Some x ≡ Some y = sym (first_named x xs) ∙ same x.name ∙ chosen (Some y) (index_named x.name ys) (named_so y.name x.name (sym name)) in
        let one : x ≡ y = some_is found in
        let low : IsBelow x.name ys = subst (λ (n : Bytes). IsBelow n ys) (sym name) hy.0 in
        let again : FindSame (x ∷ xs) (x ∷ ys) = (λ n. subst (λ (z : RootIndex). index_named n (x ∷ xs) ≡ index_named n (z ∷ ys)) (sym one) (same n)) in
        ap (λ (z : RootIndex). z ∷ xs) one ∙ ap (λ (zs : List RootIndex). y ∷ zs) (rest (find_rest x xs ys hx.0 low again))

-- ---- made by sorting

below-put : (name : Bytes) (x : RootIndex) (ys : List RootIndex) → IsBelow name ys → slice_cmp nat_cmp name x.name ≡ Less → IsBelow name (put_by named_first x ys)
below-put name x [] h one = (one, tt)
below-put name x (y ∷ ys) h one = by_case (slice_cmp nat_cmp x.name y.name) (below-put name x ys h.1 one)
  where
    by_case : (o : Ordering) → IsBelow name (put_by named_first x ys) → IsBelow name (if by_order o true then x ∷ y ∷ ys else y ∷ put_by named_first x ys)
    by_case Less rest = (one, h)
    by_case Equal rest = (one, h)
    by_case Greater rest = (h.0, rest)

rises-put : (x : RootIndex) (ys : List RootIndex) → Rises ys → index_named x.name ys ≡ None → Rises (put_by named_first x ys)
unfolding IsStrictlySortedBy
rises-put x [] h none = (tt, tt)
rises-put x (y ∷ ys) h none = by_case (slice_cmp nat_cmp x.name y.name) refl (rises-put x ys h.1)
  where
    by_case : (o : Ordering) → slice_cmp nat_cmp x.name y.name ≡ o → (index_named x.name ys ≡ None → Rises (put_by named_first x ys)) → Rises (if by_order o true then x ∷ y ∷ ys else y ∷ put_by named_first x ys)
    by_case Less e rest = ((e, below_all x.name y.name ys e h.0), h)
    by_case Equal e rest = absurd (none_some (sym none ∙ chosen (Some y) (index_named x.name ys) (named_so y.name x.name (sym (equals x.name y.name e)))))
    by_case Greater e rest = (
      below-put y.name x ys h.0 (flipped x.name y.name Greater e),
      rest (sym (passed (Some y) (index_named x.name ys) (above x.name y.name e).1) ∙ none),
    )

pub rises-sorted : (ys : List RootIndex) → AreApart ys → Rises (sorted_by named_first ys)
unfolding IsStrictlySortedBy
rises-sorted [] h = tt
rises-sorted (y ∷ ys) h = rises-put y (sorted_by named_first ys) (rises-sorted ys h.1) (named-sorted y.name ys ∙ h.0)
