-- A page that is made of lengths in the order of their names, one after another.
use Rattle.std.proofs.Common.{◌≡◌, ℕ, zero, suc, inl, inr, ◌<◌, ◌≤◌, Bool, true, false, List, [], ◌∷◌, ◌++◌, length, map, take, Option, refl, sym, ◌∙◌, ap, arith}
use Rattle.std.proofs.Math.Seq.{take-nil}
use Rattle.std.proofs.lemmas.List.{append-nil, length-map, map-append}
use Rattle.std.proofs.lemmas.List.Elements.{filter-append}
use Rattle.std.specs.List.{filter}
use Rattle.std.specs.List.Sorted.{IsStrictlySortedBy}
use Rattle.std.specs.Map.{keys_of}
use Rattle.std.specs.List.{AllByRecursion}
use Rattle.std.specs.declared.cmp.Ordering.TheVariants.{Less}
use Rattle.std.specs.Ordering.{nat_cmp}
use Rattle.std.specs.Cmp.Lexicographic.{slice_cmp}
use Rattle.esr_depot.specs.declared.listing.Listed.{Listed}
use Rattle.esr_depot.specs.Listing.{Size, Has, IsRising, is_after, page_from, size_of}

-- ---- the first of a list and one more

take_room : (n : ℕ) (xs : List Size) (x : Size) → length (take n xs) < n → take n (xs ++ x ∷ []) ≡ take n xs ++ x ∷ []
take_room zero xs x less = absurd (omega (arith, less))
take_room (suc n) [] x less = ap (λ (l : List Size). x ∷ l) (take-nil n)
take_room (suc n) (y ∷ xs) x less = ap (λ (l : List Size). y ∷ l) (take_room n xs x (omega (arith, less)))

take_full : (n : ℕ) (xs : List Size) (x : Size) → n ≤ length (take n xs) → take n (xs ++ x ∷ []) ≡ take n xs
take_full zero xs x full = refl
take_full (suc n) [] x full = absurd (omega (arith, full))
take_full (suc n) (y ∷ xs) x full = ap (λ (l : List Size). y ∷ l) (take_full n xs x (omega (arith, full)))

module _ (after : Option (List ℕ)) where
  abbrev passes : Size → Bool
  passes s = is_after after s.0

  passing : (xs : List Size) (x : Size) → is_after after x.0 ≡ true → filter passes (xs ++ x ∷ []) ≡ filter passes xs ++ x ∷ []
  passing xs x is = filter-append passes xs (x ∷ []) ∙ rw is refl

  failing : (xs : List Size) (x : Size) → is_after after x.0 ≡ false → filter passes (xs ++ x ∷ []) ≡ filter passes xs
  failing xs x is = filter-append passes xs (x ∷ []) ∙ rw is (append-nil (filter passes xs))

  module _ (page : List Listed) (ys : List Size) (so_far : map size_of page ≡ page_from after ys) where
    long : length page ≡ length (take 1000 (filter passes ys))
    long = sym (length-map page size_of) ∙ ap length so_far

    -- a name more of the page
    pub page_more : (l : Listed) → length page < 1000 → is_after after l.name ≡ true → map size_of (page ++ l ∷ []) ≡ page_from after (ys ++ size_of l ∷ [])
    page_more l less is =
        map-append size_of page (l ∷ []) ∙ ap (λ (xs : List Size). xs ++ size_of l ∷ []) so_far
        ∙ sym (ap (take 1000) (passing ys (size_of l) is) ∙ take_room 1000 (filter passes ys) (size_of l) (omega (arith, less, long)))

    -- one that comes too early
    pub page_early : (s : Size) → is_after after s.0 ≡ false → map size_of page ≡ page_from after (ys ++ s ∷ [])
    page_early s is = so_far ∙ sym (ap (take 1000) (failing ys s is))

    -- one that comes after a full page
    pub page_full : (s : Size) → 1000 ≤ length page → map size_of page ≡ page_from after (ys ++ s ∷ [])
    page_full s full = elim (is_after after s.0) as (λ b. is_after after s.0 ≡ b → map size_of page ≡ page_from after (ys ++ s ∷ [])) [
      | true ↦ λ is. so_far ∙ sym (ap (take 1000) (passing ys s is) ∙ take_full 1000 (filter passes ys) s (omega (arith, full, long)))
      | false ↦ λ is. page_early s is
    ] refl

-- ---- names of a table rise

below_each : (name : List ℕ) (es : List Size) (s : Size) → AllByRecursion (λ y. slice_cmp nat_cmp name y ≡ Less) (keys_of es) → Has es s → slice_cmp nat_cmp name s.0 ≡ Less
below_each name [] s all has = absurd has
below_each name (e ∷ es) s all (inl same) = ap (λ (t : Size). slice_cmp nat_cmp name t.0) (sym same) ∙ all.0
below_each name (e ∷ es) s all (inr has) = below_each name es s all.1 has

pub names_rise : (es : List Size) → IsStrictlySortedBy (slice_cmp nat_cmp) (keys_of es) → IsRising es
unfolding IsStrictlySortedBy
names_rise [] sorted = tt
names_rise (e ∷ es) sorted = (λ s has. below_each e.0 es s sorted.0 has, names_rise es sorted.1)
