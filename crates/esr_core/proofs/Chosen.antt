-- The shards of some indices of a snapshot, in the order of the shelf, are those of all its shards that are of one of these names.
use Rattle.std.proofs.Common.{◌≡◌, ◌⊎◌, ℕ, zero, suc, ◌<◌, ◌≤◌, Bool, true, false, true≢false, ◌||◌, cond, filter, List, [], ◌∷◌, ◌++◌, map, Ordering, Less, Equal, Greater, nat_cmp, refl, sym, ap, ◌∙◌, subst, inl, inr, arith, leb-true, leb-false, le-leb}
use Rattle.std.specs.Prelude.{leb}
use Rattle.std.specs.Ordering.{ordering_reverse}
use Rattle.std.specs.List.{list_any}
use Rattle.std.specs.Cmp.Lexicographic.{slice_cmp, nat_list_cmp_total}
use Rattle.std.proofs.lemmas.Bool.{cases_Bool, cond-true, cond-false, or_right}
use Rattle.esr_model.specs.Values.{Bytes, Has, IndexRef}
use Rattle.esr_model.specs.Places.{numbered, places, by_order, comes_first, put_by, sorted_by, shelf_places}
use Rattle.esr_model.specs.Image.{AllPairs}
use Rattle.esr_model.specs.Uploads.{same_bytes}
use Rattle.esr_core.specs.Restores.{AreOnce, AreApart}
use Rattle.esr_core.specs.Laws.Maps.{texts_same}
use Rattle.esr_model.specs.Lists.{Has-either, Has-map, Has-mapped, Has-filter, filter-Has}
use Rattle.esr_core.specs.Laws.SortedLists.{Has-put_by, Has-sorted, in_places, to_shelf_places}
use Rattle.esr_core.proofs.Ordered.{in_shelf_places}
use Rattle.esr_core.specs.Laws.RootAgreement.{places_has}
use Rattle.esr_core.specs.Laws.Tests.{same_one, same_true}

-- ---- what a filter leaves

-- of two lists in pairs, pair by pair
pub filter_pairs : {A B : Type 0} (R : A → B → Type 0) (p : A → Bool) (q : B → Bool) → ((a : A) (b : B) → R a b → p a ≡ q b) → (xs : List A) (ys : List B) → AllPairs R xs ys → AllPairs R (filter p xs) (filter q ys)
filter_pairs R p q same [] [] h = h
filter_pairs R p q same [] (y ∷ ys) h = absurd h
filter_pairs R p q same (x ∷ xs) [] h = absurd h
filter_pairs {A} {B} R p q same (x ∷ xs) (y ∷ ys) h =
    subst (λ (b : Bool). AllPairs R (cond (p x) (x ∷ filter p xs) (filter p xs)) (cond b (y ∷ filter q ys) (filter q ys))) (same x y h.0) (go (p x) (filter_pairs R p q same xs ys h.1))
  where
    go : (b : Bool) → AllPairs R (filter p xs) (filter q ys) → AllPairs R (cond b (x ∷ filter p xs) (filter p xs)) (cond b (y ∷ filter q ys) (filter q ys))
    go true rest = (h.0, rest)
    go false rest = rest

-- ---- lists that rise

module _ {A : Type 0} (first : A → A → Bool) where
  -- x comes before each of these, and is none of them
  record IsBefore (x : A) (ys : List A) : Type 0 where
    each : (y : A) → Has ys y → first x y ≡ true
    apart : Has ys x → ⊥

  abbrev Rises : List A → Type 0
  Rises [] = Unit {0}
  Rises (y ∷ ys) = IsBefore y ys × Rises ys

  rises-filter : (p : A → Bool) (xs : List A) → Rises xs → Rises (filter p xs)
  rises-filter p [] h = h
  rises-filter p (x ∷ xs) h = elim (cases_Bool (p x)) [
    | inl t ↦ subst Rises (sym (cond-true (p x) (x ∷ filter p xs) (filter p xs) t))
        (record { each = λ y m. h.0.each y (Has-filter p xs y m).0; apart = λ m. h.0.apart (Has-filter p xs x m).0 }, rises-filter p xs h.1)
    | inr t ↦ subst Rises (sym (cond-false (p x) (x ∷ filter p xs) (filter p xs) t)) (rises-filter p xs h.1)
  ]

  -- two that rise and have the same are one
  one_rising : (xs ys : List A) → Rises xs → Rises ys → ((a b : A) → Has xs a → Has xs b → first a b ≡ true → first b a ≡ true → a ≡ b)
      → ((z : A) → Has xs z → Has ys z) → ((z : A) → Has ys z → Has xs z) → xs ≡ ys
  one_rising [] [] hx hy one to from = refl
  one_rising [] (y ∷ ys) hx hy one to from = absurd (from y (inl refl))
  one_rising (x ∷ xs) [] hx hy one to from = absurd (to x (inl refl))
  one_rising (x ∷ xs) (y ∷ ys) hx hy one to from =
      let same : x ≡ y = heads (to x (inl refl)) (from y (inl refl)) in
      let rest : xs ≡ ys = one_rising xs ys hx.1 hy.1 (λ a b m n. one a b (inr m) (inr n))
      (λ z m. elim (to z (inr m)) [ inl e ↦ absurd (hx.0.apart (subst (Has xs) (sym (same ∙ e)) m)) | inr n ↦ n ])
      (λ z m. elim (from z (inr m)) [ inl e ↦ absurd (hy.0.apart (subst (Has ys) (sym (sym same ∙ e)) m)) | inr n ↦ n ]) in
      λ j. same j ∷ rest j
    where
      heads : Has (y ∷ ys) x → Has (x ∷ xs) y → x ≡ y
      heads (inl e) g = sym e
      heads (inr m) (inl e) = e
      heads (inr m) (inr n) = one x y (inl refl) (inr n) (hx.0.each y n) (hy.0.each x m)

  module _ (trans : (a b c : A) → first a b ≡ true → first b c ≡ true → first a c ≡ true) (turned : (a b : A) → first a b ≡ false → first b a ≡ true) where
    rises-put : (x : A) (ys : List A) → Rises ys → (Has ys x → ⊥) → Rises (put_by first x ys)
    rises-put x [] h new = (record { each = λ y m. absurd m; apart = λ m. m }, tt)
    rises-put x (y ∷ ys) h new = elim (cases_Bool (first x y)) [
      | inl t ↦ subst Rises (sym (cond-true (first x y) (x ∷ y ∷ ys) (y ∷ put_by first x ys) t))
          (record { each = λ z m. elim m [ inl e ↦ subst (λ (q : A). first x q ≡ true) e t | inr n ↦ trans x y z t (h.0.each z n) ]; apart = new }, h)
      | inr t ↦ subst Rises (sym (cond-false (first x y) (x ∷ y ∷ ys) (y ∷ put_by first x ys) t)) (
        record {
          each = λ z m. elim (Has-put_by first x z ys m) [ inl e ↦ subst (λ (q : A). first y q ≡ true) e (turned x y t) | inr n ↦ h.0.each z n ];
          apart = λ m. elim (Has-put_by first x y ys m) [ inl e ↦ new (inl (sym e)) | inr n ↦ h.0.apart n ];
        },
        rises-put x ys h.1 (λ m. new (inr m)),
      )
    ]

    rises-sorted : (xs : List A) → AreOnce xs → Rises (sorted_by first xs)
    rises-sorted [] h = tt
    rises-sorted (x ∷ xs) h = rises-put x (sorted_by first xs) (rises-sorted xs h.1) (λ m. h.0 (Has-sorted first xs x m))

-- ---- the order of places

abbrev name_order : IndexRef × ℕ → IndexRef × ℕ → Ordering
name_order a b = slice_cmp nat_cmp a.0.name b.0.name

-- by the name, or by the number of one name
abbrev Comes : IndexRef × ℕ → IndexRef × ℕ → Type 0
Comes a b = (name_order a b ≡ Less) ⊎ ((a.0.name ≡ b.0.name) × (a.1 ≤ b.1))

less_greater : Less ≡ Greater → ⊥
less_greater e = cc

greater_less : Greater ≡ Less → ⊥
greater_less e = cc

less_equal : Less ≡ Equal → ⊥
less_equal e = cc

equal_itself : (x : Bytes) → slice_cmp nat_cmp x x ≡ Equal
equal_itself x = go (slice_cmp nat_cmp x x) refl
  where
    go : (o : Ordering) → slice_cmp nat_cmp x x ≡ o → slice_cmp nat_cmp x x ≡ Equal
    go Less e = absurd (less_greater (sym e ∙ nat_list_cmp_total.antisymm x x ∙ ap ordering_reverse e))
    go Equal e = e
    go Greater e = absurd (greater_less (sym e ∙ nat_list_cmp_total.antisymm x x ∙ ap ordering_reverse e))

equal_so : (x y : Bytes) → x ≡ y → slice_cmp nat_cmp x y ≡ Equal
equal_so x y e = subst (λ (z : Bytes). slice_cmp nat_cmp x z ≡ Equal) e (equal_itself x)

comes_told : (a b : IndexRef × ℕ) → comes_first a b ≡ true → Comes a b
comes_told a b e = go (name_order a b) refl e
  where
    go : (o : Ordering) → name_order a b ≡ o → by_order o (leb a.1 b.1) ≡ true → Comes a b
    go Less is t = inl is
    go Equal is t = inr (texts_same a.0.name b.0.name is, leb-true a.1 b.1 t)
    go Greater is t = absurd (true≢false (sym t))

comes_so : (a b : IndexRef × ℕ) → Comes a b → comes_first a b ≡ true
comes_so a b (inl e) = ap (λ (o : Ordering). by_order o (leb a.1 b.1)) e
comes_so a b (inr h) = ap (λ (o : Ordering). by_order o (leb a.1 b.1)) (equal_so a.0.name b.0.name h.0) ∙ le-leb a.1 b.1 h.1

comes_turned : (a b : IndexRef × ℕ) → comes_first a b ≡ false → comes_first b a ≡ true
comes_turned a b e = go (name_order a b) refl e
  where
    go : (o : Ordering) → name_order a b ≡ o → by_order o (leb a.1 b.1) ≡ false → comes_first b a ≡ true
    go Less is t = absurd (true≢false t)
    go Equal is t = let above : b.1 < a.1 = leb-false a.1 b.1 t in comes_so b a (inr (sym (texts_same a.0.name b.0.name is), omega (arith, above)))
    go Greater is t = comes_so b a (inl (nat_list_cmp_total.antisymm b.0.name a.0.name ∙ ap ordering_reverse is))

comes_next : (a b c : IndexRef × ℕ) → Comes a b → Comes b c → Comes a c
comes_next a b c (inl e) (inl g) = inl (nat_list_cmp_total.trans a.0.name b.0.name c.0.name e g)
comes_next a b c (inl e) (inr g) = inl (subst (λ (n : Bytes). slice_cmp nat_cmp a.0.name n ≡ Less) g.0 e)
comes_next a b c (inr e) (inl g) = inl (subst (λ (n : Bytes). slice_cmp nat_cmp n c.0.name ≡ Less) (sym e.0) g)
comes_next a b c (inr e) (inr g) = let p : a.1 ≤ b.1 = e.1 in let q : b.1 ≤ c.1 = g.1 in inr (e.0 ∙ g.0, omega (arith, p, q))

comes_trans : (a b c : IndexRef × ℕ) → comes_first a b ≡ true → comes_first b c ≡ true → comes_first a c ≡ true
comes_trans a b c e g = comes_so a c (comes_next a b c (comes_told a b e) (comes_told b c g))

-- each before the other: they have one name and one number
comes_both : (a b : IndexRef × ℕ) → Comes a b → Comes b a → (a.0.name ≡ b.0.name) × (a.1 ≡ b.1)
comes_both a b (inl e) (inl g) = absurd (less_greater (sym e ∙ nat_list_cmp_total.antisymm a.0.name b.0.name ∙ ap ordering_reverse g))
comes_both a b (inl e) (inr g) = absurd (less_equal (sym e ∙ equal_so a.0.name b.0.name (sym g.0)))
comes_both a b (inr e) (inl g) = absurd (less_equal (sym g ∙ equal_so b.0.name a.0.name (sym e.0)))
comes_both a b (inr e) (inr g) = let p : a.1 ≤ b.1 = e.1 in let q : b.1 ≤ a.1 = g.1 in (e.0, omega (arith, p, q))

-- ---- places stand once

-- what has ids of its own stands once
pub apart-once : (refs : List IndexRef) → AreApart refs → AreOnce refs
apart-once [] h = tt
apart-once (r ∷ refs) h = (λ m. h.0 r m refl, apart-once refs h.1)

once-append : {A : Type 0} (xs ys : List A) → AreOnce xs → AreOnce ys → ((z : A) → Has xs z → Has ys z → ⊥) → AreOnce (xs ++ ys)
once-append [] ys hx hy apart = hy
once-append (x ∷ xs) ys hx hy apart = (
  λ m. elim (Has-either xs ys x m) [ inl n ↦ hx.0 n | inr n ↦ apart x (inl refl) n ],
  once-append xs ys hx.1 hy (λ z m. apart z (inr m)),
)

numbered_from : (r : IndexRef) (k n : ℕ) (place : IndexRef × ℕ) → Has (numbered r k n) place → (place.0 ≡ r) × (k ≤ place.1)
numbered_from r k zero place h = absurd h
numbered_from r k (suc n) place (inl e) = let same : k ≡ place.1 = ap (λ (p : IndexRef × ℕ). p.1) e in (ap (λ (p : IndexRef × ℕ). p.0) (sym e), omega (arith, same))
numbered_from r k (suc n) place (inr m) = let h = numbered_from r (suc k) n place m in let up : suc k ≤ place.1 = h.1 in (h.0, omega (arith, up))

once-numbered : (r : IndexRef) (k n : ℕ) → AreOnce (numbered r k n)
once-numbered r k zero = tt
once-numbered r k (suc n) = (λ m. let up : suc k ≤ k = (numbered_from r (suc k) n (r, k) m).1 in absurd (omega (arith, up)), once-numbered r (suc k) n)

once-places : (refs : List IndexRef) → AreOnce refs → AreOnce (places refs)
once-places [] h = tt
once-places (r ∷ refs) h = once-append (numbered r 0 r.shards) (places refs) (once-numbered r 0 r.shards) (once-places refs h.1) (λ z m n. h.0 (subst (Has refs) (numbered_from r 0 r.shards z m).0 (in_places refs z n).0))

-- ---- the test by names

any_of : (names : List Bytes) (name : Bytes) → list_any (same_bytes name) names ≡ true → Has names name
any_of [] name e = absurd (true≢false (sym e))
any_of (x ∷ names) name e = elim (same_one name x) [
  | inl h ↦ inl (sym h.1)
  | inr h ↦ inr (any_of names name (sym (ap (λ (b : Bool). b || list_any (same_bytes name) names) h) ∙ e))
]

of_any : (names : List Bytes) (name : Bytes) → Has names name → list_any (same_bytes name) names ≡ true
of_any [] name h = absurd h
of_any (x ∷ names) name (inl e) = ap (λ (b : Bool). b || list_any (same_bytes name) names) (same_true name x (sym e))
of_any (x ∷ names) name (inr m) = or_right (same_bytes name x) (list_any (same_bytes name) names) (of_any names name m)

abbrev name_of : IndexRef → Bytes
name_of r = r.name

abbrev chosen_by : List IndexRef → IndexRef × ℕ → Bool
chosen_by some p = list_any (same_bytes p.0.name) (map name_of some)

pub chosen_places : (all some : List IndexRef) → ((r : IndexRef) → Has some r → Has all r) → ((r q : IndexRef) → Has all r → Has all q → r.name ≡ q.name → r ≡ q) → AreOnce all → AreOnce some
    → shelf_places some ≡ filter (λ (p : IndexRef × ℕ). list_any (same_bytes p.0.name) (map (λ (r : IndexRef). r.name) some)) (shelf_places all)
chosen_places all some among one_name all_once once =
    one_rising comes_first (shelf_places some) (filter (chosen_by some) (shelf_places all)) (rises-sorted comes_first comes_trans comes_turned (places some) (once-places some once))
    (rises-filter comes_first (chosen_by some) (shelf_places all) (rises-sorted comes_first comes_trans comes_turned (places all) (once-places all all_once))) same to from
  where
    in_some : (z : IndexRef × ℕ) → Has (shelf_places some) z → Has some z.0 × (z.1 < z.0.shards)
    in_some z m = in_places some z (in_shelf_places some z m)

    same : (a b : IndexRef × ℕ) → Has (shelf_places some) a → Has (shelf_places some) b → comes_first a b ≡ true → comes_first b a ≡ true → a ≡ b
    same a b m n p q =
        let r = comes_both a b (comes_told a b p) (comes_told b a q) in
        let ref : a.0 ≡ b.0 = one_name a.0 b.0 (among a.0 (in_some a m).0) (among b.0 (in_some b n).0) r.0 in
        λ j. (ref j, r.1 j)

    to : (z : IndexRef × ℕ) → Has (shelf_places some) z → Has (filter (chosen_by some) (shelf_places all)) z
    to z m =
        let h = in_some z m in
        filter-Has (chosen_by some) (shelf_places all) z (to_shelf_places all z (places_has all z.0 z.1 (among z.0 h.0) h.1)) (of_any (map name_of some) z.0.name (Has-map name_of some z.0 h.0))

    from : (z : IndexRef × ℕ) → Has (filter (chosen_by some) (shelf_places all)) z → Has (shelf_places some) z
    from z m =
        let h = Has-filter (chosen_by some) (shelf_places all) z m in
        let p = in_places all z (in_shelf_places all z h.0) in
        let (r, there, name) = Has-mapped name_of some z.0.name (any_of (map name_of some) z.0.name h.1) in
        let ref : r ≡ z.0 = one_name r z.0 (among r there) p.0 name in
        to_shelf_places some z (places_has some z.0 z.1 (subst (Has some) ref there) p.1)
