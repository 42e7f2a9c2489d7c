-- Entries of a snapshot that are put in by a sort.
use Rattle.std.proofs.Common.{◌≡◌, ℕ, suc, ◌+◌, ◌<◌, ◌==◌, ◌||◌, nat_lt, not, Bool, true, false, List, [], ◌∷◌, ◌++◌, length, map, filter, find, get_or, slice_get, Option, Some, None, refl, sym, ap, ◌∙◌, arith, inl, inr, append_assoc, append-nil}
use Rattle.std.specs.List.{list_any, AllByRecursion, IsDistinct}
use Rattle.std.specs.List.Sorted.{IsPermutation, IsNonDecreasingBy, IsStableByKey, ties}
use Rattle.std.specs.Option.{option_or}
use Rattle.std.specs.Ordering.{nat_cmp, is_lt}
use Rattle.std.proofs.lemmas.Bool.{cases_Bool, eqb-true, eqb-false, eq-eqb, ne_eqb, ltb-true, ltb-false, or_left, or_right, or_parts}
use Rattle.std.proofs.lemmas.List.Folds.{find-append, list_any-append}
use Rattle.std.proofs.lemmas.Map.Keys.{IsDistinct-IsPermutation, IsDistinct-tail, apart_from_distinct}
use Rattle.esr_names.specs.declared.ids.Id.{Id}
use Rattle.esr_shardidx.specs.declared.entry.FileEntry.{FileEntry}
use Rattle.esr_shardidx.specs.Snapshots.{has_name}
use Rattle.esr_shardidx.specs.Indices.{is_id, repeats, name_of, has_file, Rises, insert_file, insert_files}
use Rattle.esr_shardidx.specs.FileOrder.{all_map, not_equal, Above, insert_file-rises}
use Rattle.esr_shardidx.proofs.Files.{insert_files-rises}
use Rattle.esr_shardidx.proofs.Rising.{none_over}
use Rattle.esr_shardidx.proofs.Repeats.{repeats-push}
use Rattle.esr_shardidx.proofs.Found.{find-insert_own, find-insert_other, find-insert_kept, find-filter, none_above}

-- ---- entries that rise are told by what is found under each id

over_all : (u v : Id) (es : List FileEntry) → u.number < v.number → AllByRecursion (Above v) es → AllByRecursion (Above u) es
over_all u v es less all = all_map (λ (e : FileEntry) (h : Above v e). let more : Above u e = omega (arith, h, less) in more) es all

find_first : (e : FileEntry) (es : List FileEntry) → find (has_name e.name) (e ∷ es) ≡ Some e
find_first e es = rw (eq-eqb e.name.number e.name.number refl) refl

some_none : {A : Type 0} (x : A) → ◌≡◌ {A = Option A} (Some x) None → ⊥
some_none x h = cc

some_same : {A : Type 0} (x y : A) → ◌≡◌ {A = Option A} (Some x) (Some y) → x ≡ y
some_same x y h = cc

pub same_found : (xs ys : List FileEntry) → Rises xs → Rises ys → ((u : Id) → find (has_name u) xs ≡ find (has_name u) ys) → xs ≡ ys
same_found [] [] rx ry same = refl
same_found [] (y ∷ ys) rx ry same = absurd (some_none y (sym (find_first y ys) ∙ sym (same y.name)))
same_found (x ∷ xs) [] rx ry same = absurd (some_none x (sym (find_first x xs) ∙ same x.name))
same_found (x ∷ xs) (y ∷ ys) rx ry same = elim (cases_Bool (nat_lt x.name.number y.name.number)) [
  | inl less ↦
      let under = ltb-true x.name.number y.name.number less in
      absurd (some_none x (sym (find_first x xs) ∙ same x.name ∙ none_above x.name (y ∷ ys) (under, over_all x.name y.name ys under ry.0)))
  | inr least ↦ elim (cases_Bool (nat_lt y.name.number x.name.number)) [
    | inl more ↦
        let under = ltb-true y.name.number x.name.number more in
        absurd (some_none y (sym (find_first y ys) ∙ sym (same y.name) ∙ none_above y.name (x ∷ xs) (under, over_all y.name x.name xs under rx.0)))
    | inr most ↦
        let a = ltb-false x.name.number y.name.number least in
        let b = ltb-false y.name.number x.name.number most in
        let number : y.name.number ≡ x.name.number = omega (arith, a, b) in
        let first : x ≡ y = some_same x y (sym (find_first x xs) ∙ same x.name ∙ here (eq-eqb y.name.number x.name.number number)) in
        let rest : xs ≡ ys = same_found xs ys rx.1 ry.1 (λ u. later u number) in
        ap (λ (e : FileEntry). e ∷ xs) first ∙ ap (λ (es : List FileEntry). y ∷ es) rest
  ]
] where
  skip : (e : FileEntry) (es : List FileEntry) (u : Id) → has_name u e ≡ false → find (has_name u) (e ∷ es) ≡ find (has_name u) es
  skip e es u h = rw h refl

  here : has_name x.name y ≡ true → find (has_name x.name) (y ∷ ys) ≡ Some y
  here h = rw h refl

  later : (u : Id) → y.name.number ≡ x.name.number → find (has_name u) xs ≡ find (has_name u) ys
  later u number = elim (cases_Bool (x.name.number == u.number)) [
    | inl own ↦
        let is = eqb-true x.name.number u.number own in
        none_above u xs (all_map (λ (e : FileEntry) (h : Above x.name e). let more : Above u e = omega (arith, h, is) in more) xs rx.0)
        ∙ sym (none_above u ys (all_map (λ (e : FileEntry) (h : Above y.name e). let more : Above u e = omega (arith, h, is, number) in more) ys ry.0))
    | inr other ↦
        let apart : (y.name.number == u.number) ≡ false = ap (λ (n : ℕ). n == u.number) number ∙ other in
        sym (skip x xs u other) ∙ same u ∙ skip y ys u apart
  ]

-- ---- what is found among the entries that were put in

or_own : (o p : Option FileEntry) (e : FileEntry) → ((f : FileEntry) → o ≡ Some f → p ≡ Some f) → (o ≡ None → p ≡ Some e) → (q : Option FileEntry) → option_or p q ≡ option_or o (Some e)
or_own None p e kept own q = rw (own refl) refl
or_own (Some f) p e kept own q = rw (kept f refl) refl

find-insert_files : (u : Id) (fs es : List FileEntry) → Rises fs → find (has_name u) (insert_files fs es) ≡ option_or (find (has_name u) fs) (find (has_name u) es)
find-insert_files u fs [] rises = sym (or_none (find (has_name u) fs)) where
  or_none : (o : Option FileEntry) → option_or o None ≡ o
  or_none None = refl
  or_none (Some x) = refl
find-insert_files u fs (e ∷ es) rises =
    find-insert_files u (insert_file e fs) es (insert_file-rises e fs rises) ∙ elim (cases_Bool (has_name u e)) [
      | inl own ↦
          let number = eqb-true e.name.number u.number own in
          rw own (or_own (find (has_name u) fs) (find (has_name u) (insert_file e fs)) e
          (λ f h. find-insert_kept u e f fs rises h)
          (λ none. put_in number none)
          (find (has_name u) es))
      | inr other ↦ rw other (ap (λ (o : Option FileEntry). option_or o (find (has_name u) es)) (find-insert_other u e fs other))
    ] where
      put_in : e.name.number ≡ u.number → find (has_name u) fs ≡ None → find (has_name u) (insert_file e fs) ≡ Some e
      put_in number none =
          let under : (n : ℕ) → List FileEntry → Option FileEntry = λ n xs. find (λ (f : FileEntry). f.name.number == n) xs in
          let absent : find (has_name e.name) fs ≡ None = ap (λ (n : ℕ). under n fs) number ∙ none in
          ap (λ (n : ℕ). under n (insert_file e fs)) (sym number) ∙ find-insert_own e fs (λ f h. absurd (some_none f (sym h ∙ absent)))

-- ---- ids that differ

any_name : (u : Id) (es : List FileEntry) → list_any (is_id u) (map name_of es) ≡ has_file es u
any_name u [] = refl
any_name u (e ∷ es) = ap (λ (b : Bool). is_id u e.name || b) (any_name u es)

rises_differ : (es : List FileEntry) → Rises es → repeats (map name_of es) ≡ false
rises_differ [] rises = refl
rises_differ (e ∷ es) rises = rw (any_name e.name es, none_over e.name es rises.0) (rises_differ es rises.1)

-- the new ones among the others, put after entries that they differ from
differ_after : (xs : List Id) (files es : List FileEntry) → repeats xs ≡ false → repeats (map name_of es) ≡ false
    → ((u : Id) → list_any (is_id u) (map name_of es) ≡ true → has_file files u ≡ false → list_any (is_id u) xs ≡ false)
    → repeats (xs ++ map name_of (filter (λ e. not (has_file files e.name)) es)) ≡ false
differ_after xs files [] h own new = rw append-nil h
differ_after xs files (e ∷ es) h own new =
    let parts = or_parts (list_any (is_id e.name) (map name_of es)) (repeats (map name_of es)) own in
    elim (cases_Bool (has_file files e.name)) [
      | inl there ↦ rw there (differ_after xs files es h parts.1 (λ u among absent. new u (or_right (is_id u e.name) _ among) absent))
      | inr absent ↦
          let one : repeats (xs ++ e.name ∷ []) ≡ false = repeats-push xs e.name h (new e.name (or_left (is_id e.name e.name) _ (eq-eqb e.name.number e.name.number refl)) absent) in
          rw (absent, ← append_assoc xs (e.name ∷ []) (map name_of (filter (λ f. not (has_file files f.name)) es)))
          (differ_after (xs ++ e.name ∷ []) files es one parts.1 (λ u among gone. none_more u among gone parts.0))
    ] where
      unlike : (u : Id) (fs : List FileEntry) → list_any (is_id u) (map name_of fs) ≡ true → list_any (is_id e.name) (map name_of fs) ≡ false → is_id u e.name ≡ false
      unlike u [] among gone = cc
      unlike u (f ∷ fs) among gone =
          let split = or_parts (is_id e.name f.name) (list_any (is_id e.name) (map name_of fs)) gone in
          elim (cases_Bool (is_id u f.name)) [
            | inl here ↦ ne_eqb e.name.number u.number (λ same. eqb-false f.name.number e.name.number split.0 (eqb-true f.name.number u.number here ∙ sym same))
            | inr other ↦ unlike u fs (rw other at among) split.1
          ]

      both : (a b : Bool) → a ≡ false → b ≡ false → (a || (b || false)) ≡ false
      both a b ha hb = rw (ha, hb) refl

      none_more : (u : Id) → list_any (is_id u) (map name_of es) ≡ true → has_file files u ≡ false → list_any (is_id e.name) (map name_of es) ≡ false → list_any (is_id u) (xs ++ e.name ∷ []) ≡ false
      none_more u among gone apart = list_any-append (is_id u) xs (e.name ∷ []) ∙ both _ _ (new u (or_right (is_id u e.name) _ among) gone) (unlike u es among apart)

-- ---- entries in order

-- two entries of one id
abbrev pub is_same_id : FileEntry → FileEntry → Bool
is_same_id x y = is_id x.name y.name

distinct_of : (es : List FileEntry) → repeats (map name_of es) ≡ false → IsDistinct is_same_id es
unfolding IsDistinct
distinct_of [] h = tt
distinct_of (e ∷ es) h =
    let parts = or_parts (list_any (is_id e.name) (map name_of es)) (repeats (map name_of es)) h in
    (each es parts.0, distinct_of es parts.1) where
      each : (fs : List FileEntry) → list_any (is_id e.name) (map name_of fs) ≡ false → AllByRecursion (λ f. is_same_id e f ≡ false) fs
      each [] none = tt
      each (f ∷ fs) none = let split = or_parts (is_id e.name f.name) (list_any (is_id e.name) (map name_of fs)) none in (split.0, each fs split.1)

flip_same : (x y : FileEntry) → is_same_id x y ≡ is_same_id y x
flip_same x y = elim (cases_Bool (y.name.number == x.name.number)) [
  | inl same ↦ same ∙ sym (eq-eqb x.name.number y.name.number (sym (eqb-true y.name.number x.name.number same)))
  | inr other ↦ other ∙ sym (ne_eqb x.name.number y.name.number (λ back. eqb-false y.name.number x.name.number other (sym back)))
]

rises_from : (es : List FileEntry) → IsNonDecreasingBy (λ (e : FileEntry). e.name.number) es → IsDistinct is_same_id es → Rises es
rises_from [] order apart = tt
rises_from (e ∷ es) order apart =
    (over es (λ j d within. above j d within), rises_from es (λ i j d low within. order (suc i) (suc j) d (omega arith) (omega arith)) (IsDistinct-tail is_same_id e es apart)) where
      above : (j : ℕ) (d : FileEntry) → j < length es → e.name.number < (get_or es j d).name.number
      above j d within =
          let low = order 0 (suc j) d (omega arith) (omega arith) in
          let ne = eqb-false (get_or es j d).name.number e.name.number (apart_from_distinct is_same_id (e ∷ es) 0 (suc j) d apart (omega arith) (omega arith)) in
          let ne' : e.name.number ≡ (get_or es j d).name.number → ⊥ = λ same. ne (sym same) in
          omega (arith, low, ne')

      over : (fs : List FileEntry) → ((j : ℕ) (d : FileEntry) → j < length fs → e.name.number < (get_or fs j d).name.number) → AllByRecursion (Above e.name) fs
      over [] h = tt
      over (f ∷ fs) h = (h 0 f (omega arith), over fs (λ j d within. h (suc j) d (omega arith)))

-- ---- what a sort finds

less_lt : (a b : ℕ) → is_lt (nat_cmp a b) ≡ nat_lt a b
less_lt a b = elim (cases_Bool (nat_lt a b)) [
  | inl less ↦ rw less refl
  | inr least ↦ elim (cases_Bool (a == b)) [
    | inl same ↦ rw (least, same) refl
    | inr other ↦ rw (least, other) refl
  ]
]

-- an entry with this id
abbrev with_id : Id → FileEntry
with_id u = record { name = u; physical = []; print = record { len = 0; sha256 = [] }; part_size = 0 }

tie_is : (u : Id) (e : FileEntry) → ties (λ (x y : FileEntry). is_lt (nat_cmp x.name.number y.name.number)) (with_id u) e ≡ has_name u e
tie_is u e = rw (less_lt u.number e.name.number, less_lt e.name.number u.number) (elim (cases_Bool (nat_lt u.number e.name.number)) [
  | inl over ↦ rw over (sym (ne_eqb e.name.number u.number (λ same. let k = ltb-true u.number e.name.number over in omega (arith, k, same))))
  | inr under ↦ elim (cases_Bool (nat_lt e.name.number u.number)) [
    | inl below ↦ rw (under, below) (sym (not_equal e.name.number u.number (ltb-true e.name.number u.number below)))
    | inr least ↦
        let a = ltb-false u.number e.name.number under in
        let b = ltb-false e.name.number u.number least in
        rw (under, least) (sym (eq-eqb e.name.number u.number (omega (arith, a, b))))
  ]
])

find-head : (p q : FileEntry → Bool) (es : List FileEntry) → ((e : FileEntry) → q e ≡ p e) → find p es ≡ slice_get (filter q es) 0
find-head p q [] same = refl
find-head p q (e ∷ es) same = elim (cases_Bool (p e)) [
  | inl here ↦ rw (here, same e ∙ here) refl
  | inr other ↦ rw (other, same e ∙ other) (find-head p q es same)
]

find-sorted : (u : Id) (xs ys : List FileEntry) → IsStableByKey (λ (e : FileEntry). e.name.number) nat_cmp xs ys → find (has_name u) ys ≡ find (has_name u) xs
find-sorted u xs ys stable =
    let q : FileEntry → Bool = ties (λ (x y : FileEntry). is_lt (nat_cmp x.name.number y.name.number)) (with_id u) in
    find-head (has_name u) q ys (tie_is u) ∙ ap (λ (es : List FileEntry). slice_get es 0) (stable (with_id u)) ∙ sym (find-head (has_name u) q xs (tie_is u))

-- ---- the whole

found_new : (u : Id) (fs es : List FileEntry) → option_or (find (has_name u) fs) (find (has_name u) (filter (λ e. not (has_file fs e.name)) es)) ≡ option_or (find (has_name u) fs) (find (has_name u) es)
found_new u fs es = elim (cases_Bool (has_file fs u)) [
  | inl there ↦ kept (find (has_name u) fs) _ _ (found fs there)
  | inr absent ↦
      ap (λ (o : Option FileEntry). option_or (find (has_name u) fs) o)
      (find-filter (λ e. not (has_file fs e.name)) u es (λ e here. ap not (under e here ∙ absent)))
] where
  found : (xs : List FileEntry) → has_file xs u ≡ true → (f : FileEntry) × (find (has_name u) xs ≡ Some f)
  found [] h = cc
  found (x ∷ xs) h = elim (cases_Bool (has_name u x)) [
    | inl here ↦ (x, rw here refl)
    | inr other ↦ let later = found xs (rw other at h) in (later.0, rw other later.1)
  ]

  kept : (o p q : Option FileEntry) → (f : FileEntry) × (o ≡ Some f) → option_or o p ≡ option_or o q
  kept o p q f = rw f.1 refl

  under : (e : FileEntry) → has_name u e ≡ true → has_file fs e.name ≡ has_file fs u
  under e here =
      let any : ℕ → Bool = λ n. list_any (λ (f : FileEntry). f.name.number == n) fs in
      ap any (eqb-true e.name.number u.number here)

-- the entries after the others, in order
pub sorted_is : (fs es ys : List FileEntry) → Rises fs → repeats (map name_of es) ≡ false → IsPermutation (fs ++ filter (λ e. not (has_file fs e.name)) es) ys
    → IsNonDecreasingBy (λ (e : FileEntry). e.name.number) ys → IsStableByKey (λ (e : FileEntry). e.name.number) nat_cmp (fs ++ filter (λ e. not (has_file fs e.name)) es) ys
    → ys ≡ insert_files fs es
sorted_is fs es ys rises own moved order stable =
    let new : List FileEntry = filter (λ e. not (has_file fs e.name)) es in
    let names : map name_of (fs ++ new) ≡ map name_of fs ++ map name_of new = map-append fs new in
    let differ : repeats (map name_of (fs ++ new)) ≡ false = ap repeats names ∙ differ_after (map name_of fs) fs es (rises_differ fs rises) own (λ u among absent. any_name u fs ∙ absent) in
    let apart = IsDistinct-IsPermutation is_same_id flip_same (fs ++ new) ys moved (distinct_of (fs ++ new) differ) in
    same_found ys (insert_files fs es) (rises_from ys order apart) (insert_files-rises fs es rises)
    (λ u. find-sorted u (fs ++ new) ys stable ∙ find-append (has_name u) fs new ∙ found_new u fs es ∙ sym (find-insert_files u fs es rises)) where
      map-append : (xs zs : List FileEntry) → map name_of (xs ++ zs) ≡ map name_of xs ++ map name_of zs
      map-append [] zs = refl
      map-append (x ∷ xs) zs = ap (λ (us : List Id). x.name ∷ us) (map-append xs zs)
