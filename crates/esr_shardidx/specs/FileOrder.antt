-- Entries that rise by id, and what is kept of them.
use Rattle.std.proofs.Common.{◌≡◌, ℕ, zero, suc, ◌-◌, ◌<◌, ◌≤◌, ◌==◌, ◌||◌, nat_lt, Bool, true, false, cond, List, [], ◌∷◌, ◌++◌, length, filter, slice_get, refl, ap, arith, inl, inr}
use Rattle.std.specs.List.{list_any, AllByRecursion}
use Rattle.std.specs.Ordering.{nat_cmp, is_eq}
use Rattle.std.proofs.lemmas.Bool.{cases_Bool, le-ltb, ltb-true, ltb-false, eqb-true, eqb-false}
use Rattle.esr_names.specs.declared.ids.Id.{Id}
use Rattle.esr_shardidx.specs.declared.entry.FileEntry.{FileEntry}
use Rattle.esr_shardidx.specs.Entries.{last_of, id_falls}
use Rattle.esr_shardidx.specs.Snapshots.{has_name}
use Rattle.esr_shardidx.specs.Indices.{Rises, insert_file}

-- ---- of all elements

pub all_map : {A : Type 0} {P Q : A → Type 0} → ((x : A) → P x → Q x) → (xs : List A) → AllByRecursion P xs → AllByRecursion Q xs
all_map h [] all = tt
all_map h (x ∷ xs) all = (h x all.0, all_map h xs all.1)

pub all_push : {A : Type 0} (P : A → Type 0) (xs : List A) (x : A) → AllByRecursion P xs → P x → AllByRecursion P (xs ++ x ∷ [])
all_push P [] x all here = (here, tt)
all_push P (y ∷ ys) x all here = (all.0, all_push P ys x all.1 here)

kept_at : {A : Type 0} (P : A → Type 0) (t : Bool) (x : A) (xs : List A) → P x → AllByRecursion P xs → AllByRecursion P (cond t (x ∷ xs) xs)
kept_at P true x xs here all = (here, all)
kept_at P false x xs here all = all

pub all_filter : {A : Type 0} (P : A → Type 0) (p : A → Bool) (xs : List A) → AllByRecursion P xs → AllByRecursion P (filter p xs)
all_filter P p [] all = tt
all_filter P p (x ∷ xs) all = kept_at P (p x) x (filter p xs) all.0 (all_filter P p xs all.1)

pub filter_all : {A : Type 0} (p : A → Bool) (xs : List A) → AllByRecursion (λ x. p x ≡ true) xs → filter p xs ≡ xs
filter_all p [] all = refl
filter_all p (x ∷ xs) all = rw (all.0, filter_all p xs all.1) refl

passes_at : {A : Type 0} (p : A → Bool) (t : Bool) (x : A) (xs : List A) → p x ≡ t → AllByRecursion (λ y. p y ≡ true) xs → AllByRecursion (λ y. p y ≡ true) (cond t (x ∷ xs) xs)
passes_at p true x xs is all = (is, all)
passes_at p false x xs is all = all

pub filter_passes : {A : Type 0} (p : A → Bool) (xs : List A) → AllByRecursion (λ x. p x ≡ true) (filter p xs)
filter_passes p [] = tt
filter_passes p (x ∷ xs) = passes_at p (p x) x (filter p xs) refl (filter_passes p xs)

-- ---- ids

pub or_cases : {C : Type 0} (x y : Bool) → (x || y) ≡ true → (x ≡ true → C) → (y ≡ true → C) → C
or_cases true y h left right = left refl
or_cases false y h left right = right h

number_id : ℕ → Id
number_id n = record { number = n }

pub same_id : (u v : Id) → u.number ≡ v.number → u ≡ v
unfolding number_id
same_id u v h = ap number_id h

pub not_equal : (m n : ℕ) → m < n → (m == n) ≡ false
not_equal m n less = elim (cases_Bool (m == n)) [
  | inl same ↦ let e : m ≡ n = eqb-true m n same in absurd (omega arith)
  | inr other ↦ other
]

-- ---- entries that rise

abbrev pub Below : Id → FileEntry → Type 0
Below u e = e.name.number < u.number

abbrev pub Above : Id → FileEntry → Type 0
Above u e = u.number < e.name.number

pub none_has : (u : Id) (es : List FileEntry) → AllByRecursion (Below u) es → list_any (has_name u) es ≡ false
none_has u [] all = refl
none_has u (e ∷ es) all = rw (not_equal e.name.number u.number all.0) (none_has u es all.1)

falls_at : (u : Id) (es : List FileEntry) (i : ℕ) → AllByRecursion (Below u) es → id_falls (slice_get es i) u ≡ false
falls_at u [] i all = refl
falls_at u (e ∷ es) zero all = let less : e.name.number ≤ u.number = omega (arith, all.0) in le-ltb u.number e.name.number less
falls_at u (e ∷ es) (suc i) all = falls_at u es i all.1

-- an id above all of them is not below the last
pub not_falls : (u : Id) (es : List FileEntry) → AllByRecursion (Below u) es → id_falls (last_of es) u ≡ false
not_falls u es all = falls_at u es (length es - 1) all

rises_at : (t : Bool) (e : FileEntry) (es : List FileEntry) → AllByRecursion (Above e.name) es → Rises es → Rises (cond t (e ∷ es) es)
rises_at true e es above rises = (above, rises)
rises_at false e es above rises = rises

pub Rises-filter : (p : FileEntry → Bool) (es : List FileEntry) → Rises es → Rises (filter p es)
Rises-filter p [] rises = tt
Rises-filter p (e ∷ es) rises = rises_at (p e) e (filter p es) (all_filter (Above e.name) p es rises.0) (Rises-filter p es rises.1)

-- ---- one more entry

pub insert_file-all : (P : FileEntry → Type 0) (e : FileEntry) (fs : List FileEntry) → P e → AllByRecursion P fs → AllByRecursion P (insert_file e fs)
insert_file-all P e [] here all = (here, tt)
insert_file-all P e (f ∷ fs) here all = elim (cases_Bool (nat_lt f.name.number e.name.number)) [
  | inl less ↦ rw less (all.0, insert_file-all P e fs here all.1)
  | inr least ↦ elim (cases_Bool (f.name.number == e.name.number)) [
    | inl same ↦ rw (least, same) all
    | inr other ↦ rw (least, other) (here, all)
  ]
]

pub insert_file-rises : (e : FileEntry) (fs : List FileEntry) → Rises fs → Rises (insert_file e fs)
insert_file-rises e [] rises = (tt, tt)
insert_file-rises e (f ∷ fs) rises = elim (cases_Bool (nat_lt f.name.number e.name.number)) [
  | inl less ↦ rw less (insert_file-all (Above f.name) e fs (ltb-true f.name.number e.name.number less) rises.0, insert_file-rises e fs rises.1)
  | inr least ↦ elim (cases_Bool (f.name.number == e.name.number)) [
    | inl same ↦ rw (least, same) rises
    | inr other ↦
        let low : e.name.number ≤ f.name.number = ltb-false f.name.number e.name.number least in
        let apart = eqb-false f.name.number e.name.number other in
        let less : e.name.number < f.name.number = omega (arith, low, apart) in
        rw (least, other) ((less, all_map (λ (x : FileEntry) (h : Above f.name x). let more : Above e.name x = omega (arith, h, less) in more) fs rises.0), rises)
  ]
]

pub is_eq-nat_cmp : (a b : ℕ) → is_eq (nat_cmp a b) ≡ (a == b)
is_eq-nat_cmp a b = elim (cases_Bool (nat_lt a b)) [
  | inl less ↦ let apart : (a == b) ≡ false = not_equal a b (ltb-true a b less) in rw (less, apart) refl
  | inr least ↦ elim (cases_Bool (a == b)) [
    | inl same ↦ rw (least, same) refl
    | inr other ↦ rw (least, other) refl
  ]
]
