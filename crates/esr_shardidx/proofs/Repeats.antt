-- Ids that stand twice, and sets of ids.
use Rattle.std.proofs.Common.{◌≡◌, ℕ, ◌==◌, ◌||◌, Bool, true, false, cond, List, [], ◌∷◌, ◌++◌, ◌+◌, ◌<◌, length, take, drop, get_or, refl, sym, ap, ◌∙◌, subst, inl, inr}
use Rattle.std.specs.List.{list_any}
use Rattle.std.specs.Ordering.{nat_cmp}
use Rattle.std.specs.BTreeSet.{BTreeSet, contains, Updates}
use Rattle.std.proofs.lemmas.Bool.{cases_Bool, eqb-true, eq-eqb, or_left, or_right, or_parts}
use Rattle.std.proofs.lemmas.List.{take_more, drop_more, take-append-drop}
use Rattle.std.proofs.lemmas.List.Folds.{list_any-append}
use Rattle.esr_names.specs.declared.ids.Id.{Id}
use Rattle.esr_shardidx.specs.Indices.{is_id, repeats}
use Rattle.esr_shardidx.specs.FileOrder.{or_cases, is_eq-nat_cmp}

flip_id : (u v : Id) → is_id u v ≡ is_id v u
flip_id u v = elim (cases_Bool (v.number == u.number)) [
  | inl same ↦ same ∙ sym (eq-eqb u.number v.number (sym (eqb-true v.number u.number same)))
  | inr other ↦ elim (cases_Bool (u.number == v.number)) [
    | inl back ↦ let there = eq-eqb v.number u.number (sym (eqb-true u.number v.number back)) in cc
    | inr apart ↦ other ∙ sym apart
  ]
]

-- an id that stands before stands twice
pub repeats-again : (xs : List Id) (u : Id) (ys : List Id) → list_any (is_id u) xs ≡ true → repeats (xs ++ u ∷ ys) ≡ true
repeats-again [] u ys h = cc
repeats-again (x ∷ xs) u ys h = or_cases (is_id u x) (list_any (is_id u) xs) h
    (λ here. or_left (list_any (is_id x) (xs ++ u ∷ ys)) _ (list_any-append (is_id x) xs (u ∷ ys) ∙ or_right (list_any (is_id x) xs) _ (or_left (is_id x u) _ (flip_id x u ∙ here))))
    (λ later. or_right (list_any (is_id x) (xs ++ u ∷ ys)) _ (repeats-again xs u ys later))

-- one more id that isn't there yet
pub repeats-push : (xs : List Id) (u : Id) → repeats xs ≡ false → list_any (is_id u) xs ≡ false → repeats (xs ++ u ∷ []) ≡ false
repeats-push [] u apart new = refl
repeats-push (x ∷ xs) u apart new =
    let parts = or_parts (list_any (is_id x) xs) (repeats xs) apart in
    let split = or_parts (is_id u x) (list_any (is_id u) xs) new in
    let here : list_any (is_id x) (xs ++ u ∷ []) ≡ false = list_any-append (is_id x) xs (u ∷ []) ∙ none (list_any (is_id x) xs) (is_id x u) parts.0 (flip_id x u ∙ split.0) in
    rw here (repeats-push xs u parts.1 split.1) where
      none : (a b : Bool) → a ≡ false → b ≡ false → (a || (b || false)) ≡ false
      none a b h k = rw (h, k) refl

-- ---- a set that holds the numbers of a list

-- it holds these
abbrev pub Holds : {A : Type 0} → (A → ℕ) → BTreeSet ℕ → List A → Type 0
Holds key s xs = (q : ℕ) → contains nat_cmp s q ≡ list_any (λ y. key y == q) xs

pub Holds-none : {A : Type 0} (key : A → ℕ) (s : BTreeSet ℕ) → s.keys ≡ [] → Holds key s []
Holds-none key s none q = rw none refl

pub Holds-push : {A : Type 0} (key : A → ℕ) (s n : BTreeSet ℕ) (xs : List A) (x : A) → Holds key s xs → Updates nat_cmp s n (key x) true → Holds key n (xs ++ x ∷ [])
Holds-push key s n xs x has adds q =
    adds.0 q ∙ ap (λ (b : Bool). cond b true (contains nat_cmp s q)) (is_eq-nat_cmp (key x) q) ∙ ap (λ (b : Bool). cond (key x == q) true b) (has q)
    ∙ swapped (key x == q) (list_any (λ y. key y == q) xs) ∙ sym (list_any-append (λ y. key y == q) xs (x ∷ [])) where
      swapped : (a b : Bool) → cond a true b ≡ (b || (a || false))
      swapped true true = refl
      swapped false true = refl
      swapped a b = refl

pub Holds-next : {A : Type 0} (key : A → ℕ) (s n : BTreeSet ℕ) (xs : List A) (i : ℕ) (d : A) → i < length xs → Holds key s (take i xs) → Updates nat_cmp s n (key (get_or xs i d)) true → Holds key n (take (i + 1) xs)
Holds-next {A} key s n xs i d within has adds =
    subst (λ (ys : List A). Holds key n ys) (sym (take_more xs i d within)) (Holds-push key s n (take i xs) (get_or xs i d) has adds)

-- the ids up to a place, and the one there
split_at : (us : List Id) (i : ℕ) (d : Id) → i < length us → us ≡ take i us ++ get_or us i d ∷ drop (i + 1) us
split_at us i d within = sym (take-append-drop i us) ∙ ap (λ (xs : List Id). take i us ++ xs) (drop_more us i d within)

pub repeats-at : (us : List Id) (i : ℕ) (d : Id) → i < length us → list_any (is_id (get_or us i d)) (take i us) ≡ true → repeats us ≡ true
repeats-at us i d within h = ap repeats (split_at us i d within) ∙ repeats-again (take i us) (get_or us i d) (drop (i + 1) us) h

pub repeats-next : (us : List Id) (i : ℕ) (d : Id) → i < length us → repeats (take i us) ≡ false → list_any (is_id (get_or us i d)) (take i us) ≡ false → repeats (take (i + 1) us) ≡ false
repeats-next us i d within apart new = ap repeats (take_more us i d within) ∙ repeats-push (take i us) (get_or us i d) apart new
