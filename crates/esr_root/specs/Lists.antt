-- Laws of lists whose elements all keep a rule, differ, or rise.
use Rattle.std.proofs.Common.{◌≡◌, ℕ, Bool, true, false, cond, List, [], ◌∷◌, ◌++◌, suc, zero, map, replicate, Result, Ok, Err, refl, sym, subst}
use Rattle.std.specs.Prelude.{OnOk, OnErr, filter}
use Rattle.std.specs.List.{list_any, AllByRecursion, IsDistinct}
use Rattle.std.specs.List.Sorted.{IsStrictlySortedBy}
use Rattle.std.specs.declared.cmp.Ordering.{Ordering}
use Rattle.std.specs.declared.cmp.Ordering.TheVariants.{Less}
use Rattle.std.proofs.lemmas.Bool.{or_parts}

-- an element more
pub all_push : {A : Type 0} (P : A → Type 0) (xs : List A) (y : A) → AllByRecursion P xs → P y → AllByRecursion P (xs ++ y ∷ [])
all_push P [] y h last = (last, tt)
all_push P (x ∷ xs) y h last = (h.0, all_push P xs y h.1 last)

pub all_append : {A : Type 0} (P : A → Type 0) (xs ys : List A) → AllByRecursion P xs → AllByRecursion P ys → AllByRecursion P (xs ++ ys)
all_append P [] ys h more = more
all_append P (x ∷ xs) ys h more = (h.0, all_append P xs ys h.1 more)

pub all_replicate : {A : Type 0} (P : A → Type 0) (n : ℕ) (x : A) → P x → AllByRecursion P (replicate n x)
all_replicate P zero x h = tt
all_replicate P (suc n) x h = (h, all_replicate P n x h)

-- what follows from one rule
pub all_weaken : {A : Type 0} (P Q : A → Type 0) → ((x : A) → P x → Q x) → (xs : List A) → AllByRecursion P xs → AllByRecursion Q xs
all_weaken P Q f [] h = tt
all_weaken P Q f (x ∷ xs) h = (f x h.0, all_weaken P Q f xs h.1)

pub all_both : {A : Type 0} (P Q R : A → Type 0) → ((x : A) → P x → Q x → R x) → (xs : List A) → AllByRecursion P xs → AllByRecursion Q xs → AllByRecursion R xs
all_both P Q R f [] h k = tt
all_both P Q R f (x ∷ xs) h k = (f x h.0 k.0, all_both P Q R f xs h.1 k.1)

all_cond : {A : Type 0} (P : A → Type 0) (b : Bool) (x : A) (xs : List A) → P x → AllByRecursion P xs → AllByRecursion P (cond b (x ∷ xs) xs)
all_cond P true x xs h more = (h, more)
all_cond P false x xs h more = more

pub all_filter : {A : Type 0} (P : A → Type 0) (p : A → Bool) (xs : List A) → AllByRecursion P xs → AllByRecursion P (filter p xs)
all_filter P p [] h = tt
all_filter P p (x ∷ xs) h = all_cond P (p x) x (filter p xs) h.0 (all_filter P p xs h.1)

pub all_map : {A B : Type 0} (P : B → Type 0) (f : A → B) (xs : List A) → AllByRecursion (λ x. P (f x)) xs → AllByRecursion P (map f xs)
all_map P f [] h = tt
all_map P f (x ∷ xs) h = (h.0, all_map P f xs h.1)

-- a test that none passes
pub none_from_any : {A : Type 0} (p : A → Bool) (xs : List A) → list_any p xs ≡ false → AllByRecursion (λ x. p x ≡ false) xs
none_from_any p [] h = tt
none_from_any p (x ∷ xs) h = let parts = or_parts (p x) (list_any p xs) h in (parts.0, none_from_any p xs parts.1)

pub any_from_none : {A : Type 0} (p : A → Bool) (xs : List A) → AllByRecursion (λ x. p x ≡ false) xs → list_any p xs ≡ false
any_from_none p [] h = refl
any_from_none p (x ∷ xs) h = rw (h.0) (any_from_none p xs h.1)

-- ---- distinct

pub distinct_none : {A : Type 0} (e : A → A → Bool) → IsDistinct e []
unfolding IsDistinct
distinct_none e = tt

pub distinct_one : {A : Type 0} (e : A → A → Bool) (x : A) → IsDistinct e (x ∷ [])
unfolding IsDistinct
distinct_one e x = (tt, tt)

pub distinct_push : {A : Type 0} (e : A → A → Bool) (xs : List A) (y : A) → IsDistinct e xs → list_any (λ x. e x y) xs ≡ false → IsDistinct e (xs ++ y ∷ [])
unfolding IsDistinct
distinct_push e [] y h fresh = (tt, tt)
distinct_push e (x ∷ xs) y h fresh =
    let parts = or_parts (e x y) (list_any (λ x. e x y) xs) fresh in
    (all_push (λ z. e x z ≡ false) xs y h.0 parts.0, distinct_push e xs y h.1 parts.1)

-- the elements before one differ from it
pub distinct_before : {A : Type 0} (e : A → A → Bool) (xs : List A) (y : A) (ys : List A) → IsDistinct e (xs ++ y ∷ ys) → list_any (λ x. e x y) xs ≡ false
unfolding IsDistinct
distinct_before e [] y ys h = refl
distinct_before e (x ∷ xs) y ys h = rw (later e x xs y ys h.0) (distinct_before e xs y ys h.1)
  where
    later : {A : Type 0} (e : A → A → Bool) (x : A) (xs : List A) (y : A) (ys : List A) → AllByRecursion (λ z. e x z ≡ false) (xs ++ y ∷ ys) → e x y ≡ false
    later e x [] y ys h = h.0
    later e x (z ∷ xs) y ys h = later e x xs y ys h.1

distinct_cond : {A : Type 0} (e : A → A → Bool) (b : Bool) (x : A) (xs : List A) → AllByRecursion (λ y. e x y ≡ false) xs → IsDistinct e xs → IsDistinct e (cond b (x ∷ xs) xs)
unfolding IsDistinct
distinct_cond e true x xs h more = (h, more)
distinct_cond e false x xs h more = more

pub distinct_filter : {A : Type 0} (e : A → A → Bool) (p : A → Bool) (xs : List A) → IsDistinct e xs → IsDistinct e (filter p xs)
unfolding IsDistinct
distinct_filter e p [] h = tt
distinct_filter e p (x ∷ xs) h = distinct_cond e (p x) x (filter p xs) (all_filter (λ y. e x y ≡ false) p xs h.0) (distinct_filter e p xs h.1)

-- ---- in order

pub sorted_none : {A : Type 0} (o : A → A → Ordering) → IsStrictlySortedBy o []
unfolding IsStrictlySortedBy
sorted_none o = tt

pub sorted_push : {A : Type 0} (o : A → A → Ordering) (xs : List A) (y : A) → IsStrictlySortedBy o xs → AllByRecursion (λ x. o x y ≡ Less) xs → IsStrictlySortedBy o (xs ++ y ∷ [])
unfolding IsStrictlySortedBy
sorted_push o [] y h above = (tt, tt)
sorted_push o (x ∷ xs) y h above = (all_push (λ z. o x z ≡ Less) xs y h.0 above.0, sorted_push o xs y h.1 above.1)

-- ---- after a push

pub pushed : {A E : Type 0} (P : List A → Type 0) (r : Result (Unit {0}) E) (old new : List A) (x : A)
    → OnOk r (new ≡ old ++ x ∷ []) → OnErr r (new ≡ old) → P old → P (old ++ x ∷ []) → P new
pushed P (Ok u) old new x ok err h more = subst P (sym ok) more
pushed P (Err e) old new x ok err h more = subst P (sym err) h

-- what follows where a call was Ok
pub on_ok : {A E : Type 0} (P Q : Type 0) (r : Result A E) → (P → Q) → OnOk r P → OnOk r Q
on_ok P Q (Ok x) f h = f h
on_ok P Q (Err e) f h = h
