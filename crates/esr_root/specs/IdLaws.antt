-- Laws of lists of ids: which has one, and where none is twice.
use Rattle.std.proofs.Common.{◌≡◌, ℕ, Bool, true, false, List, [], ◌∷◌, ◌++◌, refl, sym, ap, ◌∙◌, eq-eqb}
use Rattle.std.specs.List.{list_any, IsDistinct}
use Rattle.std.specs.Cmp.{both_ways}
use Rattle.std.proofs.lemmas.Bool.{eqb-true, or_parts}
use Rattle.std.proofs.lemmas.List.Folds.{list_any-append}
use Rattle.esr_names.specs.declared.ids.Id.{Id}
use Rattle.esr_root.specs.Ids.{same_id, has_id, repeats}
use Rattle.esr_root.specs.Lists.{none_from_any, any_from_none}

pub same_id-flip : (u v : Id) → same_id u v ≡ same_id v u
same_id-flip u v = both_ways (same_id u v) (same_id v u) (λ h. eq-eqb v.number u.number (sym (eqb-true u.number v.number h))) (λ h. eq-eqb u.number v.number (sym (eqb-true v.number u.number h)))

pub same_id-is : (u v : Id) → same_id u v ≡ true → u ≡ v
same_id-is u v h = ap (λ (n : ℕ). record { number = n }) (eqb-true u.number v.number h)

pub same_id-refl : (u : Id) → same_id u u ≡ true
same_id-refl u = eq-eqb u.number u.number refl

pub has_id-later : (u : Id) (us more : List Id) → has_id u (us ++ more) ≡ false → (has_id u us ≡ false) × (has_id u more ≡ false)
has_id-later u us more h = or_parts (has_id u us) (has_id u more) (sym (list_any-append (λ v. same_id v u) us more) ∙ h)

-- a test and one that agrees with it
any_same : {A : Type 0} (p q : A → Bool) → ((x : A) → p x ≡ q x) → (xs : List A) → list_any p xs ≡ list_any q xs
any_same p q f [] = refl
any_same p q f (x ∷ xs) = rw (f x, any_same p q f xs) refl

pub distinct_from_repeats : (us : List Id) → repeats us ≡ false → IsDistinct same_id us
unfolding IsDistinct
distinct_from_repeats [] h = tt
distinct_from_repeats (u ∷ us) h =
    let parts = or_parts (has_id u us) (repeats us) h in
    (none_from_any (same_id u) us (any_same (same_id u) (λ v. same_id v u) (same_id-flip u) us ∙ parts.0), distinct_from_repeats us parts.1)

pub repeats_from_distinct : (us : List Id) → IsDistinct same_id us → repeats us ≡ false
unfolding IsDistinct
repeats_from_distinct [] h = refl
repeats_from_distinct (u ∷ us) h =
    let later : has_id u us ≡ false = sym (any_same (same_id u) (λ v. same_id v u) (same_id-flip u) us) ∙ any_from_none (same_id u) us h.0 in
    rw (later, repeats_from_distinct us h.1) refl
