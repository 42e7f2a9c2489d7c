-- The first that is found in a list, as far as the entries were read.
use Rattle.std.proofs.Common.{◌≡◌, ℕ, ◌+◌, ◌<◌, ◌≤◌, List, [], ◌∷◌, ◌++◌, length, drop, get_or, Option, refl, sym, ap, ◌∙◌}
use Rattle.std.specs.Option.{option_to_list}
use Rattle.std.proofs.lemmas.List.{drop_more, at_drop_all}
use Rattle.esr_core.specs.After.{or_else}
use Rattle.esr_report.specs.Replies.{first_by}
use Rattle.esr_report.proofs.FirstEnds.{or_else_none, or_else_both}

pub first_append : {A B : Type 0} (f : A → Option B) (xs ys : List A) → first_by f (xs ++ ys) ≡ or_else (first_by f xs) (first_by f ys)
first_append f [] ys = refl
first_append f (x ∷ xs) ys = ap (or_else (f x)) (first_append f xs ys) ∙ sym (or_else_both (f x) (first_by f xs) (first_by f ys))

-- one entry more was read: what it tells is kept in a list
pub first_read : {A B C : Type 0} (f : A → Option C) (g : B → Option C) (all : List A) (kept new : List B) (i : ℕ) (e : A) (item : Option B) → i < length all → e ≡ get_or all i e
    → f e ≡ first_by g (option_to_list item) → new ≡ kept ++ option_to_list item
    → first_by f all ≡ or_else (first_by g kept) (first_by f (drop i all)) → first_by f all ≡ or_else (first_by g new) (first_by f (drop (i + 1) all))
first_read {A} {B} {C} f g all kept new i e item less is here more read =
    let rest : Option C = first_by f (drop (i + 1) all) in
    let next : drop i all ≡ e ∷ drop (i + 1) all = drop_more all i e less ∙ ap (λ (z : A). z ∷ drop (i + 1) all) (sym is) in
    let now : first_by g new ≡ or_else (first_by g kept) (f e) = ap (first_by g) more ∙ first_append g kept (option_to_list item) ∙ ap (or_else (first_by g kept)) (sym here) in
    read ∙ ap (λ (l : List A). or_else (first_by g kept) (first_by f l)) next ∙ sym (or_else_both (first_by g kept) (f e) rest) ∙ ap (λ (o : Option C). or_else o rest) (sym now)

-- all entries were read
pub first_all_read : {A B C : Type 0} (f : A → Option C) (g : B → Option C) (all : List A) (kept : List B) (i : ℕ) → length all ≤ i
    → first_by f all ≡ or_else (first_by g kept) (first_by f (drop i all)) → first_by g kept ≡ first_by f all
first_all_read {A} {B} {C} f g all kept i end read =
    sym (read ∙ at_drop_all (λ (l : List A). or_else (first_by g kept) (first_by f l)) all i end ∙ or_else_none (first_by g kept))
