-- Names that are kept once each.
use Rattle.std.proofs.Common.{◌≡◌, ◌↔◌, ℕ, ◌+◌, ◌<◌, true, cond, List, [], ◌∷◌, ◌++◌, map, length, take, get_or, length-append, inl, inr, ⊎_elim, refl, sym, ap, ◌∙◌, subst, arith}
use Rattle.std.proofs.lemmas.List.{map-append, take_more, take_at, take_all, get_or_at}
use Rattle.std.specs.Ordering.{is_eq}
use Rattle.std.specs.BTreeSet.{BTreeSet, contains}
use Rattle.esr_model.specs.Lists.{Has-append, Has-left, Has-right, Has-mapped}
use Rattle.esr_names.specs.declared.blob.BlobName.{BlobName as CodeName}
use Rattle.esr_formats.specs.Names.{name_of}
use Rattle.esr_model.specs.Values.{Has}
use Rattle.esr_reach.specs.Names.{AreOnce, name_one}
use Rattle.esr_reach.specs.Members.{has_only, once_both}
use Rattle.esr_reach.specs.NameOrder.{name_cmp}
use Rattle.esr_reach.specs.NameSets.{set_more}
use Rattle.esr_delete.specs.Removed.{IsSetOf, IsWith}

-- ---- a name that is there

pub there_with : (xs : List CodeName) (x : CodeName) → Has (map name_of xs) (name_of x) → IsWith xs x xs
there_with xs x has =
    let found = Has-mapped name_of xs (name_of x) has in
    let there : Has xs x = subst (Has xs) (name_one found.0 x found.2) found.1 in
    λ name. (λ mine. inl mine, λ either. ⊎_elim (λ (before : Has xs name). before) (λ (same : x ≡ name). subst (Has xs) same there) either)

-- ---- one that isn't

pub set_push : (xs : List CodeName) (x : CodeName) (old new : BTreeSet CodeName) → ((q : CodeName) → contains name_cmp new q ≡ cond (is_eq (name_cmp x q)) true (contains name_cmp old q)) → IsSetOf (contains name_cmp old) xs
    → IsSetOf (contains name_cmp new) (xs ++ x ∷ [])
set_push xs x old new updates before =
    let all : List CodeName = xs ++ x ∷ [] in
    let n : ℕ = length xs in
    let less : n < length all = omega (arith, length-append xs (x ∷ [])) in
    let whole : take (n + 1) all ≡ all = take_all (n + 1) all (omega (arith, length-append xs (x ∷ []))) in
    let front : take n all ≡ xs = take_at xs (x ∷ []) n refl in
    let is : x ≡ get_or all n x = sym (get_or_at xs x [] x n refl) in
    subst (λ (l : List CodeName). IsSetOf (contains name_cmp new) l) whole
    (set_more all n x old new less is updates (subst (λ (l : List CodeName). IsSetOf (contains name_cmp old) l) (sym front) before))

pub once_push : (xs : List CodeName) (x : CodeName) → AreOnce (map name_of xs) → (Has (map name_of xs) (name_of x) → ⊥) → AreOnce (map name_of (xs ++ x ∷ []))
once_push xs x once other =
    subst AreOnce (sym (map-append name_of xs (x ∷ [])))
    (once_both (map name_of xs) (name_of x ∷ []) once (λ none. none, tt) (λ z left right. other (subst (Has (map name_of xs)) (has_only (name_of x) z right) left)))

pub push_with : (xs : List CodeName) (x : CodeName) → IsWith xs x (xs ++ x ∷ [])
push_with xs x name = (
  λ has. Has-append xs x name has,
  λ either. ⊎_elim (λ (before : Has xs name). Has-left xs (x ∷ []) name before) (λ (same : x ≡ name). Has-right xs (x ∷ []) name (inl same)) either,
)

-- ---- a loop over names

pub same_more : (items old new : List CodeName) (i : ℕ) (x : CodeName) → i < length items → x ≡ get_or items i x → IsWith old x new → ((name : CodeName) → Has old name ↔ Has (take i items) name) → (name : CodeName)
    → Has new name ↔ Has (take (i + 1) items) name
same_more items old new i x less is with_it same name =
    let front : List CodeName = take i items in
    let more : take (i + 1) items ≡ front ++ x ∷ [] = take_more items i x less ∙ ap (λ (y : CodeName). front ++ y ∷ []) (sym is) in (
      λ has. subst (λ (l : List CodeName). Has l name) (sym more)
          (⊎_elim (λ (before : Has old name). Has-left front (x ∷ []) name ((same name).0 before)) (λ (here : x ≡ name). Has-right front (x ∷ []) name (inl here)) ((with_it name).0 has)),
      λ has. (with_it name).1
          (⊎_elim (λ (before : Has front name). inl ((same name).1 before)) (λ (last : x ≡ name). inr last) (Has-append front x name (subst (λ (l : List CodeName). Has l name) more has))),
    )

pub same_all : (items ns : List CodeName) (i : ℕ) → take i items ≡ items → ((name : CodeName) → Has ns name ↔ Has (take i items) name) → (name : CodeName) → Has ns name ↔ Has items name
same_all items ns i whole same = subst (λ (l : List CodeName). (name : CodeName) → Has ns name ↔ Has l name) whole same
