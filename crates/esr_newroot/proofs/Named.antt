-- The index of a name, over each list that a finalization makes.
use Rattle.std.proofs.Common.{◌≡◌, true, false, List, [], ◌∷◌, ◌++◌, map, Option, Some, None, option_map, refl, sym, ap, ◌∙◌, subst, inl, inr}
use Rattle.std.specs.Prelude.{if◌then◌else◌}
use Rattle.std.specs.Option.{option_or}
use Rattle.std.specs.Ordering.{nat_cmp}
use Rattle.std.specs.Str.{bytes_eq}
use Rattle.std.specs.Cmp.Lexicographic.{slice_cmp}
use Rattle.std.specs.declared.cmp.Ordering.{Ordering}
use Rattle.std.specs.declared.cmp.Ordering.TheVariants.{Less, Equal, Greater}
use Rattle.std.proofs.lemmas.Bool.{cases_Bool, true≢false}
use Rattle.esr_model.specs.Values.{Bytes, Has, RootIndex}
use Rattle.esr_model.specs.Places.{by_order, put_by, sorted_by}
use Rattle.esr_model.specs.Finalize.{named_first}
use Rattle.esr_newroot.specs.Named.{index_named}
use Rattle.esr_newroot.specs.ByteTests.{named_so}
use Rattle.esr_newroot.proofs.Choices.{chosen, passed, same_names, above}

pub some_is : {A : Type 0} {x y : A} → Some x ≡ Some y → x ≡ y
some_is e = cc

pub none_some : {A : Type 0} {x : A} → None ≡ Some x → ⊥
none_some e = cc

-- the index that is found has the name, and is in the list
pub named_has : (name : Bytes) (ys : List RootIndex) (y : RootIndex) → index_named name ys ≡ Some y → (y.name ≡ name) × Has ys y
named_has name [] y e = absurd (none_some e)
named_has name (x ∷ ys) y e = elim (cases_Bool (bytes_eq x.name name)) [
  | inl same ↦
      let is : x ≡ y = some_is (sym (chosen (Some x) (index_named name ys) same) ∙ e) in
      (sym (ap (λ (z : RootIndex). z.name) is) ∙ same_names x.name name same, inl is)
  | inr other ↦
      let rest = named_has name ys y (sym (passed (Some x) (index_named name ys) other) ∙ e) in
      (rest.0, inr rest.1)
]

-- a name that is in the list is found
pub has_named : (ys : List RootIndex) (y : RootIndex) → Has ys y → index_named y.name ys ≡ None → ⊥
has_named [] y h e = absurd h
has_named (x ∷ ys) y h e = elim (cases_Bool (bytes_eq x.name y.name)) [
  | inl same ↦ none_some (sym e ∙ chosen (Some x) (index_named y.name ys) same)
  | inr other ↦ elim h [
    | inl is ↦ true≢false (sym (named_so x.name y.name (ap (λ (z : RootIndex). z.name) is)) ∙ other)
    | inr there ↦ has_named ys y there (sym (passed (Some x) (index_named y.name ys) other) ∙ e)
  ]
]

pub named-append : (name : Bytes) (xs ys : List RootIndex) → index_named name (xs ++ ys) ≡ option_or (index_named name xs) (index_named name ys)
named-append name [] ys = refl
named-append name (x ∷ xs) ys = elim (cases_Bool (bytes_eq x.name name)) [
  | inl same ↦ rw same refl
  | inr other ↦ rw other (named-append name xs ys)
]

-- a change that keeps names
pub named-map : (f : RootIndex → RootIndex) → ((y : RootIndex) → (f y).name ≡ y.name) → (name : Bytes) (ys : List RootIndex) → index_named name (map f ys) ≡ option_map f (index_named name ys)
named-map f keeps name [] = refl
named-map f keeps name (y ∷ ys) = elim (cases_Bool (bytes_eq y.name name)) [
  | inl same ↦ chosen (Some (f y)) (index_named name (map f ys)) (ap (λ (n : Bytes). bytes_eq n name) (keeps y) ∙ same) ∙ sym (ap (option_map f) (chosen (Some y) (index_named name ys) same))
  | inr other ↦
      passed (Some (f y)) (index_named name (map f ys)) (ap (λ (n : Bytes). bytes_eq n name) (keeps y) ∙ other) ∙ named-map f keeps name ys
      ∙ sym (ap (option_map f) (passed (Some y) (index_named name ys) other))
]

named-put : (name : Bytes) (x : RootIndex) (ys : List RootIndex) → index_named name (put_by named_first x ys) ≡ (if bytes_eq x.name name then Some x else index_named name ys)
named-put name x [] = refl
named-put name x (y ∷ ys) = by_case (slice_cmp nat_cmp x.name y.name) refl (named-put name x ys)
  where
    by_case : (o : Ordering) → slice_cmp nat_cmp x.name y.name ≡ o → index_named name (put_by named_first x ys) ≡ (if bytes_eq x.name name then Some x else index_named name ys)
        → index_named name (if by_order o true then x ∷ y ∷ ys else y ∷ put_by named_first x ys) ≡ (if bytes_eq x.name name then Some x else index_named name (y ∷ ys))
    by_case Less e rest = refl
    by_case Equal e rest = refl
    by_case Greater e rest = elim (cases_Bool (bytes_eq y.name name)) [
      | inl same ↦
          let other : bytes_eq x.name name ≡ false = subst (λ (n : Bytes). bytes_eq x.name n ≡ false) (same_names y.name name same) (above x.name y.name e).0 in
          chosen (Some y) (index_named name (put_by named_first x ys)) same ∙ sym (passed (Some x) (index_named name (y ∷ ys)) other ∙ chosen (Some y) (index_named name ys) same)
      | inr other ↦ rw other rest
    ]

pub named-sorted : (name : Bytes) (ys : List RootIndex) → index_named name (sorted_by named_first ys) ≡ index_named name ys
named-sorted name [] = refl
named-sorted name (y ∷ ys) = named-put name y (sorted_by named_first ys) ∙ ap (λ (o : Option RootIndex). if bytes_eq y.name name then Some y else o) (named-sorted name ys)
