-- References to indices whose names and ids differ.
use Rattle.std.proofs.Common.{◌≡◌, ◌≢◌, ℕ, false, ◌==◌, List, [], ◌∷◌, ◌++◌, map, Option, Some, None, refl, sym, ap, ◌∙◌, subst, inl, inr}
use Rattle.std.specs.Prelude.{if◌then◌else◌, ◌≤◌}
use Rattle.std.specs.List.{AllByRecursion, IsDistinct}
use Rattle.std.specs.Str.{bytes_eq}
use Rattle.std.proofs.lemmas.Bool.{cases_Bool, eqb-true, eq-eqb, false_from_ne_true}
use Rattle.esr_names.specs.declared.index_ref.IndexRef.{IndexRef}
use Rattle.esr_names.specs.Indices.{AreRefs}
use Rattle.esr_root.specs.Lists.{all_weaken}
use Rattle.esr_formats.specs.Refs.{ref_of_code}
use Rattle.esr_model.specs.Values.{Bytes, Has, RootIndex}
use Rattle.esr_model.specs.Finalize.{ref_of}
use Rattle.esr_newroot.specs.Named.{ref_named}
use Rattle.esr_newroot.specs.ByteTests.{named_so, differ}
use Rattle.esr_newroot.specs.RefLists.{one_name, one_id, other_later}
use Rattle.esr_newroot.proofs.Choices.{chosen, passed, same_names, other_names}
use Rattle.esr_newroot.proofs.Named.{some_is, none_some}

-- ---- lists that keep their rule

pub all_has : (P : IndexRef → Type 0) (qs : List IndexRef) → ((q : IndexRef) → Has qs q → P q) → AllByRecursion P qs
all_has P [] f = tt
all_has P (q ∷ qs) f = (f q (inl refl), all_has P qs (λ p h. f p (inr h)))

pub refs_few : (before qs : List IndexRef) → AreRefs before qs → AllByRecursion (λ q. q.shards ≤ 1024) qs
refs_few before [] a = tt
refs_few before (q ∷ qs) a = (a.0.most, refs_few (before ++ q ∷ []) qs a.2)

-- ---- a step for each reference of a name

-- what the references of a name make of an index, one after another
abbrev pub by_refs : (IndexRef → Option RootIndex → Option RootIndex) → Bytes → List IndexRef → Option RootIndex → Option RootIndex
by_refs step name [] y = y
by_refs step name (q ∷ qs) y = by_refs step name qs (if bytes_eq q.name name then step q y else y)

-- what one makes, where there is one
abbrev pub at_ref : (IndexRef → Option RootIndex → Option RootIndex) → Option IndexRef → Option RootIndex → Option RootIndex
at_ref step None y = y
at_ref step (Some q) y = step q y

by_none : (step : IndexRef → Option RootIndex → Option RootIndex) (name : Bytes) (qs : List IndexRef) (y : Option RootIndex) → AllByRecursion (λ q. bytes_eq q.name name ≡ false) qs → by_refs step name qs y ≡ y
by_none step name [] y h = refl
by_none step name (q ∷ qs) y h = ap (by_refs step name qs) (passed (step q y) y h.0) ∙ by_none step name qs y h.1

pub by_one : (step : IndexRef → Option RootIndex → Option RootIndex) (name : Bytes) (qs : List IndexRef) (y : Option RootIndex) → IsDistinct one_name qs → by_refs step name qs y ≡ at_ref step (ref_named name qs) y
unfolding IsDistinct
by_one step name [] y h = refl
by_one step name (q ∷ qs) y h = elim (cases_Bool (bytes_eq q.name name)) [
  | inl same ↦
      let apart = all_weaken (λ r. bytes_eq q.name r.name ≡ false) (λ r. bytes_eq r.name name ≡ false) (λ r e. other_names r.name name (λ d. differ q.name r.name e (same_names q.name name same ∙ sym d))) qs h.0 in
      ap (by_refs step name qs) (chosen (step q y) y same) ∙ by_none step name qs (step q y) apart ∙ sym (ap (λ (o : Option IndexRef). at_ref step o y) (chosen (Some q) (ref_named name qs) same))
  | inr other ↦
      ap (by_refs step name qs) (passed (step q y) y other) ∙ by_one step name qs y h.1 ∙ sym (ap (λ (o : Option IndexRef). at_ref step o y) (passed (Some q) (ref_named name qs) other))
]

-- ---- a reference that is found

pub ref_has : (name : Bytes) (qs : List IndexRef) (q : IndexRef) → ref_named name qs ≡ Some q → (q.name ≡ name) × Has qs q
ref_has name [] q e = absurd (none_some e)
ref_has name (p ∷ qs) q e = elim (cases_Bool (bytes_eq p.name name)) [
  | inl same ↦
      let is : p ≡ q = some_is (sym (chosen (Some p) (ref_named name qs) same) ∙ e) in
      (sym (ap (λ (r : IndexRef). r.name) is) ∙ same_names p.name name same, inl is)
  | inr other ↦
      let rest = ref_has name qs q (sym (passed (Some p) (ref_named name qs) other) ∙ e) in
      (rest.0, inr rest.1)
]

pub ref_none : (name : Bytes) (qs : List IndexRef) (q : IndexRef) → ref_named name qs ≡ None → Has qs q → q.name ≢ name
ref_none name [] q e h = absurd h
ref_none name (p ∷ qs) q e h = elim (cases_Bool (bytes_eq p.name name)) [
  | inl same ↦ absurd (none_some (sym e ∙ chosen (Some p) (ref_named name qs) same))
  | inr other ↦ elim h [
    | inl is ↦ subst (λ (r : IndexRef). r.name ≢ name) is (differ p.name name other)
    | inr there ↦ ref_none name qs q (sym (passed (Some p) (ref_named name qs) other) ∙ e) there
  ]
]

pub ref_some : (qs : List IndexRef) (q : IndexRef) → IsDistinct one_name qs → Has qs q → ref_named q.name qs ≡ Some q
unfolding IsDistinct
ref_some [] q d h = absurd h
ref_some (p ∷ qs) q d (inl e) = chosen (Some p) (ref_named q.name qs) (named_so p.name q.name (ap (λ (r : IndexRef). r.name) e)) ∙ ap Some e
ref_some (p ∷ qs) q d (inr h) = passed (Some p) (ref_named q.name qs) (other_later one_name p qs q h d.0) ∙ ref_some qs q d.1 h

pub ref_apart : (name : Bytes) (qs : List IndexRef) → AllByRecursion (λ q. bytes_eq q.name name ≡ false) qs → ref_named name qs ≡ None
ref_apart name [] h = refl
ref_apart name (q ∷ qs) h = passed (Some q) (ref_named name qs) h.0 ∙ ref_apart name qs h.1

-- ---- references by their ids

pub id_none : (id : ℕ) (qs : List IndexRef) → ((q : IndexRef) → Has qs q → q.id.number ≢ id) → ref_of (map ref_of_code qs) id ≡ None
id_none id [] h = refl
id_none id (q ∷ qs) h =
    passed (Some (ref_of_code q)) (ref_of (map ref_of_code qs) id) (false_from_ne_true (q.id.number == id) (λ e. h q (inl refl) (eqb-true q.id.number id e)))
    ∙ id_none id qs (λ p there. h p (inr there))

pub id_some : (qs : List IndexRef) (q : IndexRef) → IsDistinct one_id qs → Has qs q → ref_of (map ref_of_code qs) q.id.number ≡ Some (ref_of_code q)
unfolding IsDistinct
id_some [] q d h = absurd h
id_some (p ∷ qs) q d (inl e) =
    chosen (Some (ref_of_code p)) (ref_of (map ref_of_code qs) q.id.number) (eq-eqb p.id.number q.id.number (ap (λ (r : IndexRef). r.id.number) e)) ∙ ap (λ (r : IndexRef). Some (ref_of_code r)) e
id_some (p ∷ qs) q d (inr h) =
    passed (Some (ref_of_code p)) (ref_of (map ref_of_code qs) q.id.number) (other_later one_id p qs q h d.0) ∙ id_some qs q d.1 h
