-- A root with another generation of a shard, by the names of its indices.
use Rattle.std.proofs.Common.{◌≡◌, ℕ, suc, ◌+◌, ◌-◌, ◌<◌, true, false, List, [], ◌∷◌, ◌++◌, length, map, set, replicate, Option, Some, None, option_map, refl, sym, ap, ◌∙◌, subst, arith, inl, inr}
use Rattle.std.specs.Prelude.{if◌then◌else◌}
use Rattle.std.specs.List.{list_any}
use Rattle.std.specs.Str.{bytes_eq}
use Rattle.std.proofs.lemmas.Bool.{cases_Bool}
use Rattle.std.proofs.lemmas.List.{map-set, length-map, append-nil}
use Rattle.esr_names.specs.declared.ids.Id.{Id}
use Rattle.esr_root.specs.Generations.{generation_in, padded, with_generation}
use Rattle.esr_root.specs.Indices.{is_named}
use Rattle.esr_root.specs.Changes.{set_generation_in, generation_among}
use Rattle.esr_root.specs.declared.indices.RootIndex.{RootIndex as CodeIndex}
use Rattle.esr_formats.specs.Ids.{number_of}
use Rattle.esr_formats.specs.Roots.{root_index_of}
use Rattle.esr_model.specs.Values.{Bytes, RootIndex}
use Rattle.esr_model.specs.Image.{at_shard, at_shard_of}
use Rattle.esr_newroot.specs.Named.{index_named}
use Rattle.esr_newroot.specs.ByteTests.{differ}
use Rattle.esr_newroot.proofs.Choices.{chosen, passed, same_names, other_names}
use Rattle.esr_newroot.proofs.Named.{some_is, none_some}

abbrev pub numbers : List (Option Id) → List (Option ℕ)
numbers gs = map (option_map number_of) gs

generation_number : (gs : List (Option Id)) (k : ℕ) → option_map number_of (generation_in gs k) ≡ at_shard (numbers gs) k
generation_number (g ∷ gs) (suc k) = generation_number gs k
generation_number gs k = refl

pub generation_named : (is : List CodeIndex) (name : Bytes) (k : ℕ) → option_map number_of (generation_among is name k) ≡ at_shard_of (index_named name (map root_index_of is)) k
generation_named [] name k = refl
generation_named (i ∷ is) name k = elim (cases_Bool (bytes_eq i.name name)) [
  | inl same ↦ rw same (generation_number i.generations k)
  | inr other ↦ rw other (generation_named is name k)
]

-- an index that is found is known to the code
pub known_named : (is : List CodeIndex) (name : Bytes) (y : RootIndex) → index_named name (map root_index_of is) ≡ Some y → list_any (is_named name) is ≡ true
known_named [] name y e = absurd (none_some e)
known_named (i ∷ is) name y e = elim (cases_Bool (bytes_eq i.name name)) [
  | inl same ↦ rw same refl
  | inr other ↦ rw other (known_named is name y (sym (passed (Some (root_index_of i)) (index_named name (map root_index_of is)) other) ∙ e))
]

-- ---- a generation that is set

with_number : (gs : List (Option Id)) (k : ℕ) (g : Id) → k < length (numbers gs) → numbers (with_generation gs k (Some g)) ≡ set (numbers gs) k (Some g.number)
with_number gs k g low =
    let none : (k + 1) - length gs ≡ 0 = omega (arith, length-map gs (option_map number_of)) in
    map-set (option_map number_of) (padded (k + 1) gs) k (Some g)
    ∙ ap (λ (hs : List (Option Id)). set (numbers hs) k (Some g.number)) (ap (λ (n : ℕ). gs ++ replicate n None) none ∙ append-nil gs)

-- the index with another generation of a shard
abbrev pub with_set : ℕ → ℕ → RootIndex → RootIndex
with_set k g y = record { name = y.name; id = y.id; snapshots = y.snapshots; generations = set y.generations k (Some g) }

set_here : (name : Bytes) (k : ℕ) (g : Id) (i : CodeIndex) → bytes_eq i.name name ≡ true → k < length (numbers i.generations)
    → root_index_of (set_generation_in name k (Some g) i) ≡ with_set k g.number (root_index_of i)
set_here name k g i same low = rw same (ap (λ (gs : List (Option ℕ)). with_numbers gs) (with_number i.generations k g low))
  where
    with_numbers : List (Option ℕ) → RootIndex
    with_numbers gs = record { name = i.name; id = i.id.number; snapshots = map number_of i.snapshots; generations = gs }

set_there : (name : Bytes) (k : ℕ) (g : Id) (is : List CodeIndex) (y : RootIndex) → index_named name (map root_index_of is) ≡ Some y → k < length y.generations
    → index_named name (map root_index_of (map (set_generation_in name k (Some g)) is)) ≡ Some (with_set k g.number y)
set_there name k g [] y e low = absurd (none_some e)
set_there name k g (i ∷ is) y e low = elim (cases_Bool (bytes_eq i.name name)) [
  | inl same ↦
      let is_it : root_index_of i ≡ y = some_is (sym (chosen (Some (root_index_of i)) (index_named name (map root_index_of is)) same) ∙ e) in
      let low_it : k < length (numbers i.generations) = subst (λ (z : RootIndex). k < length z.generations) (sym is_it) low in
      chosen (Some (root_index_of (set_generation_in name k (Some g) i))) (index_named name (map root_index_of (map (set_generation_in name k (Some g)) is))) same
      ∙ ap Some (set_here name k g i same low_it ∙ ap (with_set k g.number) is_it)
  | inr other ↦
      passed (Some (root_index_of (set_generation_in name k (Some g) i))) (index_named name (map root_index_of (map (set_generation_in name k (Some g)) is))) other
      ∙ set_there name k g is y (sym (passed (Some (root_index_of i)) (index_named name (map root_index_of is)) other) ∙ e) low
]

set_elsewhere : (name : Bytes) (k : ℕ) (g : Id) (is : List CodeIndex) (n : Bytes) → bytes_eq name n ≡ false
    → index_named n (map root_index_of (map (set_generation_in name k (Some g)) is)) ≡ index_named n (map root_index_of is)
set_elsewhere name k g [] n apart = refl
set_elsewhere name k g (i ∷ is) n apart = elim (cases_Bool (bytes_eq i.name n)) [
  | inl same ↦
      let other : bytes_eq i.name name ≡ false = other_names i.name name (λ e. differ name n apart (sym e ∙ same_names i.name n same)) in
      rw (same, other) refl
  | inr differs ↦ rw differs (set_elsewhere name k g is n apart)
]

pub set_named : (name : Bytes) (k : ℕ) (g : Id) (is : List CodeIndex) (y : RootIndex) → index_named name (map root_index_of is) ≡ Some y → k < length y.generations → (n : Bytes)
    → index_named n (map root_index_of (map (set_generation_in name k (Some g)) is)) ≡ (if bytes_eq name n then Some (with_set k g.number y) else index_named n (map root_index_of is))
set_named name k g is y e low n = elim (cases_Bool (bytes_eq name n)) [
  | inl same ↦
      subst (λ (m : Bytes). index_named m (map root_index_of (map (set_generation_in name k (Some g)) is)) ≡ Some (with_set k g.number y)) (same_names name n same) (set_there name k g is y e low)
      ∙ sym (chosen (Some (with_set k g.number y)) (index_named n (map root_index_of is)) same)
  | inr other ↦ set_elsewhere name k g is n other ∙ sym (passed (Some (with_set k g.number y)) (index_named n (map root_index_of is)) other)
]
