-- A root with another generation of a shard keeps the rules of a root, and all other generations.
use Rattle.std.proofs.Common.{◌≡◌, ◌≢◌, ℕ, zero, suc, ◌+◌, ◌-◌, ◌<◌, ◌≤◌, Bool, true, false, cond, List, [], ◌∷◌, length, map, set, replicate, Option, None, refl, sym, ◌∙◌, arith, inl, inr}
use Rattle.std.specs.List.{list_any, AllByRecursion, IsDistinct}
use Rattle.std.specs.List.Sorted.{IsStrictlySortedBy}
use Rattle.std.specs.declared.cmp.Ordering.TheVariants.{Less}
use Rattle.std.proofs.lemmas.Bool.{cases_Bool, true≢false}
use Rattle.std.proofs.lemmas.Slice.Eq.{bytes_eq-Decides}
use Rattle.std.proofs.lemmas.List.{length-append, length-replicate, length-set, get_or-set_same, get_or-set_other}
use Rattle.esr_names.specs.declared.ids.Id.{Id}
use Rattle.esr_root.specs.Generations.{AreGenerations, IsGeneration, generation_in, padded, with_generation}
use Rattle.esr_root.specs.Indices.{IsIndex, AreIndices, IsListed, same_index, by_name, is_named}
use Rattle.esr_root.specs.Root.{Root, IsRoot}
use Rattle.esr_root.specs.Changes.{set_generation_in, set_generation_of, generation_among, generation_at}
use Rattle.esr_root.specs.declared.indices.RootIndex.{RootIndex}
use Rattle.esr_root.proofs.Added.{generation_in-padded}
use Rattle.esr_root.specs.Lists.{all_map, all_weaken}
use Rattle.esr_root.specs.RootLists.{AreGenerations-padded}

-- ---- the list of generations

all_set : {A : Type 0} (P : A → Type 0) (xs : List A) (k : ℕ) (x : A) → AllByRecursion P xs → P x → AllByRecursion P (set xs k x)
all_set P [] k x h one = tt
all_set P (y ∷ xs) zero x h one = (one, h.1)
all_set P (y ∷ xs) (suc k) x h one = (h.0, all_set P xs k x h.1 one)

pub AreGenerations-with : (gs : List (Option Id)) (k : ℕ) (g : Option Id) → k < 1024 → IsGeneration g → AreGenerations gs → AreGenerations (with_generation gs k g)
AreGenerations-with gs k g small one h =
    let more = AreGenerations-padded (k + 1) gs (omega arith) h in
    let few : length (padded (k + 1) gs) ≤ 1024 = more.few in
    record { few = omega (arith, length-set (padded (k + 1) gs) k g); each = all_set IsGeneration (padded (k + 1) gs) k g more.each one }

length-padded : (n : ℕ) (gs : List (Option Id)) → n ≤ length (padded n gs)
length-padded n gs = omega (arith, length-append gs (replicate (n - length gs) None), length-replicate {A = Option Id} (n - length gs) None)

generation_there : (gs : List (Option Id)) (k : ℕ) (g : Option Id) → generation_in (with_generation gs k g) k ≡ g
generation_there gs k g = get_or-set_same (padded (k + 1) gs) k g None (omega (arith, length-padded (k + 1) gs))

generation_elsewhere : (gs : List (Option Id)) (k j : ℕ) (g : Option Id) → j ≢ k → generation_in (with_generation gs k g) j ≡ generation_in gs j
generation_elsewhere gs k j g other = get_or-set_other (padded (k + 1) gs) k j g None other ∙ generation_in-padded (k + 1) gs j

-- ---- the indices

set_is : (name : List ℕ) (k : ℕ) (g : Option Id) (i : RootIndex) → k < 1024 → IsGeneration g → IsIndex i → IsIndex (set_generation_in name k g i)
set_is name k g i small one h = record { name = h.name; id = h.id; snapshots = h.snapshots; generations = by_name_test (is_named name i) }
  where
    by_name_test : (b : Bool) → AreGenerations (cond b (with_generation i.generations k g) i.generations)
    by_name_test true = AreGenerations-with i.generations k g small one h.generations
    by_name_test false = h.generations

distinct_set : (name : List ℕ) (k : ℕ) (g : Option Id) (is : List RootIndex) → IsDistinct same_index is → IsDistinct same_index (map (set_generation_in name k g) is)
unfolding IsDistinct
distinct_set name k g [] h = tt
distinct_set name k g (i ∷ is) h = (all_map (λ j. same_index i j ≡ false) (set_generation_in name k g) is h.0, distinct_set name k g is h.1)

sorted_set : (name : List ℕ) (k : ℕ) (g : Option Id) (is : List RootIndex) → IsStrictlySortedBy by_name is → IsStrictlySortedBy by_name (map (set_generation_in name k g) is)
unfolding IsStrictlySortedBy
sorted_set name k g [] h = tt
sorted_set name k g (i ∷ is) h = (all_map (λ j. by_name i j ≡ Less) (set_generation_in name k g) is h.0, sorted_set name k g is h.1)

pub AreIndices-set : (name : List ℕ) (k : ℕ) (g : Option Id) (is : List RootIndex) → k < 1024 → IsGeneration g → AreIndices is → AreIndices (map (set_generation_in name k g) is)
AreIndices-set name k g is small one h = record {
  each = all_map IsIndex (set_generation_in name k g) is (all_weaken IsIndex (λ i. IsIndex (set_generation_in name k g i)) (λ i good. set_is name k g i small one good) is h.each);
  distinct = distinct_set name k g is h.distinct;
  rises = sorted_set name k g is h.rises;
}

pub listed_set : (r : Root) (name : List ℕ) (k : ℕ) (g : Option Id) → IsRoot r → AllByRecursion (IsListed r.snapshots) (map (set_generation_in name k g) r.indices)
listed_set r name k g h = all_map (IsListed r.snapshots) (set_generation_in name k g) r.indices h.listed

-- ---- generations

among_there : (name : List ℕ) (k : ℕ) (g : Option Id) (is : List RootIndex) → list_any (is_named name) is ≡ true → generation_among (map (set_generation_in name k g) is) name k ≡ g
among_there name k g [] known = absurd (true≢false (sym known))
among_there name k g (i ∷ is) known = elim (cases_Bool (is_named name i)) [
  | inl same ↦ rw same (generation_there i.generations k g)
  | inr other ↦ let rest = rw other at known in rw other (among_there name k g is rest)
]

pub generation_at-there : (r : Root) (name : List ℕ) (k : ℕ) (g : Option Id) → list_any (is_named name) r.indices ≡ true → generation_at (set_generation_of r name k g) name k ≡ g
generation_at-there r name k g known = among_there name k g r.indices known

-- an index of another name, or another shard, keeps its generation
kept_generation : (name other : List ℕ) (k j : ℕ) (g : Option Id) (i : RootIndex) → ((other ≡ name) × (j ≡ k) → ⊥) → is_named other i ≡ true
    → generation_in (set_generation_in name k g i).generations j ≡ generation_in i.generations j
kept_generation name other k j g i apart named = elim (cases_Bool (is_named name i)) [
  | inl same ↦
      let one : i.name ≡ name = (bytes_eq-Decides i.name name).0 same in
      let two : i.name ≡ other = (bytes_eq-Decides i.name other).0 named in
      let shard : j ≢ k = (λ e. apart (sym two ∙ one, e)) in
      rw same (generation_elsewhere i.generations k j g shard)
  | inr differs ↦ rw differs refl
]

among_elsewhere : (name other : List ℕ) (k j : ℕ) (g : Option Id) (is : List RootIndex) → ((other ≡ name) × (j ≡ k) → ⊥)
    → generation_among (map (set_generation_in name k g) is) other j ≡ generation_among is other j
among_elsewhere name other k j g [] apart = refl
among_elsewhere name other k j g (i ∷ is) apart = elim (cases_Bool (is_named other i)) [
  | inl same ↦ rw same (kept_generation name other k j g i apart same)
  | inr differs ↦ rw differs (among_elsewhere name other k j g is apart)
]

pub generation_at-elsewhere : (r : Root) (name : List ℕ) (k : ℕ) (g : Option Id) (other : List ℕ) (j : ℕ) → ((other ≡ name) × (j ≡ k) → ⊥)
    → generation_at (set_generation_of r name k g) other j ≡ generation_at r other j
generation_at-elsewhere r name k g other j apart = among_elsewhere name other k j g r.indices apart
