-- One step of each loop: a result more, an index more.
use Rattle.std.proofs.Common.{◌≡◌, ◌≢◌, ℕ, ◌+◌, ◌<◌, ◌≤◌, Bool, true, false, List, [], ◌∷◌, length, map, set, drop, get_or, drop-cons, add-one, Option, Some, None, option_map, refl, sym, ap, ◌∙◌, subst, arith, inl, inr}
use Rattle.std.specs.Prelude.{if◌then◌else◌}
use Rattle.std.specs.List.{AllByRecursion, IsDistinct}
use Rattle.std.specs.Str.{bytes_eq}
use Rattle.std.proofs.lemmas.Bool.{cases_Bool}
use Rattle.std.proofs.lemmas.List.{drop_all}
use Rattle.esr_names.specs.declared.ids.Id.{Id}
use Rattle.esr_names.specs.declared.index_ref.IndexRef.{IndexRef}
use Rattle.esr_root.specs.Root.{Root}
use Rattle.esr_root.specs.Changes.{set_generation_of, generation_at}
use Rattle.esr_root.specs.Lists.{all_weaken}
use Rattle.esr_formats.specs.Ids.{number_of}
use Rattle.esr_formats.specs.Roots.{root_of}
use Rattle.esr_model.specs.Values.{Bytes, RootIndex, RootData, ShardResult}
use Rattle.esr_model.specs.Image.{at_shard, at_shard_of}
use Rattle.esr_model.specs.Finalize.{larger, done_at}
use Rattle.esr_results.specs.declared.result.ShardResult.{ShardResult as CodeResult}
use Rattle.esr_results.specs.Results.{result_of}
use Rattle.esr_newroot.specs.Named.{index_named, ref_named, with_done, done_in, HasShards, IsReady, Becomes, changed}
use Rattle.esr_newroot.proofs.Choices.{chosen, passed, same_names}
use Rattle.esr_newroot.proofs.Merged.{length-merged, merged-no_results, merged-one, merged-then, merged-other}
use Rattle.esr_newroot.proofs.Changed.{with_set, generation_named, set_named}
use Rattle.esr_newroot.specs.RefLists.{one_name}
use Rattle.esr_newroot.proofs.Refs.{by_refs, at_ref, by_one}

with_generations : RootIndex → List (Option ℕ) → RootIndex
with_generations y gs = record { name = y.name; id = y.id; snapshots = y.snapshots; generations = gs }

-- ---- one shard's generation

set_is : (root : Root) (name : Bytes) (own : CodeResult) (g : Id) (y : RootIndex) → index_named name (root_of root).indices ≡ Some y → own.shard.number < length y.generations
    → Some g.number ≡ larger (option_map number_of (generation_at root name own.shard.number)) (Some own.generation.number)
    → with_set own.shard.number g.number y ≡ with_done (result_of own ∷ []) own.shard.index.number y
unfolding with_generations
set_is root name own g y there low g_is =
    let old : option_map number_of (generation_at root name own.shard.number) ≡ at_shard y.generations own.shard.number =
    generation_named root.indices name own.shard.number ∙ ap (λ (o : Option RootIndex). at_shard_of o own.shard.number) there in
    ap (λ (o : Option ℕ). with_generations y (set y.generations own.shard.number o)) (g_is ∙ ap (λ (o : Option ℕ). larger o (Some own.generation.number)) old)
    ∙ sym (ap (with_generations y) (merged-one (result_of own) y.generations low))

pub with_one : (root new : Root) (name : Bytes) (own : CodeResult) (g : Id) → HasShards (root_of root) name (own.shard.number + 1)
    → Some g.number ≡ larger (option_map number_of (generation_at root name own.shard.number)) (Some own.generation.number)
    → new ≡ set_generation_of root name own.shard.number (Some g)
    → Becomes (root_of root) (root_of new) (changed name (with_done (result_of own ∷ []) own.shard.index.number) (root_of root))
with_one root new name own g has g_is new_is =
    subst (λ (r : Root). Becomes (root_of root) (root_of r) (changed name (with_done (result_of own ∷ []) own.shard.index.number) (root_of root))) (sym new_is) (record {
      snapshots = refl;
      indices = λ n. set_named name own.shard.number g root.indices has.index has.there (omega arith) n ∙ by_name n;
    })
  where
    change : RootIndex → RootIndex
    change = with_done (result_of own ∷ []) own.shard.index.number

    old : Bytes → Option RootIndex
    old n = index_named n (root_of root).indices

    by_name : (n : Bytes) → (if bytes_eq name n then Some (with_set own.shard.number g.number has.index) else old n) ≡ (if bytes_eq name n then option_map change (old n) else old n)
    by_name n = elim (cases_Bool (bytes_eq name n)) [
      | inl same ↦
          let at_n : old n ≡ Some has.index = subst (λ (m : Bytes). old m ≡ Some has.index) (same_names name n same) has.there in
          chosen (Some (with_set own.shard.number g.number has.index)) (old n) same
          ∙ ap Some (set_is root name own g has.index has.there (omega (arith, has.long)) g_is)
          ∙ sym (chosen (option_map change (old n)) (old n) same ∙ ap (option_map change) at_n)
      | inr other ↦ passed (Some (with_set own.shard.number g.number has.index)) (old n) other ∙ sym (passed (option_map change (old n)) (old n) other)
    ]

-- ---- a result more

-- what stands in a list past its end
abbrev pub no_result : CodeResult
no_result = record { shard = record { index = record { number = 0 }; number = 0 }; generation = record { number = 0 }; files = 0; bytes = 0 }

pub next_result : (results : List CodeResult) (k : ℕ) → k < length results → map result_of (drop k results) ≡ result_of (get_or results k no_result) ∷ map result_of (drop (k + 1) results)
next_result results k low = let split : drop k results ≡ get_or results k no_result ∷ drop (k + 1) results = rw add-one (drop-cons results k no_result low) in ap (map result_of) split

pub no_more : (results : List CodeResult) (k : ℕ) → length results ≤ k → map result_of (drop k results) ≡ []
no_more results k past = ap (map result_of) (drop_all k results past)

option_then : (f g h : RootIndex → RootIndex) → ((y : RootIndex) → f (g y) ≡ h y) → (o : Option RootIndex) → option_map f (option_map g o) ≡ option_map h o
option_then f g h e None = refl
option_then f g h e (Some y) = ap Some (e y)

option_same : (f h : RootIndex → RootIndex) → ((y : RootIndex) → f y ≡ h y) → (o : Option RootIndex) → option_map f o ≡ option_map h o
option_same f h e None = refl
option_same f h e (Some y) = ap Some (e y)

pub step_own : (root new : RootData) (name : Bytes) (id : ℕ) (r : ShardResult) (rs : List ShardResult) → r.index ≡ id → done_at rs id r.shard ≡ None
    → Becomes root new (changed name (with_done (r ∷ []) r.index) root) → (n : Bytes) → changed name (with_done rs id) new n ≡ changed name (with_done (r ∷ rs) id) root n
unfolding with_generations
step_own root new name id r rs own only b n =
    let found : index_named n new.indices ≡ changed name (with_done (r ∷ []) id) root n = b.indices n ∙ ap (λ (i : ℕ). changed name (with_done (r ∷ []) i) root n) own in
    elim (cases_Bool (bytes_eq name n)) [
      | inl same ↦
          chosen (option_map (with_done rs id) (index_named n new.indices)) (index_named n new.indices) same
          ∙ ap (option_map (with_done rs id)) (found ∙ chosen (option_map (with_done (r ∷ []) id) (index_named n root.indices)) (index_named n root.indices) same)
          ∙ option_then (with_done rs id) (with_done (r ∷ []) id) (with_done (r ∷ rs) id) (λ y. ap (with_generations y) (sym (merged-then r rs id 0 y.generations own only))) (index_named n root.indices)
          ∙ sym (chosen (option_map (with_done (r ∷ rs) id) (index_named n root.indices)) (index_named n root.indices) same)
      | inr other ↦
          passed (option_map (with_done rs id) (index_named n new.indices)) (index_named n new.indices) other
          ∙ found ∙ passed (option_map (with_done (r ∷ []) id) (index_named n root.indices)) (index_named n root.indices) other
          ∙ sym (passed (option_map (with_done (r ∷ rs) id) (index_named n root.indices)) (index_named n root.indices) other)
    ]

pub step_other : (root : RootData) (name : Bytes) (id : ℕ) (r : ShardResult) (rs : List ShardResult) → r.index ≢ id → (n : Bytes) → changed name (with_done rs id) root n ≡ changed name (with_done (r ∷ rs) id) root n
unfolding with_generations
step_other root name id r rs other n =
    ap (λ (o : Option RootIndex). if bytes_eq name n then o else index_named n root.indices)
    (option_same (with_done rs id) (with_done (r ∷ rs) id) (λ y. ap (with_generations y) (sym (merged-other r rs id 0 y.generations other))) (index_named n root.indices))

pub step_none : (root : RootData) (name : Bytes) (id : ℕ) (n : Bytes) → changed name (with_done [] id) root n ≡ index_named n root.indices
unfolding with_generations
step_none root name id n =
    ap (λ (o : Option RootIndex). if bytes_eq name n then o else index_named n root.indices) (option_all (index_named n root.indices))
    ∙ by_test (bytes_eq name n)
  where
    option_all : (o : Option RootIndex) → option_map (with_done [] id) o ≡ o
    option_all None = refl
    option_all (Some y) = ap (λ (gs : List (Option ℕ)). Some (with_generations y gs)) (merged-no_results id 0 y.generations)

    by_test : (b : Bool) → (if b then index_named n root.indices else index_named n root.indices) ≡ index_named n root.indices
    by_test true = refl
    by_test false = refl

-- each index still has its shards
pub has_still : (root new : RootData) (name : Bytes) (rs : List ShardResult) (id : ℕ) → Becomes root new (changed name (with_done rs id) root)
    → (n : Bytes) (shards : ℕ) → HasShards root n shards → HasShards new n shards
has_still root new name rs id b n shards has = elim (cases_Bool (bytes_eq name n)) [
  | inl same ↦ record {
    index = with_done rs id has.index;
    there = b.indices n ∙ chosen (option_map (with_done rs id) (index_named n root.indices)) (index_named n root.indices) same ∙ ap (option_map (with_done rs id)) has.there;
    long = omega (arith, has.long, length-merged rs id 0 has.index.generations);
  }
  | inr other ↦ record {
    index = has.index;
    there = b.indices n ∙ passed (option_map (with_done rs id) (index_named n root.indices)) (index_named n root.indices) other ∙ has.there;
    long = has.long;
  }
]

-- ---- an index more

pub ready_still : (root new : RootData) (name : Bytes) (rs : List ShardResult) (id : ℕ) → Becomes root new (changed name (with_done rs id) root)
    → (qs : List IndexRef) → AllByRecursion (IsReady root rs) qs → AllByRecursion (IsReady new rs) qs
ready_still root new name rs id b qs h =
    all_weaken (IsReady root rs) (IsReady new rs) (λ q ready. record { few = ready.few; has = has_still root new name rs id b q.name q.shards ready.has; shards = ready.shards }) qs h

-- what the results of one index make of it
abbrev pub with_own : List ShardResult → IndexRef → Option RootIndex → Option RootIndex
with_own rs q y = option_map (with_done rs q.id.number) y

pub all_done : (rs : List ShardResult) (name : Bytes) (qs : List IndexRef) (y : Option RootIndex) → IsDistinct one_name qs → by_refs (with_own rs) name qs y ≡ done_in rs (ref_named name qs) y
all_done rs name qs y d = by_one (with_own rs) name qs y d ∙ by_case (ref_named name qs)
  where
    by_case : (o : Option IndexRef) → at_ref (with_own rs) o y ≡ done_in rs o y
    by_case None = refl
    by_case (Some q) = refl

pub next_index : (indices : List IndexRef) (k : ℕ) (q : IndexRef) → k < length indices → q ≡ get_or indices k q → drop k indices ≡ q ∷ drop (k + 1) indices
next_index indices k q low is = let split : drop k indices ≡ get_or indices k q ∷ drop (k + 1) indices = rw add-one (drop-cons indices k q low) in split ∙ ap (λ (p : IndexRef). p ∷ drop (k + 1) indices) (sym is)
