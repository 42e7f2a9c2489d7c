-- Shards by their places in the list of generations.
use Rattle.std.proofs.Common.{◌≡◌, ℕ, ◌+◌, ◌<◌, true, false, List, map, length, take, get_or, Option, Some, None, option_map, is_some, IsSome, Bor, inl, inr, refl, sym, ◌∙◌, subst, arith}
use Rattle.std.proofs.lemmas.Bool.{true≢false}
use Rattle.std.proofs.lemmas.List.{length-map, length-take-le}
use Rattle.std.specs.Option.{option_copied}
use Rattle.esr_model.specs.Loops.{next, item_is}
use Rattle.esr_names.specs.declared.ids.Id.{Id}
use Rattle.esr_formats.specs.Ids.{number_of}
use Rattle.esr_model.specs.Values.{Has, RootIndex, RootData}
use Rattle.esr_model.specs.Image.{at_shard}
use Rattle.esr_reach.specs.Held.{HeldShard, held_at}
use Rattle.esr_reach.specs.Reading.{HasShards, HasEach}
use Rattle.esr_reach.specs.Reached.{index_found}
use Rattle.esr_reach.specs.ShardPlaces.{at_place, at_push}

number_some : (o : Option Id) (v : ℕ) → option_map number_of o ≡ Some v → is_some o ≡ true
number_some None v e = absurd (cc)
number_some (Some u) v e = refl

some_number : (o : Option Id) → is_some o ≡ true → (v : ℕ) × (option_map number_of o ≡ Some v)
some_number None e = absurd (true≢false (sym e))
some_number (Some u) e = (u.number, refl)

pub copied_some : {T U : Type 0} (f : T → U) (r : Option (Bor T)) → is_some (option_map f (option_copied r)) ≡ is_some r
copied_some f None = refl
copied_some f (Some x) = refl

module _ (gens : List (Option Id)) (n : ℕ) (d : Option Id) (held : List HeldShard) (index : ℕ) (less : n < length gens) where
  -- one that has a generation isn't held
  pub unheld : is_some (get_or gens n d) ≡ true → is_some (held_at held index n) ≡ false → ((k g : ℕ) → at_shard (map (option_map number_of) gens) k ≡ Some g → IsSome (held_at held index k)) → ⊥
  unheld some none each =
      let generation = some_number (get_or gens n d) some in
      let there = each n generation.0 (at_place (option_map number_of) gens n d less ∙ generation.1) in
      true≢false (sym there ∙ none)

  -- all before are held, and the next one is where it has a generation
  pub held_more : (is_some (get_or gens n d) ≡ true → IsSome (held_at held index n)) → ((k g : ℕ) → at_shard (map (option_map number_of) (take n gens)) k ≡ Some g → IsSome (held_at held index k))
      → (k g : ℕ) → at_shard (map (option_map number_of) (take (n + 1) gens)) k ≡ Some g → IsSome (held_at held index k)
  held_more own before k g e =
      let h : Option Id → Option ℕ = option_map number_of in
      let more = next h gens n (get_or gens n d) less (item_is gens n d less) in
      elim (at_push (map h (take n gens)) (h (get_or gens n d)) k g (subst (λ (gs : List (Option ℕ)). at_shard gs k ≡ Some g) more e)) [
        | inl earlier ↦ before k g earlier
        | inr last ↦
            let len : length (map h (take n gens)) ≡ n = length-map (take n gens) h ∙ length-take-le n gens (omega arith) in
            subst (λ (m : ℕ). IsSome (held_at held index m)) (sym (last.0 ∙ len)) (own (number_some (get_or gens n d) g last.1))
      ]

-- each index of a root has its shards held
pub each_held : (root : RootData) (held : List HeldShard) → ((x : RootIndex) → Has root.indices x → HasShards x held) → HasEach root held
each_held root held all i k g is =
    let found = index_found root.indices i k g is in
    subst (λ (n : ℕ). IsSome (held_at held n k)) found.2 (all found.0 found.1 k g found.3)
