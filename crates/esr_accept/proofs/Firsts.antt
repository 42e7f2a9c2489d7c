-- The steps of loops that answer for the first of a list which passes a test.
use Rattle.std.proofs.Common.{◌≡◌, ℕ, zero, suc, ◌+◌, ◌<◌, Bool, cond, List, [], ◌∷◌, ◌++◌, Option, Some, length, get_or, drop, sym, ap, ◌∙◌, add-one, append_assoc, arith}
use Rattle.esr_names.specs.declared.ids.Id.{Id}
use Rattle.esr_ops.specs.declared.shard.ShardState.TheVariants as states
use Rattle.esr_ops.specs.declared.shard.OpenShard.{OpenShard}
use Rattle.esr_accept.specs.Asking.{shards_from}
use Rattle.esr_ops.specs.Lists.{left_from}

module _ {A : Type 0} (f : List A → Option ℕ) (t : A → Bool) (v : A → ℕ) (cons : (x : A) (xs : List A) → f (x ∷ xs) ≡ cond (t x) (Some (v x)) (f xs)) where
  pub first_step : (xs : List A) (i : ℕ) (x : A) (b : Bool) → i < length xs → x ≡ get_or xs i x → t x ≡ b → f (drop i xs) ≡ cond b (Some (v x)) (f (drop (i + 1) xs))
  first_step xs i x b lt is e = ap f (left_from xs i x lt is) ∙ cons x (drop (i + 1) xs) ∙ ap (λ z. cond z (Some (v x)) (f (drop (i + 1) xs))) e

-- one shard more of an index
pub shards_from-more : (at : ℕ) (index : Id) (first n : ℕ) → shards_from at index first (suc n) ≡ shards_from at index first n ++ record { at = at; shard = record { index = index; number = first + n }; state = states.Pending } ∷ []
shards_from-more at index first zero = let same : first ≡ first + 0 = omega arith in ap (λ (k : ℕ). (record { at = at; shard = record { index = index; number = k }; state = states.Pending } ∷ [])) same
shards_from-more at index first (suc n) =
    let same : suc first + n ≡ first + suc n = omega arith in
    ap (λ (xs : List OpenShard). record { at = at; shard = record { index = index; number = first }; state = states.Pending } ∷ xs)
    (shards_from-more at index (suc first) n ∙ ap (λ (k : ℕ). shards_from at index (suc first) n ++ (record { at = at; shard = record { index = index; number = k }; state = states.Pending } ∷ [])) same)

pub shards_step : (at : ℕ) (index : Id) (n : ℕ) (old now new : List OpenShard) → now ≡ old ++ shards_from at index 0 n → new ≡ now ++ record { at = at; shard = record { index = index; number = n }; state = states.Pending } ∷ []
    → new ≡ old ++ shards_from at index 0 (n + 1)
shards_step at index n old now new is pushed =
    let same : n ≡ 0 + n = omega arith in
    pushed ∙ ap (λ (xs : List OpenShard). xs ++ record { at = at; shard = record { index = index; number = n }; state = states.Pending } ∷ []) is ∙ append_assoc old (shards_from at index 0 n) _
    ∙ ap (λ (xs : List OpenShard). old ++ xs)
    (ap (λ (k : ℕ). shards_from at index 0 n ++ (record { at = at; shard = record { index = index; number = k }; state = states.Pending } ∷ [])) same ∙ sym (shards_from-more at index 0 n) ∙ ap (shards_from at index 0) (sym (add-one n)))
