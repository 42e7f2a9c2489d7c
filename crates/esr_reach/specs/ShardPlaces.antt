-- Shards by their places in the list of generations.
use Rattle.std.proofs.Common.{◌≡◌, ◌⊎◌, ℕ, zero, suc, ◌+◌, ◌<◌, List, [], ◌∷◌, ◌++◌, map, length, get_or, Option, Some, inl, inr, refl, ap, arith}
use Rattle.esr_model.specs.Image.{at_shard}

pub at_place : {A : Type 0} (h : A → Option ℕ) (xs : List A) (k : ℕ) (d : A) → k < length xs → at_shard (map h xs) k ≡ h (get_or xs k d)
at_place h [] k d less = absurd (omega arith)
at_place h (x ∷ xs) zero d less = refl
at_place h (x ∷ xs) (suc k) d less = at_place h xs k d (omega arith)

pub at_push : (gs : List (Option ℕ)) (g : Option ℕ) (k v : ℕ) → at_shard (gs ++ g ∷ []) k ≡ Some v → (at_shard gs k ≡ Some v) ⊎ ((k ≡ length gs) × (g ≡ Some v))
at_push [] g zero v e = inr (refl, e)
at_push [] g (suc k) v e = absurd (cc)
at_push (h ∷ gs) g zero v e = inl e
at_push (h ∷ gs) g (suc k) v e = elim (at_push gs g k v e) [ inl before ↦ inl before | inr last ↦ inr (ap suc last.0, last.1) ]
