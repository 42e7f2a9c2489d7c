-- The numbers that opening gives to deletes.
use Rattle.std.proofs.Common.{◌≡◌, ℕ, suc, ◌<◌, false, List, [], ◌∷◌, Some, refl, sym, ap, subst, inl, inr, arith, ◌+◌}
use Rattle.std.specs.Prelude.{length}
use Rattle.std.specs.FinMap as fin
use Rattle.esr_model.specs.Values.{Has}
use Rattle.esr_core.specs.World.{Deletion, numbered_deletes}
use Rattle.esr_core.specs.Laws.NumberMaps.{was_in}
use Rattle.esr_core.specs.Laws.Maps.{nothing}

-- the deletes that opening numbers
pub numbered_from : (n : ℕ) (list : List (List ℕ)) (d : ℕ) (x : Deletion) → fin.get (numbered_deletes n list) d ≡ Some x
    → (d < n + length list) × (x.clean ≡ false) × ((u : ℕ) → Has x.uuids u → (us : List ℕ) × Has list us × Has us u)
numbered_from n [] d x e = absurd (nothing d x e)
numbered_from n (us ∷ rest) d x e = elim (was_in (numbered_deletes (suc n) rest) n (record { uuids = us; clean = false; failed = false }) d x e) [
  | inl z ↦ let same : d ≡ n = z.0 in (omega (arith, same), ap (λ (y : Deletion). y.clean) (sym z.1), λ u m. (us, inl refl, subst (λ (y : Deletion). Has y.uuids u) (sym z.1) m))
  | inr z ↦
      let (below, clean, from) = numbered_from (suc n) rest d x z.1 in
      let b : d < suc n + length rest = below in
      (omega (arith, b), clean, λ u m. let (vs, vm, um) = from u m in (vs, inr vm, um))
]
