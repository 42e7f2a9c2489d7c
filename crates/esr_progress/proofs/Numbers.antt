-- Numbers that rise, after a change of their entries.
use Rattle.std.proofs.Common.{◌≡◌, ℕ, Bool, true, false, cond, List, [], ◌∷◌, sym, ap, ◌∙◌, subst}
use Rattle.std.specs.List.{filter}
use Rattle.std.proofs.lemmas.Option.{get_or_from_slice_get}
use Rattle.std.proofs.Math.Seq.{map-set_same}
use Rattle.std.proofs.Math.ListN.{set}
use Rattle.esr_model.specs.Lists.{Has-map, Has-mapped}
use Rattle.esr_model.specs.Values.{Has}
use Rattle.esr_ops.specs.Inside.{numbers_of, Rise, AreNumbers}
use Rattle.esr_progress.proofs.Entries.{FirstAt}
use Rattle.esr_progress.proofs.Lists.{Has-filter}

module _ {A : Type 0} where
  -- a value given anew leaves the numbers
  pub numbers-set : (es : List (ℕ × A)) (k i : ℕ) (v : A) → FirstAt es k i → numbers_of (set es i (k, v)) ≡ numbers_of es
  numbers-set es k i v at = map-set_same (λ (e : ℕ × A). e.0) es i (k, v) at.e (sym at.key ∙ ap (λ (e : ℕ × A). e.0) (sym (get_or_from_slice_get es i at.e at.e at.there)))

  kept : (p : ℕ × A → Bool) (es : List (ℕ × A)) (n : ℕ) → Has (numbers_of (filter p es)) n → Has (numbers_of es) n
  kept p es n h = let (e, m, is) = Has-mapped (λ (x : ℕ × A). x.0) (filter p es) n h in subst (Has (numbers_of es)) is (Has-map (λ (x : ℕ × A). x.0) es e (Has-filter p es e m))

  Rise-filter : (p : ℕ × A → Bool) (es : List (ℕ × A)) → Rise (numbers_of es) → Rise (numbers_of (filter p es))
  Rise-filter p [] r = r
  Rise-filter p (e ∷ es) r = elim (p e) as (λ b. Rise (numbers_of (cond b (e ∷ filter p es) (filter p es)))) [ true ↦ ((λ n m. r.0 n (kept p es n m)), Rise-filter p es r.1) | false ↦ Rise-filter p es r.1 ]

  pub numbers-filter : (p : ℕ × A → Bool) (es : List (ℕ × A)) (next : ℕ) → AreNumbers (numbers_of es) next → AreNumbers (numbers_of (filter p es)) next
  numbers-filter p es next h = record { rise = Rise-filter p es h.rise; least = λ n m. h.least n (kept p es n m); below = λ n m. h.below n (kept p es n m) }

  pub kept_number : (p : ℕ × A → Bool) (es : List (ℕ × A)) (n : ℕ) → Has (numbers_of (filter p es)) n → Has (numbers_of es) n
  kept_number p es n h = kept p es n h
