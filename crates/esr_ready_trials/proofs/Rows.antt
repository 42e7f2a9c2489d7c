-- What stands in maps of none, of one and of two.
use Rattle.std.proofs.Common.{◌≡◌, ◌⊎◌, ℕ, Bool, true, false, cond, Some, nat_cmp, refl, sym, ap, ◌∙◌, inl, inr}
use Rattle.std.specs.Ordering.{eq_by_cmp}
use Rattle.std.specs.Cmp.{nat_cmp_total}
use Rattle.std.specs.FinMap.{FinMap, nat_cmp-IsAntisymmetric}
use Rattle.std.specs.FinMap as fin
use Rattle.std.proofs.lemmas.Option.{none-some}
use Rattle.esr_core.specs.Laws.NumberMaps.{tied, same_in}
use Rattle.esr_ready_trials.specs.Rows.{one, two}

-- it was put, or was there
inserted : {A : Type 0} (m : FinMap nat_cmp A) (n : ℕ) (x : A) (q : ℕ) (y : A) → fin.get (fin.insert m n x) q ≡ Some y → (q ≡ n) ⊎ (fin.get m q ≡ Some y)
inserted m n x q y e = go (eq_by_cmp nat_cmp q n) refl
  where
    go : (b : Bool) → eq_by_cmp nat_cmp q n ≡ b → (q ≡ n) ⊎ (fin.get m q ≡ Some y)
    go true is = inl (nat_cmp-IsAntisymmetric q n (tied (nat_cmp q n) is))
    go false is = inr (sym (fin.get-insert nat_cmp_total m n x q ∙ ap (λ c. cond c (Some x) (fin.get m q)) is) ∙ e)

pub nothing : {A : Type 0} (q : ℕ) (y : A) → fin.get (fin.empty {K = ℕ} {X = A} {R = nat_cmp}) q ≡ Some y → ⊥
nothing q y e = none-some y (sym (fin.get-empty nat_cmp q) ∙ e)

pub of_one : {A : Type 0} (n : ℕ) (x : A) (q : ℕ) (y : A) → fin.get (one n x) q ≡ Some y → q ≡ n
of_one n x q y e = elim (inserted fin.empty n x q y e) [ inl is ↦ is | inr there ↦ absurd (nothing q y there) ]

pub of_two : {A : Type 0} (n : ℕ) (x : A) (k : ℕ) (y : A) (q : ℕ) (z : A) → fin.get (two n x k y) q ≡ Some z → (q ≡ k) ⊎ (q ≡ n)
of_two n x k y q z e = elim (inserted (one n x) k y q z e) [ inl is ↦ inl is | inr there ↦ inr (of_one n x q z there) ]

pub at_one : {A : Type 0} (n : ℕ) (x : A) → fin.get (one n x) n ≡ Some x
at_one n x = same_in fin.empty n x

pub at_second : {A : Type 0} (n : ℕ) (x : A) (k : ℕ) (y : A) → fin.get (two n x k y) k ≡ Some y
at_second n x k y = same_in (one n x) k y

pub at_first : {A : Type 0} (n : ℕ) (x : A) (k : ℕ) (y : A) → eq_by_cmp nat_cmp n k ≡ false → fin.get (two n x k y) n ≡ Some x
at_first n x k y apart = fin.get-insert nat_cmp_total (one n x) k y n ∙ ap (λ c. cond c (Some y) (fin.get (one n x) n)) apart ∙ at_one n x
