-- What a map has after an insertion, and what an option holds.
use Rattle.std.proofs.Common.{◌≡◌, Bool, true, false, cond, Some, None, Ordering, refl, sym, ap, ◌∙◌}
use Rattle.std.specs.Ordering.{eq_by_cmp}
use Rattle.std.specs.Cmp.{IsTotalOrder, eq_by_cmp_equiv}
use Rattle.std.specs.FinMap.{FinMap}
use Rattle.std.specs.FinMap as fin
use Rattle.std.proofs.lemmas.Option.{none-some}
use Rattle.esr_core.specs.Laws.NumberMaps.{tied}

module _ {K X : Type 0} {R : K → K → Ordering} (o : IsTotalOrder R) where
  pub get_put : (m : FinMap R X) (k : K) (v : X) → fin.get (fin.insert m k v) k ≡ Some v
  get_put m k v = fin.get-insert o m k v k ∙ ap (λ (b : Bool). cond b (Some v) (fin.get m k)) ((eq_by_cmp_equiv o).refl k)

  -- an insertion at an absent key takes nothing away
  pub get_kept : (m : FinMap R X) (k : K) (v : X) (q : K) (x : X) → fin.get m k ≡ None → fin.get m q ≡ Some x → fin.get (fin.insert m k v) q ≡ Some x
  get_kept m k v q x none there = fin.get-insert o m k v q ∙ by (eq_by_cmp R q k) refl
    where
      by : (b : Bool) → eq_by_cmp R q k ≡ b → cond b (Some v) (fin.get m q) ≡ Some x
      by true e = absurd (none-some x (sym none ∙ fin.get_tied o m q k (tied (R q k) e) ∙ there))
      by false e = there
