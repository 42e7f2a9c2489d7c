-- What a map by numbers has after an insertion or a removal.
use Rattle.std.proofs.Common.{◌≡◌, ◌≢◌, ◌⊎◌, ℕ, Bool, true, false, Ordering, Less, Equal, Greater, is_eq, nat_cmp, Some, None, refl, sym, ap, ◌∙◌, subst, inl, inr, true≢false}
use Rattle.std.specs.Ordering.{eq_by_cmp}
use Rattle.std.specs.Cmp.{nat_cmp_total, eq_by_cmp_equiv}
use Rattle.std.specs.FinMap.{FinMap, nat_cmp-IsAntisymmetric}
use Rattle.std.specs.FinMap as fin
use Rattle.std.proofs.lemmas.Bool.{cond-true, cond-false}
use Rattle.std.proofs.lemmas.Option.{same_Some}

pub tied : (r : Ordering) → is_eq r ≡ true → r ≡ Equal
tied Less e = absurd (true≢false (sym e))
tied Equal e = refl
tied Greater e = absurd (true≢false (sym e))

pub some_none : {A : Type 0} (x : A) → Some x ≡ None → ⊥
some_none x e = cc

pub split : (p q : ℕ) → (p ≡ q) ⊎ ((p ≢ q) × (eq_by_cmp nat_cmp p q ≡ false))
split p q = go (eq_by_cmp nat_cmp p q) refl
  where
    go : (b : Bool) → eq_by_cmp nat_cmp p q ≡ b → (p ≡ q) ⊎ ((p ≢ q) × (eq_by_cmp nat_cmp p q ≡ false))
    go true e = inl (nat_cmp-IsAntisymmetric p q (tied (nat_cmp p q) e))
    go false e = inr ((λ (x : p ≡ q). true≢false (sym (subst (λ k. eq_by_cmp nat_cmp p k ≡ true) x ((eq_by_cmp_equiv nat_cmp_total).refl p)) ∙ e)), e)

pub split_at : (a b : ℕ) → (a ≡ b) ⊎ (a ≢ b)
split_at a b = elim (split a b) [ inl e ↦ inl e | inr e ↦ inr e.0 ]

module _ {X : Type 0} where
  pub same_in : (m : FinMap nat_cmp X) (k : ℕ) (v : X) → fin.get (fin.insert m k v) k ≡ Some v
  same_in m k v = fin.get-insert nat_cmp_total m k v k ∙ cond-true _ _ _ ((eq_by_cmp_equiv nat_cmp_total).refl k)

  pub other_in : (m : FinMap nat_cmp X) (k : ℕ) (v : X) (q : ℕ) → q ≢ k → fin.get (fin.insert m k v) q ≡ fin.get m q
  other_in m k v q apart = elim (split q k) [ inl e ↦ absurd (apart e) | inr e ↦ fin.get-insert nat_cmp_total m k v q ∙ cond-false _ _ _ e.1 ]

  -- what it has was put, or was there
  pub was_in : (m : FinMap nat_cmp X) (k : ℕ) (v : X) (q : ℕ) (x : X) → fin.get (fin.insert m k v) q ≡ Some x → ((q ≡ k) × (v ≡ x)) ⊎ ((q ≢ k) × (fin.get m q ≡ Some x))
  was_in m k v q x e = elim (split q k) [
    | inl s ↦ inl (s, same_Some v x (sym (same_in m k v) ∙ ap (fin.get (fin.insert m k v)) (sym s) ∙ e))
    | inr s ↦ inr (s.0, sym (other_in m k v q s.0) ∙ e)
  ]

  -- what is left after a removal
  pub left_in : (m : FinMap nat_cmp X) (k q : ℕ) (x : X) → fin.get (fin.remove m k) q ≡ Some x → (q ≢ k) × (fin.get m q ≡ Some x)
  left_in m k q x e = elim (split q k) [
    | inl s ↦ absurd (some_none x (sym e ∙ fin.get-remove nat_cmp_total m k q ∙ cond-true _ _ _ (subst (λ z. eq_by_cmp nat_cmp q z ≡ true) s ((eq_by_cmp_equiv nat_cmp_total).refl q))))
    | inr s ↦ (s.0, sym (cond-false (eq_by_cmp nat_cmp q k) None (fin.get m q) s.1) ∙ sym (fin.get-remove nat_cmp_total m k q) ∙ e)
  ]

  -- what another key has stays
  pub stays_in : (m : FinMap nat_cmp X) (k q : ℕ) → q ≢ k → fin.get (fin.remove m k) q ≡ fin.get m q
  stays_in m k q apart = elim (split q k) [ inl s ↦ absurd (apart s) | inr s ↦ fin.get-remove nat_cmp_total m k q ∙ cond-false _ _ _ s.1 ]

  pub gone_in : (m : FinMap nat_cmp X) (k : ℕ) → fin.get (fin.remove m k) k ≡ None
  gone_in m k = fin.get-remove nat_cmp_total m k k ∙ cond-true _ _ _ ((eq_by_cmp_equiv nat_cmp_total).refl k)

-- an empty map has nothing
pub nothing : {X : Type 0} (m : FinMap nat_cmp X) (k : ℕ) (x : X) → m ≡ fin.empty → fin.get m k ≡ Some x → ⊥
nothing m k x none e = some_none x (sym e ∙ ap (λ n. fin.get n k) none ∙ fin.get-empty nat_cmp k)
