-- Laws of maps: what one has after an insertion or a removal, and its entries.
use Rattle.std.proofs.Common.{◌≡◌, ◌≢◌, ◌⊎◌, Bool, true, false, Some, None, Ordering, nat_cmp, refl, sym, ap, ◌∙◌, subst, inl, inr, true≢false, ℕ, Option, cond, List, [], ◌∷◌}
use Rattle.std.specs.Ordering.{eq_by_cmp, is_lt, is_eq}
use Rattle.std.specs.Cmp.{IsTotalOrder, eq_by_cmp_equiv, nat_cmp_total}
use Rattle.std.specs.Cmp.Lexicographic.{slice_cmp}
use Rattle.std.specs.FinMap.{FinMap, IsAntisymmetric, nat_cmp-IsAntisymmetric, slice_cmp-IsAntisymmetric}
use Rattle.std.proofs.lemmas.Bool.{cond-true, cond-false}
use Rattle.std.proofs.lemmas.Option.{same_Some, none-some}
use Rattle.std.specs.Prelude.{T, ◌&&◌}
use Rattle.std.specs.declared.cmp.Ordering.TheVariants.{Less, Equal, Greater}
use Rattle.std.specs.FinMap.Entries.{find, is_sorted, below_all}
use Rattle.std.specs.FinMap as fin
use Rattle.esr_core.specs.Laws.NumberMaps.{tied, some_none}
use Rattle.esr_model.specs.Values.{Has}
use Rattle.esr_core.specs.World.{Op, Deletion, Ticket}

module _ {K : Type 0} {R : K → K → Ordering} (o : IsTotalOrder R) (same : IsAntisymmetric R) where
  pub split : (p q : K) → (p ≡ q) ⊎ ((p ≢ q) × (eq_by_cmp R p q ≡ false))
  split p q = go (eq_by_cmp R p q) refl
    where
      go : (b : Bool) → eq_by_cmp R p q ≡ b → (p ≡ q) ⊎ ((p ≢ q) × (eq_by_cmp R p q ≡ false))
      go true e = inl (same p q (tied (R p q) e))
      go false e = inr ((λ (x : p ≡ q). true≢false (sym (subst (λ k. eq_by_cmp R p k ≡ true) x ((eq_by_cmp_equiv o).refl p)) ∙ e)), e)

module _ {K X : Type 0} {R : K → K → Ordering} (o : IsTotalOrder R) (same : IsAntisymmetric R) where
  pub get_same : (m : FinMap R X) (k : K) (v : X) → fin.get (fin.insert m k v) k ≡ Some v
  get_same m k v = fin.get-insert o m k v k ∙ cond-true _ _ _ ((eq_by_cmp_equiv o).refl k)

  pub get_other : (m : FinMap R X) (k : K) (v : X) (q : K) → q ≢ k → fin.get (fin.insert m k v) q ≡ fin.get m q
  get_other m k v q apart = elim (split o same q k) [ inl e ↦ absurd (apart e) | inr e ↦ fin.get-insert o m k v q ∙ cond-false _ _ _ e.1 ]

  -- what it has was put, or was there
  pub get_was : (m : FinMap R X) (k : K) (v : X) (q : K) (x : X) → fin.get (fin.insert m k v) q ≡ Some x → ((q ≡ k) × (v ≡ x)) ⊎ ((q ≢ k) × (fin.get m q ≡ Some x))
  get_was m k v q x e = elim (split o same q k) [
    | inl s ↦ inl (s, same_Some v x (sym (get_same m k v) ∙ ap (fin.get (fin.insert m k v)) (sym s) ∙ e))
    | inr s ↦ inr (s.0, sym (get_other m k v q s.0) ∙ e)
  ]

  -- an insertion at an absent key takes nothing away
  pub get_kept : (m : FinMap R X) (k : K) (v : X) (q : K) (x : X) → fin.get m k ≡ None → fin.get m q ≡ Some x → fin.get (fin.insert m k v) q ≡ Some x
  get_kept m k v q x none e = elim (split o same q k) [
    | inl s ↦ absurd (some_none x (sym e ∙ ap (fin.get m) s ∙ none))
    | inr s ↦ get_other m k v q s.0 ∙ e
  ]

  -- what is left after a removal
  pub get_left : (m : FinMap R X) (k q : K) (x : X) → fin.get (fin.remove m k) q ≡ Some x → (q ≢ k) × (fin.get m q ≡ Some x)
  get_left m k q x e = elim (split o same q k) [
    | inl s ↦ absurd (some_none x (sym e ∙ fin.get-remove o m k q ∙ cond-true _ _ _ (subst (λ z. eq_by_cmp R q z ≡ true) s ((eq_by_cmp_equiv o).refl q))))
    | inr s ↦ (s.0, sym (cond-false (eq_by_cmp R q k) None (fin.get m q) s.1) ∙ sym (fin.get-remove o m k q) ∙ e)
  ]

  -- what another key has stays
  pub get_stays : (m : FinMap R X) (k q : K) → q ≢ k → fin.get (fin.remove m k) q ≡ fin.get m q
  get_stays m k q apart = elim (split o same q k) [ inl s ↦ absurd (apart s) | inr s ↦ fin.get-remove o m k q ∙ cond-false _ _ _ s.1 ]

pub texts_same : IsAntisymmetric (slice_cmp nat_cmp)
texts_same = slice_cmp-IsAntisymmetric nat_cmp-IsAntisymmetric

pub nothing : {A : Type 0} (k : ℕ) (x : A) → fin.get (fin.empty {R = nat_cmp}) k ≡ Some x → ⊥
nothing k x e = none_some x (sym (fin.get-empty nat_cmp k) ∙ e)
  where
    none_some : {A : Type 0} (x : A) → ◌≡◌ {A = Option A} None (Some x) → ⊥
    none_some x e = cc

first : (a b : Bool) → T (a && b) → T a
first true b p = tt
first false b p = p

second : (a b : Bool) → T (a && b) → T b
second true b p = p
second false b p = absurd p

not_both : (r : Ordering) → T (is_lt r) → is_eq r ≡ true → ⊥
not_both Less a e = true≢false (sym e)
not_both Equal a e = a
not_both Greater a e = a

not_below : (k : ℕ) → T (is_lt (nat_cmp k k)) → ⊥
not_below k h = not_both (nat_cmp k k) h ((eq_by_cmp_equiv nat_cmp_total).refl k)

module _ {X : Type 0} where
  below_member : (q k : ℕ) (v : X) (es : List (ℕ × X)) → T (below_all nat_cmp q es) → Has es (k, v) → T (is_lt (nat_cmp q k))
  below_member q k v [] h m = absurd m
  below_member q k v (e ∷ es) h (inl same) = subst (λ (p : ℕ × X). T (is_lt (nat_cmp q p.0))) same (first _ _ h)
  below_member q k v (e ∷ es) h (inr m) = below_member q k v es (second _ _ h) m

  member_found : (k : ℕ) (v : X) (es : List (ℕ × X)) → T (is_sorted nat_cmp es) → Has es (k, v) → find nat_cmp k es ≡ Some v
  member_found k v [] h m = absurd m
  member_found k v (e ∷ es) h (inl same) =
      ap (λ b. cond b (Some e.1) (find nat_cmp k es)) (subst (λ (p : ℕ × X). eq_by_cmp nat_cmp k p.0 ≡ true) (sym same) ((eq_by_cmp_equiv nat_cmp_total).refl k)) ∙ ap (λ (p : ℕ × X). Some p.1) same
  member_found k v (e ∷ es) h (inr m) = elim (split nat_cmp_total nat_cmp-IsAntisymmetric k e.0) [
    | inl same ↦ absurd (not_below k (subst (λ q. T (is_lt (nat_cmp q k))) (sym same) (below_member e.0 k v es (first _ _ h) m)))
    | inr other ↦ ap (λ b. cond b (Some e.1) (find nat_cmp k es)) other.1 ∙ member_found k v es (second _ _ h) m
  ]

  -- an entry of a map is found under its key
  pub entry_got : (m : FinMap nat_cmp X) (k : ℕ) (v : X) → Has (fin.entries m) (k, v) → fin.get m k ≡ Some v
  entry_got m k v h = fin.get-entries m k ∙ member_found k v (fin.entries m) (fin.entries_sorted m) h

  pub found_member : (k : ℕ) (v : X) (es : List (ℕ × X)) → find nat_cmp k es ≡ Some v → Has es (k, v)
  found_member k v [] e = absurd (none-some v e)
  found_member k v (x ∷ es) e = elim (split nat_cmp_total nat_cmp-IsAntisymmetric k x.0) [
    | inl same ↦
        let tied : eq_by_cmp nat_cmp k x.0 ≡ true = subst (λ q. eq_by_cmp nat_cmp k q ≡ true) same ((eq_by_cmp_equiv nat_cmp_total).refl k) in
        let value : x.1 ≡ v = same_Some _ _ (sym (ap (λ b. cond b (Some x.1) (find nat_cmp k es)) tied) ∙ e) in
        inl (λ i. (sym same i, value i))
    | inr other ↦ inr (found_member k v es (sym (ap (λ b. cond b (Some x.1) (find nat_cmp k es)) other.1) ∙ e))
  ]

  pub got_entry : (m : FinMap nat_cmp X) (k : ℕ) (v : X) → fin.get m k ≡ Some v → Has (fin.entries m) (k, v)
  got_entry m k v e = found_member k v (fin.entries m) (sym (fin.get-entries m k) ∙ e)

abbrev pub Ops : Type 0
Ops = FinMap nat_cmp Op

abbrev pub Deletes : Type 0
Deletes = FinMap nat_cmp Deletion

abbrev pub Tickets : Type 0
Tickets = FinMap nat_cmp Ticket
