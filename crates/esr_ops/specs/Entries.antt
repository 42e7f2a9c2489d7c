-- Laws of maps by their lists of entries.
use Rattle.std.proofs.Common.{◌≡◌, ◌≢◌, ℕ, true, false, cond, eqb, List, [], ◌∷◌, ◌++◌, Some, None, sym, ap, ◌∙◌, inl, inr, true≢false, nat_cmp}
use Rattle.std.specs.Cmp.{nat_cmp_total, unsigned_tied}
use Rattle.std.specs.FinMap.{FinMap, nat_cmp-IsAntisymmetric}
use Rattle.std.specs.FinMap as fin
use Rattle.std.proofs.lemmas.Bool.Decides.{eqb_tells}
use Rattle.std.proofs.lemmas.Option.{same_Some, none-some}
use Rattle.esr_model.specs.Values.{Has}

pub eqb_is : (a b : ℕ) → eqb a b ≡ true → a ≡ b
eqb_is a b e = elim (eqb_tells a b) [ inl t ↦ t.1 | inr t ↦ absurd (true≢false (sym e ∙ t.0)) ]

module _ {A : Type 0} where
  -- a look-up at the first entry, and past it
  pub find-cons : (q : ℕ) (e : ℕ × A) (es : List (ℕ × A)) → fin.find nat_cmp q (e ∷ es) ≡ cond (eqb q e.0) (Some e.1) (fin.find nat_cmp q es)
  find-cons q e es = ap (λ b. cond b (Some e.1) (fin.find nat_cmp q es)) (unsigned_tied q e.0)

  pub find-here : (q : ℕ) (e : ℕ × A) (es : List (ℕ × A)) → e.0 ≡ q → fin.find nat_cmp q (e ∷ es) ≡ Some e.1
  find-here q e es is = find-cons q e es ∙ elim (eqb_tells q e.0) [ inl t ↦ ap (λ b. cond b (Some e.1) (fin.find nat_cmp q es)) t.0 | inr t ↦ absurd (t.1 (sym is)) ]

  pub find-past : (q : ℕ) (e : ℕ × A) (es : List (ℕ × A)) → e.0 ≢ q → fin.find nat_cmp q (e ∷ es) ≡ fin.find nat_cmp q es
  find-past q e es apart = find-cons q e es ∙ elim (eqb_tells q e.0) [ inl t ↦ absurd (apart (sym t.1)) | inr t ↦ ap (λ b. cond b (Some e.1) (fin.find nat_cmp q es)) t.0 ]

  -- what is found is an entry
  pub find-member : (q : ℕ) (es : List (ℕ × A)) (v : A) → fin.find nat_cmp q es ≡ Some v → Has es (q, v)
  find-member q [] v e = absurd (none-some v e)
  find-member q (x ∷ es) v e = elim (eqb_tells q x.0) [
    | inl t ↦ inl (λ i. (sym t.1 i, same_Some x.1 v (sym (find-here q x es (sym t.1)) ∙ e) i))
    | inr t ↦ inr (find-member q es v (sym (find-past q x es (λ s. t.1 (sym s))) ∙ e))
  ]

  -- ---- as maps

  pub get_from : (es : List (ℕ × A)) (q : ℕ) → fin.get (fin.from_entries {R = nat_cmp} es) q ≡ fin.find nat_cmp q es
  get_from es q = fin.get-from_entries nat_cmp_total es q

  pub get_put : (m : FinMap nat_cmp A) (k : ℕ) (v : A) (q : ℕ) → fin.get (fin.insert m k v) q ≡ cond (eqb q k) (Some v) (fin.get m q)
  get_put m k v q = fin.get-insert nat_cmp_total m k v q ∙ ap (λ b. cond b (Some v) (fin.get m q)) (unsigned_tied q k)

  pub same_maps : (m n : FinMap nat_cmp A) → ((q : ℕ) → fin.get m q ≡ fin.get n q) → m ≡ n
  same_maps m n h = fin.same_map nat_cmp_total nat_cmp-IsAntisymmetric m n h

  pub from_push : (es : List (ℕ × A)) (k : ℕ) (v : A) → fin.find nat_cmp k es ≡ None → fin.from_entries {R = nat_cmp} (es ++ (k, v) ∷ []) ≡ fin.insert (fin.from_entries es) k v
  from_push es k v none = fin.from_entries_push nat_cmp_total nat_cmp-IsAntisymmetric es k v none

  pub get_left : (m : FinMap nat_cmp A) (k q : ℕ) → fin.get (fin.remove m k) q ≡ cond (eqb q k) None (fin.get m q)
  get_left m k q = fin.get-remove nat_cmp_total m k q ∙ ap (λ b. cond b None (fin.get m q)) (unsigned_tied q k)
