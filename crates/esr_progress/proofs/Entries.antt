-- Maps by their lists of entries.
use Rattle.std.proofs.Common.{◌≡◌, ◌≢◌, ℕ, zero, suc, ◌<◌, Bool, true, false, cond, eqb, List, [], ◌∷◌, Option, Some, None, length, get_or, refl, sym, ap, ◌∙◌, inl, inr, true≢false, arith, slice_get, nat_cmp}
use Rattle.std.specs.Prelude.{not}
use Rattle.std.specs.List.{position, filter}
use Rattle.std.specs.FinMap as fin
use Rattle.std.proofs.lemmas.Bool.Decides.{eqb_tells}
use Rattle.std.proofs.lemmas.List.Quantifiers.{position-Some}
use Rattle.std.proofs.Math.ListN.{set}
use Rattle.esr_model.specs.Values.{Has}
use Rattle.esr_ops.specs.Entries.{find-past, eqb_is, find-cons, find-here, get_from, get_put, same_maps, get_left}
use Rattle.esr_ops.specs.Lists.{position-None}

module _ {A : Type 0} where
  pub find-none : (q : ℕ) (es : List (ℕ × A)) → ((e : ℕ × A) → Has es e → e.0 ≢ q) → fin.find nat_cmp q es ≡ None
  find-none q [] h = refl
  find-none q (e ∷ es) h = find-past q e es (h e (inl refl)) ∙ find-none q es (λ x m. h x (inr m))

  -- ---- by the place of a key

  -- the first entry with this key
  pub record FirstAt (es : List (ℕ × A)) (k i : ℕ) : Type 0 where
    pub e : ℕ × A
    pub there : slice_get es i ≡ Some e
    pub key : e.0 ≡ k
    pub found : fin.find nat_cmp k es ≡ Some e.1
    pub set_is : (v : A) (q : ℕ) → fin.find nat_cmp q (set es i (k, v)) ≡ cond (eqb q k) (Some v) (fin.find nat_cmp q es)

  shadows : (b : Bool) (v w z : Option A) → cond b v z ≡ cond b v (cond b w z)
  shadows true v w z = refl
  shadows false v w z = refl

  swaps : (a b : Bool) (v w z : Option A) → (a ≡ true → b ≡ true → ⊥) → cond a v (cond b w z) ≡ cond b w (cond a v z)
  swaps true true v w z apart = absurd (apart refl refl)
  swaps a b v w z apart = refl

  pub first_at : (es : List (ℕ × A)) (k i : ℕ) (d : ℕ × A) → i < length es → (get_or es i d).0 ≡ k → ((j : ℕ) → j < i → (get_or es j d).0 ≢ k) → FirstAt es k i
  first_at [] k i d lt key before = absurd (omega arith)
  first_at (e ∷ es) k zero d lt key before = record {
    e = e;
    there = refl;
    key = key;
    found = find-here k e es key;
    set_is = λ v q. find-cons q (k, v) es ∙ shadows (eqb q k) (Some v) (Some e.1) (fin.find nat_cmp q es)
        ∙ ap (λ z. cond (eqb q k) (Some v) (cond (eqb q z) (Some e.1) (fin.find nat_cmp q es))) (sym key) ∙ ap (cond (eqb q k) (Some v)) (sym (find-cons q e es));
  }
  first_at (e ∷ es) k (suc i) d lt key before =
      let rest = first_at es k i d (omega arith) key (λ j m. before (suc j) (omega arith)) in
      let apart : e.0 ≢ k = before 0 (omega arith) in
      record {
        e = rest.e;
        there = rest.there;
        key = rest.key;
        found = find-past k e es apart ∙ rest.found;
        set_is = λ v q. find-cons q e (set es i (k, v)) ∙ ap (cond (eqb q e.0) (Some e.1)) (rest.set_is v q)
            ∙ swaps (eqb q e.0) (eqb q k) (Some e.1) (Some v) (fin.find nat_cmp q es) (λ a b. apart (sym (eqb_is q e.0 a) ∙ eqb_is q k b)) ∙ ap (cond (eqb q k) (Some v)) (sym (find-cons q e es));
      }

  none_here : (b : Bool) (k : ℕ) (es : List (ℕ × A)) (i : ℕ) (d : ℕ × A) → eqb (get_or es i d).0 k ≡ false → (get_or es i d).0 ≢ k
  none_here b k es i d e is = elim (eqb_tells (get_or es i d).0 k) [ inl t ↦ true≢false (sym t.0 ∙ e) | inr t ↦ t.1 is ]

  -- the entry at the place of a key
  pub position_found : (es : List (ℕ × A)) (k i : ℕ) (d : ℕ × A) → position (λ e. eqb e.0 k) es ≡ Some i → FirstAt es k i
  position_found es k i d e =
      let (lt, here, before) = position-Some (λ (x : ℕ × A). eqb x.0 k) es i d e in
      first_at es k i d lt (eqb_is _ _ here) (λ j m. none_here true k es j d (before j m))

  pub position_missed : (es : List (ℕ × A)) (k : ℕ) → position (λ e. eqb e.0 k) es ≡ None → fin.find nat_cmp k es ≡ None
  position_missed es k e = find-none k es (λ x m is. elim (eqb_tells x.0 k) [ inl t ↦ true≢false (sym t.0 ∙ position-None (λ (y : ℕ × A). eqb y.0 k) es e x m) | inr t ↦ t.1 is ])

  pub from_set : (es : List (ℕ × A)) (k i : ℕ) (v : A) → FirstAt es k i → fin.from_entries {R = nat_cmp} (set es i (k, v)) ≡ fin.insert (fin.from_entries es) k v
  from_set es k i v at = same_maps _ _ (λ q. get_from _ q ∙ at.set_is v q ∙ sym (get_put _ k v q ∙ ap (cond (eqb q k) (Some v)) (get_from es q)))

  find-filter : (k q : ℕ) (es : List (ℕ × A)) → fin.find nat_cmp q (filter (λ e. not (eqb e.0 k)) es) ≡ cond (eqb q k) None (fin.find nat_cmp q es)
  find-filter k q [] = elim (eqb q k) as (λ b. ◌≡◌ {A = Option A} None (cond b None None)) [ true ↦ refl | false ↦ refl ]
  find-filter k q (e ∷ es) = elim (eqb_tells e.0 k) [
    | inl t ↦ ap (λ b. fin.find nat_cmp q (cond (not b) (e ∷ filter (λ x. not (eqb x.0 k)) es) (filter (λ x. not (eqb x.0 k)) es))) t.0 ∙ find-filter k q es
        ∙ elim (eqb_tells q k) [
          | inl u ↦ ap (λ b. cond b None (fin.find nat_cmp q es)) u.0 ∙ sym (ap (λ b. cond b None (fin.find nat_cmp q (e ∷ es))) u.0)
          | inr u ↦ ap (cond (eqb q k) None) (sym (find-past q e es (λ s. u.1 (sym s ∙ t.1))))
        ]
    | inr t ↦ ap (λ b. fin.find nat_cmp q (cond (not b) (e ∷ filter (λ x. not (eqb x.0 k)) es) (filter (λ x. not (eqb x.0 k)) es))) t.0
        ∙ find-cons q e _ ∙ ap (cond (eqb q e.0) (Some e.1)) (find-filter k q es)
        ∙ swaps (eqb q e.0) (eqb q k) (Some e.1) None (fin.find nat_cmp q es) (λ a b. t.1 (sym (eqb_is q e.0 a) ∙ eqb_is q k b)) ∙ ap (cond (eqb q k) None) (sym (find-cons q e es))
  ]

  pub from_filter : (es : List (ℕ × A)) (k : ℕ) → fin.from_entries {R = nat_cmp} (filter (λ e. not (eqb e.0 k)) es) ≡ fin.remove (fin.from_entries es) k
  from_filter es k = same_maps _ _ (λ q. get_from _ q ∙ find-filter k q es ∙ sym (get_left _ k q ∙ ap (cond (eqb q k) None) (get_from es q)))
