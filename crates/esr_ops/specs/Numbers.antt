-- Laws of entries whose numbers rise.
use Rattle.std.proofs.Common.{◌≡◌, ℕ, suc, ◌<◌, ◌≤◌, Bool, true, false, cond, eqb, ◌&&◌, List, [], ◌∷◌, ◌++◌, Option, Some, None, refl, sym, ap, ◌∙◌, subst, inl, inr, arith, nat_cmp, T, Less, Equal, Greater}
use Rattle.std.specs.Ordering.{is_lt}
use Rattle.std.specs.FinMap as fin
use Rattle.std.specs.FinMap.Entries.{below_all}
use Rattle.std.proofs.lemmas.Bool.Decides.{Decides-ltb}
use Rattle.std.proofs.lemmas.List.{map-append}
use Rattle.esr_model.specs.Lists.{Has-either, Has-map}
use Rattle.esr_model.specs.Values.{Has}
use Rattle.esr_ops.specs.Inside.{numbers_of, Rise, AreNumbers}
use Rattle.esr_ops.specs.Entries.{get_from, same_maps, find-here, find-past, find-member}

-- ---- the numbers after a change

pub Rise-push : (ks : List ℕ) (k : ℕ) → Rise ks → ((n : ℕ) → Has ks n → n < k) → Rise (ks ++ k ∷ [])
Rise-push [] k r h = ((λ n m. absurd m), tt)
Rise-push (j ∷ ks) k r h = ((λ n m. elim (Has-either ks (k ∷ []) n m) [ inl a ↦ r.0 n a | inr b ↦ elim b [ inl e ↦ subst (λ (z : ℕ). j < z) e (h j (inl refl)) | inr c ↦ absurd c ] ]), Rise-push ks k r.1 (λ n m. h n (inr m)))

pub AreNumbers-next : (ns : List ℕ) (n m : ℕ) → n ≤ m → AreNumbers ns n → AreNumbers ns m
AreNumbers-next ns n m le h = record { rise = h.rise; least = h.least; below = λ k there. let lt = h.below k there in omega arith }

both : (a b : Bool) → T a → T b → T (a && b)
both true b p q = q
both false b p q = p

less : (x y : ℕ) → x < y → T (is_lt (nat_cmp x y))
less x y lt = subst (λ b. T (is_lt (cond b Less (cond (eqb x y) Equal Greater)))) (sym ((Decides-ltb x y).1 lt)) tt

module _ {A : Type 0} where
  pub numbers-push : (es : List (ℕ × A)) (next : ℕ) (v : A) → 1 ≤ next → AreNumbers (numbers_of es) next → AreNumbers (numbers_of (es ++ (next, v) ∷ [])) (suc next)
  numbers-push es next v first h =
      let is : numbers_of (es ++ (next, v) ∷ []) ≡ numbers_of es ++ next ∷ [] = map-append (λ (e : ℕ × A). e.0) es ((next, v) ∷ []) in
      subst (λ ns. AreNumbers ns (suc next)) (sym is) (record {
        rise = Rise-push _ next h.rise h.below;
        least = λ n m. elim (Has-either (numbers_of es) (next ∷ []) n m) [ inl a ↦ h.least n a | inr b ↦ elim b [ inl e ↦ subst (λ (z : ℕ). 1 ≤ z) e first | inr c ↦ absurd c ] ];
        below = λ n m. elim (Has-either (numbers_of es) (next ∷ []) n m) [ inl a ↦ let lt = h.below n a in omega arith | inr b ↦ elim b [ inl e ↦ omega (arith, e) | inr c ↦ absurd c ] ];
      })

  -- ---- as maps

  lowest : (x : ℕ) (es : List (ℕ × A)) → ((n : ℕ) → Has (numbers_of es) n → x < n) → T (below_all nat_cmp x es)
  lowest x [] h = tt
  lowest x (e ∷ es) h = both _ _ (less x e.0 (h e.0 (inl refl))) (lowest x es (λ n m. h n (inr m)))

  sorted : (es : List (ℕ × A)) → Rise (numbers_of es) → T (fin.is_sorted nat_cmp es)
  sorted [] r = tt
  sorted (e ∷ es) r = both _ _ (lowest e.0 es r.0) (sorted es r.1)

  pub entries_from : (es : List (ℕ × A)) → Rise (numbers_of es) → fin.entries (fin.from_entries {R = nat_cmp} es) ≡ es
  entries_from es r = ap fin.entries (same_maps _ _ (λ q. get_from es q ∙ sym (fin.get-from_sorted nat_cmp es q (sorted es r)))) ∙ fin.entries-from_sorted nat_cmp es (sorted es r)

  -- an entry is what is found at its key
  pub found_member : (es : List (ℕ × A)) → Rise (numbers_of es) → (e : ℕ × A) → Has es e → fin.find nat_cmp e.0 es ≡ Some e.1
  found_member [] r e m = absurd m
  found_member (x ∷ es) r e (inl is) = find-here e.0 x es (ap (λ (z : ℕ × A). z.0) is) ∙ ap (λ (z : ℕ × A). Some z.1) is
  found_member (x ∷ es) r e (inr m) =
      let above : x.0 < e.0 = r.0 e.0 (Has-map (λ (z : ℕ × A). z.0) es e m) in
      find-past e.0 x es (λ s. absurd (omega (arith, s))) ∙ found_member es r.1 e m

  -- no number that is free is found
  pub found_below : (es : List (ℕ × A)) (next : ℕ) → AreNumbers (numbers_of es) next → fin.find nat_cmp next es ≡ None
  found_below es next h = go (fin.find nat_cmp next es) refl
    where
      go : (o : Option A) → fin.find nat_cmp next es ≡ o → fin.find nat_cmp next es ≡ None
      go None e = e
      go (Some v) e = let lt = h.below next (Has-map (λ (z : ℕ × A). z.0) es (next, v) (find-member next es v e)) in absurd (omega arith)
