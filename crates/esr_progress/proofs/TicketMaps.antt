-- The maps of the tickets that are out, by their lists.
use Rattle.std.proofs.Common.{◌≡◌, ℕ, ◌+◌, ◌≤◌, eqb, List, [], ◌∷◌, ◌++◌, Some, None, get_or, sym, ap, ◌∙◌, subst, add-one, arith, nat_cmp}
use Rattle.std.specs.List.{position}
use Rattle.std.specs.FinMap as fin
use Rattle.std.proofs.lemmas.Option.{get_or_from_slice_get}
use Rattle.std.proofs.Math.ListN.{set}
use Rattle.esr_ops.specs.Inside.{numbers_of, AreNumbers}
use Rattle.esr_ops.specs.Entries.{get_from, from_push}
use Rattle.esr_ops.specs.Numbers.{AreNumbers-next, numbers-push, found_below}
use Rattle.esr_progress.proofs.Entries.{FirstAt, position_missed, position_found, from_set}
use Rattle.esr_progress.proofs.Numbers.{numbers-set}

module _ {A : Type 0} (es : List (ℕ × A)) where
  -- ---- what is kept under a number

  pub missed : (k : ℕ) → position (λ e. eqb e.0 k) es ≡ None → fin.get (fin.from_entries {R = nat_cmp} es) k ≡ None
  missed k e = get_from es k ∙ position_missed es k e

  pub found : (k i : ℕ) (x : ℕ × A) → position (λ e. eqb e.0 k) es ≡ Some i → x ≡ get_or es i x → fin.get (fin.from_entries {R = nat_cmp} es) k ≡ Some x.1
  found k i x e is =
      let at = position_found es k i x e in
      get_from es k ∙ at.found ∙ ap (λ (z : ℕ × A). Some z.1) (sym (is ∙ get_or_from_slice_get es i at.e x at.there))

  -- ---- given anew

  module _ (k i : ℕ) (x new : ℕ × A) (v : A) (e : position (λ e. eqb e.0 k) es ≡ Some i) (x_is : x ≡ get_or es i x) (new_is : new ≡ (x.0, v)) where
    at : FirstAt es k i
    at = position_found es k i x e

    entry_is : new ≡ (k, v)
    entry_is = new_is ∙ (λ j. (((x_is ∙ get_or_from_slice_get es i at.e x at.there) j).0, v)) ∙ (λ j. (at.key j, v))

    pub put_is : fin.from_entries {R = nat_cmp} (set es i new) ≡ fin.insert (fin.from_entries es) k v
    put_is = ap (λ (z : ℕ × A). fin.from_entries {R = nat_cmp} (set es i z)) entry_is ∙ from_set es k i v at

    pub put_numbers : (next : ℕ) → AreNumbers (numbers_of es) next → AreNumbers (numbers_of (set es i new)) next
    put_numbers next h = subst (λ ns. AreNumbers ns next) (sym (ap (λ (z : ℕ × A). numbers_of (set es i z)) entry_is ∙ numbers-set es k i v at)) h

  -- ---- one more

  pub push_is : (next k : ℕ) (v : A) (new : List (ℕ × A)) → AreNumbers (numbers_of es) next → k ≡ next → new ≡ es ++ (k, v) ∷ [] → fin.from_entries {R = nat_cmp} new ≡ fin.insert (fin.from_entries es) next v
  push_is next k v new h is pushed =
      ap (λ (xs : List (ℕ × A)). fin.from_entries {R = nat_cmp} xs) (pushed ∙ λ j. es ++ (is j, v) ∷ []) ∙ from_push es next v (found_below es next h)

  pub push_numbers : (next k : ℕ) (v : A) (new : List (ℕ × A)) → 1 ≤ next → AreNumbers (numbers_of es) next → k ≡ next → new ≡ es ++ (k, v) ∷ [] → AreNumbers (numbers_of new) (next + 1)
  push_numbers next k v new first h is pushed =
      subst (λ (xs : List (ℕ × A)). AreNumbers (numbers_of xs) (next + 1)) (sym (pushed ∙ λ j. es ++ (is j, v) ∷ []))
      (subst (λ (n : ℕ). AreNumbers (numbers_of (es ++ (next, v) ∷ [])) n) (sym (add-one next)) (numbers-push es next v first h))

  pub stay_numbers : (next : ℕ) → AreNumbers (numbers_of es) next → AreNumbers (numbers_of es) (next + 1)
  stay_numbers next h = AreNumbers-next (numbers_of es) next (next + 1) (omega arith) h
