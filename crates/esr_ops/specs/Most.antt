-- Laws of the largest number of which something holds.
use Rattle.std.proofs.Common.{◌≡◌, ◌⊎◌, ℕ, ◌+◌, ◌-◌, ◌<◌, ◌≤◌, List, [], ◌∷◌, ◌++◌, Option, Some, None, length, get_or, take, refl, sym, subst, inl, inr, arith}
use Rattle.std.specs.Prelude.{max}
use Rattle.std.proofs.lemmas.Bool.{cases_lt}
use Rattle.std.proofs.lemmas.List.{take_more}
use Rattle.esr_model.specs.Lists.{Has-left, Has-right, Has-either}
use Rattle.esr_ops.specs.Ops.{IsMost, Among, later_of}

-- ---- the largest of many

pub most_either : (P Q : ℕ → Type 0) (a b : Option ℕ) → IsMost P a → IsMost Q b → IsMost (λ g. P g ⊎ Q g) (later_of a b)
most_either P Q None None p q = λ g h. elim h [ inl x ↦ p g x | inr y ↦ q g y ]
most_either P Q None (Some b) p q = (inr q.0, λ g h. elim h [ inl x ↦ absurd (p g x) | inr y ↦ q.1 g y ])
most_either P Q (Some a) None p q = (inl p.0, λ g h. elim h [ inl x ↦ p.1 g x | inr y ↦ absurd (q g y) ])
most_either P Q (Some a) (Some b) p q = go (cases_lt a b)
  where
    go : (a < b) ⊎ (b ≤ a) → IsMost (λ g. P g ⊎ Q g) (Some (max a b))
    go (inl lt) = let is : max a b ≡ b = omega arith in (inr (subst Q (sym is) q.0), λ g h. elim h [ inl x ↦ (let le = p.1 g x in omega arith) | inr y ↦ (let le = q.1 g y in omega arith) ])
    go (inr le) = let is : max a b ≡ a = omega arith in (inl (subst P (sym is) p.0), λ g h. elim h [ inl x ↦ (let l = p.1 g x in omega arith) | inr y ↦ (let l = q.1 g y in omega arith) ])

pub most_like : (P Q : ℕ → Type 0) (a : Option ℕ) → ((g : ℕ) → P g → Q g) → ((g : ℕ) → Q g → P g) → IsMost P a → IsMost Q a
most_like P Q None to back p = λ g h. p g (back g h)
most_like P Q (Some a) to back p = (to a p.0, λ g h. p.1 g (back g h))

module _ {A : Type 0} (P : A → ℕ → Type 0) where
  -- one element more
  pub most_more : (xs : List A) (i : ℕ) (d : A) (a b : Option ℕ) → i < length xs → IsMost (Among (take i xs) P) a → IsMost (P (get_or xs i d)) b → IsMost (Among (take (i + 1) xs) P) (later_of a b)
  most_more xs i d a b lt p q = most_like _ _ (later_of a b) to back (most_either (Among (take i xs) P) (P (get_or xs i d)) a b p q)
    where
      is : take (i + 1) xs ≡ take i xs ++ get_or xs i d ∷ []
      is = take_more xs i d lt

      to : (g : ℕ) → Among (take i xs) P g ⊎ P (get_or xs i d) g → Among (take (i + 1) xs) P g
      to g (inl h) = subst (λ ys. Among ys P g) (sym is) (h.0, Has-left (take i xs) _ h.0 h.1, h.2)
      to g (inr h) = subst (λ ys. Among ys P g) (sym is) (get_or xs i d, Has-right (take i xs) _ (get_or xs i d) (inl refl), h)

      back : (g : ℕ) → Among (take (i + 1) xs) P g → Among (take i xs) P g ⊎ P (get_or xs i d) g
      back g h0 =
          let h : Among (take i xs ++ get_or xs i d ∷ []) P g = subst (λ ys. Among ys P g) is h0 in
          elim (Has-either (take i xs) (get_or xs i d ∷ []) h.0 h.1) [ inl m ↦ inl (h.0, m, h.2) | inr m ↦ elim m [ inl e ↦ inr (subst (λ x. P x g) (sym e) h.2) | inr n ↦ absurd n ] ]
