-- A list without repetitions is no longer than one that has all of it.
use Rattle.std.proofs.Common.{◌≡◌, ℕ, suc, ◌≤◌, List, [], ◌∷◌, ◌++◌, length, refl, sym, ap, ◌∙◌, subst, inl, inr, arith}
use Rattle.esr_model.specs.Values.{Has}
use Rattle.esr_core.specs.Restores.{AreOnce}

-- where a member stands
pub record Stands {A : Type 0} (ys : List A) (x : A) : Type 0 where
  pub front : List A
  pub back : List A
  pub is : ys ≡ front ++ x ∷ back

pub stands : {A : Type 0} (ys : List A) (x : A) → Has ys x → Stands ys x
stands [] x h = absurd h
stands (y ∷ ys) x (inl e) = record { front = []; back = ys; is = ap (λ z. z ∷ ys) e }
stands (y ∷ ys) x (inr h) = let s = stands ys x h in record { front = y ∷ s.front; back = s.back; is = ap (λ l. y ∷ l) s.is }

-- without it
pub beside : {A : Type 0} (front back : List A) (x z : A) → Has (front ++ x ∷ back) z → (x ≡ z → ⊥) → Has (front ++ back) z
beside [] back x z (inl e) other = absurd (other e)
beside [] back x z (inr h) other = h
beside (y ∷ front) back x z (inl e) other = inl e
beside (y ∷ front) back x z (inr h) other = inr (beside front back x z h other)

one_less : {A : Type 0} (front back : List A) (x : A) → length (front ++ x ∷ back) ≡ suc (length (front ++ back))
one_less [] back x = refl
one_less (y ∷ front) back x = ap suc (one_less front back x)

up_one : (a b c : ℕ) → a ≤ b → c ≡ suc b → suc a ≤ c
up_one a b c h e = let less : a ≤ b = h in let is : c ≡ suc b = e in omega (arith, less, is)

pub zero_le : (n : ℕ) → 0 ≤ n
zero_le n = omega arith

pub few_once : {A : Type 0} (xs ys : List A) → AreOnce xs → ((x : A) → Has xs x → Has ys x) → length xs ≤ length ys
few_once [] ys once among = zero_le (length ys)
few_once (x ∷ xs) ys once among =
    let s = stands ys x (among x (inl refl)) in
    up_one (length xs) (length (s.front ++ s.back)) (length ys)
    (few_once xs (s.front ++ s.back) once.1 (λ z h. beside s.front s.back x z (subst (λ l. Has l z) s.is (among z (inr h))) (λ e. once.0 (subst (Has xs) (sym e) h))))
    (ap length s.is ∙ one_less s.front s.back x)
