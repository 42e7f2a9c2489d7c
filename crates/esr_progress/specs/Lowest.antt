-- Laws of the lowest number of two kinds.
use Rattle.std.proofs.Common.{◌≡◌, ◌⊎◌, ℕ, ◌<◌, ◌≤◌, Bool, true, false, cond, Option, Some, None, refl, sym, ◌∙◌, inl, inr, true≢false, arith}
use Rattle.std.specs.Prelude.{IfOk, Result, Ok, Err}
use Rattle.std.proofs.lemmas.Bool.{cases_lt}
use Rattle.std.proofs.lemmas.Bool.Decides.{Decides-ltb}
use Rattle.esr_ops.specs.Units.{IsLowest}
use Rattle.esr_progress.specs.Choice.{is_before, lower_of}

-- what holds of an answer that isn't an error
pub ok_maps : {A E : Type 0} {P Q : A → Type 0} (r : Result A E) → IfOk r P → ((x : A) → P x → Q x) → IfOk r Q
ok_maps (Ok x) h f = f x h
ok_maps (Err e) h f = h

-- neither comes below the other
reaches : (P : ℕ → Type 0) (o p : ℕ) → ((q : ℕ) → q < o → P q → ⊥) → P p → o ≤ p
reaches P o p below h = elim (cases_lt p o) [ inl lt ↦ absurd (below p lt h) | inr le ↦ le ]

-- ---- of two kinds

module _ (P Q : ℕ → Type 0) where
  -- the first comes first: nothing of the second is ready below any number that has nothing of the first below it
  pub no_second : (a b : Option ℕ) → IsLowest P a → IsLowest Q b → is_before a b ≡ true → (n : ℕ) → ((p : ℕ) → p < n → P p → ⊥) → (p : ℕ) → p < n → Q p → ⊥
  no_second None b lowest least first n none p lt h = true≢false (sym first)
  no_second (Some x) None lowest least first n none p lt h = least p h
  no_second (Some x) (Some y) lowest least first n none p lt h =
      let below : x < y = (Decides-ltb x y).0 first in
      let le : y ≤ p = reaches Q y p least.1 h in
      none x (omega arith) lowest.0

  pub no_first : (a b : Option ℕ) → IsLowest P a → IsLowest Q b → is_before a b ≡ false → (n : ℕ) → ((p : ℕ) → p < n → Q p → ⊥) → (p : ℕ) → p < n → P p → ⊥
  no_first None b lowest least first n none p lt h = lowest p h
  no_first (Some x) None lowest least first n none p lt h = true≢false first
  no_first (Some x) (Some y) lowest least first n none p lt h =
      let le : x ≤ p = reaches P x p lowest.1 h in
      elim (cases_lt x y) [ inl below ↦ true≢false (sym ((Decides-ltb x y).1 below) ∙ first) | inr above ↦ none y (omega (arith, above)) least.0 ]

  first_lowest : (a b : Option ℕ) → IsLowest P a → IsLowest Q b → is_before a b ≡ true → IsLowest (λ n. P n ⊎ Q n) a
  first_lowest None b lowest least first = absurd (true≢false (sym first))
  first_lowest (Some x) b lowest least first = (inl lowest.0, λ p lt h. elim h [ inl one ↦ lowest.1 p lt one | inr two ↦ no_second (Some x) b lowest least first x lowest.1 p lt two ])

  second_lowest : (a b : Option ℕ) → IsLowest P a → IsLowest Q b → is_before a b ≡ false → IsLowest (λ n. P n ⊎ Q n) b
  second_lowest None None lowest least first = λ n h. elim h [ inl one ↦ lowest n one | inr two ↦ least n two ]
  second_lowest (Some x) None lowest least first = absurd (true≢false first)
  second_lowest a (Some y) lowest least first = (inr least.0, λ p lt h. elim h [ inl one ↦ no_first a (Some y) lowest least first y least.1 p lt one | inr two ↦ least.1 p lt two ])

  -- the lower number is the lowest of both
  pub lowest_of : (a b : Option ℕ) → IsLowest P a → IsLowest Q b → IsLowest (λ n. P n ⊎ Q n) (lower_of a b)
  lowest_of a b lowest least = go (is_before a b) refl
    where
      go : (c : Bool) → is_before a b ≡ c → IsLowest (λ n. P n ⊎ Q n) (cond c a b)
      go true e = first_lowest a b lowest least e
      go false e = second_lowest a b lowest least e
