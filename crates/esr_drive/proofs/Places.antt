-- Places in order, and how often each stands there.
use Rattle.std.proofs.Common.{◌≡◌, ℕ, ◌+◌, ◌<◌, ◌≤◌, ltb, eqb, eq-eqb, cond, List, [], ◌∷◌, length, Bool, true, false, refl, ap, arith}
use mathlib.Core.Logic.{dite}
use native.Mathlib.Decide.{dec_le}
use Rattle.esr_turns.specs.Places.{times, inserted, merged}
use Rattle.esr_turns.specs.Histories.{longer}
use Rattle.esr_handle.specs.Owned.{AreBelow}

times_first : (x : ℕ) (p : List ℕ) → times x (x ∷ p) ≡ 1 + times x p
times_first x p = ap (λ (b : Bool). cond b 1 0 + times x p) (eq-eqb x x refl)

pub below_first : (n x : ℕ) (p : List ℕ) → AreBelow n (x ∷ p) → x < n
below_first n x p below = dite (dec_le n x) (λ le. let none : times x (x ∷ p) ≡ 0 = below x le in let some : times x (x ∷ p) ≡ 1 + times x p = times_first x p in absurd (omega (arith, none, some))) (λ gt. omega arith)

pub below_rest : (n x : ℕ) (p : List ℕ) → AreBelow n (x ∷ p) → AreBelow n p
below_rest n x p below k le = let none : cond (eqb x k) 1 0 + times k p ≡ 0 = below k le in omega (arith, none)

times_inserted : (k x : ℕ) (p : List ℕ) → times k (inserted x p) ≡ times k (x ∷ p)
times_inserted k x [] = refl
times_inserted k x (y ∷ p) =
    let rec : times k (inserted x p) ≡ times k (x ∷ p) = times_inserted k x p in
    elim (ltb x y) as (λ b. times k (cond b (x ∷ y ∷ p) (y ∷ inserted x p)) ≡ times k (x ∷ y ∷ p)) [ true ↦ refl | false ↦ omega arith ]

pub times_merged : (k : ℕ) (p q : List ℕ) → times k (merged p q) ≡ times k p + times k q
times_merged k [] q = omega arith
times_merged k (x ∷ p) q =
    let rec : times k (merged p q) ≡ times k p + times k q = times_merged k p q in
    let one : times k (inserted x (merged p q)) ≡ times k (x ∷ merged p q) = times_inserted k x (merged p q) in
    omega arith

pub below_merged : (n : ℕ) (p q : List ℕ) → AreBelow n p → AreBelow n q → AreBelow n (merged p q)
below_merged n p q a b k le =
    let both : times k (merged p q) ≡ times k p + times k q = times_merged k p q in
    let first : times k p ≡ 0 = a k le in
    let second : times k q ≡ 0 = b k le in
    omega (arith, both, first, second)

pub below_more : (n m : ℕ) (p : List ℕ) → n ≤ m → AreBelow n p → AreBelow m p
below_more n m p le below k more = below k (omega (arith, le, more))

-- what holds of both histories holds of the longer one
pub longer_has : {E : Type 0} (P : List E → Type 0) (a b : List E) → P a → P b → P (longer a b)
longer_has P a b h g = elim (ltb (length a) (length b)) as (λ c. P (cond c b a)) [ true ↦ g | false ↦ h ]
