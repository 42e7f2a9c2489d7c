-- Beginnings of a history, and what is said at a place.
use Rattle.std.proofs.Common.{◌≡◌, ◌⊎◌, ℕ, zero, suc, ◌<◌, ◌≤◌, ltb, List, [], ◌∷◌, ◌++◌, length, Bool, true, false, cond, Option, Some, refl, sym, ap, ◌∙◌, ⊎_elim, inl, inr, arith, length-append, append_assoc, append-nil, ltb-true, ltb-false}
use Rattle.esr_turns.specs.Histories.{StartsWith, longer, shorter, said}

pub starts_trans : {E : Type 0} (a b c : List E) → StartsWith a b → StartsWith b c → StartsWith a c
starts_trans a b c h k = (k.0 ++ h.0, h.1 ∙ ap (λ l. l ++ h.0) k.1 ∙ append_assoc c k.0 h.0)

pub starts_same : {E : Type 0} (a : List E) → StartsWith a a
starts_same a = ([], sym (append-nil a))

pub starts_length : {E : Type 0} (xs seen : List E) → StartsWith xs seen → length seen ≤ length xs
starts_length xs seen h = let a = ap length h.1 in let b = length-append seen h.0 in omega arith

pub starts_whole : {E : Type 0} (xs seen : List E) → StartsWith xs seen → length xs ≤ length seen → xs ≡ seen
starts_whole xs seen h le = h.1 ∙ ap (λ l. seen ++ l) (none h.0 (let a = ap length h.1 in let b = length-append seen h.0 in omega arith)) ∙ append-nil seen
  where
    none : {E : Type 0} (l : List E) → length l ≡ 0 → l ≡ []
    none [] e = refl
    none (x ∷ l) e = absurd (omega arith)

-- of two beginnings of one list the shorter begins the longer
pub starts_both : {E : Type 0} (log xs ys : List E) → StartsWith log xs → StartsWith log ys → length ys ≤ length xs → StartsWith xs ys
starts_both log xs [] h k le = (xs, refl)
starts_both log [] (y ∷ ys) h k le = absurd (omega arith)
starts_both log (x ∷ xs) (y ∷ ys) h k le =
    let same : (x ∷ xs) ++ h.0 ≡ (y ∷ ys) ++ k.0 = sym h.1 ∙ k.1 in
    let rec = starts_both (xs ++ h.0) xs ys (h.0, refl) (k.0, ap tail same) (omega arith) in
    (rec.0, λ i. head x (same i) ∷ rec.1 i)
  where
    tail : {E : Type 0} → List E → List E
    tail [] = []
    tail (x ∷ xs) = xs

    head : {E : Type 0} → E → List E → E
    head d [] = d
    head d (x ∷ xs) = x

pub length_longer : {E : Type 0} (xs ys : List E) → (length xs ≤ length (longer xs ys)) × (length ys ≤ length (longer xs ys))
length_longer xs ys = which (ltb (length xs) (length ys)) refl
  where
    which : (b : Bool) → ltb (length xs) (length ys) ≡ b → (length xs ≤ length (cond b ys xs)) × (length ys ≤ length (cond b ys xs))
    which true e = let lt = ltb-true (length xs) (length ys) e in (omega arith, omega arith)
    which false e = let le = ltb-false (length xs) (length ys) e in (omega arith, omega arith)

pub longer_starts : {E : Type 0} (log xs ys : List E) → StartsWith log xs → StartsWith log ys → StartsWith log (longer xs ys)
longer_starts log xs ys h k = elim (ltb (length xs) (length ys)) as (λ b. StartsWith log (cond b ys xs)) [ true ↦ k | false ↦ h ]

pub shorter_starts : {E : Type 0} (log xs ys : List E) → StartsWith log xs → StartsWith log ys → StartsWith log (shorter xs ys)
shorter_starts log xs ys h k = elim (ltb (length xs) (length ys)) as (λ b. StartsWith log (cond b xs ys)) [ true ↦ h | false ↦ k ]

module _ {E : Type 0} (f : E → Option ℕ) where
  pub said_front : (log es : List E) (i t : ℕ) → said f log i ≡ Some t → said f (log ++ es) i ≡ Some t
  said_front [] es i t e = absurd (cc)
  said_front (x ∷ log) es zero t e = e
  said_front (x ∷ log) es (suc i) t e = said_front log es i t e

  pub said_snoc : (log : List E) (e : E) (i t : ℕ) → said f (log ++ e ∷ []) i ≡ Some t → (said f log i ≡ Some t) ⊎ ((i ≡ length log) × (f e ≡ Some t))
  said_snoc [] e zero t h = inr (refl, h)
  said_snoc [] e (suc i) t h = absurd (cc)
  said_snoc (x ∷ log) e zero t h = inl h
  said_snoc (x ∷ log) e (suc i) t h = ⊎_elim (λ k. inl k) (λ k. inr (ap suc k.0, k.1)) (said_snoc log e i t h)

  pub said_below : (log : List E) (i t : ℕ) → said f log i ≡ Some t → i < length log
  said_below [] i t h = absurd (cc)
  said_below (x ∷ log) zero t h = omega arith
  said_below (x ∷ log) (suc i) t h = let rec = said_below log i t h in omega arith
