-- Lists are weighed: what is among others and stands once weighs no more than they; and a history is as long as the steps of all its makers.
use Rattle.std.proofs.Common.{◌≡◌, ℕ, zero, suc, ◌+◌, ◌≤◌, List, [], ◌∷◌, ◌++◌, length, Bool, true, false, refl, sym, ap, ◌∙◌, subst, inl, inr, arith}
use Rattle.std.specs.Prelude.{if◌then◌else◌, ◌==◌}
use Rattle.std.proofs.lemmas.Bool.Decides.{eqb_tells}
use Rattle.esr_model.specs.Values.{Has}
use Rattle.esr_core.specs.Restores.{AreOnce}
use Rattle.esr_core.specs.Entry.{Reply, Gave, Moment}
use Rattle.esr_bounds.specs.Keys.{made_by}
use Rattle.esr_bounds.specs.Work.{idle_by, idle_in}
use Rattle.esr_bounds.proofs.Few.{stands, beside, zero_le}

-- ---- weights

abbrev pub total : {A : Type 0} → (A → ℕ) → List A → ℕ
total weight [] = 0
total weight (x ∷ xs) = weight x + total weight xs

pub none_more : (n : ℕ) → n ≡ 0 + n
none_more n = omega arith

pub total_append : {A : Type 0} (weight : A → ℕ) (xs ys : List A) → total weight (xs ++ ys) ≡ total weight xs + total weight ys
total_append weight [] ys = none_more (total weight ys)
total_append weight (x ∷ xs) ys = ap (λ n. weight x + n) (total_append weight xs ys) ∙ shift (weight x) (total weight xs) (total weight ys)
  where
    shift : (a b c : ℕ) → a + (b + c) ≡ (a + b) + c
    shift a b c = omega arith

total_beside : {A : Type 0} (weight : A → ℕ) (front back : List A) (x : A) → total weight (front ++ x ∷ back) ≡ weight x + total weight (front ++ back)
total_beside weight [] back x = refl
total_beside weight (y ∷ front) back x = ap (λ n. weight y + n) (total_beside weight front back x) ∙ swap_them (weight y) (weight x) (total weight (front ++ back))
  where
    swap_them : (a b c : ℕ) → a + (b + c) ≡ b + (a + c)
    swap_them a b c = omega arith

one_up : (w a b c : ℕ) → a ≤ b → c ≡ w + b → w + a ≤ c
one_up w a b c h e = let less : a ≤ b = h in let is : c ≡ w + b = e in omega (arith, less, is)

pub light_once : {A : Type 0} (weight : A → ℕ) (xs ys : List A) → AreOnce xs → ((x : A) → Has xs x → Has ys x) → total weight xs ≤ total weight ys
light_once weight [] ys once among = zero_le (total weight ys)
light_once weight (x ∷ xs) ys once among =
    let s = stands ys x (among x (inl refl)) in
    one_up (weight x) (total weight xs) (total weight (s.front ++ s.back)) (total weight ys)
    (light_once weight xs (s.front ++ s.back) once.1 (λ z h. beside s.front s.back x z (subst (λ l. Has l z) s.is (among z (inr h))) (λ e. once.0 (subst (Has xs) (sym e) h))))
    (ap (total weight) s.is ∙ total_beside weight s.front s.back x)

-- ---- the makers of a history

-- the steps of all tickets up to a number
abbrev pub made_upto : List Moment → ℕ → ℕ
made_upto log zero = 0
made_upto log (suc k) = made_by log (suc k) + made_upto log k

-- a step more, of nobody among them
made_more : (m : Moment) (log : List Moment) (k : ℕ) → made_by log k ≤ made_by (m ∷ log) k
made_more m log k = by (m.entry.who == k)
  where
    by : (b : Bool) → made_by log k ≤ (if b then suc (made_by log k) else made_by log k)
    by true = let more : made_by log k ≤ suc (made_by log k) = omega arith in more
    by false = let same : made_by log k ≤ made_by log k = omega arith in same

upto_more : (m : Moment) (log : List Moment) (n : ℕ) → made_upto log n ≤ made_upto (m ∷ log) n
upto_more m log zero = zero_le 0
upto_more m log (suc k) = both (made_by log (suc k)) (made_by (m ∷ log) (suc k)) (made_upto log k) (made_upto (m ∷ log) k) (made_more m log (suc k)) (upto_more m log k)
  where
    both : (a b c d : ℕ) → a ≤ b → c ≤ d → a + c ≤ b + d
    both a b c d p q = let first : a ≤ b = p in let second : c ≤ d = q in omega (arith, first, second)

made_one : (m : Moment) (log : List Moment) (k : ℕ) → m.entry.who ≡ k → made_by (m ∷ log) k ≡ suc (made_by log k)
made_one m log k is = elim (eqb_tells m.entry.who k) [
  | inl same ↦ ap (λ (b : Bool). if b then suc (made_by log k) else made_by log k) same.0
  | inr other ↦ absurd (other.1 is)
]

upto_one : (m : Moment) (log : List Moment) (n : ℕ) → 1 ≤ m.entry.who → m.entry.who ≤ n → suc (made_upto log n) ≤ made_upto (m ∷ log) n
upto_one m log zero some below = let a : 1 ≤ m.entry.who = some in let b : m.entry.who ≤ 0 = below in absurd (omega (arith, a, b))
upto_one m log (suc k) some below = elim (eqb_tells m.entry.who (suc k)) [
  | inl here ↦ first (made_by log (suc k)) (made_by (m ∷ log) (suc k)) (made_upto log k) (made_upto (m ∷ log) k) (made_one m log (suc k) here.1) (upto_more m log k)
  | inr other ↦ second (made_by log (suc k)) (made_by (m ∷ log) (suc k)) (made_upto log k) (made_upto (m ∷ log) k) (made_more m log (suc k)) (upto_one m log k some (less m.entry.who k below other.1))
]
  where
    less : (a b : ℕ) → a ≤ suc b → (a ≡ suc b → ⊥) → a ≤ b
    less a b h apart = let most : a ≤ suc b = h in let differ : a ≡ suc b → ⊥ = apart in omega (arith, most, differ)

    first : (a b c d : ℕ) → b ≡ suc a → c ≤ d → suc (a + c) ≤ b + d
    first a b c d p q = let is : b ≡ suc a = p in let more : c ≤ d = q in omega (arith, is, more)

    second : (a b c d : ℕ) → a ≤ b → suc c ≤ d → suc (a + c) ≤ b + d
    second a b c d p q = let more : a ≤ b = p in let is : suc c ≤ d = q in omega (arith, more, is)

-- where each maker is who 0 or a ticket up to the number
pub all_made : (log : List Moment) (n : ℕ) → ((m : Moment) → Has log m → m.entry.who ≤ n) → length log ≤ made_by log 0 + made_upto log n
all_made [] n below = zero_le (0 + made_upto [] n)
all_made (m ∷ log) n below = elim (eqb_tells m.entry.who 0) [
  | inl nobody ↦ first (length log) (made_by log 0) (made_by (m ∷ log) 0) (made_upto log n) (made_upto (m ∷ log) n) (all_made log n (λ x h. below x (inr h))) (made_one m log 0 nobody.1) (upto_more m log n)
  | inr some ↦ second (length log) (made_by log 0) (made_by (m ∷ log) 0) (made_upto log n) (made_upto (m ∷ log) n) (all_made log n (λ x h. below x (inr h))) (made_more m log 0) (upto_one m log n (above m.entry.who some.1) (below m (inl refl)))
]
  where
    above : (a : ℕ) → (a ≡ 0 → ⊥) → 1 ≤ a
    above a apart = let differ : a ≡ 0 → ⊥ = apart in omega (arith, differ)

    first : (l a b c d : ℕ) → l ≤ a + c → b ≡ suc a → c ≤ d → suc l ≤ b + d
    first l a b c d h p q = let before : l ≤ a + c = h in let is : b ≡ suc a = p in let more : c ≤ d = q in omega (arith, before, is, more)

    second : (l a b c d : ℕ) → l ≤ a + c → a ≤ b → suc c ≤ d → suc l ≤ b + d
    second l a b c d h p q = let before : l ≤ a + c = h in let more : a ≤ b = p in let is : suc c ≤ d = q in omega (arith, before, more, is)

-- and with the take of each
abbrev pub units_upto : List Moment → ℕ → ℕ
units_upto log zero = 0
units_upto log (suc k) = suc (made_by log (suc k)) + units_upto log k

pub with_takes : (log : List Moment) (n : ℕ) → units_upto log n ≡ made_upto log n + n
with_takes log zero = refl
with_takes log (suc k) = ap (λ n. suc (made_by log (suc k)) + n) (with_takes log k) ∙ shift (made_by log (suc k)) (made_upto log k) k
  where
    shift : (a b c : ℕ) → suc a + (b + c) ≡ (a + b) + suc c
    shift a b c = omega arith

-- whether a unit is given: 1, or 0
abbrev pub gave_by : Reply → ℕ
gave_by (Gave ticket op unit) = 1
gave_by reply = 0

abbrev pub gave_in : List Moment → ℕ
gave_in [] = 0
gave_in (m ∷ log) = gave_by m.entry.reply + gave_in log

idle_or_gave : (reply : Reply) (a b c : ℕ) → a ≤ b + c → suc a ≤ (idle_by 0 reply + b) + (gave_by reply + c)
idle_or_gave (Gave ticket op unit) a b c h = let less : a ≤ b + c = h in let is : suc a ≤ (0 + b) + (1 + c) = omega (arith, less) in is
idle_or_gave reply a b c h = let less : a ≤ b + c = h in let is : suc a ≤ (1 + b) + (0 + c) = omega (arith, less) in is

idle_one : (who : ℕ) (reply : Reply) (a b c : ℕ) → a ≤ b + c → (if who == 0 then suc a else a) ≤ (idle_by who reply + b) + (gave_by reply + c)
idle_one who reply a b c h = elim (eqb_tells who 0) [
  | inl nobody ↦
      subst (λ (mine : Bool). (if mine then suc a else a) ≤ (idle_by who reply + b) + (gave_by reply + c)) (sym nobody.0)
      (subst (λ (k : ℕ). suc a ≤ (idle_by k reply + b) + (gave_by reply + c)) (sym nobody.1) (idle_or_gave reply a b c h))
  | inr other ↦ subst (λ (mine : Bool). (if mine then suc a else a) ≤ (idle_by who reply + b) + (gave_by reply + c)) (sym other.0) (more (idle_by who reply) (gave_by reply))
]
  where
    more : (i g : ℕ) → a ≤ (i + b) + (g + c)
    more i g = let less : a ≤ b + c = h in omega (arith, less)

-- the steps of who 0 are idle, or give a unit
pub nobody_made : (log : List Moment) → made_by log 0 ≤ idle_in log + gave_in log
nobody_made [] = zero_le (0 + 0)
nobody_made (m ∷ log) = idle_one m.entry.who m.entry.reply (made_by log 0) (idle_in log) (gave_in log) (nobody_made log)
