-- Places, and how often each stands in a list.
use Rattle.std.proofs.Common.{◌≡◌, ◌≢◌, ℕ, suc, ◌+◌, ◌<◌, ◌≤◌, ltb, eqb, List, [], ◌∷◌, ◌++◌, length, Bool, true, false, cond, refl, sym, ap, ◌∙◌, subst, arith, eq-eqb, ne_eqb, lt-ltb, le-ltb, ltb-true, ltb-false, append-nil, le_refl}
use mathlib.Core.Logic.{dite}
use native.Mathlib.Decide.{ℕ_discrete, dec_le}
use Rattle.esr_turns.specs.Places.{times, once_below, places_from, RisesFrom, inserted, merged}

pub times_append : (k : ℕ) (xs ys : List ℕ) → times k (xs ++ ys) ≡ times k xs + times k ys
times_append k [] ys = omega arith
times_append k (x ∷ xs) ys = let rec = times_append k xs ys in omega arith

pub length_places : {E : Type 0} (n : ℕ) (es : List E) → length (places_from n es) ≡ length es
length_places n [] = refl
length_places n (e ∷ es) = ap suc (length_places (n + 1) es)

once_more : (k n : ℕ) → once_below k (n + 1) ≡ once_below k n + cond (eqb n k) 1 0
once_more k n = dite (ℕ_discrete n k)
    (λ is. let a : ltb k (n + 1) ≡ true = lt-ltb k (n + 1) (omega arith) in let b : ltb k n ≡ false = le-ltb k n (omega arith) in
    ap (λ x. cond x 1 0) a ∙ sym (ap (λ (y : Bool × Bool). cond y.0 1 0 + cond y.1 1 0) (λ i. (b i, eq-eqb n k is i))))
    (λ not. dite (dec_le n k)
    (λ le. let a : ltb k (n + 1) ≡ false = le-ltb k (n + 1) (omega arith) in let b : ltb k n ≡ false = le-ltb k n le in
    ap (λ x. cond x 1 0) a ∙ sym (ap (λ (y : Bool × Bool). cond y.0 1 0 + cond y.1 1 0) (λ i. (b i, ne_eqb n k not i))))
    (λ gt. let lt : k < n = omega arith in let a : ltb k (n + 1) ≡ true = lt-ltb k (n + 1) (omega arith) in let b : ltb k n ≡ true = lt-ltb k n lt in
    ap (λ x. cond x 1 0) a ∙ sym (ap (λ (y : Bool × Bool). cond y.0 1 0 + cond y.1 1 0) (λ i. (b i, ne_eqb n k not i)))))

pub once_places : {E : Type 0} (k n : ℕ) (es : List E) → once_below k (n + length es) ≡ once_below k n + times k (places_from n es)
once_places k n [] = let to : n + 0 ≡ n = omega arith in ap (once_below k) to ∙ (omega arith)
once_places k n (e ∷ es) =
    let rec : once_below k ((n + 1) + length es) ≡ once_below k (n + 1) + times k (places_from (n + 1) es) = once_places k (n + 1) es in
    let more : once_below k (n + 1) ≡ once_below k n + cond (eqb n k) 1 0 = once_more k n in
    let to : n + length (e ∷ es) ≡ (n + 1) + length es = omega arith in
    ap (once_below k) to ∙ (omega arith)

pub misses : (n k : ℕ) → n ≢ k → times k (n ∷ []) ≡ 0
misses n k other = ap (λ (b : Bool). cond b 1 0 + 0) (ne_eqb n k other)

pub times_above : {E : Type 0} (k n : ℕ) (es : List E) → n + length es ≤ k → times k (places_from n es) ≡ 0
times_above k n [] le = refl
times_above k n (e ∷ es) le =
    let rec : times k (places_from (n + 1) es) ≡ 0 = times_above k (n + 1) es (omega arith) in
    let here : times k (n ∷ []) ≡ 0 = misses n k (λ z. omega arith) in
    let more : times k (n ∷ places_from (n + 1) es) ≡ times k (n ∷ []) + times k (places_from (n + 1) es) = times_append k (n ∷ []) (places_from (n + 1) es) in
    more ∙ omega arith

pub times_none : (k : ℕ) (xs : List ℕ) → length xs ≡ 0 → times k xs ≡ 0
times_none k [] e = refl
times_none k (x ∷ xs) e = absurd (omega arith)

pub times_inserted : (k x : ℕ) (xs : List ℕ) → times k (inserted x xs) ≡ times k (x ∷ xs)
times_inserted k x [] = refl
times_inserted k x (y ∷ ys) =
    let rec : times k (inserted x ys) ≡ times k (x ∷ ys) = times_inserted k x ys in
    elim (ltb x y) as (λ b. times k (cond b (x ∷ y ∷ ys) (y ∷ inserted x ys)) ≡ times k (x ∷ y ∷ ys)) [ true ↦ refl | false ↦ omega arith ]

pub times_merged : (k : ℕ) (xs ys : List ℕ) → times k (merged xs ys) ≡ times k xs + times k ys
times_merged k [] ys = omega arith
times_merged k (x ∷ xs) ys = let rec : times k (merged xs ys) ≡ times k xs + times k ys = times_merged k xs ys in let one : times k (inserted x (merged xs ys)) ≡ times k (x ∷ merged xs ys) = times_inserted k x (merged xs ys) in omega arith

length_inserted : (x : ℕ) (xs : List ℕ) → length (inserted x xs) ≡ suc (length xs)
length_inserted x [] = refl
length_inserted x (y ∷ ys) = elim (ltb x y) as (λ b. length (cond b (x ∷ y ∷ ys) (y ∷ inserted x ys)) ≡ suc (length (y ∷ ys))) [ true ↦ refl | false ↦ ap suc (length_inserted x ys) ]

pub length_merged : (xs ys : List ℕ) → length (merged xs ys) ≡ length xs + length ys
length_merged [] ys = omega arith
length_merged (x ∷ xs) ys = let rec : length (merged xs ys) ≡ length xs + length ys = length_merged xs ys in let one : length (inserted x (merged xs ys)) ≡ suc (length (merged xs ys)) = length_inserted x (merged xs ys) in omega arith

rises_weaker : (m n : ℕ) (xs : List ℕ) → m ≤ n → RisesFrom n xs → RisesFrom m xs
rises_weaker m n [] le h = tt
rises_weaker m n (x ∷ xs) le h = let a = h.0 in (omega arith, h.1)

rises_inserted : (m x : ℕ) (ys : List ℕ) → m ≤ x → RisesFrom m ys → RisesFrom m (inserted x ys)
rises_inserted m x [] le h = (le, tt)
rises_inserted m x (y ∷ ys) le h = which (ltb x y) refl (λ l. rises_inserted y x ys l h.1)
  where
    which : (b : Bool) → ltb x y ≡ b → (y ≤ x → RisesFrom y (inserted x ys)) → RisesFrom m (cond b (x ∷ y ∷ ys) (y ∷ inserted x ys))
    which true e rec = let lt = ltb-true x y e in (le, (omega arith, h.1))
    which false e rec = (h.0, rec (ltb-false x y e))

pub rises_merged : (m : ℕ) (xs ys : List ℕ) → RisesFrom m xs → RisesFrom m ys → RisesFrom m (merged xs ys)
rises_merged m [] ys h k = k
rises_merged m (x ∷ xs) ys h k = rises_inserted m x (merged xs ys) h.0 (rises_merged m xs ys (rises_weaker m x xs h.0 h.1) k)

pub hits : (n k : ℕ) → n ≡ k → times k (n ∷ []) ≡ 1
hits n k e = ap (λ (b : Bool). cond b 1 0 + 0) (eq-eqb n k e)

pub times_here : (x : ℕ) (xs : List ℕ) → times x (x ∷ xs) ≡ 1 + times x xs
times_here x xs = let a : times x (x ∷ xs) ≡ times x (x ∷ []) + times x xs = times_append x (x ∷ []) xs in let b : times x (x ∷ []) ≡ 1 = hits x x refl in a ∙ omega arith

pub rises_snoc : (m n : ℕ) (xs : List ℕ) → m ≤ n → ((k : ℕ) → n ≤ k → times k xs ≡ 0) → RisesFrom m xs → RisesFrom m (xs ++ n ∷ [])
rises_snoc m n [] le none h = (le, tt)
rises_snoc m n (x ∷ xs) le none h =
    let here : times x (x ∷ xs) ≡ 1 + times x xs = times_here x xs in
    let below : x ≤ n = dite (dec_le x n) (λ a. a) (λ not. let z : times x (x ∷ xs) ≡ 0 = none x (omega arith) in absurd (omega arith)) in
    (h.0, rises_snoc x n xs below (λ k a. let z : times k (x ∷ xs) ≡ 0 = none k a in let c : times k (x ∷ xs) ≡ times k (x ∷ []) + times k xs = times_append k (x ∷ []) xs in omega arith) h.1)

rises_least : (m k : ℕ) (xs : List ℕ) → RisesFrom m xs → 0 < times k xs → m ≤ k
rises_least m k [] h some_k = absurd (omega arith)
rises_least m k (x ∷ xs) h some_k = dite (ℕ_discrete x k) (λ e. let a = h.0 in omega arith)
    (λ other. let a = h.0 in
    let c : times k (x ∷ xs) ≡ times k (x ∷ []) + times k xs = times_append k (x ∷ []) xs in
    let z : times k (x ∷ []) ≡ 0 = misses x k other in
    let b : x ≤ k = rises_least x k xs h.1 (omega arith) in omega arith)

-- rising places are known by how often each stands there
pub rises_same : (m n : ℕ) (xs ys : List ℕ) → RisesFrom m xs → RisesFrom n ys → ((k : ℕ) → times k xs ≡ times k ys) → xs ≡ ys
rises_same m n [] [] h g same = refl
rises_same m n [] (y ∷ ys) h g same = let a : 0 ≡ times y (y ∷ ys) = same y in let b : times y (y ∷ ys) ≡ 1 + times y ys = times_here y ys in absurd (omega arith)
rises_same m n (x ∷ xs) [] h g same = let a : times x (x ∷ xs) ≡ 0 = same x in let b : times x (x ∷ xs) ≡ 1 + times x xs = times_here x xs in absurd (omega arith)
rises_same m n (x ∷ xs) (y ∷ ys) h g same =
    let a : times x (x ∷ xs) ≡ times x (y ∷ ys) = same x in
    let b : times y (x ∷ xs) ≡ times y (y ∷ ys) = same y in
    let c : times x (x ∷ xs) ≡ 1 + times x xs = times_here x xs in
    let d : times y (y ∷ ys) ≡ 1 + times y ys = times_here y ys in
    let e : y ≤ x = rises_least y x (y ∷ ys) (le_refl y, g.1) (omega arith) in
    let f : x ≤ y = rises_least x y (x ∷ xs) (le_refl x, h.1) (omega arith) in
    let is : x ≡ y = omega arith in
    let rest : (k : ℕ) → times k xs ≡ times k ys = λ k.
    let p : times k (x ∷ xs) ≡ times k (x ∷ []) + times k xs = times_append k (x ∷ []) xs in
    let q : times k (y ∷ ys) ≡ times k (y ∷ []) + times k ys = times_append k (y ∷ []) ys in
    let r : times k (x ∷ []) ≡ times k (y ∷ []) = ap (λ z. times k (z ∷ [])) is in
    let s : times k (x ∷ xs) ≡ times k (y ∷ ys) = same k in
    omega arith in
    let tail : xs ≡ ys = rises_same x y xs ys h.1 g.1 rest in
    λ i. is i ∷ tail i

pub rises_places : {E : Type 0} (m n : ℕ) (es : List E) → m ≤ n → RisesFrom m (places_from n es)
rises_places m n [] le = tt
rises_places m n (e ∷ es) le = (le, rises_places n (n + 1) es (omega arith))

pub rises_es : {E : Type 0} (m n : ℕ) (xs : List ℕ) (es : List E) → length es ≤ 1 → m ≤ n → ((k : ℕ) → n ≤ k → times k xs ≡ 0) → RisesFrom m xs → RisesFrom m (xs ++ places_from n es)
rises_es m n xs [] one le none h = subst (RisesFrom m) (sym (append-nil xs)) h
rises_es m n xs (e ∷ []) one le none h = rises_snoc m n xs le none h
rises_es m n xs (e ∷ f ∷ es) one le none h = absurd (omega arith)
