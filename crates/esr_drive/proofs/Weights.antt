-- The calls at places of a history: at those of two workers together, in a longer history, and at all places.
use Rattle.std.proofs.Common.{◌≡◌, ◌⊎◌, inl, inr, ⊎_elim, ℕ, zero, suc, ◌+◌, ◌<◌, cond, nat_lt, List, [], ◌∷◌, ◌++◌, length, true, false, length-append, append_assoc, refl, sym, ap, ◌∙◌, subst, arith}
use Rattle.esr_model.specs.Values.{Has}
use Rattle.esr_turns.specs.Places.{places_from, inserted, merged}
use Rattle.esr_turns.specs.Histories.{StartsWith}
use Rattle.esr_model.specs.Lists.{Has-either, Has-left, Has-right}
use Rattle.esr_core.specs.Entry.{Moment}
use Rattle.esr_desk.specs.Calls.{Call, call_at, calls_at}
use Rattle.esr_drive.specs.Takes.{idle_call, idle_calls}
use Rattle.esr_handle.specs.Owned.{AreBelow, call_in, calls_in}
use Rattle.esr_drive.specs.Worked.{weigh}
use Rattle.esr_drive.proofs.Places.{below_first, below_rest}

-- ---- lists of calls

pub weigh_both : (h : Call → ℕ) (a b : List Call) → weigh h (a ++ b) ≡ weigh h a + weigh h b
weigh_both h [] b = omega arith
weigh_both h (c ∷ a) b = let rest : weigh h (a ++ b) ≡ weigh h a + weigh h b = weigh_both h a b in omega (arith, rest)

pub weigh_idle : (calls : List Call) → idle_calls calls ≡ weigh idle_call calls
weigh_idle [] = refl
weigh_idle (c ∷ calls) = ap (λ (n : ℕ). idle_call c + n) (weigh_idle calls)

-- ---- at the places of two together

module _ (base : ℕ) (log : List Moment) where
  weigh_inserted : (h : Call → ℕ) (x : ℕ) (p : List ℕ) → weigh h (calls_in base log (inserted x p)) ≡ weigh h (call_in base log x) + weigh h (calls_in base log p)
  weigh_inserted h x [] = weigh_both h (call_in base log x) []
  weigh_inserted h x (y ∷ p) =
      let rec : weigh h (calls_in base log (inserted x p)) ≡ weigh h (call_in base log x) + weigh h (calls_in base log p) = weigh_inserted h x p in
      let a : weigh h (call_in base log y ++ calls_in base log (inserted x p)) ≡ weigh h (call_in base log y) + weigh h (calls_in base log (inserted x p)) = weigh_both h (call_in base log y) (calls_in base log (inserted x p)) in
      let b : weigh h (call_in base log y ++ calls_in base log p) ≡ weigh h (call_in base log y) + weigh h (calls_in base log p) = weigh_both h (call_in base log y) (calls_in base log p) in
      elim (nat_lt x y) as (λ c. weigh h (calls_in base log (cond c (x ∷ y ∷ p) (y ∷ inserted x p))) ≡ weigh h (call_in base log x) + weigh h (call_in base log y ++ calls_in base log p)) [
        | true ↦ weigh_both h (call_in base log x) (call_in base log y ++ calls_in base log p)
        | false ↦ omega (arith, rec, a, b)
      ]

  pub weigh_merged : (h : Call → ℕ) (p q : List ℕ) → weigh h (calls_in base log (merged p q)) ≡ weigh h (calls_in base log p) + weigh h (calls_in base log q)
  weigh_merged h [] q = omega arith
  weigh_merged h (x ∷ p) q =
      let a : weigh h (calls_in base log (inserted x (merged p q))) ≡ weigh h (call_in base log x) + weigh h (calls_in base log (merged p q)) = weigh_inserted h x (merged p q) in
      let b : weigh h (calls_in base log (merged p q)) ≡ weigh h (calls_in base log p) + weigh h (calls_in base log q) = weigh_merged h p q in
      let c : weigh h (call_in base log x ++ calls_in base log p) ≡ weigh h (call_in base log x) + weigh h (calls_in base log p) = weigh_both h (call_in base log x) (calls_in base log p) in
      omega (arith, a, b, c)

  abbrev IsIn : List ℕ → Call → Type 0
  IsIn p c = Has (calls_in base log p) c

  has_inserted : (x : ℕ) (p : List ℕ) (c : Call) → IsIn (inserted x p) c → Has (call_in base log x) c ⊎ IsIn p c
  has_inserted x [] c h = Has-either (call_in base log x) [] c h
  has_inserted x (y ∷ p) c h =
      let rec : IsIn (inserted x p) c → Has (call_in base log x) c ⊎ IsIn p c = has_inserted x p c in
      let which : IsIn (cond (nat_lt x y) (x ∷ y ∷ p) (y ∷ inserted x p)) c → Has (call_in base log x) c ⊎ IsIn (y ∷ p) c =
      elim (nat_lt x y) as (λ b. IsIn (cond b (x ∷ y ∷ p) (y ∷ inserted x p)) c → Has (call_in base log x) c ⊎ IsIn (y ∷ p) c) [
        | true ↦ λ k. Has-either (call_in base log x) (call_in base log y ++ calls_in base log p) c k
        | false ↦ λ k. ⊎_elim (λ (j : Has (call_in base log y) c). inr (Has-left (call_in base log y) (calls_in base log p) c j))
            (λ (j : IsIn (inserted x p) c). ⊎_elim (λ (i : Has (call_in base log x) c). inl i) (λ (i : IsIn p c). inr (Has-right (call_in base log y) (calls_in base log p) c i)) (rec j))
            (Has-either (call_in base log y) (calls_in base log (inserted x p)) c k)
      ] in
      which h

  pub has_merged : (p q : List ℕ) (c : Call) → IsIn (merged p q) c → IsIn p c ⊎ IsIn q c
  has_merged [] q c h = inr h
  has_merged (x ∷ p) q c h =
      ⊎_elim (λ (k : Has (call_in base log x) c). inl (Has-left (call_in base log x) (calls_in base log p) c k))
      (λ (k : IsIn (merged p q) c). ⊎_elim (λ (j : IsIn p c). inl (Has-right (call_in base log x) (calls_in base log p) c j)) (λ (j : IsIn q c). inr j) (has_merged p q c k))
      (has_inserted x (merged p q) c h)

-- ---- in a longer history

call_longer : (base : ℕ) (log more : List Moment) (i : ℕ) → i < length log → call_in base (log ++ more) i ≡ call_in base log i
call_longer base [] more i lt = absurd (omega (arith, lt))
call_longer base (m ∷ log) more zero lt = refl
call_longer base (m ∷ log) more (suc i) lt = call_longer (base + 1) log more i (omega (arith, lt))

calls_longer : (base : ℕ) (log more : List Moment) (p : List ℕ) → AreBelow (length log) p → calls_in base (log ++ more) p ≡ calls_in base log p
calls_longer base log more [] below = refl
calls_longer base log more (x ∷ p) below =
    ap (λ (l : List Call). l ++ calls_in base (log ++ more) p) (call_longer base log more x (below_first (length log) x p below))
    ∙ ap (λ (l : List Call). call_in base log x ++ l) (calls_longer base log more p (below_rest (length log) x p below))

pub calls_stay : (base : ℕ) (all log : List Moment) (p : List ℕ) → StartsWith all log → AreBelow (length log) p → calls_in base all p ≡ calls_in base log p
calls_stay base all log p starts below = ap (λ (l : List Moment). calls_in base l p) starts.1 ∙ calls_longer base log starts.0 p below

-- ---- at all places

same_place : (n : ℕ) → n ≡ n + 0
same_place n = omega arith

next_place : (n k : ℕ) → n + 1 + k ≡ n + suc k
next_place n k = omega arith

call_here : (base : ℕ) (front : List Moment) (m : Moment) (rest : List Moment) → call_in base (front ++ m ∷ rest) (length front) ≡ call_at (base + length front) m.entry
call_here base [] m rest = ap (λ (n : ℕ). call_at n m.entry) (same_place base)
call_here base (x ∷ front) m rest = call_here (base + 1) front m rest ∙ ap (λ (n : ℕ). call_at n m.entry) (next_place base (length front))

calls_from : (base : ℕ) (front rest : List Moment) → calls_in base (front ++ rest) (places_from (length front) rest) ≡ calls_at (base + length front) rest
calls_from base front [] = refl
calls_from base front (m ∷ rest) =
    let whole : (front ++ m ∷ []) ++ rest ≡ front ++ m ∷ rest = append_assoc front (m ∷ []) rest in
    let next : length (front ++ m ∷ []) ≡ length front + 1 = length-append front (m ∷ []) in
    let rec : calls_in base ((front ++ m ∷ []) ++ rest) (places_from (length (front ++ m ∷ [])) rest) ≡ calls_at (base + length (front ++ m ∷ [])) rest = calls_from base (front ++ m ∷ []) rest in
    let here : calls_in base (front ++ m ∷ rest) (places_from (length front + 1) rest) ≡ calls_at (base + (length front + 1)) rest =
    subst (λ (l : List Moment). calls_in base l (places_from (length front + 1) rest) ≡ calls_at (base + (length front + 1)) rest) whole
    (subst (λ (k : ℕ). calls_in base ((front ++ m ∷ []) ++ rest) (places_from k rest) ≡ calls_at (base + k) rest) next rec) in
    ap (λ (l : List Call). l ++ calls_in base (front ++ m ∷ rest) (places_from (length front + 1) rest)) (call_here base front m rest)
    ∙ ap (λ (l : List Call). call_at (base + length front) m.entry ++ l) (here ∙ ap (λ (n : ℕ). calls_at n rest) (apart base (length front)))
  where
    apart : (n k : ℕ) → n + (k + 1) ≡ n + k + 1
    apart n k = omega arith

-- those at all places are all of the history
pub calls_whole : (base : ℕ) (log : List Moment) → calls_in base log (places_from 0 log) ≡ calls_at base log
calls_whole base log = calls_from base [] log ∙ ap (λ (n : ℕ). calls_at n log) (sym (same_place base))
