-- A history with one entry more keeps its tickets in order.
use Rattle.std.proofs.Common.{◌≡◌, ℕ, ◌<◌, ◌≤◌, List, [], ◌∷◌, ◌++◌, length, Option, Some, refl, sym, ap, ◌∙◌, subst, ⊎_elim, arith, append-nil}
use Rattle.esr_turns.specs.Places.{times, places_from}
use Rattle.esr_turns.specs.Histories.{said}
use Rattle.esr_turns.specs.Tickets.{Together, Tickets, MayAdd}
use Rattle.esr_turns.proofs.Places.{times_append, misses, hits}
use Rattle.esr_turns.proofs.Histories.{said_front, said_snoc, said_below}

module _ {E : Type 0} (of gave : E → Option ℕ) where
  pub tickets_more : (log : List E) (mine : List ℕ) (e : E) → Tickets of gave log → MayAdd of gave log mine e → Tickets of gave (log ++ e ∷ [])
  tickets_more log mine e h may = record {
    once = λ i j t a b. ⊎_elim
        (λ x. ⊎_elim (λ y. h.once i j t x y) (λ y. absurd (may.1 t y.1 i x)) (said_snoc gave log e j t b))
        (λ x. ⊎_elim (λ y. absurd (may.1 t x.1 j y)) (λ y. x.0 ∙ sym y.0) (said_snoc gave log e j t b))
        (said_snoc gave log e i t a);
    given = λ j t a. ⊎_elim
        (λ x. let g = h.given j t x in (g.0, said_front gave log (e ∷ []) g.0 t g.1))
        (λ x. let g = may.0 t x.1 in (g.0, said_front gave log (e ∷ []) g.0 t g.1))
        (said_snoc of log e j t a);
  }

  -- `new` has the places of the entry's maker after it, or those of another
  pub together_more : (log : List E) (mine : List ℕ) (e : E) (new : List ℕ) → Tickets of gave log → MayAdd of gave log mine e
      → ((i j t : ℕ) → said gave log i ≡ Some t → said of log j ≡ Some t → times i new ≡ times j new)
      → ((i t : ℕ) → said gave log i ≡ Some t → 0 < times i mine → times i new ≡ times (length log) new)
      → Together of gave (log ++ e ∷ []) new
  together_more log mine e new h may old last i j t a b = ⊎_elim
      (λ x. ⊎_elim (λ y. old i j t x y)
      (λ y. let g = may.0 t y.1 in let same : g.0 ≡ i = h.once g.0 i t g.1 x in last i t x (subst (λ (z : ℕ). 0 < times z mine) same g.2) ∙ ap (λ (z : ℕ). times z new) (sym y.0))
      (said_snoc of log e j t b))
      (λ x. ⊎_elim (λ y. let g = h.given j t y in absurd (may.1 t x.1 g.0 g.1)) (λ y. ap (λ (z : ℕ). times z new) (x.0 ∙ sym y.0)) (said_snoc of log e j t b))
      (said_snoc gave log e i t a)

  pub tickets_es : (log : List E) (mine : List ℕ) (es : List E) → length es ≤ 1 → Tickets of gave log → ((e : E) → es ≡ e ∷ [] → MayAdd of gave log mine e) → Tickets of gave (log ++ es)
  tickets_es log mine [] le h may = subst (Tickets of gave) (sym (append-nil log)) h
  tickets_es log mine (e ∷ []) le h may = tickets_more log mine e h (may e refl)
  tickets_es log mine (e ∷ f ∷ es) le h may = absurd (omega arith)

  pub mine_es : (log : List E) (mine : List ℕ) (es : List E) → length es ≤ 1 → Tickets of gave log → ((e : E) → es ≡ e ∷ [] → MayAdd of gave log mine e)
      → Together of gave log mine → times (length log) mine ≡ 0 → ((i : ℕ) → times i mine ≤ 1) → Together of gave (log ++ es) (mine ++ places_from (length log) es)
  mine_es log mine [] le h may with_it none one = subst (λ (x : List E × List ℕ). Together of gave x.0 x.1) (λ i. (sym (append-nil log) i, sym (append-nil mine) i)) with_it
  mine_es log mine (e ∷ []) le h may with_it none one =
      let n : ℕ = length log in
      let new : List ℕ = mine ++ n ∷ [] in
      let kept : (i t : ℕ) (f : E → Option ℕ) → said f log i ≡ Some t → times i new ≡ times i mine = λ i t f a.
      let less : i < n = said_below f log i t a in
      let z : times i (n ∷ []) ≡ 0 = misses n i (λ same. omega arith) in
      times_append i mine (n ∷ []) ∙ omega arith in
      let last : times n new ≡ 1 = let z : times n (n ∷ []) ≡ 1 = hits n n refl in times_append n mine (n ∷ []) ∙ omega arith in
      together_more log mine e new h (may e refl) (λ i j t a b. kept i t gave a ∙ with_it i j t a b ∙ sym (kept j t of b)) (λ i t a some_i. let x = one i in kept i t gave a ∙ omega arith)
  mine_es log mine (e ∷ f ∷ es) le h may with_it none one = absurd (omega arith)

  pub other_es : (log : List E) (mine other : List ℕ) (es : List E) → length es ≤ 1 → Tickets of gave log → ((e : E) → es ≡ e ∷ [] → MayAdd of gave log mine e)
      → Together of gave log other → times (length log) other ≡ 0 → ((i : ℕ) → 0 < times i mine → times i other ≡ 0) → Together of gave (log ++ es) other
  other_es log mine other [] le h may with_it none apart = subst (λ l. Together of gave l other) (sym (append-nil log)) with_it
  other_es log mine other (e ∷ []) le h may with_it none apart = together_more log mine e other h (may e refl) with_it (λ i t a some_i. apart i some_i ∙ sym none)
  other_es log mine other (e ∷ f ∷ es) le h may with_it none apart = absurd (omega arith)
