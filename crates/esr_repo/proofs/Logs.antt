-- Histories that go on by one moment.
use Rattle.std.proofs.Common.{◌≡◌, ℕ, suc, ◌-◌, ◌^◌, ◌≤◌, Bool, true, false, List, [], ◌∷◌, ◌++◌, length, Option, refl, sym, ap, ◌∙◌, subst, arith}
use Rattle.std.specs.Prelude.{option_map, if◌then◌else◌}
use Rattle.esr_model.specs.Image.{Image}
use Rattle.esr_core.specs.Entry.{Entry, Moment}
use Rattle.esr_depot.specs.Look.{Look}
use Rattle.esr_depot.specs.Calls.{up, Change, Passed, Stays}
use Rattle.esr_repo.specs.Log.{image_of, image_at, calls, tick, ticks, log_from, log_of}

-- ---- the clock

up_rises : (t : ℕ) → t ≤ 2 ^ 64 - 1 → (t ≤ up t) × (up t ≤ 2 ^ 64 - 1)
up_rises t h = (omega arith, omega arith)

tick_rises : (t : ℕ) (called : Bool) → t ≤ 2 ^ 64 - 1 → (t ≤ (if called then up t else t)) × ((if called then up t else t) ≤ 2 ^ 64 - 1)
tick_rises t true h = up_rises t h
tick_rises t false h = (omega arith, h)

-- the clock doesn't go back, and stays at the last value of a u64
pub ticks_rise : (t : ℕ) (es : List Entry) → t ≤ 2 ^ 64 - 1 → t ≤ ticks t es
ticks_rise t [] h = omega arith
ticks_rise t (e ∷ es) h =
    let one = tick_rises t (calls e.step e.reply) h in
    let rest = ticks_rise (tick t e) es one.1 in
    omega (arith, one.0, rest)

pub ticks_within : (t : ℕ) (es : List Entry) → t ≤ 2 ^ 64 - 1 → ticks t es ≤ 2 ^ 64 - 1
ticks_within t [] h = h
ticks_within t (e ∷ es) h = ticks_within (tick t e) es (tick_rises t (calls e.step e.reply) h).1

pub ticks-both : (t : ℕ) (xs ys : List Entry) → ticks t (xs ++ ys) ≡ ticks (ticks t xs) ys
ticks-both t [] ys = refl
ticks-both t (x ∷ xs) ys = ticks-both (tick t x) xs ys

pub ticks-append : (t : ℕ) (es : List Entry) (e : Entry) → ticks t (es ++ e ∷ []) ≡ tick (ticks t es) e
ticks-append t [] e = refl
ticks-append t (x ∷ es) e = ticks-append (tick t x) es e

-- ---- the moments of a list of entries

log-append : (at : ℕ → Option Image) (t : ℕ) (es : List Entry) (e : Entry)
    → log_from at t (es ++ e ∷ []) ≡ log_from at t es ++ record { entry = e; image = at (tick (ticks t es) e) } ∷ []
log-append at t [] e = refl
log-append at t (x ∷ es) e = ap (λ (l : List Moment). record { entry = x; image = at (tick t x) } ∷ l) (log-append at (tick t x) es e)

pub log-both : (at : ℕ → Option Image) (t : ℕ) (xs ys : List Entry) → log_from at t (xs ++ ys) ≡ log_from at t xs ++ log_from at (ticks t xs) ys
log-both at t [] ys = refl
log-both at t (x ∷ xs) ys = ap (λ (l : List Moment). record { entry = x; image = at (tick t x) } ∷ l) (log-both at (tick t x) xs ys)

pub log_same : (at at' : ℕ → Option Image) (t : ℕ) (es : List Entry) → t ≤ 2 ^ 64 - 1 → ((k : ℕ) → k ≤ ticks t es → at' k ≡ at k) → log_from at' t es ≡ log_from at t es
log_same at at' t [] h same = refl
log_same at at' t (x ∷ es) h same =
    let one = tick_rises t (calls x.step x.reply) h in
    ap (λ (i : Option Image). record { entry = x; image = i } ∷ log_from at' (tick t x) es) (same (tick t x) (ticks_rise (tick t x) es one.1))
    ∙ ap (λ (l : List Moment). record { entry = x; image = at (tick t x) } ∷ l) (log_same at at' (tick t x) es one.1 same)

pub length-log : (at : ℕ → Option Image) (t : ℕ) (es : List Entry) → length (log_from at t es) ≡ length es
length-log at t [] = refl
length-log at t (x ∷ es) = ap suc (length-log at (tick t x) es)

-- what the container shows after an entry
pub record Goes (old new : Look) (e : Entry) : Type 0 where
  pub clock : new.clock ≡ tick old.clock e
  pub past : (k : ℕ) → k ≤ old.clock → new.at k ≡ old.at k

-- an entry without a call
pub goes_same : (l : Look) (e : Entry) → calls e.step e.reply ≡ false → Goes l l e
goes_same l e none = record { clock = ap (λ (b : Bool). if b then up l.clock else l.clock) (sym none); past = λ k h. refl }

-- an entry of a call
pub goes_passed : (old new : Look) (may : Change) (e : Entry) → calls e.step e.reply ≡ true → Passed old new may → Goes old new e
goes_passed old new may e one p = record { clock = p.ticked ∙ ap (λ (b : Bool). if b then up old.clock else old.clock) (sym one); past = p.past }

-- the image that the container tells now, as the definitions see it
abbrev pub image_now : Look → Option Image
image_now l = image_at l l.clock

-- the moments after one more entry
pub log_goes : (old new : Look) (clock : ℕ) (es : List Entry) (e : Entry) → clock ≤ 2 ^ 64 - 1 → old.clock ≡ ticks clock es → Goes old new e
    → log_of new clock (es ++ e ∷ []) ≡ log_of old clock es ++ record { entry = e; image = image_now new } ∷ []
log_goes old new clock es e bounded is g =
    log-append (image_at new) clock es e
    ∙ ap (λ (l : List Moment). l ++ record { entry = e; image = image_at new (tick (ticks clock es) e) } ∷ [])
    (log_same (image_at old) (image_at new) clock es bounded (λ k h. ap (option_map image_of) (g.past k (subst (λ n. k ≤ n) (sym is) h))))
    ∙ ap (λ (n : ℕ). log_of old clock es ++ record { entry = e; image = image_at new n } ∷ []) (ap (λ n. tick n e) (sym is) ∙ sym g.clock)

-- where memory was wanting the moments stay
pub log_stays : (old new : Look) (clock : ℕ) (es : List Entry) → clock ≤ 2 ^ 64 - 1 → Stays old new → log_of new clock es ≡ log_of old clock es
log_stays old new clock es bounded n = log_same (image_at old) (image_at new) clock es bounded (λ k h. ap (option_map image_of) (n.at k))
