-- Where the container tells that no call of it fails, after a step.
use Rattle.std.proofs.Common.{◌≡◌, ◌⊎◌, ℕ, ◌+◌, ◌^◌, ◌<◌, ◌≤◌, Bool, true, false, true≢false, List, [], ◌∷◌, ◌++◌, length, Option, Some, IfSome, IsTrue, Err, cond, refl, sym, ap, ◌∙◌, subst, inl, inr, arith, length-append, append-nil}
use Rattle.std.proofs.lemmas.List.Sums.{sum_by-cons}
use Rattle.esr_model.specs.Values.{Has}
use Rattle.esr_model.specs.Image.{Image}
use Rattle.esr_core.specs.Entry.{Refused, DepotFault, Entry, Moment}
use Rattle.esr_depot.specs.declared.error.CallError.{CallError}
use Rattle.esr_depot.specs.declared.error.CallError.TheVariants.{Memory}
use Rattle.esr_depot.specs.Look.{Look}
use Rattle.esr_depot.specs.Calls.{Change, Serves, Called}
use Rattle.esr_desk.specs.Evidence.{NeverFailed}
use Rattle.esr_repo.specs.Log.{image_at, tick, log_from, log_of}
use Rattle.esr_repo.specs.Counted.{is_fault, fault_entries}
use Rattle.esr_repo.specs.Calm.{IsCalm}
use Rattle.esr_repo.proofs.Logs.{length-log}
use Rattle.esr_repo.proofs.BlobCalls.{Pushed, more_is}
use Rattle.esr_repo.proofs.Failing.{entries_more}

-- ---- counts

-- a step without a call
pub no_call : (n : ℕ) → n ≤ n + 1
no_call n = omega arith

one_less : (n : ℕ) → n + 1 ≤ 2 ^ 41 → n ≤ 2 ^ 41
one_less n h = omega arith

one_below : (n : ℕ) → n + 1 ≤ 2 ^ 41 → n < 2 ^ 41
one_below n h = omega arith

none_more : (n more : ℕ) → more ≡ n + 0 → n ≡ 0 → more ≡ 0
none_more n more is none = omega arith

still_sure : (before after n : ℕ) → 2 ^ 41 ≤ before + n → before ≤ after + 1 → 2 ^ 41 ≤ after + (n + 1)
still_sure before after n h spent = omega arith

some_sure : (sure n : ℕ) → 2 ^ 41 ≤ sure + n → n < 2 ^ 41 → 0 < sure
some_sure sure n h below = omega arith

longer : (es : List Entry) (e : Entry) → length (es ++ e ∷ []) ≡ length es + 1
longer es e = length-append es (e ∷ [])

-- ---- fronts

no_front : (front back : List Entry) → ◌≡◌ {A = List Entry} [] (front ++ back) → front ≡ []
no_front [] back is = refl
no_front (x ∷ front) back is = absurd cc

-- a front is all of it, or one of what was there before the last
last_or : (es : List Entry) (e : Entry) (front back : List Entry) → es ++ e ∷ [] ≡ front ++ back → (front ≡ es ++ e ∷ []) ⊎ ((more : List Entry) × (es ≡ front ++ more))
last_or es e [] back is = inr (es, refl)
last_or [] e (x ∷ front) back is =
    let head : e ≡ x = cc in
    let rest : ◌≡◌ {A = List Entry} [] (front ++ back) = cc in
    inl (ap (λ (l : List Entry). x ∷ l) (no_front front back rest) ∙ ap (λ (y : Entry). y ∷ []) (sym head))
last_or (y ∷ es) e (x ∷ front) back is =
    let head : y ≡ x = cc in
    let rest : es ++ e ∷ [] ≡ front ++ back = cc in
    elim (last_or es e front back rest) [
      | inl all ↦ inl (ap (λ (l : List Entry). x ∷ l) all ∙ ap (λ (z : Entry). z ∷ (es ++ e ∷ [])) (sym head))
      | inr earlier ↦ inr (earlier.0, ap (λ (z : Entry). z ∷ es) head ∙ ap (λ (l : List Entry). x ∷ l) earlier.1)
    ]

-- ---- after a step

module _ {quiet : Bool} (before : ℕ) {es mid es' : List Entry} {e : Entry} (h : IsCalm quiet before es) (p : Pushed es mid es' e) (after : ℕ) where
  grown : es' ≡ es ++ e ∷ []
  grown = more_is es mid es' e p

  few : length (es ++ e ∷ []) ≤ 2 ^ 41 → length es + 1 ≤ 2 ^ 41
  few short = subst (λ (n : ℕ). n ≤ 2 ^ 41) (longer es e) short

  -- what was so before one entry more
  was : quiet ≡ true → length (es ++ e ∷ []) ≤ 2 ^ 41 → (fault_entries es ≡ 0) × (2 ^ 41 ≤ before + length es)
  was is_quiet short = let less : length es ≤ 2 ^ 41 = one_less (length es) (few short) in ((h is_quiet).0 es [] (sym (append-nil es)) less, (h is_quiet).1 less)

  short_all : (front : List Entry) → front ≡ es ++ e ∷ [] → length front ≤ 2 ^ 41 → length (es ++ e ∷ []) ≤ 2 ^ 41
  short_all front all short = subst (λ (l : List Entry). length l ≤ 2 ^ 41) all short

  goes : is_fault e.reply ≡ false → before ≤ after + 1 → IsCalm quiet after (es ++ e ∷ [])
  goes none spent is_quiet = (
    (λ front back is short. elim (last_or es e front back is) [
      | inl all ↦
          subst (λ (l : List Entry). fault_entries l ≡ 0) (sym all)
          (none_more (fault_entries es) (fault_entries (es ++ e ∷ [])) (entries_more es e false none) (was is_quiet (short_all front all short)).0)
      | inr earlier ↦ (h is_quiet).0 front earlier.0 earlier.1 short
    ]),
    (λ short. subst (λ (n : ℕ). 2 ^ 41 ≤ after + n) (sym (longer es e)) (still_sure before after (length es) (was is_quiet short).1 spent)),
  )

  -- an entry that tells no failure, after one call at most
  pub calm_goes : is_fault e.reply ≡ false → before ≤ after + 1 → IsCalm quiet after es'
  calm_goes none spent = subst (λ (l : List Entry). IsCalm quiet after l) (sym grown) (goes none spent)

  one_sure : quiet ≡ true → length (es ++ e ∷ []) ≤ 2 ^ 41 → 0 < before
  one_sure is_quiet short = some_sure before (length es) (was is_quiet short).1 (one_below (length es) (few short))

  fails : (failed : Bool) → Serves before after failed → failed ≡ true → IsCalm quiet after (es ++ e ∷ [])
  fails failed serves has is_quiet = (
    (λ front back is short. elim (last_or es e front back is) [
      | inl all ↦ absurd (true≢false (sym has ∙ serves.sure (one_sure is_quiet (short_all front all short))))
      | inr earlier ↦ (h is_quiet).0 front earlier.0 earlier.1 short
    ]),
    (λ short. absurd (true≢false (sym has ∙ serves.sure (one_sure is_quiet short)))),
  )

  -- a call fails only where no call is sure
  pub calm_failed : (failed : Bool) → Serves before after failed → failed ≡ true → IsCalm quiet after es'
  calm_failed failed serves has = subst (λ (l : List Entry). IsCalm quiet after l) (sym grown) (fails failed serves has)

-- out of memory: nothing changed
pub calm_wanting : {T : Type 0} {quiet : Bool} {old : Look} {es : List Entry} → IsCalm quiet old.sure es
    → (new : Look) (mid : List Entry) → mid ≡ es → (ok : T → Change) (may : Change) (error : CallError) → error ≡ Memory → Called old new ok may (Err error) → IsCalm quiet new.sure mid
calm_wanting {T} {quiet} {old} {es} h new mid reserved ok may error is c =
    let stays = (subst (λ x. Called old new ok may (Err x)) is c).stays refl in
    subst (λ (n : ℕ). IsCalm quiet n mid) (sym stays.sure) (subst (λ (l : List Entry). IsCalm quiet old.sure l) (sym reserved) h)

-- ---- the beginning

pub calm_begun : (quiet : Bool) (sure : ℕ) → (quiet ≡ true → 2 ^ 41 ≤ sure) → IsCalm quiet sure []
calm_begun quiet sure h is_quiet = ((λ front back is short. none_in front back is), (λ short. all_sure sure (h is_quiet)))
  where
    none_in : (front back : List Entry) → ◌≡◌ {A = List Entry} [] (front ++ back) → fault_entries front ≡ 0
    none_in [] back is = refl
    none_in (x ∷ front) back is = absurd cc

    all_sure : (n : ℕ) → 2 ^ 41 ≤ n → 2 ^ 41 ≤ n + 0
    all_sure n enough = omega arith

-- ---- calls

-- a call is sure
pub sure_now : (quiet : Bool) (l : Look) (clock : ℕ) (es : List Entry) (seen : List Moment) → IsCalm quiet l.sure es → log_of l clock es ≡ seen → quiet ≡ true → length seen < 2 ^ 41 → 0 < l.sure
sure_now quiet l clock es seen h view is_quiet below =
    let same : length seen ≡ length es = sym (ap length view) ∙ length-log (image_at l) clock es in
    let short : length es < 2 ^ 41 = subst (λ (n : ℕ). n < 2 ^ 41) same below in
    some_sure l.sure (length es) ((h is_quiet).1 (within (length es) short)) short
  where
    within : (n : ℕ) → n < 2 ^ 41 → n ≤ 2 ^ 41
    within n h = omega arith

-- so is what a call found
pub found_sure : {F : Type 0} (sure : ℕ) (is_sure : F → Bool) (o : Option F) (fetch : F) → o ≡ Some fetch → IfSome o (λ f. 0 < sure → IsTrue (is_sure f)) → 0 < sure → IsTrue (is_sure fetch)
found_sure {F} sure is_sure o fetch is h = subst (λ (x : Option F). IfSome x (λ f. 0 < sure → IsTrue (is_sure f))) is h

-- ---- failures

counted_more : (x : Entry) (es : List Entry) → fault_entries (x ∷ es) ≡ cond (is_fault x.reply) 1 0 + fault_entries es
counted_more x es = sum_by-cons (λ (y : Entry). cond (is_fault y.reply) 1 0) x es

one_counted : (b : Bool) (n : ℕ) → b ≡ true → 1 ≤ cond b 1 0 + n
one_counted true n e = let is : 1 ≤ 1 + n = omega arith in is
one_counted false n e = absurd cc

rest_counted : (b : Bool) (n : ℕ) → 1 ≤ n → 1 ≤ cond b 1 0 + n
rest_counted true n h = let is : 1 ≤ 1 + n = omega arith in is
rest_counted false n h = let rest : 1 ≤ n = h in let is : 1 ≤ 0 + n = omega (arith, rest) in is

counted_one : (es : List Entry) (e : Entry) → Has es e → is_fault e.reply ≡ true → 1 ≤ fault_entries es
counted_one [] e h fault = absurd h
counted_one (x ∷ es) e (inl is) fault = subst (λ (n : ℕ). 1 ≤ n) (sym (counted_more x es)) (one_counted (is_fault x.reply) (fault_entries es) (ap (λ (y : Entry). is_fault y.reply) is ∙ fault))
counted_one (x ∷ es) e (inr h) fault = subst (λ (n : ℕ). 1 ≤ n) (sym (counted_more x es)) (rest_counted (is_fault x.reply) (fault_entries es) (counted_one es e h fault))

none_counted : (es : List Entry) (e : Entry) → fault_entries es ≡ 0 → Has es e → e.reply ≡ Refused DepotFault → ⊥
none_counted es e none h is =
    let one : 1 ≤ fault_entries es = counted_one es e h (ap is_fault is) in
    let zeros : fault_entries es ≡ 0 = none in
    omega (arith, one, zeros)

in_history : (at : ℕ → Option Image) (t : ℕ) (es : List Entry) (m : Moment) → Has (log_from at t es) m → Has es m.entry
in_history at t [] m h = absurd h
in_history at t (e ∷ es) m (inl here) = inl (ap (λ (x : Moment). x.entry) here)
in_history at t (e ∷ es) m (inr h) = inr (in_history at (tick t e) es m h)

-- where the container is taken for quiet no entry tells one
pub never_failed : (quiet : Bool) (l : Look) (clock : ℕ) (es : List Entry) (seen : List Moment) → IsCalm quiet l.sure es → log_of l clock es ≡ seen → quiet ≡ true → length seen ≤ 2 ^ 41 → NeverFailed seen
never_failed quiet l clock es seen h view is_quiet short m has failed =
    let same : length seen ≡ length es = sym (ap length view) ∙ length-log (image_at l) clock es in
    let few : length es ≤ 2 ^ 41 = subst (λ (n : ℕ). n ≤ 2 ^ 41) same short in
    none_counted es m.entry ((h is_quiet).0 es [] (sym (append-nil es)) few) (in_history (image_at l) clock es m (subst (λ (log : List Moment). Has log m) (sym view) has)) failed
