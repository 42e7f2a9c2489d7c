-- What a crash might have left since a moment, over several calls.
use Rattle.std.specs.Prelude.{◌≡◌, ◌⊎◌, ℕ, ◌≤◌, true, Option, Some, Result, Ok, Err, IfOk, is_err}
use Rattle.std.proofs.Common.{inl, inr, ⊎_elim, refl, sym, ◌∙◌, arith}
use Rattle.esr_depot.specs.declared.error.CallError.{CallError}
use Rattle.esr_depot.specs.declared.error.CallError.TheVariants.{Memory, Failed}
use Rattle.esr_depot.specs.Image.{Image}
use Rattle.esr_depot.specs.Look.{Look, now}
use Rattle.esr_depot.specs.Calls.{Change, Passed, Stays, Called, is_wanting, has_failed}

-- ---- what a call does, whatever it answers

module _ {T : Type 0} (old new : Look) (ok : T → Change) (may : Change) where
  -- time doesn't go back
  pub called_later : (result : Result T CallError) → Called old new ok may result → old.clock ≤ new.clock
  called_later (Err Memory) called = omega (arith, (called.stays refl).clock)
  called_later result called = (called.passed refl).later

  -- since an earlier moment there is no image but the old ones and what the call may leave
  pub called_since : (result : Result T CallError) → Called old new ok may result → (t : ℕ) (i : Image) → t ≤ old.clock → new.since t i → old.since t i ⊎ may (now old) (Some i)
  called_since (Err Memory) called t i le left = inl ((called.stays refl).since t i left)
  called_since result called t i le left = (called.passed refl).since t i le left

-- ---- how a container shows what a call did

-- a call that may leave more
pub passed_with : (old new : Look) (may may' : Change) → ((i : Option Image) → may (now old) i → may' (now old) i) → Passed old new may → Passed old new may'
passed_with old new may may' more p = record {
  ticked = p.ticked;
  later = p.later;
  past = p.past;
  since = λ t i le left. ⊎_elim (λ was. inl was) (λ m. inr (more (Some i) m)) (p.since t i le left);
}

module _ {T : Type 0} (old new : Look) (ok : T → Change) (may : Change) where
  -- it answered
  pub called_ok : (x : T) → Passed old new may → ok x (now old) (now new) → Called old new ok may (Ok x)
  called_ok x passed is = record { passed = λ _. passed; stays = λ e. absurd cc; done = is; failed = λ e. absurd cc }

  -- it failed
  pub called_failed : Passed old new may → may (now old) (now new) → Called old new ok may (Err Failed)
  called_failed passed is = record { passed = λ _. passed; stays = λ e. absurd cc; done = tt; failed = λ _. is }

  -- it found no memory
  pub called_wanting : (result : Result T CallError) → is_wanting result ≡ true → Stays old new → Called old new ok may result
  called_wanting (Ok x) is stays = absurd cc
  called_wanting (Err Memory) is stays = record { passed = λ e. absurd cc; stays = λ _. stays; done = tt; failed = λ e. absurd cc }
  called_wanting (Err Failed) is stays = absurd cc

  -- an error that another call hands on, which may leave more
  pub called_on : {U : Type 0} (ok' : U → Change) (may' : Change) (result : Result T CallError) (result' : Result U CallError)
      → Called old new ok may result → is_err result' ≡ true → is_wanting result' ≡ is_wanting result → has_failed result' ≡ has_failed result
      → ((i : Option Image) → may (now old) i → may' (now old) i) → Called old new ok' may' result'
  called_on ok' may' result result' called err wanting failed more = record {
    passed = λ e. passed_with old new may may' more (called.passed (sym wanting ∙ e));
    stays = λ e. called.stays (sym wanting ∙ e);
    done = none ok' result' err;
    failed = λ e. more (now new) (called.failed (sym failed ∙ e));
  }
    where
      none : {U : Type 0} (ok' : U → Change) (r : Result U CallError) → is_err r ≡ true → IfOk r (λ x. ok' x (now old) (now new))
      none ok' (Ok x) err = absurd cc
      none ok' (Err e) err = tt

-- ---- runs of calls

-- A crash at any moment since `old` left an image that has P.
pub record LeavesOnly (old new : Look) (P : Image → Type 0) : Type 0 where
  pub later : old.clock ≤ new.clock
  pub each : (i : Image) → new.since old.clock i → P i
  -- for a run of calls that began earlier
  pub before : (t : ℕ) (i : Image) → t ≤ old.clock → new.since t i → old.since t i ⊎ P i

-- before the first call
pub started : (old : Look) (P : Image → Type 0) → ((i : Image) → old.since old.clock i → P i) → LeavesOnly old old P
started old P here = record { later = omega arith; each = here; before = λ t i le left. inl left }

-- one call more, in which a crash leaves what has P
pub goes_on : {T : Type 0} (old mid new : Look) (P : Image → Type 0) (ok : T → Change) (may : Change) (result : Result T CallError)
    → LeavesOnly old mid P → Called mid new ok may result → ((i : Image) → may (now mid) (Some i) → P i) → LeavesOnly old new P
goes_on old mid new P ok may result so_far called here = record {
  later = omega (arith, so_far.later, called_later mid new ok may result called);
  each = λ i left. ⊎_elim (so_far.each i) (here i) (called_since mid new ok may result called old.clock i so_far.later left);
  before = λ t i le left. ⊎_elim (so_far.before t i le) (λ m. inr (here i m)) (called_since mid new ok may result called t i (omega (arith, le, so_far.later)) left);
}

-- two runs of calls, one after the other
pub joined : (old mid new : Look) (P Q : Image → Type 0) → LeavesOnly old mid P → LeavesOnly mid new Q → ((i : Image) → Q i → P i) → LeavesOnly old new P
joined old mid new P Q first second weaker = record {
  later = omega (arith, first.later, second.later);
  each = λ i left. ⊎_elim (first.each i) (weaker i) (second.before old.clock i first.later left);
  before = λ t i le left. ⊎_elim (first.before t i le) (λ q. inr (weaker i q)) (second.before t i (omega (arith, le, first.later)) left);
}
