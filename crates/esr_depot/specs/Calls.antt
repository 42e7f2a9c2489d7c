-- What each call of a container does to its moments, to its count of faults and to what a crash might have left.
use Rattle.std.specs.Prelude.{◌≡◌, ◌⊎◌, ℕ, ◌+◌, ◌-◌, ◌^◌, ◌<◌, ◌≤◌, min, Bool, true, false, Option, Some, Result, Ok, Err, IfOk}
use Rattle.esr_depot.specs.declared.error.CallError.{CallError}
use Rattle.esr_depot.specs.declared.error.CallError.TheVariants.{Memory, Failed}
use Rattle.esr_depot.specs.declared.error.Failed.{Failed as FailedAlone}
use Rattle.esr_depot.specs.Image.{Image}
use Rattle.esr_depot.specs.Look.{Look, now}

-- one more, of a count that stays at the last value of a u64
abbrev pub up : ℕ → ℕ
up n = min (n + 1) (2 ^ 64 - 1)

-- a count of faults never falls, and has risen where the call failed
pub record HasCause (before now : ℕ) (failed : Bool) : Type 0 where
  pub later : before ≤ now
  pub rose : failed ≡ true → up before ≤ now

-- one more call was served of those that are sure not to fail
pub record Serves (before now : ℕ) (failed : Bool) : Type 0 where
  pub spent : before ≤ now + 1
  pub sure : 0 < before → failed ≡ false

-- the call found no memory
abbrev pub is_wanting : {T : Type 0} → Result T CallError → Bool
is_wanting (Ok x) = false
is_wanting (Err Memory) = true
is_wanting (Err Failed) = false

-- the container failed
abbrev pub has_failed : {T : Type 0} → Result T CallError → Bool
has_failed (Ok x) = false
has_failed (Err Memory) = false
has_failed (Err Failed) = true

-- the answer of a call that takes no memory, as one of a call that does
abbrev pub without_memory : {T : Type 0} → Result T FailedAlone → Result T CallError
without_memory (Ok x) = Ok x
without_memory (Err e) = Err Failed

-- how an image follows from the one before it, where they are told
abbrev pub Change : Type 1
Change = Option Image → Option Image → Type 0

-- the image stays
abbrev pub SameImage : Change
SameImage old new = new ≡ old

-- A call was made that may leave what `may` says: the clock went on by one, the images of earlier moments stand, and a
-- crash since an earlier moment might have left what it might have left before the call, or what the call may leave.
pub record Passed (old new : Look) (may : Change) : Type 0 where
  pub ticked : new.clock ≡ up old.clock
  pub later : old.clock ≤ new.clock
  pub past : (k : ℕ) → k ≤ old.clock → new.at k ≡ old.at k
  pub since : (t : ℕ) (i : Image) → t ≤ old.clock → new.since t i → old.since t i ⊎ may (now old) (Some i)

-- no time passed, and all is as it was
pub record Stays (old new : Look) : Type 0 where
  pub clock : new.clock ≡ old.clock
  pub at : (k : ℕ) → new.at k ≡ old.at k
  pub since : (t : ℕ) (i : Image) → new.since t i → old.since t i
  pub sure : new.sure ≡ old.sure

-- What a call does, by its answer: `ok` says how the image follows by what it returns, `may` what a failed call, or one
-- that a crash cuts off, may leave. Where memory was wanting all is as it was.
pub record Called {T : Type 0} (old new : Look) (ok : T → Change) (may : Change) (result : Result T CallError) : Type 0 where
  pub passed : is_wanting result ≡ false → Passed old new may
  pub stays : is_wanting result ≡ true → Stays old new
  pub done : IfOk result (λ x. ok x (now old) (now new))
  pub failed : has_failed result ≡ true → may (now old) (now new)
