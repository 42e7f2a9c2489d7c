-- What an object that failed shows, and what one that hasn't failed holds.
use Rattle.std.specs.Prelude.{◌≡◌, ◌<◌, ℕ, Bool, true, false, [], Some, None, Result, Ok, Err, OnOk, if◌then◌else◌}
use Rattle.std.specs.Result.{IsErr, is_err}
use Rattle.std.specs.Io.KnownBytes.{append_known}
use Rattle.std.proofs.Common.{inl, inr, refl, arith}
use Rattle.std.proofs.lemmas.Bool.{cases_Bool}
use Rattle.esr_model.specs.Values.{Bytes}
use Rattle.esr_depot.specs.Calls.{HasCause}
use Rattle.esr_core.specs.Laws.Tests.{clash}
use Rattle.esr_desk.specs.Start.{Start, told_bytes}
use Rattle.esr_desk.specs.Evidence.{Faulty}

-- ---- one that failed

-- it has a count of faults above 0
pub has_risen : (before now : ℕ) (failed : Bool) → HasCause before now failed → failed ≡ true → 0 < now
has_risen before now failed cause is = let rose = cause.rose is in omega arith

-- it is none of a quiet container, where it is sure not to fail
pub is_faulty : (s : Start) (before now : ℕ) (failed : Bool) → HasCause before now failed → (s.quiet ≡ true → failed ≡ false) → failed ≡ true → Faulty s now
is_faulty s before now failed cause never is = (
  has_risen before now failed cause is,
  elim (cases_Bool s.quiet) [
    | inl quiet ↦ absurd (clash failed is (never quiet))
    | inr other ↦ other
  ],
)

-- ---- one that hasn't

pub never_err : {T E : Type 0} (result : Result T E) → (IsErr result → ⊥) → is_err result ≡ false
never_err (Ok x) never = refl
never_err (Err e) never = absurd (never refl)

pub on_ok : {T E : Type 0} (result : Result T E) (P : Type 0) → is_err result ≡ false → OnOk result P → P
on_ok (Ok x) P ok h = h
on_ok (Err e) P ok h = absurd cc

-- the bytes of a stage that began empty
pub told_append : (s : Start) (bytes : Bytes) → append_known (told_bytes s []) bytes ≡ told_bytes s bytes
told_append s bytes = by_tells s.tells bytes
  where
    by_tells : (tells : Bool) (bytes : Bytes) → append_known (if tells then Some [] else None) bytes ≡ (if tells then Some bytes else None)
    by_tells true bytes = refl
    by_tells false bytes = refl
