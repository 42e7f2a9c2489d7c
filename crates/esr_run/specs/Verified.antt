-- The verifications and the checks of a run.
use Rattle.std.specs.Prelude.{◌≡◌, ◌⊎◌, ℕ, Bool, true, false, List, [], ◌∷◌, ◌++◌, Result, Ok, Err}
use Rattle.esr_core.specs.Entry.{Read, DrawTest, ReadStep, VerifiedAll, HasEnded, Moment}
use Rattle.esr_desk.specs.declared.refusal.StepRefusal.{StepRefusal}
use Rattle.esr_desk.specs.declared.refusal.StepRefusal.TheVariants as steps
use Rattle.esr_desk.specs.Start.{Start, Legal}
use Rattle.esr_desk.specs.Own.{caller_of}
use Rattle.esr_quiet.specs.Asked.{is_line_ask}
use Rattle.esr_quiet.specs.Smooth.{HasDrawn}
use Rattle.esr_verify.specs.Idle.{IsIdle}
use Rattle.esr_verify.specs.Verified.{HasVerified}
use Rattle.esr_verify.specs.Began.{IsFurther}
use Rattle.esr_check.specs.Began.{IsOfCheck}
use Rattle.esr_check.specs.First.{AreFirst}
use Rattle.esr_run.specs.Checked.{AreChecked, NoCheckFails, HasLooked}

-- each that ended well is whole, with the test blobs of so many workers: the steps up to its end, that among them, are just those of a good verification, from its draw on
abbrev pub AreVerified : Start → ℕ → List Moment → Type 0
AreVerified s workers log = (front back : List Moment) (m : Moment) → log ≡ front ++ m ∷ back → m.entry.who ≡ 0 → m.entry.step ≡ ReadStep VerifiedAll → m.entry.reply ≡ HasEnded
    → (old : List Moment) × HasVerified s old (front ++ m ∷ []) workers

-- Each step of who 0 that reads, but for a draw, is a further step of a verification, with a draw before it; or, where lines ask for
-- checks, of a check, with a look before it.
abbrev pub AreBegun : Bool → List Moment → Type 0
AreBegun checks log = (front back : List Moment) (m : Moment) (read : Read) → log ≡ front ++ m ∷ back → m.entry.who ≡ 0 → m.entry.step ≡ ReadStep read
    → (m.entry.step ≡ ReadStep DrawTest) ⊎ ((IsFurther read × HasDrawn front) ⊎ ((checks ≡ true) × IsOfCheck read × HasLooked front))

-- each step of who 0 for which a line asks, a draw too, comes where no verification is open
abbrev pub AreClosed : Start → List Moment → Type 0
AreClosed s log = (front back : List Moment) (m : Moment) → log ≡ front ++ m ∷ back → m.entry.who ≡ 0 → is_line_ask m.entry.step ≡ true → IsIdle (caller_of s front)

-- all of these; `checks` says whether the lines ask for a check
pub record AreWhole (s : Start) (workers : ℕ) (checks : Bool) (log : List Moment) : Type 0 where
  pub verified : AreVerified s workers log
  pub checked : AreChecked s log
  pub begun : AreBegun checks log
  pub closed : AreClosed s log
  pub unchecked : checks ≡ false → NoCheckFails s log
  -- each check that failed names the first blob that is damaged: all before it, in the order in which a check reads, agree
  pub first : AreFirst s log

-- the verifications are whole and none is open, so that who 0 may begin one, or a check
pub record MayVerify (s : Start) (workers : ℕ) (checks : Bool) (log : List Moment) : Type 0 where
  pub whole : AreWhole s workers checks log
  pub idle : IsIdle (caller_of s log)
  pub legal : Legal s log

-- no verification is open after a line; where memory was wanting or turns were spent one may be
abbrev pub VerifiesOn : {X : Type 0} → Start → ℕ → Bool → List Moment → Result X StepRefusal → Type 0
VerifiesOn s workers checks new (Ok x) = MayVerify s workers checks new
VerifiesOn s workers checks new (Err steps.Memory) = AreWhole s workers checks new
VerifiesOn s workers checks new (Err steps.TurnsSpent) = AreWhole s workers checks new
VerifiesOn s workers checks new (Err (steps.Refused refusal)) = MayVerify s workers checks new
