-- The failures of units, restores, deletes, verifications and checks in a history have causes.
use Rattle.std.specs.Prelude.{ℕ, List}
use Rattle.esr_core.specs.Entry.{Why, Moment}
use Rattle.esr_desk.specs.declared.hand.Hand.{Hand}
use Rattle.esr_desk.specs.declared.hand.Hand.TheVariants as hands
use Rattle.esr_desk.specs.declared.fault.Fault.{Fault}
use Rattle.esr_desk.specs.declared.fault.By.{By}
use Rattle.esr_desk.specs.Start.{Start}
use Rattle.esr_desk.specs.Evidence.{Evidence}
use Rattle.esr_desk.specs.Shown.{IsReport, IsListed, IsShownAt}
use Rattle.esr_desk.specs.Verify.Shown.{IsVerifyShown}

-- the cause of each failure that the hand told was shown when it was told
abbrev pub AreCaused : {S F H T : Type 0} → Hand → Evidence S F H T → Start → List Moment → List (Fault S F H T) → Type 0
AreCaused hand e s log faults = (place who : ℕ) (why : Why) (report : IsReport hand log place who why) → IsShownAt hand e s report.front place who why faults

-- each that a check or a verification told was shown as one of a verification
abbrev pub AreVerifyCaused : {S F H T : Type 0} → Evidence S F H T → Start → List Moment → List (Fault S F H T) → Type 0
AreVerifyCaused {S} {F} {H} {T} e s log faults = (place who : ℕ) (why : Why) (report : IsReport hands.Verify log place who why) → (b : By S F H T) × IsVerifyShown e s report.front who why b × IsListed faults place b
