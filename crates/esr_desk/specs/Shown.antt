-- What shows a failure, whoever tells it, and that each that a history tells is shown.
use Rattle.std.specs.Prelude.{◌≡◌, ◌⊎◌, ℕ, ◌≤◌, ◌<◌, List, ◌∷◌, ◌++◌, length, Some}
use Rattle.esr_model.specs.Values.{Has}
use Rattle.esr_core.specs.Entry.{Why, HasEnded, Moment}
use Rattle.esr_desk.specs.declared.hand.Hand.{Hand}
use Rattle.esr_desk.specs.declared.hand.Hand.TheVariants as hands
use Rattle.esr_desk.specs.declared.fault.Fault.{Fault}
use Rattle.esr_desk.specs.declared.fault.By.{By}
use Rattle.esr_desk.specs.declared.fault.By.TheVariants as shows
use Rattle.esr_desk.specs.Start.{Start}
use Rattle.esr_desk.specs.Hands.{fail_step}
use Rattle.esr_desk.specs.Evidence.{Evidence}
use Rattle.esr_desk.specs.Unit.Shown.{IsUnitShown}
use Rattle.esr_desk.specs.Delete.Shown.{IsDeleteShown}
use Rattle.esr_desk.specs.Restore.Shown.{IsRestoreShown}
use Rattle.esr_desk.specs.Check.Shown.{IsCheckShown}
use Rattle.esr_desk.specs.Verify.Shown.{IsVerifyShown}

-- the cause of a failure
abbrev pub IsShown : {S F H T : Type 0} → Hand → Evidence S F H T → Start → List Moment → ℕ → Why → By S F H T → Type 0
IsShown hands.Unit e s log who why b = IsUnitShown e s log who why b
IsShown hands.Delete e s log who why b = IsDeleteShown e s log who why b
IsShown hands.Restore e s log who why b = IsRestoreShown e s log who why b
IsShown hands.Check e s log who why b = IsCheckShown e s log who why b
IsShown hands.Verify e s log who why b = IsVerifyShown e s log who why b

-- ---- of a history

-- a ticket or who 0 tells the failure
abbrev pub IsTeller : Hand → ℕ → Type 0
IsTeller hands.Unit who = Unit {0}
IsTeller hands.Delete who = Unit {0}
IsTeller hands.Restore who = 1 ≤ who
IsTeller hands.Check who = who ≡ 0
IsTeller hands.Verify who = who ≡ 0

-- the report at this place of the history that the hand failed
pub record IsReport (hand : Hand) (log : List Moment) (place who : ℕ) (why : Why) : Type 0 where
  pub front : List Moment
  pub moment : Moment
  pub back : List Moment
  pub is : log ≡ front ++ moment ∷ back
  pub place_is : length front ≡ place
  pub teller : IsTeller hand who
  pub of : moment.entry.who ≡ who
  pub step : moment.entry.step ≡ fail_step hand why
  pub reply : moment.entry.reply ≡ HasEnded

-- the object is listed with this place of the history
abbrev pub IsListed : {S F H T : Type 0} → List (Fault S F H T) → ℕ → By S F H T → Type 0
IsListed faults place (shows.Object object) = Has faults (record { entry = Some place; object = object })
IsListed faults place b = Unit {0}

-- a check and a verification tell their failures by one step: what was open is shown
abbrev pub IsShownOf : {S F H T : Type 0} → Hand → Evidence S F H T → Start → List Moment → ℕ → Why → By S F H T → Type 0
IsShownOf hands.Check e s log who why b = IsCheckShown e s log who why b ⊎ IsVerifyShown e s log who why b
IsShownOf hands.Verify e s log who why b = IsCheckShown e s log who why b ⊎ IsVerifyShown e s log who why b
IsShownOf hand e s log who why b = IsShown hand e s log who why b

-- the cause was shown when the report was made, and the object that failed is listed
pub record IsShownAt {S F H T : Type 0} (hand : Hand) (e : Evidence S F H T) (s : Start) (front : List Moment) (place who : ℕ) (why : Why) (faults : List (Fault S F H T)) : Type 0 where
  pub by : By S F H T
  pub shown : IsShownOf hand e s front who why by
  pub listed : IsListed faults place by

-- the listed object shows the report at its place
pub record ShowsReport {S F H T : Type 0} (e : Evidence S F H T) (s : Start) (log : List Moment) (fault : Fault S F H T) : Type 0 where
  pub place : ℕ
  pub entry_is : fault.entry ≡ Some place
  pub hand : Hand
  pub who : ℕ
  pub why : Why
  pub report : IsReport hand log place who why
  pub shown : IsShownOf hand e s report.front who why (shows.Object fault.object)

-- places rise from one to the next, so that each object is listed once
abbrev pub AreRising : {S F H T : Type 0} → List (Fault S F H T) → Type 0
AreRising {S} {F} {H} {T} faults = (front back : List (Fault S F H T)) (one next : Fault S F H T) → faults ≡ front ++ one ∷ next ∷ back → (p q : ℕ) → one.entry ≡ Some p → next.entry ≡ Some q → p < q

-- Each failure that the history tells is shown, and each listed object shows such a failure, in the order of their places.
pub record AreShown {S F H T : Type 0} (e : Evidence S F H T) (s : Start) (log : List Moment) (faults : List (Fault S F H T)) : Type 0 where
  pub shown : (hand : Hand) (place who : ℕ) (why : Why) (report : IsReport hand log place who why) → IsShownAt hand e s report.front place who why faults
  pub listed : (fault : Fault S F H T) → Has faults fault → ShowsReport e s log fault
  pub rising : AreRising faults
