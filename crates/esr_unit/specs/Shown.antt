-- What shows how a unit ends before its time.
use Rattle.std.specs.Prelude.{ℕ, List}
use Rattle.esr_core.specs.Entry.{Moment}
use Rattle.esr_desk.specs.declared.hand.Hand.{Hand}
use Rattle.esr_desk.specs.declared.hand.Hand.TheVariants as hands
use Rattle.esr_desk.specs.Entries.{why_of}
use Rattle.esr_desk.specs.Start.{Start}
use Rattle.esr_desk.specs.Conditions.{CanFinish}
use Rattle.esr_desk.specs.Hands.{MayFail}
use Rattle.esr_desk.specs.Halts.{Halts}
use Rattle.esr_desk.specs.Evidence.{Evidence}
use Rattle.esr_desk.specs.Shown.{IsShown}
use Rattle.esr_unit.specs.declared.trouble.Trouble.{Trouble}
use Rattle.esr_unit.specs.declared.ending.Ending.{Ending}
use Rattle.esr_unit.specs.declared.ending.Ending.TheVariants as endings
use Rattle.esr_unit.specs.Ending.{ending_by}

-- a step of a unit's was told that its term is over
abbrev pub IsOver : Hand → Start → List Moment → ℕ → Type 0
IsOver hands.Unit s log who = CanFinish s log who
IsOver hands.Delete s log who = CanFinish s log who
IsOver hand s log who = ⊥

-- its cause is shown; or its own object has failed, for which this stands; or its term is over; or it may stop
abbrev pub EndingShown : {S F H T : Type 0} → Hand → Evidence S F H T → Type 0 → Start → List Moment → ℕ → Ending S F H T → Type 0
EndingShown hand e own s log who (endings.Failed why b) = IsShown hand e s log who (why_of why) b
EndingShown hand e own s log who endings.Own = own
EndingShown hand e own s log who endings.Stale = IsOver hand s log who
EndingShown hand e own s log who (endings.Stopped refusal) = Halts s log who refusal

-- it may be told that it failed, where that is its end
abbrev pub MayEnd : {S F H T : Type 0} → Hand → Start → List Moment → ℕ → Ending S F H T → Type 0
MayEnd hand s log who (endings.Failed why b) = MayFail hand s log who
MayEnd hand s log who ending = Unit {0}

-- what a trouble ends with is shown
abbrev pub Shown : {S F H T : Type 0} → Hand → Evidence S F H T → Type 0 → Start → List Moment → ℕ → Trouble S F → Type 0
Shown {S} {F} {H} {T} hand e own s log who trouble = EndingShown hand e own s log who (ending_by {S = S} {F = F} {H = H} {T = T} trouble)
