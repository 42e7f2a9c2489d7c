-- Why the unit stopped or failed, and where its ticket is then.
use Rattle.std.specs.Prelude.{◌≡◌, ◌⊎◌, ℕ, Bool, true, false, List, Option, Some, None}
use Rattle.esr_core.specs.World.{Ticket}
use Rattle.esr_core.specs.Allowed.{HasPutLatest}
use Rattle.esr_core.specs.Past.{WasStale}
use Rattle.esr_core.specs.Entry.{Step, BeginStep, CommitStep, LatestStep, RaiseStep, SettleStep, FinishStep, HasEnded, Refused, Refusal, DepotFault, Moment}
use Rattle.esr_desk.specs.declared.hand.Hand.{Hand}
use Rattle.esr_desk.specs.declared.hand.Hand.TheVariants as hands
use Rattle.esr_desk.specs.declared.entry.Why.{Why}
use Rattle.esr_desk.specs.declared.entry.Why.TheVariants as whys
use Rattle.esr_desk.specs.declared.refusal.EntryRefusal.TheVariants as refusals
use Rattle.esr_desk.specs.declared.refusal.StepRefusal.{StepRefusal}
use Rattle.esr_desk.specs.declared.refusal.StepRefusal.TheVariants as steps
use Rattle.esr_desk.specs.declared.unit.UnitRefusal.{UnitRefusal}
use Rattle.esr_desk.specs.declared.unit.UnitRefusal.TheVariants as units
use Rattle.esr_desk.specs.Refusals.{told_refusal}
use Rattle.esr_desk.specs.Start.{Start, formats_of, world_of, ticket_of}
use Rattle.esr_desk.specs.Outcome.{Stepped, Grounds}
use Rattle.esr_desk.specs.Last.{IsLast}
use Rattle.esr_desk.specs.Halts.{Halts}
use Rattle.esr_desk.specs.Taken.{IsSettled, HasEndedAs}
use Rattle.esr_desk.specs.Unit.Shown.{is_of_latest}
use Rattle.esr_desk.specs.Evidence.{Evidence, Faulty}
use Rattle.esr_desk.specs.Delete.Conditions.{CanFailDelete}
use Rattle.esr_unit.specs.declared.trouble.Trouble.{Trouble}
use Rattle.esr_unit.specs.declared.trouble.Trouble.TheVariants as troubles
use Rattle.esr_unit.specs.declared.ending.Ending.{Ending}
use Rattle.esr_unit.specs.declared.ending.Ending.TheVariants as endings
use Rattle.esr_unit.specs.Ending.{ending_at}
use Rattle.esr_unit.specs.Fail.{HasFailed}
use Rattle.esr_finish.specs.Ticket.{HasSettled, IsUnsettledMaster}
use Rattle.esr_finish.specs.Went.{Worked}

-- ---- a blob that isn't put

-- a step by which a blob is put, a generation begun, or a root made the safe one
abbrev pub IsWriting : Step → Type 0
IsWriting (BeginStep name) = Unit {0}
IsWriting (CommitStep name) = Unit {0}
IsWriting LatestStep = Unit {0}
IsWriting RaiseStep = Unit {0}
IsWriting SettleStep = Unit {0}
IsWriting step = ⊥

-- After others made steps, the last one is the ticket's, and was refused so, if the history tells it: one that writes; and the
-- container failed in none on `index.latest`.
abbrev pub WasPutRefused : Start → List Moment → ℕ → Option Refusal → Type 0
WasPutRefused s log who None = Unit {0}
WasPutRefused s log who (Some refusal) = (before : List Moment) × (step : Step) × Stepped s before log who step (Refused refusal) × (refusal ≡ DepotFault → is_of_latest step ≡ false) × IsWriting step

-- why a blob wasn't put: a step was refused so, or a write to this stage has failed
abbrev pub IsPutRefused : {S F : Type 0} → Start → (S → ℕ) → List Moment → ℕ → Trouble S F → Type 0
IsPutRefused s faults log who (troubles.Step refusal) = WasPutRefused s log who (told_refusal refusal) × Grounds s log who refusal
IsPutRefused s faults log who (troubles.Stage stage) = Faulty s (faults stage)
IsPutRefused s faults log who trouble = ⊥

-- the container failed in a step that was refused so
abbrev pub is_fault : StepRefusal → Bool
is_fault (steps.Refused refusals.DepotFault) = true
is_fault refusal = false

-- ---- `index.latest`

-- the last step of the ticket was one that writes, in which the container failed
abbrev pub HadLatestFault : Start → List Moment → ℕ → Type 0
HadLatestFault s log who = (before : List Moment) × (step : Step) × Stepped s before log who step (Refused DepotFault) × IsWriting step × (s.quiet ≡ false)

-- the ticket has replaced it, or the container failed in that
abbrev pub IsLatestPut : Start → List Moment → ℕ → Bool → Type 0
IsLatestPut s log who true = HasPutLatest (world_of s log) who
IsLatestPut s log who false = HadLatestFault s log who

-- ---- the end

-- a finalization fails for these alone: the container failed, a name was taken, a delete aborted the op, or no generation is left
abbrev pub IsCause : Why → Type 0
IsCause whys.Depot = Unit {0}
IsCause (whys.NameTaken name) = Unit {0}
IsCause (whys.Aborted op) = Unit {0}
IsCause (whys.GenerationsSpent number) = Unit {0}
IsCause why = ⊥

-- where it ends as failed, it is for one of these
abbrev pub EndsAsMaster : {S F H T : Type 0} → Ending S F H T → Type 0
EndsAsMaster (endings.Failed why b) = IsCause why
EndsAsMaster ending = Unit {0}

-- where the unit of this hand ends as failed, a finalization does for one of these, and a delete or cleanup for any cause
abbrev pub EndsAs : {S F H T : Type 0} → Hand → Ending S F H T → Type 0
EndsAs hands.Unit ending = EndsAsMaster ending
EndsAs hand ending = Unit {0}

-- the end by a step that was refused so
abbrev pub EndsAsRefused : {S F H T : Type 0} → Hand → Evidence S F H T → StepRefusal → Type 0
EndsAsRefused {S} {F} {H} {T} hand e refusal = EndsAs {S = S} {F = F} {H = H} {T = T} hand (ending_at refusal)

-- a finalization may be given up before it has settled, and a delete or cleanup while it may fail
abbrev pub CanGiveUp : Hand → Ticket → Type 0
CanGiveUp hands.Unit t = IsUnsettledMaster t
CanGiveUp hands.Delete t = CanFailDelete t
CanGiveUp hand t = ⊥

-- It had to stop; or the record swap of its settle failed, after which nobody knows whether the root is the safe one. For nothing
-- else it stops with its ticket out.
abbrev pub Stops : Start → List Moment → ℕ → StepRefusal → Type 0
Stops s log who (steps.Refused refusals.DepotFault) = IsLast log who SettleStep (Refused DepotFault)
Stops s log who refusal = Halts s log who refusal

-- the ticket has ended, unsettled
pub record HasEndedUnsettled (old new : Ticket) : Type 0 where
  pub worked : Ticket
  pub is_worked : Worked old worked
  pub is : new ≡ record worked { out = false }
  pub unsettled : new.settled ≡ false

-- its end is the last step, before which a step of its own was refused, as its term is over
pub record IsStale (s : Start) (log : List Moment) (who : ℕ) : Type 0 where
  pub before : List Moment
  pub refused : WasStale (world_of s before) who
  pub step : Stepped s before log who FinishStep HasEnded

-- its last entry tells that it failed, a finalization for one of its causes
abbrev pub HasFailedAs : {S F H T : Type 0} → Hand → Evidence S F H T → Start → List Moment → ℕ → Why → Type 0
HasFailedAs hands.Unit e s log who why = IsCause why × HasFailed hands.Unit e s log who why
HasFailedAs hand e s log who why = HasFailed hand e s log who why

-- It has failed, with its cause, or has ended as stale; or it stopped, and nothing of the ticket changed.
abbrev pub IsGivenUp : {S F H T : Type 0} → Hand → Evidence S F H T → Start → List Moment → List Moment → ℕ → UnitRefusal → Type 0
IsGivenUp hand e s old new who (units.Failed why) = HasEndedAs (ticket_of s old who) (ticket_of s new who) × HasFailedAs hand e s new who why
IsGivenUp hand e s old new who units.Stale = HasEndedAs (ticket_of s old who) (ticket_of s new who) × IsStale s new who
IsGivenUp hand e s old new who (units.Stopped refusal) = (ticket_of s new who ≡ ticket_of s old who) × Halts s new who refusal

-- a record swap was refused so: where the container failed in it the unit stopped, else it was given up
abbrev pub IsSwapRefused : {S F H T : Type 0} → Hand → Evidence S F H T → Start → List Moment → List Moment → ℕ → StepRefusal → UnitRefusal → Type 0
IsSwapRefused hand e s old new who refusal result =
    ((is_fault refusal ≡ true) × (result ≡ units.Stopped refusal) × (new ≡ old)) ⊎ ((is_fault refusal ≡ false) × IsGivenUp hand e s old new who result)

-- so it ended at its settle, where all was written; or it stopped there or after it, with its ticket out
abbrev pub IsHalted : {S F H T : Type 0} → Evidence S F H T → Start → List Moment → List Moment → ℕ → UnitRefusal → Type 0
IsHalted e s old new who (units.Stopped refusal) = ((ticket_of s new who ≡ ticket_of s old who) ⊎ IsSettled (ticket_of s old who) (ticket_of s new who)) × Stops s new who refusal
IsHalted e s old new who refusal = IsGivenUp hands.Unit e s old new who refusal

-- it has failed, with its cause, or has ended as stale, or stopped with its ticket out: unsettled, or settled with all that goes before
abbrev pub IsUnitRefused : {S F H T : Type 0} → Evidence S F H T → Start → List Moment → List Moment → ℕ → UnitRefusal → Type 0
IsUnitRefused e s old new who (units.Failed why) = HasEndedUnsettled (ticket_of s old who) (ticket_of s new who) × IsCause why × HasFailed hands.Unit e s new who why
IsUnitRefused e s old new who units.Stale = HasEndedUnsettled (ticket_of s old who) (ticket_of s new who) × IsStale s new who
IsUnitRefused e s old new who (units.Stopped refusal) =
    ((ticket_of s new who).out ≡ true) × (Worked (ticket_of s old who) (ticket_of s new who) ⊎ HasSettled (formats_of s) (ticket_of s old who) true (ticket_of s new who))
    × Stops s new who refusal
