-- Why the unit stopped or failed, and where its ticket is then.
use Rattle.std.specs.Prelude.{◌≡◌, ◌⊎◌, ℕ, Bool, true, false, List}
use Rattle.esr_core.specs.World.{Ticket}
use Rattle.esr_core.specs.Entry.{DroppedStep, PruneStep, SettlePruned, RemoveDoomed, Refused, DepotFault, Moment}
use Rattle.esr_model.specs.Names.{BlobName}
use Rattle.esr_desk.specs.declared.hand.Hand.TheVariants as hands
use Rattle.esr_desk.specs.declared.refusal.EntryRefusal.TheVariants as refusals
use Rattle.esr_desk.specs.declared.refusal.StepRefusal.{StepRefusal}
use Rattle.esr_desk.specs.declared.refusal.StepRefusal.TheVariants as steps
use Rattle.esr_desk.specs.declared.unit.UnitRefusal.{UnitRefusal}
use Rattle.esr_desk.specs.declared.unit.UnitRefusal.TheVariants as units
use Rattle.esr_desk.specs.Start.{Start, ticket_of}
use Rattle.esr_desk.specs.Outcome.{Grounds}
use Rattle.esr_desk.specs.Taken.{IsSettled, HasEndedAs}
use Rattle.esr_desk.specs.Last.{IsLast}
use Rattle.esr_desk.specs.Halts.{Halts}
use Rattle.esr_desk.specs.Evidence.{Evidence}
use Rattle.esr_unit.specs.Fail.{HasFailed}
use Rattle.esr_unit.specs.Fetch.{IsRefusedBy}
use Rattle.esr_finish.specs.Refused.{IsStale, IsGivenUp}
use Rattle.esr_delete.specs.Ticket.{HasSettled}
use Rattle.esr_delete.specs.Went.{Worked}

-- It had to stop; or a record swap failed, after which nobody knows whether it was made: that of its settle, or that by which the op of
-- a cleanup leaves. For nothing else it stops with its ticket out.
abbrev pub Stops : Bool → Start → List Moment → ℕ → StepRefusal → Type 0
Stops clean s log who (steps.Refused refusals.DepotFault) = IsLast log who (PruneStep SettlePruned) (Refused DepotFault) ⊎ ((clean ≡ true) × IsLast log who DroppedStep (Refused DepotFault))
Stops clean s log who refusal = Halts s log who refusal

-- the record swap failed by which the op of a cleanup leaves, and nobody knows whether it was made
abbrev pub HasDropFault : List Moment → ℕ → StepRefusal → Type 0
HasDropFault log who (steps.Refused refusals.DepotFault) = IsLast log who DroppedStep (Refused DepotFault)
HasDropFault log who refusal = ⊥

-- the ticket has ended, unsettled
pub record HasEndedUnsettled (old new : Ticket) : Type 0 where
  pub worked : Ticket
  pub is_worked : Worked old worked
  pub is : new ≡ record worked { out = false }
  pub unsettled : new.settled ≡ false

-- ---- removals

-- why blobs weren't removed: memory was wanting, or turns were spent; or the unit of a delete halts; or a removal of a cleanup was refused so
abbrev pub IsRemovalRefused : Bool → Start → List Moment → ℕ → StepRefusal → Type 0
IsRemovalRefused clean s log who steps.Memory = Unit {0}
IsRemovalRefused clean s log who steps.TurnsSpent = Grounds s log who steps.TurnsSpent
IsRemovalRefused clean s log who (steps.Refused x) =
    ((clean ≡ false) × Halts s log who (steps.Refused x))
    ⊎ ((clean ≡ true) × ((old : List Moment) × (names : List BlobName) × IsRefusedBy s old log who (PruneStep (RemoveDoomed names)) (steps.Refused x)))

-- ---- at its settle or later

-- a ticket that has settled stayed so, or has ended as the drop of its op failed
abbrev pub IsStillOrEnded : List Moment → ℕ → StepRefusal → Ticket → Ticket → Type 0
IsStillOrEnded log who refusal old new = (new ≡ old) ⊎ (HasEndedAs old new × HasDropFault log who refusal)

-- after the settle a cleanup was given up; or it stopped, with its ticket settled, or ended where the last record swap failed
abbrev pub IsCleanRefused : {S F H T : Type 0} → Evidence S F H T → Start → List Moment → List Moment → ℕ → UnitRefusal → Type 0
IsCleanRefused e s old new who (units.Stopped refusal) = IsStillOrEnded new who refusal (ticket_of s old who) (ticket_of s new who) × Stops true s new who refusal
IsCleanRefused e s old new who refusal = IsGivenUp hands.Delete e s old new who refusal

-- so it is of either: the unit of a delete stopped, and nothing of the ticket changed
abbrev pub IsLateRefused : {S F H T : Type 0} → Bool → Evidence S F H T → Start → List Moment → List Moment → ℕ → UnitRefusal → Type 0
IsLateRefused clean e s old new who result =
    ((clean ≡ false) × ((refusal : StepRefusal) × (result ≡ units.Stopped refusal) × (ticket_of s new who ≡ ticket_of s old who) × Halts s new who refusal))
    ⊎ ((clean ≡ true) × IsCleanRefused e s old new who result)

-- where the ticket is that was stopped: as it was, or settled, or, of a cleanup, ended after that as the drop of its op failed
abbrev pub IsLeftAt : Bool → List Moment → ℕ → StepRefusal → Ticket → Ticket → Type 0
IsLeftAt clean log who refusal old new = ((new ≡ old) ⊎ IsSettled old new) ⊎ ((clean ≡ true) × (new ≡ record old { settled = true; out = false }) × HasDropFault log who refusal)

-- where it is that has ended: as it was, or, of a cleanup, settled
abbrev pub IsEndedAt : Bool → Ticket → Ticket → Type 0
IsEndedAt clean old new = HasEndedAs old new ⊎ ((clean ≡ true) × (new ≡ record old { settled = true; out = false }))

-- so it ended where all was written; or it stopped there or after it
abbrev pub IsHalted : {S F H T : Type 0} → Bool → Evidence S F H T → Start → List Moment → List Moment → ℕ → UnitRefusal → Type 0
IsHalted clean e s old new who (units.Failed why) = IsEndedAt clean (ticket_of s old who) (ticket_of s new who) × HasFailed hands.Delete e s new who why
IsHalted clean e s old new who units.Stale = IsEndedAt clean (ticket_of s old who) (ticket_of s new who) × IsStale s new who
IsHalted clean e s old new who (units.Stopped refusal) = IsLeftAt clean new who refusal (ticket_of s old who) (ticket_of s new who) × Stops clean s new who refusal

-- ---- of the whole unit

-- the ticket has ended: unsettled, or, of a cleanup, settled with all that goes before
abbrev pub HasEnded : Start → Ticket → Ticket → Type 0
HasEnded s old new = HasEndedUnsettled old new ⊎ ((old.clean ≡ true) × HasSettled s old false new)

-- it is still out: unsettled, or settled with all that goes before; or, of a cleanup, it has settled, and has ended as the drop of its op
-- failed
abbrev pub HasStopped : Start → List Moment → ℕ → StepRefusal → Ticket → Ticket → Type 0
HasStopped s log who refusal old new =
    ((new.out ≡ true) × (Worked old new ⊎ HasSettled s old true new)) ⊎ ((old.clean ≡ true) × HasSettled s old false new × HasDropFault log who refusal)

-- it has failed, with its cause, or has ended as stale, or stopped
abbrev pub IsUnitRefused : {S F H T : Type 0} → Evidence S F H T → Start → List Moment → List Moment → ℕ → UnitRefusal → Type 0
IsUnitRefused e s old new who (units.Failed why) = HasEnded s (ticket_of s old who) (ticket_of s new who) × HasFailed hands.Delete e s new who why
IsUnitRefused e s old new who units.Stale = HasEnded s (ticket_of s old who) (ticket_of s new who) × IsStale s new who
IsUnitRefused e s old new who (units.Stopped refusal) = HasStopped s new who refusal (ticket_of s old who) (ticket_of s new who) × Stops (ticket_of s old who).clean s new who refusal
