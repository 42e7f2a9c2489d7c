-- Why the work stopped before all units were done.
use Rattle.std.specs.Prelude.{◌≡◌, ◌≢◌, ◌⊎◌, ℕ, Bool, true, false, List, Result, Ok, Err}
use Rattle.std.proofs.Common.{refl, sym, subst}
use Rattle.esr_model.specs.Values.{Has}
use Rattle.esr_core.specs.World.{Ticket}
use Rattle.esr_core.specs.Entry.{SettlePruned, Step, TakeStep, SettleStep, DroppedStep, PruneStep, Refusal, DeposedAt, DepotFault, Refused, Moment}
use Rattle.esr_ops.specs.declared.unit.Work.{Work}
use Rattle.esr_ops.specs.declared.unit.Work.TheVariants as works
use Rattle.esr_desk.specs.declared.refusal.EntryRefusal.TheVariants as refusals
use Rattle.esr_desk.specs.declared.refusal.StepRefusal.{StepRefusal}
use Rattle.esr_desk.specs.declared.refusal.StepRefusal.TheVariants as steps
use Rattle.esr_desk.specs.declared.unit.UnitRefusal.{UnitRefusal}
use Rattle.esr_desk.specs.declared.unit.UnitRefusal.TheVariants as units
use Rattle.esr_desk.specs.Refusals.{refusal_of}
use Rattle.esr_desk.specs.Start.{Start}
use Rattle.esr_desk.specs.Outcome.{Grounds}
use Rattle.esr_desk.specs.Last.{IsLast}
use Rattle.esr_unit.specs.Refusals.{has_last}

abbrev pub IsDrop : Work → Type 0
IsDrop works.Drop = Unit {0}
IsDrop work = ⊥

-- the step was refused, as the term of its ticket is over
abbrev pub is_late : StepRefusal → Bool
is_late (steps.Refused (refusals.StaleTerm own now)) = true
is_late refusal = false

-- which refusals of a step stop the work
pub data StopsWork : Step → Refusal → Type 0 where
  -- a record swap had failed
  SaidDeposed : (step : Step) (place : ℕ) → StopsWork step (DeposedAt place)
  -- the record swap failed: of a settle, of the step by which an op leaves, or of the settle of a delete or cleanup
  SettleFell : StopsWork SettleStep DepotFault
  DropFell : StopsWork DroppedStep DepotFault
  DeleteFell : StopsWork (PruneStep SettlePruned) DepotFault

-- memory was wanting, or turns were spent; or the last step, which is of this ticket, was refused so that the work stops
abbrev pub IsHalted : Start → List Moment → ℕ → StepRefusal → Type 0
IsHalted s log who steps.Memory = Unit {0}
IsHalted s log who steps.TurnsSpent = Grounds s log who steps.TurnsSpent
IsHalted s log who (steps.Refused refusal) = (step : Step) × IsLast log who step (Refused (refusal_of refusal)) × StopsWork step (refusal_of refusal)

-- the unit was stopped so, if its ticket didn't end
abbrev pub IsUnitStopped : Start → List Moment → ℕ → UnitRefusal → Type 0
IsUnitStopped s log who (units.Stopped refusal) = IsHalted s log who refusal
IsUnitStopped s log who refusal = Unit {0}

-- the unit's ticket has ended, if the unit wasn't stopped
abbrev pub EndedBy : UnitRefusal → Ticket → Type 0
EndedBy (units.Stopped refusal) t = Unit {0}
EndedBy refusal t = t.out ≡ false

abbrev pub HasEnded : Result Unit UnitRefusal → Ticket → Type 0
HasEnded (Ok x) t = t.out ≡ false
HasEnded (Err refusal) t = EndedBy refusal t

-- the same of any unit's ticket, or of a take
abbrev pub IsStopped : Start → List Moment → StepRefusal → Type 0
IsStopped s log steps.Memory = Unit {0}
IsStopped s log steps.TurnsSpent = Grounds s log 0 steps.TurnsSpent
IsStopped s log (steps.Refused refusal) = (who : ℕ) × (step : Step) × IsLast log who step (Refused (refusal_of refusal)) × StopsWork step (refusal_of refusal) × ((who ≢ 0) ⊎ (step ≡ TakeStep))

-- ---- in a history that has gone on since

-- what the code says of itself: a step of a ticket, or a take, had this refusal, which stops the work
pub record WasStopped (log : List Moment) (refusal : Refusal) : Type 0 where
  pub moment : Moment
  pub there : Has log moment
  pub same : moment.entry.reply ≡ Refused refusal
  pub step : (moment.entry.who ≢ 0) ⊎ (moment.entry.step ≡ TakeStep)
  pub stops : StopsWork moment.entry.step refusal

-- memory was wanting, or turns were spent; or some step had the refusal that is answered, which stops the work
abbrev pub StoppedIn : Start → List Moment → StepRefusal → Type 0
StoppedIn s log steps.Memory = Unit {0}
StoppedIn s log steps.TurnsSpent = Grounds s log 0 steps.TurnsSpent
StoppedIn s log (steps.Refused refusal) = WasStopped log (refusal_of refusal)

pub stopped_in : (s : Start) (log : List Moment) (e : StepRefusal) → IsStopped s log e → StoppedIn s log e
stopped_in s log steps.Memory h = tt
stopped_in s log steps.TurnsSpent h = h
stopped_in s log (steps.Refused refusal) h =
    let last : Moment = record { entry = record { who = h.0; step = h.1; reply = Refused (refusal_of refusal) }; image = h.2.image } in
    record {
      moment = last;
      there = subst (λ (l : List Moment). Has l last) (sym h.2.is) (has_last h.2.front last);
      same = refl;
      step = h.4;
      stops = h.3;
    }
