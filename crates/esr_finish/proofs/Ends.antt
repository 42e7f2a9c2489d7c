-- The ends of the unit that aren't Ok.
use Rattle.std.proofs.Common.{◌≡◌, ◌⊎◌, inl, inr, ℕ, Bool, true, false, List, Result, Ok, Err, IfErr, refl, sym, ap, ◌∙◌, subst, true≢false}
use Rattle.esr_model.specs.Values.{RootData, SnapInfo}
use Rattle.esr_core.specs.World.{Ticket}
use Rattle.esr_core.specs.Past.{WasStale}
use Rattle.esr_core.specs.Entry.{SettleStep, Moment}
use Rattle.esr_desk.specs.declared.hand.Hand.{Hand}
use Rattle.esr_desk.specs.declared.hand.Hand.TheVariants as hands
use Rattle.esr_desk.specs.declared.fault.By.{By}
use Rattle.esr_desk.specs.declared.entry.Why.{Why}
use Rattle.esr_desk.specs.declared.refusal.EntryRefusal.TheVariants as refusals
use Rattle.esr_desk.specs.declared.refusal.StepRefusal.{StepRefusal}
use Rattle.esr_desk.specs.declared.refusal.StepRefusal.TheVariants as steps
use Rattle.esr_desk.specs.declared.unit.UnitRefusal.{UnitRefusal}
use Rattle.esr_desk.specs.declared.unit.UnitRefusal.TheVariants as units
use Rattle.esr_desk.specs.Refusals.{told_refusal}
use Rattle.esr_desk.specs.Start.{Start, formats_of, world_of, ticket_of}
use Rattle.esr_desk.specs.Own.{Own, own_of}
use Rattle.esr_desk.specs.Calls.{Call, HasTaken, IsMine}
use Rattle.esr_desk.specs.Hands.{MayFail, own_failed}
use Rattle.esr_desk.specs.Outcome.{Refusing}
use Rattle.esr_desk.specs.Conditions.{CanFinish, HasSettled as SettledSwap}
use Rattle.esr_desk.specs.Taken.{LeftBy, IsSettled, HasEndedAs}
use Rattle.esr_desk.specs.Halts.{Halts}
use Rattle.esr_desk.specs.Evidence.{Evidence}
use Rattle.esr_unit.specs.declared.ending.Ending.{Ending}
use Rattle.esr_unit.specs.declared.ending.Ending.TheVariants as endings
use Rattle.esr_unit.specs.Shown.{EndingShown, IsOver, MayEnd}
use Rattle.esr_unit.specs.Fail.{GivenUp, HasFailed}
use Rattle.esr_unit.specs.Fetch.{IsRefusedBy, LeavesCalls}
use Rattle.esr_finish.specs.Ticket.{MayWrite, IsWritten}
use Rattle.esr_finish.specs.Went.{Went, Worked}
use Rattle.esr_finish.specs.Refused.{EndsAsMaster, EndsAs, CanGiveUp, HasFailedAs, HasEndedUnsettled, IsGivenUp, IsSwapRefused, IsHalted, IsUnitRefused, is_fault}
use Rattle.esr_finish.specs.Stops.{unsettled_same}
use Rattle.esr_finish.proofs.Runs.{worked_to}
use Rattle.esr_finish.proofs.Stopping.{halts_stops}

-- ---- before the settle

-- the ticket is the desk's own
pub mine_of : (hand : Hand) (t : Ticket) (calls : List Call) (who : ℕ) → CanGiveUp hand t → HasTaken calls who → IsMine hand calls who
mine_of hands.Unit t calls who may mine = mine
mine_of hands.Delete t calls who may mine = mine
mine_of hand t calls who may mine = absurd may

-- its steps leave the calls of who 0
pub calls_left : (hand : Hand) (t : Ticket) (old new : List Call) → CanGiveUp hand t → LeavesCalls hand old new → new ≡ old
calls_left hands.Unit t old new may left = left
calls_left hands.Delete t old new may left = left
calls_left hand t old new may left = absurd may

-- it may be told that the unit failed
pub may_fail : (hand : Hand) (s : Start) (log : List Moment) (who : ℕ) → CanGiveUp hand (ticket_of s log who) → MayFail hand s log who
may_fail hands.Unit s log who may = may.fails
may_fail hands.Delete s log who may = may
may_fail hand s log who may = absurd may

pub may_end : {S F H T : Type 0} (hand : Hand) (s : Start) (log : List Moment) (who : ℕ) (ending : Ending S F H T) → CanGiveUp hand (ticket_of s log who) → MayEnd hand s log who ending
may_end hand s log who (endings.Failed why b) may = may_fail hand s log who may
may_end hand s log who ending may = tt

-- its term is over
pub over_of : (hand : Hand) (s : Start) (log : List Moment) (who : ℕ) → IsOver hand s log who → CanFinish s log who
over_of hands.Unit s log who over = over
over_of hands.Delete s log who over = over
over_of hand s log who over = absurd over

-- a cause of a finalization is one of any unit
pub ends_as : {S F H T : Type 0} (hand : Hand) (ending : Ending S F H T) → EndsAsMaster ending → EndsAs hand ending
ends_as hands.Unit ending cause = cause
ends_as hand ending cause = tt

ticket_failed : (hand : Hand) (t : Ticket) (own : Own) → CanGiveUp hand t → (own_failed hand own).ticket ≡ record own.ticket { out = false }
ticket_failed hands.Unit t own may = refl
ticket_failed hands.Delete t own may = refl
ticket_failed hand t own may = absurd may

failed_as : {S F H T : Type 0} (hand : Hand) (e : Evidence S F H T) (s : Start) (log : List Moment) (who : ℕ) (why : Why) (b : By S F H T) → EndsAs {S = S} {F = F} {H = H} {T = T} hand (endings.Failed why b) → HasFailed hand e s log who why
    → HasFailedAs hand e s log who why
failed_as hands.Unit e s log who why b cause failed = (cause, failed)
failed_as hand e s log who why b cause failed = failed

-- it was given up
pub given_up : {S F H T : Type 0} (hand : Hand) (e : Evidence S F H T) (s : Start) (old mid new : List Moment) (who : ℕ) (ending : Ending S F H T) (result : UnitRefusal) → CanGiveUp hand (ticket_of s old who)
    → ticket_of s mid who ≡ ticket_of s old who → EndsAs hand ending
    → EndingShown hand e ⊥ s mid who ending → GivenUp hand e s mid new who ending result → IsGivenUp hand e s old new who result
given_up {S} {F} {H} {T} hand e s old mid new who (endings.Failed why b) (units.Failed told) may same cause shown given =
    subst (λ (w : Why). IsGivenUp {S = S} {F = F} {H = H} {T = T} hand e s old new who (units.Failed w)) (sym given.0) (
      ap (λ (own : Own). own.ticket) given.1 ∙ ticket_failed hand (ticket_of s old who) (own_of s mid who) may ∙ ap (λ (t : Ticket). record t { out = false }) same,
      failed_as hand e s new who why b cause given.2,
    )
given_up hand e s old mid new who (endings.Failed why b) (units.Stopped refusal) may same cause shown given = (ap (λ (own : Own). own.ticket) given.same ∙ same, given.halts)
given_up hand e s old mid new who (endings.Stopped refusal) (units.Stopped told) may same cause shown given = (
  ap (λ (log : List Moment). ticket_of s log who) given.1 ∙ same,
  subst (λ (r : StepRefusal). Halts s new who r) (sym given.0) (subst (λ (log : List Moment). Halts s log who refusal) (sym given.1) shown),
)
given_up hand e s old mid new who ending result may same cause shown given = absurd given

-- it was stopped
pub stopped_up : {S F H T : Type 0} (hand : Hand) (e : Evidence S F H T) (s : Start) (log : List Moment) (who : ℕ) (refusal : StepRefusal) → Halts s log who refusal → IsGivenUp hand e s log log who (units.Stopped refusal)
stopped_up hand e s log who refusal halts = (refl, halts)

-- it has settled by no swap that it finishes
none_settled : (hand : Hand) (t : Ticket) → CanGiveUp hand t → SettledSwap t → ⊥
none_settled hands.Unit t may has = true≢false (sym has.settled ∙ may.fails.unsettled)
none_settled hands.Delete t may has = has.unpruned may.uuids may.plan may.work
none_settled hand t may has = may

-- so a step of it was refused, as its term is over
pub was_stale : (hand : Hand) (s : Start) (log : List Moment) (who : ℕ) → CanGiveUp hand (ticket_of s log who) → CanFinish s log who → WasStale (world_of s log) who
was_stale hand s log who may can = stale can.done
  where
    stale : SettledSwap (ticket_of s log who) ⊎ WasStale (world_of s log) who → WasStale (world_of s log) who
    stale (inl has) = absurd (none_settled hand (ticket_of s log who) may has)
    stale (inr was) = was

-- ---- at the settle

-- the record swap of the settle failed; the ticket may have settled
fault_halts : {S F H T : Type 0} (e : Evidence S F H T) (s : Start) (old new : List Moment) (who : ℕ) (refusal : StepRefusal) → is_fault refusal ≡ true
    → LeftBy {X = Unit {0}} (IsSettled (ticket_of s old who)) (Err refusal) (ticket_of s old who) (ticket_of s new who) → Refusing s old new who SettleStep (told_refusal refusal)
    → IsHalted e s old new who (units.Stopped refusal)
fault_halts e s old new who (steps.Refused refusals.DepotFault) fault left h = (left, record { front = h.front; image = h.image; is = h.is })
fault_halts e s old new who refusal fault left h = absurd (true≢false (sym fault))

-- an early end is one at the settle
given_halted : {S F H T : Type 0} (e : Evidence S F H T) (s : Start) (old mid new : List Moment) (who : ℕ) (result : UnitRefusal) → ticket_of s mid who ≡ ticket_of s old who → IsGivenUp hands.Unit e s mid new who result
    → IsHalted e s old new who result
given_halted e s old mid new who (units.Failed why) same (ended, failed) = (ended ∙ ap (λ (t : Ticket). record t { out = false }) same, failed)
given_halted e s old mid new who units.Stale same (ended, stale) = (ended ∙ ap (λ (t : Ticket). record t { out = false }) same, stale)
given_halted e s old mid new who (units.Stopped refusal) same (kept, halts) = (inl (kept ∙ same), halts_stops s new who refusal halts)

-- its settle was refused
pub settle_halted : {S F H T : Type 0} (e : Evidence S F H T) (s : Start) (old mid new : List Moment) (who : ℕ) (refusal : StepRefusal) (result : UnitRefusal)
    → LeftBy {X = Unit {0}} (IsSettled (ticket_of s old who)) (Err refusal) (ticket_of s old who) (ticket_of s mid who) → IsRefusedBy s old mid who SettleStep refusal → IsSwapRefused hands.Unit e s mid new who refusal result
    → IsHalted e s old new who result
settle_halted {S} {F} {H} {T} e s old mid new who refusal result left refused (inl (fault, is, same)) =
    subst (λ (log : List Moment). IsHalted {S = S} {F = F} {H = H} {T = T} e s old log who result) (sym same)
    (subst (IsHalted {S = S} {F = F} {H = H} {T = T} e s old mid who) (sym is) (fault_halts e s old mid who refusal fault left refused.0))
settle_halted e s old mid new who refusal result left refused (inr (other, given)) =
    given_halted e s old mid new who result (unsettled_same (IsSettled (ticket_of s old who)) refusal (ticket_of s old who) (ticket_of s mid who) other left) given

-- ---- of the whole unit

ended_unsettled : (old mid new : Ticket) → old.settled ≡ false → Worked old mid → HasEndedAs mid new → HasEndedUnsettled old new
ended_unsettled old mid new unsettled worked ended = record {
  worked = mid;
  is_worked = worked;
  is = ended;
  unsettled = ap (λ (t : Ticket). t.settled) (ended ∙ ap (λ (t : Ticket). record t { out = false }) worked.is) ∙ unsettled;
}

-- before its settle
pub given_refused : {S F H T : Type 0} (e : Evidence S F H T) (s : Start) (old mid new : List Moment) (who : ℕ) (info : SnapInfo) (root : RootData) (result : UnitRefusal) → MayWrite s (ticket_of s old who) info root → Went s old mid who
    → IsGivenUp hands.Unit e s mid new who result → IsUnitRefused e s old new who result
given_refused e s old mid new who info root (units.Failed why) may went (ended, failed) =
    (ended_unsettled (ticket_of s old who) (ticket_of s mid who) (ticket_of s new who) may.swaps.unsettled went.worked ended, failed.0, failed.1)
given_refused e s old mid new who info root units.Stale may went given =
    (ended_unsettled (ticket_of s old who) (ticket_of s mid who) (ticket_of s new who) may.swaps.unsettled went.worked given.0, given.1)
given_refused e s old mid new who info root (units.Stopped refusal) may went given = (
  ap (λ (t : Ticket). t.out) (given.0 ∙ went.worked.is) ∙ may.swaps.out,
  inl (worked_to (ticket_of s old who) (ticket_of s mid who) (ticket_of s new who) went.worked given.0),
  halts_stops s new who refusal given.1,
)

-- at its settle or after it
halted_refused : {S F H T : Type 0} (e : Evidence S F H T) (s : Start) (old mid new : List Moment) (who : ℕ) (info : SnapInfo) (root : RootData) (result : UnitRefusal) → MayWrite s (ticket_of s old who) info root → Went s old mid who
    → IsWritten (formats_of s) (ticket_of s old who) (ticket_of s mid who) → IsHalted e s mid new who result → IsUnitRefused e s old new who result
halted_refused e s old mid new who info root (units.Failed why) may went written (ended, failed) =
    (ended_unsettled (ticket_of s old who) (ticket_of s mid who) (ticket_of s new who) may.swaps.unsettled went.worked ended, failed.0, failed.1)
halted_refused e s old mid new who info root units.Stale may went written h =
    (ended_unsettled (ticket_of s old who) (ticket_of s mid who) (ticket_of s new who) may.swaps.unsettled went.worked h.0, h.1)
halted_refused e s old mid new who info root (units.Stopped refusal) may went written (inl same, stops) = (
  ap (λ (t : Ticket). t.out) (same ∙ went.worked.is) ∙ may.swaps.out,
  inl (worked_to (ticket_of s old who) (ticket_of s mid who) (ticket_of s new who) went.worked same),
  stops,
)
halted_refused e s old mid new who info root (units.Stopped refusal) may went written (inr settled, stops) =
    let out : (ticket_of s mid who).out ≡ true = ap (λ (t : Ticket). t.out) written.is ∙ may.swaps.out in (
      ap (λ (t : Ticket). t.out) settled ∙ out,
      inr (record { written = ticket_of s mid who; is_written = written; is = settled ∙ ap (λ (o : Bool). record (ticket_of s mid who) { settled = true; out = o }) out }),
      stops,
    )

pub settle_refused : {S F H T : Type 0} (e : Evidence S F H T) (s : Start) (old mid new : List Moment) (who : ℕ) (info : SnapInfo) (root : RootData) (result : Result (Unit {0}) UnitRefusal) → MayWrite s (ticket_of s old who) info root
    → Went s old mid who
    → IsWritten (formats_of s) (ticket_of s old who) (ticket_of s mid who) → IfErr result (IsHalted e s mid new who) → IfErr result (λ x. IsUnitRefused e s old new who x)
settle_refused e s old mid new who info root (Ok x) may went written h = tt
settle_refused e s old mid new who info root (Err x) may went written h = halted_refused e s old mid new who info root x may went written h
