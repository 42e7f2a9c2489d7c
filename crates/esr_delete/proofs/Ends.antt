-- The ends of a delete or cleanup that aren't Ok.
use Rattle.std.proofs.Common.{◌≡◌, inl, inr, ℕ, Bool, true, false, List, Some, Err, sym, ap, ◌∙◌, subst}
use Rattle.esr_core.specs.World.{Ticket}
use Rattle.esr_core.specs.Entry.{PruneStep, SettlePruned, DroppedStep, Moment}
use Rattle.esr_model.specs.Values.{RootData}
use Rattle.esr_desk.specs.declared.hand.Hand.TheVariants as hands
use Rattle.esr_desk.specs.declared.refusal.StepRefusal.{StepRefusal}
use Rattle.esr_desk.specs.declared.unit.UnitRefusal.{UnitRefusal}
use Rattle.esr_desk.specs.declared.unit.UnitRefusal.TheVariants as units
use Rattle.esr_desk.specs.Start.{Start, ticket_of}
use Rattle.esr_desk.specs.Taken.{LeftBy, IsSettled, HasEndedAs}
use Rattle.esr_desk.specs.Evidence.{Evidence}
use Rattle.esr_desk.specs.Delete.Conditions.{CanSettleDelete, CanFailDelete}
use Rattle.esr_unit.specs.Fetch.{IsRefusedBy}
use Rattle.esr_finish.specs.Refused.{IsGivenUp, IsSwapRefused}
use Rattle.esr_finish.specs.Stops.{unsettled_same}
use Rattle.esr_delete.specs.Refused.{Stops, IsStillOrEnded, IsCleanRefused, IsLateRefused, IsLeftAt, IsHalted}
use Rattle.esr_delete.specs.Removed.{IsSettledPlan}
use Rattle.esr_delete.proofs.Passing.{halts_stops, settle_stops, drop_stops}

-- ---- a record swap that was refused

-- an early end is one at the settle
given_halted : {S F H T : Type 0} (clean : Bool) (e : Evidence S F H T) (s : Start) (old mid new : List Moment) (who : ℕ) (result : UnitRefusal) → ticket_of s mid who ≡ ticket_of s old who → IsGivenUp hands.Delete e s mid new who result
    → IsHalted clean e s old new who result
given_halted clean e s old mid new who (units.Stopped refusal) same given = (inl (inl (given.0 ∙ same)), halts_stops clean s new who refusal given.1)
given_halted clean e s old mid new who result same given = (inl (given.0 ∙ ap (λ (t : Ticket). record t { out = false }) same), given.1)

-- or one after it
pub given_late : {S F H T : Type 0} (e : Evidence S F H T) (s : Start) (old mid new : List Moment) (who : ℕ) (result : UnitRefusal) → ticket_of s mid who ≡ ticket_of s old who → IsGivenUp hands.Delete e s mid new who result
    → IsCleanRefused e s old new who result
given_late e s old mid new who (units.Stopped refusal) same given = (inl (given.0 ∙ same), halts_stops true s new who refusal given.1)
given_late e s old mid new who result same given = (given.0 ∙ ap (λ (t : Ticket). record t { out = false }) same, given.1)

-- that of the settle
pub settle_halted : {S F H T : Type 0} (clean : Bool) (e : Evidence S F H T) (s : Start) (old mid new : List Moment) (who : ℕ) (refusal : StepRefusal) (result : UnitRefusal)
    → LeftBy {X = Unit {0}} (IsSettled (ticket_of s old who)) (Err refusal) (ticket_of s old who) (ticket_of s mid who) → IsRefusedBy s old mid who (PruneStep SettlePruned) refusal → IsSwapRefused hands.Delete e s mid new who refusal result
    → IsHalted clean e s old new who result
settle_halted {S} {F} {H} {T} clean e s old mid new who refusal result left refused (inl (fault, is, same)) =
    subst (λ (log : List Moment). IsHalted {S = S} {F = F} {H = H} {T = T} clean e s old log who result) (sym same)
    (subst (IsHalted {S = S} {F = F} {H = H} {T = T} clean e s old mid who) (sym is) (settle_stops clean s old mid who refusal fault left refused.0))
settle_halted clean e s old mid new who refusal result left refused (inr (other, given)) =
    given_halted clean e s old mid new who result (unsettled_same (IsSettled (ticket_of s old who)) refusal (ticket_of s old who) (ticket_of s mid who) other left) given

-- that by which the op of a cleanup leaves
pub drop_refused : {S F H T : Type 0} (e : Evidence S F H T) (s : Start) (old mid new : List Moment) (who : ℕ) (refusal : StepRefusal) (result : UnitRefusal)
    → LeftBy {X = Unit {0}} (HasEndedAs (ticket_of s old who)) (Err refusal) (ticket_of s old who) (ticket_of s mid who) → IsRefusedBy s old mid who DroppedStep refusal → IsSwapRefused hands.Delete e s mid new who refusal result
    → IsCleanRefused e s old new who result
drop_refused {S} {F} {H} {T} e s old mid new who refusal result left refused (inl (fault, is, same)) =
    subst (λ (log : List Moment). IsCleanRefused {S = S} {F = F} {H = H} {T = T} e s old log who result) (sym same)
    (subst (IsCleanRefused {S = S} {F = F} {H = H} {T = T} e s old mid who) (sym is) (drop_stops s old mid who refusal fault left refused.0))
drop_refused e s old mid new who refusal result left refused (inr (other, given)) =
    given_late e s old mid new who result (unsettled_same (HasEndedAs (ticket_of s old who)) refusal (ticket_of s old who) (ticket_of s mid who) other left) given

-- what went before left the ticket as it was
pub clean_refused_on : {S F H T : Type 0} (e : Evidence S F H T) (s : Start) (old mid new : List Moment) (who : ℕ) (result : UnitRefusal) → ticket_of s mid who ≡ ticket_of s old who → IsCleanRefused e s mid new who result
    → IsCleanRefused e s old new who result
clean_refused_on e s old mid new who (units.Stopped refusal) same h = (subst (λ (t : Ticket). IsStillOrEnded new who refusal t (ticket_of s new who)) same h.0, h.1)
clean_refused_on e s old mid new who result same h = (h.0 ∙ ap (λ (t : Ticket). record t { out = false }) same, h.1)

-- ---- after the settle

left_late : (clean : Bool) (log : List Moment) (who : ℕ) (refusal : StepRefusal) (old mid new : Ticket) → clean ≡ true → mid ≡ record old { settled = true } → IsStillOrEnded log who refusal mid new
    → IsLeftAt clean log who refusal old new
left_late clean log who refusal old mid new cleans settled (inl same) = inl (inr (same ∙ settled))
left_late clean log who refusal old mid new cleans settled (inr (ended, fell)) = inr (cleans, ended ∙ ap (λ (t : Ticket). record t { out = false }) settled, fell)

clean_halted : {S F H T : Type 0} (clean : Bool) (e : Evidence S F H T) (s : Start) (old mid new : List Moment) (who : ℕ) (result : UnitRefusal) → clean ≡ true → ticket_of s mid who ≡ record (ticket_of s old who) { settled = true }
    → IsCleanRefused e s mid new who result → IsHalted clean e s old new who result
clean_halted clean e s old mid new who (units.Stopped refusal) cleans settled h = (
  left_late clean new who refusal (ticket_of s old who) (ticket_of s mid who) (ticket_of s new who) cleans settled h.0,
  subst (λ (c : Bool). Stops c s new who refusal) (sym cleans) h.1,
)
clean_halted clean e s old mid new who result cleans settled h = (inr (cleans, h.0 ∙ ap (λ (t : Ticket). record t { out = false }) settled), h.1)

pub late_halted : {S F H T : Type 0} (clean : Bool) (e : Evidence S F H T) (s : Start) (old mid new : List Moment) (who : ℕ) (result : UnitRefusal) → ticket_of s mid who ≡ record (ticket_of s old who) { settled = true }
    → IsLateRefused clean e s mid new who result → IsHalted clean e s old new who result
late_halted {S} {F} {H} {T} clean e s old mid new who result settled (inl (deletes, (refusal, is, same, halts))) =
    subst (IsHalted {S = S} {F = F} {H = H} {T = T} clean e s old new who) (sym is) (inl (inr (same ∙ settled)), halts_stops clean s new who refusal halts)
late_halted clean e s old mid new who result settled (inr (cleans, refused)) = clean_halted clean e s old mid new who result cleans settled refused

-- before it settles it may fail
pub settles_fails : (s : Start) (t : Ticket) (root : RootData) → CanSettleDelete s t root → CanFailDelete t
settles_fails s t root may = record {
  out = may.settle.put.out;
  may = inl may.settle.put.unsettled;
  uuids = may.uuids;
  plan = Some may.settle.change;
  work = may.work;
}

-- so may a cleanup that has settled
pub clean_fails : (t : Ticket) → IsSettledPlan t → t.clean ≡ true → CanFailDelete t
clean_fails t over cleans = record {
  out = over.out;
  may = inr cleans;
  uuids = over.uuids;
  plan = Some over.plan;
  work = over.work;
}
