-- The last steps of a ticket, and how the trouble of a unit is shown.
use Rattle.std.proofs.Common.{ℕ, List, Result, Ok, Err, IfErr, ◌≡◌, ◌<◌, inl, inr, Option, sym, ap, subst}
use Rattle.esr_desk.specs.declared.hand.Hand.TheVariants as hands
use Rattle.esr_desk.specs.declared.entry.Why.TheVariants as whys
use Rattle.esr_desk.specs.declared.refusal.StepRefusal.TheVariants as steps
use Rattle.esr_desk.specs.declared.refusal.EntryRefusal.TheVariants as refusals
use Rattle.esr_desk.specs.declared.unit.UnitRefusal.TheVariants as units
use Rattle.esr_unit.specs.declared.trouble.Trouble.TheVariants as troubles
use Rattle.esr_unit.specs.declared.ending.Ending.TheVariants as endings
use Rattle.esr_model.specs.Values.{Bytes}
use Rattle.esr_core.specs.Entry.{Moment, Step}
use Rattle.esr_desk.specs.Start.{Start, ticket_of}
use Rattle.esr_upload.specs.Refused.{HasDone, IsChangeOfUntold, IsUnitRefused}
use Rattle.esr_upload.specs.Worked.{Went, Worked}
use Rattle.esr_core.specs.World.{Ticket, Work, Shard}
use Rattle.esr_core.specs.Ready.{IsShard}
use Rattle.esr_desk.specs.declared.entry.Why.{Why}
use Rattle.esr_desk.specs.declared.refusal.StepRefusal.{StepRefusal}
use Rattle.esr_desk.specs.declared.unit.UnitRefusal.{UnitRefusal}
use Rattle.esr_desk.specs.Own.{Own}
use Rattle.esr_desk.specs.Halts.{Halts}
use Rattle.esr_desk.specs.Conditions.{CanFail}
use Rattle.esr_desk.specs.Evidence.{Evidence}
use Rattle.esr_desk.specs.Unit.Shown.{Matters}
use Rattle.esr_unit.specs.declared.trouble.Trouble.{Trouble}
use Rattle.esr_unit.specs.declared.ending.Ending.{Ending}
use Rattle.esr_unit.specs.Ending.{ending_at, ending_by}
use Rattle.esr_unit.specs.Shown.{EndingShown, MayEnd}
use Rattle.esr_unit.specs.Fetch.{IsRefusedBy, FetchErr}
use Rattle.esr_unit.specs.Fail.{GivenUp}
use Rattle.esr_unit.specs.Refusals.{RefusesSo, IsWork, IsSwap, unit_refused}
use Rattle.esr_upload.specs.Trouble.{IsUntoldChange, Shown}
use Rattle.esr_upload.specs.Runs.{worked_on}

pub if_err : {T E : Type 0} {P : Type 0} (r : Result T E) → P → IfErr r (λ e. P)
if_err (Ok x) h = tt
if_err (Err e) h = h

pub done_on : (s : Start) (old mid new : List Moment) (who : ℕ) → Went s old mid who → HasDone s mid new who → HasDone s old new who
done_on s old mid new who went done = record {
  r = done.r;
  last = done.last;
  worked = done.worked;
  is_worked = worked_on (ticket_of s old who) (ticket_of s mid who) done.worked went.worked done.is_worked;
  is = done.is;
}

module _ {S F H T : Type 0} (e : Evidence S F H T) (n : ℕ) (files : Option (List (Bytes × Bytes))) (s : Start) (old new : List Moment) (who : ℕ) (index number : ℕ) (work : (ticket_of s new who).work ≡ Shard index number) where
  -- a step of the unit but its end
  pub step_shown : (step : Step) (refusal : StepRefusal) → RefusesSo → IsWork step → (IsSwap step → ⊥) → IsRefusedBy s old new who step refusal → Shown {S = S} {F = F} {H = H} {T = T} e n files s new who (troubles.Step refusal)
  step_shown step refusal law is no_swap h =
      (unit_refused e (0 < n) s old new who step law refusal is (subst (λ (w : Work). Matters w step) (sym work) tt) (λ swap. absurd (no_swap swap)) h, tt)

-- memory was wanting
pub memory_shown : {S F H T : Type 0} (e : Evidence S F H T) (n : ℕ) (files : Option (List (Bytes × Bytes))) (s : Start) (log : List Moment) (who : ℕ) → Shown {S = S} {F = F} {H = H} {T = T} e n files s log who (troubles.Step steps.Memory)
memory_shown e n files s log who = (tt, tt)

-- a blob wasn't fetched
pub fetch_shown : {S F H T : Type 0} (e : Evidence S F H T) (n : ℕ) (files : Option (List (Bytes × Bytes))) (s : Start) (old new : List Moment) (who : ℕ) (index number : ℕ) → (ticket_of s new who).work ≡ Shard index number
    → (step : Step) (trouble : Trouble S F)
    → RefusesSo → IsWork step → (IsSwap step → ⊥) → FetchErr e.fetch_faults s old new who step trouble → Shown {S = S} {F = F} {H = H} {T = T} e n files s new who trouble
fetch_shown e n files s old new who index number work step (troubles.Step refusal) law is no_swap (inl h) = step_shown e n files s old new who index number work step refusal law is no_swap h
fetch_shown {S} {F} {H} {T} e n files s old new who index number work step (troubles.Step refusal) law is no_swap (inr same) =
    subst (λ (r : StepRefusal). Shown {S = S} {F = F} {H = H} {T = T} e n files s new who (troubles.Step r)) (sym same) (memory_shown e n files s new who)
fetch_shown e n files s old new who index number work step (troubles.Fetch fetch) law is no_swap h = (h, tt)
fetch_shown e n files s old new who index number work step trouble law is no_swap h = absurd h

-- it may fail
pub may_end : {S F H T : Type 0} (s : Start) (log : List Moment) (who : ℕ) (ending : Ending S F H T) → CanFail (ticket_of s log who) → MayEnd hands.Unit s log who ending
may_end s log who (endings.Failed why b) can = can
may_end s log who ending can = tt

-- the term of a shard's ticket is never over
pub not_stale : {S F H T : Type 0} (e : Evidence S F H T) (own : Type 0) (s : Start) (log : List Moment) (who index number : ℕ) (ending : Ending S F H T) → (ticket_of s log who).work ≡ Shard index number
    → EndingShown hands.Unit e own s log who ending → ending ≡ endings.Stale → ⊥
not_stale {S} {F} {H} {T} e own s log who index number ending work shown is =
    let over = subst (λ (x : Ending S F H T). EndingShown hands.Unit e own s log who x) is shown in
    over.no_shard (subst IsShard (sym work) tt)

-- the files of which two prints differ aren't told
abbrev pub IsUntoldEnding : {S F H T : Type 0} → Option (List (Bytes × Bytes)) → Ending S F H T → Type 0
IsUntoldEnding files (endings.Failed why b) = IsChangeOfUntold files why
IsUntoldEnding files ending = Unit {0}

step_change : (S F H T : Type 0) (files : Option (List (Bytes × Bytes))) (refusal : StepRefusal) → IsUntoldEnding {S = S} {F = F} {H = H} {T = T} files (ending_at refusal)
step_change S F H T files (steps.Refused refusals.DepotFault) = tt
step_change S F H T files (steps.Refused (refusals.NameTaken name)) = tt
step_change S F H T files (steps.Refused (refusals.Aborted op)) = tt
step_change S F H T files (steps.Refused (refusals.IdsSpent next)) = tt
step_change S F H T files (steps.Refused (refusals.GenerationsSpent spent)) = tt
step_change S F H T files (steps.Refused (refusals.StaleTerm own now)) = tt
step_change S F H T files refusal = tt

found_change : (S F : Type 0) (files : Option (List (Bytes × Bytes))) (why : Why) → IsUntoldChange {S = S} {F = F} files (troubles.Found why) → IsChangeOfUntold files why
found_change S F files (whys.Changed first second) h = h
found_change S F files why h = tt

pub by_trouble : {S F : Type 0} (H T : Type 0) (files : Option (List (Bytes × Bytes))) (trouble : Trouble S F) → IsUntoldChange files trouble → IsUntoldEnding {S = S} {F = F} {H = H} {T = T} files (ending_by trouble)
by_trouble {S} {F} H T files (troubles.Step refusal) h = step_change S F H T files refusal
by_trouble H T files (troubles.Stage stage) h = tt
by_trouble H T files (troubles.Fetch fetch) h = tt
by_trouble H T files troubles.Own h = tt
by_trouble {S} {F} H T files (troubles.Found why) h = found_change S F files why h

-- so the unit has ended, or stopped
pub given_up : {S F H T : Type 0} (e : Evidence S F H T) (files : Option (List (Bytes × Bytes))) (s : Start) (old mid new : List Moment) (who : ℕ) → Worked (ticket_of s old who) (ticket_of s mid who)
    → (ending : Ending S F H T) (result : UnitRefusal)
    → EndingShown hands.Unit e ⊥ s mid who ending → IsUntoldEnding files ending → GivenUp hands.Unit e s mid new who ending result → IsUnitRefused e files s old new who result
given_up e files s old mid new who worked (endings.Failed why b) (units.Failed told) cause change h = subst (λ (w : Why). IsUnitRefused e files s old new who (units.Failed w)) (sym h.0) (
  (ticket_of s mid who, worked, ap (λ (own : Own). own.ticket) h.1),
  h.2,
  change,
)
given_up e files s old mid new who worked (endings.Failed why b) (units.Stopped refusal) cause change h =
    (subst (λ (t : Ticket). Worked (ticket_of s old who) t) (sym (ap (λ (own : Own). own.ticket) h.same)) worked, h.halts)
given_up e files s old mid new who worked (endings.Stopped refusal) (units.Stopped told) cause change h =
    subst (λ (r : StepRefusal). IsUnitRefused e files s old new who (units.Stopped r)) (sym h.0)
    (subst (λ (log : List Moment). Worked (ticket_of s old who) (ticket_of s log who) × Halts s log who refusal) (sym h.1) (worked, cause))
given_up e files s old mid new who worked ending result cause change h = absurd h
