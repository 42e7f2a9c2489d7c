-- How a verification ends that went wrong.
use Rattle.std.proofs.Common.{◌≡◌, ⊎_elim, true, List, Err, inr, refl, sym, ap, subst}
use Rattle.esr_core.specs.World.{Caller}
use Rattle.esr_core.specs.Entry.{ReadFails, ReadStep, DrawTest, Refused, IdsSpent, Moment}
use Rattle.esr_desk.specs.declared.hand.Hand.TheVariants as hands
use Rattle.esr_desk.specs.declared.refusal.EntryRefusal.{EntryRefusal}
use Rattle.esr_desk.specs.declared.refusal.EntryRefusal.TheVariants as refusals
use Rattle.esr_desk.specs.declared.refusal.StepRefusal.{StepRefusal}
use Rattle.esr_desk.specs.declared.refusal.StepRefusal.TheVariants as steps
use Rattle.esr_desk.specs.declared.unit.UnitRefusal.{UnitRefusal}
use Rattle.esr_desk.specs.declared.unit.UnitRefusal.TheVariants as units
use Rattle.esr_desk.specs.declared.entry.Why.{Why}
use Rattle.esr_desk.specs.declared.entry.Why.TheVariants as whys
use Rattle.esr_desk.specs.declared.fault.By.{By}
use Rattle.esr_desk.specs.declared.fault.By.TheVariants as shows
use Rattle.esr_desk.specs.Entries.{why_of}
use Rattle.esr_desk.specs.Refusals.{refusal_of}
use Rattle.esr_desk.specs.Start.{Start, Legal}
use Rattle.esr_desk.specs.Own.{Own, caller_of}
use Rattle.esr_desk.specs.Outcome.{Stepped}
use Rattle.esr_desk.specs.Halts.{Halts}
use Rattle.esr_desk.specs.Caller.{drawn_by}
use Rattle.esr_desk.specs.Evidence.{Evidence}
use Rattle.esr_desk.specs.Verify.Conditions.{IsOpen}
use Rattle.esr_unit.specs.declared.trouble.Trouble.{Trouble}
use Rattle.esr_unit.specs.declared.trouble.Trouble.TheVariants as troubles
use Rattle.esr_unit.specs.declared.ending.Ending.{Ending}
use Rattle.esr_unit.specs.declared.ending.Ending.TheVariants as endings
use Rattle.esr_unit.specs.Ending.{ending_by}
use Rattle.esr_unit.specs.Shown.{EndingShown, MayEnd, Shown}
use Rattle.esr_unit.specs.Fetch.{IsRefusedBy}
use Rattle.esr_unit.specs.Fail.{HasFailed, GivenUp, IsReported}
use Rattle.esr_unit.specs.Refusals.{RefusesSo, stepped_had}
use Rattle.esr_verify.specs.Law.{DeposesSo}
use Rattle.esr_verify.specs.Went.{IsAlive}
use Rattle.esr_verify.specs.Refused.{StopsVerify, IsVerifyRefused}
use Rattle.esr_verify.proofs.Living.{stepped_alive, last_alive}
use Rattle.esr_verify.proofs.Refusing.{IsAbort, IsDrawRefusal, HowRefused, live_refusal, draw_refused}

-- ---- what the report asks

-- that the verification is open
pub may_end : {S F H T : Type 0} (s : Start) (log : List Moment) (ending : Ending S F H T) → s.alone ≡ true → IsOpen (caller_of s log) → MayEnd hands.Verify s log 0 ending
may_end s log (endings.Failed why b) alone is_open = (record { alone = alone; client = refl }, is_open)
may_end s log ending alone is_open = tt

-- a verification has no term
pub never_stale : {S F H T : Type 0} (e : Evidence S F H T) (s : Start) (log : List Moment) (ending : Ending S F H T) → EndingShown hands.Verify e ⊥ s log 0 ending → ending ≡ endings.Stale → ⊥
never_stale {S} {F} {H} {T} e s log ending shown is = subst (λ (x : Ending S F H T). EndingShown hands.Verify e ⊥ s log 0 x) is shown

-- what a trouble shows, its ending does
pub ending_shown : {S F H T : Type 0} (e : Evidence S F H T) (s : Start) (log : List Moment) (trouble : Trouble S F) (ending : Ending S F H T) → ending ≡ ending_by trouble
    → Shown {S = S} {F = F} {H = H} {T = T} hands.Verify e ⊥ s log 0 trouble → EndingShown hands.Verify e ⊥ s log 0 ending
ending_shown {S} {F} {H} {T} e s log trouble ending is shown = subst (λ (x : Ending S F H T). EndingShown hands.Verify e ⊥ s log 0 x) (sym is) shown

-- ---- how it ends then

-- the report isn't refused, but where memory is wanting or turns are spent
unreported : RefusesSo → (s : Start) (old mid new : List Moment) (why : Why) (x : EntryRefusal) → s.alone ≡ true → IsAlive s mid → Stepped s mid new 0 (ReadStep (ReadFails (why_of why))) (Refused (refusal_of x))
    → Halts s new 0 (steps.Refused x) → ⊥
unreported law s old mid new why (refusals.Deposed entry) alone alive h halts = ⊎_elim
    (λ (abort : IsAbort (refusal_of (refusals.Deposed entry))). abort)
    (λ (how : HowRefused (ReadFails (why_of why)) (refusal_of (refusals.Deposed entry))). how)
    (live_refusal law s mid new (ReadFails (why_of why)) (refusal_of (refusals.Deposed entry)) alone alive h)
unreported law s old mid new why x alone alive h halts = halts

module _ {S F H T : Type 0} (e : Evidence S F H T) (law : RefusesSo) (s : Start) (old mid new : List Moment) (alone : s.alone ≡ true) where
  failed : (why told : Why) (b : By S F H T) → GivenUp hands.Verify e s mid new 0 (endings.Failed why b) (units.Failed told) → IsVerifyRefused e s old new (units.Failed told)
  failed why told b h = (ap (λ (o : Own). o.caller) h.1, subst (λ (w : Why). HasFailed hands.Verify e s new 0 w) (sym h.0) h.2)

  for_cause : (why : Why) (b : By S F H T) (refusal : StepRefusal) → IsAlive s mid → GivenUp hands.Verify e s mid new 0 (endings.Failed why b) (units.Stopped refusal)
      → IsReported hands.Verify s mid new 0 (endings.Failed why b) (units.Stopped refusal)
      → IsVerifyRefused e s old new (units.Stopped refusal)
  for_cause why b steps.Memory alive h report = tt
  for_cause why b steps.TurnsSpent alive h report = h.halts
  for_cause why b (steps.Refused x) alive h report = absurd (unreported law s old mid new why x alone alive report h.halts)

  -- after the draw
  stopped : (refusal : StepRefusal) → Legal s mid → IsAlive s mid → Halts s mid 0 refusal → StopsVerify s old mid refusal
  stopped steps.Memory legal alive halts = tt
  stopped steps.TurnsSpent legal alive halts = halts
  stopped (steps.Refused (refusals.Deposed entry)) legal alive halts = absurd (last_alive law s mid 0 halts.0 entry legal alive halts.1)
  stopped (steps.Refused x) legal alive halts = absurd halts

  as_stopped : (refusal told : StepRefusal) → StopsVerify s old mid refusal → (told ≡ refusal) × (new ≡ mid) → IsVerifyRefused e s old new (units.Stopped told)
  as_stopped refusal told stops h =
      subst (λ (log : List Moment). StopsVerify s old log told) (sym h.1) (subst (λ (r : StepRefusal). StopsVerify s old mid r) (sym h.0) stops)

  pub ends : (ending : Ending S F H T) (result : UnitRefusal) → Legal s mid → IsAlive s mid → EndingShown hands.Verify e ⊥ s mid 0 ending → GivenUp hands.Verify e s mid new 0 ending result
      → IsReported hands.Verify s mid new 0 ending result
      → IsVerifyRefused e s old new result
  ends (endings.Failed why b) (units.Failed told) legal alive shown h report = failed why told b h
  ends (endings.Failed why b) (units.Stopped refusal) legal alive shown h report = for_cause why b refusal alive h report
  ends (endings.Stopped refusal) (units.Stopped told) legal alive shown h report = as_stopped refusal told (stopped refusal legal alive shown) h
  ends ending result legal alive shown h report = absurd h

-- ---- by the draw

module _ {S F H T : Type 0} (e : Evidence S F H T) (law : RefusesSo) (s : Start) (old mid : List Moment) (alone : s.alone ≡ true) where
  draw_entry : (x : EntryRefusal) → IsDrawRefusal (refusal_of x) → Stepped s old mid 0 (ReadStep DrawTest) (Refused (refusal_of x)) → caller_of s mid ≡ drawn_by (Err (steps.Refused x)) (caller_of s old)
      → Shown {S = S} {F = F} {H = H} {T = T} hands.Verify e ⊥ s mid 0 (troubles.Step (steps.Refused x))
  draw_entry (refusals.Deposed entry) is h own = (ReadStep DrawTest, record { front = h.front; image = h.image; is = h.is })
  draw_entry (refusals.IdsSpent next) is h own = record {
    client = refl;
    shown = record { is_open = ap (λ (d : Caller). d.spent) own; had = stepped_had s old mid 0 (ReadStep DrawTest) (Refused (IdsSpent next.number)) h };
  }
  draw_entry x is h own = absurd is

  pub draw_shown : (refusal : StepRefusal) → IsRefusedBy s old mid 0 (ReadStep DrawTest) refusal → caller_of s mid ≡ drawn_by (Err refusal) (caller_of s old)
      → Shown {S = S} {F = F} {H = H} {T = T} hands.Verify e ⊥ s mid 0 (troubles.Step refusal)
  draw_shown steps.Memory h own = tt
  draw_shown steps.TurnsSpent h own = h.1
  draw_shown (steps.Refused x) h own = draw_entry x (draw_refused law s old mid x h.0 h.1) h.0 own

  may_entry : (x : EntryRefusal) → IsDrawRefusal (refusal_of x) → caller_of s mid ≡ drawn_by (Err (steps.Refused x)) (caller_of s old)
      → MayEnd {S = S} {F = F} {H = H} {T = T} hands.Verify s mid 0 (ending_by {S = S} {F = F} {H = H} {T = T} (troubles.Step (steps.Refused x)))
  may_entry (refusals.Deposed entry) is own = tt
  may_entry (refusals.IdsSpent next) is own = (record { alone = alone; client = refl }, inr (ap (λ (d : Caller). d.spent) own))
  may_entry x is own = absurd is

  draw_may : (refusal : StepRefusal) → IsRefusedBy s old mid 0 (ReadStep DrawTest) refusal → caller_of s mid ≡ drawn_by (Err refusal) (caller_of s old)
      → MayEnd {S = S} {F = F} {H = H} {T = T} hands.Verify s mid 0 (ending_by {S = S} {F = F} {H = H} {T = T} (troubles.Step refusal))
  draw_may (steps.Refused x) h own = may_entry x (draw_refused law s old mid x h.0 h.1) own
  draw_may refusal h own = tt

  pub draw_may_end : (refusal : StepRefusal) (ending : Ending S F H T) → ending ≡ ending_by (troubles.Step refusal) → IsRefusedBy s old mid 0 (ReadStep DrawTest) refusal → caller_of s mid ≡ drawn_by (Err refusal) (caller_of s old)
      → MayEnd hands.Verify s mid 0 ending
  draw_may_end refusal ending is h own = subst (λ (x : Ending S F H T). MayEnd hands.Verify s mid 0 x) (sym is) (draw_may refusal h own)

module _ {S F H T : Type 0} (e : Evidence S F H T) (law : RefusesSo) (deposes : DeposesSo) (s : Start) (old mid new : List Moment) (alone : s.alone ≡ true) where
  -- no id was left
  spent_ends : (why : Why) (b : By S F H T) (result : UnitRefusal) → IsAlive s mid → GivenUp hands.Verify e s mid new 0 (endings.Failed why b) result → IsReported hands.Verify s mid new 0 (endings.Failed why b) result
      → IsVerifyRefused e s old new result
  spent_ends why b (units.Failed told) alive h report = failed e law s old mid new alone why told b h
  spent_ends why b (units.Stopped refusal) alive h report = for_cause e law s old mid new alone why b refusal alive h report
  spent_ends why b units.Stale alive h report = absurd h

  stop_ends : (refusal : StepRefusal) (result : UnitRefusal) → StopsVerify s old mid refusal → GivenUp hands.Verify e s mid new 0 (endings.Stopped refusal) result → IsVerifyRefused e s old new result
  stop_ends refusal (units.Stopped told) stops h = as_stopped e law s old mid new alone refusal told stops h
  stop_ends refusal result stops h = absurd h

  entry_ends : (x : EntryRefusal) (result : UnitRefusal) → IsDrawRefusal (refusal_of x) → Stepped s old mid 0 (ReadStep DrawTest) (Refused (refusal_of x)) → caller_of s mid ≡ drawn_by (Err (steps.Refused x)) (caller_of s old)
      → GivenUp hands.Verify e s mid new 0 (ending_by {S = S} {F = F} {H = H} {T = T} (troubles.Step (steps.Refused x))) result
      → IsReported {S = S} {F = F} {H = H} {T = T} hands.Verify s mid new 0 (ending_by {S = S} {F = F} {H = H} {T = T} (troubles.Step (steps.Refused x))) result → IsVerifyRefused e s old new result
  entry_ends (refusals.Deposed entry) result is h own given report = stop_ends (steps.Refused (refusals.Deposed entry)) result (record { front = h.front; image = h.image; is = h.is }, own) given
  entry_ends (refusals.IdsSpent next) result is h own given report =
      spent_ends (whys.IdsSpent next) shows.Entry result (stepped_alive deposes s old mid DrawTest (Refused (IdsSpent next.number)) (λ place e. cc) h) given report
  entry_ends x result is h own given report = absurd is

  draw_ending : (refusal : StepRefusal) (result : UnitRefusal) → IsRefusedBy s old mid 0 (ReadStep DrawTest) refusal → caller_of s mid ≡ drawn_by (Err refusal) (caller_of s old)
      → GivenUp hands.Verify e s mid new 0 (ending_by {S = S} {F = F} {H = H} {T = T} (troubles.Step refusal)) result
      → IsReported {S = S} {F = F} {H = H} {T = T} hands.Verify s mid new 0 (ending_by {S = S} {F = F} {H = H} {T = T} (troubles.Step refusal)) result → IsVerifyRefused e s old new result
  draw_ending steps.Memory result h own given report = stop_ends steps.Memory result tt given
  draw_ending steps.TurnsSpent result h own given report = stop_ends steps.TurnsSpent result h.1 given
  draw_ending (steps.Refused x) result h own given report = entry_ends x result (draw_refused law s old mid x h.0 h.1) h.0 own given report

  pub draw_ends : (refusal : StepRefusal) (ending : Ending S F H T) (result : UnitRefusal) → ending ≡ ending_by (troubles.Step refusal) → IsRefusedBy s old mid 0 (ReadStep DrawTest) refusal
      → caller_of s mid ≡ drawn_by (Err refusal) (caller_of s old)
      → GivenUp hands.Verify e s mid new 0 ending result → IsReported hands.Verify s mid new 0 ending result → IsVerifyRefused e s old new result
  draw_ends refusal ending result is h own given report =
      draw_ending refusal result h own (subst (λ (x : Ending S F H T). GivenUp hands.Verify e s mid new 0 x result) is given) (subst (λ (x : Ending S F H T). IsReported hands.Verify s mid new 0 x result) is report)
