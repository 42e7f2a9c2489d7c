-- How a check fails.
use Rattle.std.proofs.Common.{◌≡◌, ⊎_elim, true, List, refl, sym, subst}
use Rattle.esr_core.specs.Allowed.{IsChecking}
use Rattle.esr_core.specs.Entry.{ReadFails, ReadStep, Refused, HasEnded, Moment}
use Rattle.esr_desk.specs.declared.hand.Hand.TheVariants as hands
use Rattle.esr_desk.specs.declared.entry.Why.{Why}
use Rattle.esr_desk.specs.declared.entry.Why.TheVariants as whys
use Rattle.esr_desk.specs.declared.refusal.EntryRefusal.{EntryRefusal}
use Rattle.esr_desk.specs.declared.refusal.EntryRefusal.TheVariants as refusals
use Rattle.esr_desk.specs.declared.refusal.StepRefusal.{StepRefusal}
use Rattle.esr_desk.specs.declared.refusal.StepRefusal.TheVariants as steps
use Rattle.esr_desk.specs.declared.fault.By.{By}
use Rattle.esr_desk.specs.Entries.{why_of}
use Rattle.esr_desk.specs.Refusals.{refusal_of}
use Rattle.esr_desk.specs.Start.{Start, world_of}
use Rattle.esr_desk.specs.Outcome.{Stepped}
use Rattle.esr_desk.specs.Halts.{Halts}
use Rattle.esr_desk.specs.Evidence.{Evidence}
use Rattle.esr_desk.specs.Check.Shown.{SinceLook, IsCheckShown}
use Rattle.esr_unit.specs.declared.trouble.Trouble.{Trouble}
use Rattle.esr_unit.specs.declared.trouble.Trouble.TheVariants as troubles
use Rattle.esr_unit.specs.declared.ending.Ending.{Ending}
use Rattle.esr_unit.specs.declared.ending.Ending.TheVariants as endings
use Rattle.esr_unit.specs.Ending.{ending_by}
use Rattle.esr_unit.specs.Shown.{EndingShown, MayEnd, Shown as ByUnit}
use Rattle.esr_unit.specs.Refusals.{RefusesSo}
use Rattle.esr_check.specs.Trouble.{IsFetchRefusal, IsFound, Shown}
use Rattle.esr_check.specs.Went.{IsAlive}
use Rattle.esr_check.specs.First.{NamesOne, FirstOf}
use Rattle.esr_check.specs.Refused.{EndsFailed}
use Rattle.esr_check.proofs.Living.{stepped_is}
use Rattle.esr_check.proofs.Refusing.{IsAbort, HowRefused, live_refusal}

-- ---- what shows a trouble

module _ {S F H T : Type 0} (e : Evidence S F H T) (s : Start) (log : List Moment) (is_open : IsChecking (world_of s log)) (since : SinceLook log) where
  found_shown : (why : Why) → IsFound s log why → ByUnit {S = S} {F = F} {H = H} {T = T} hands.Check e ⊥ s log 0 (troubles.Found why)
  found_shown (whys.Absent name) h = record { client = refl; is_open = is_open; since = h.since; shown = h.had }
  found_shown (whys.Unreadable name reason) h = record { client = refl; is_open = is_open; since = since; shown = h }
  found_shown (whys.Misprinted name stated found) h = record { client = refl; is_open = is_open; since = since; shown = h }
  found_shown (whys.Disagreeing name other) h = record { client = refl; is_open = is_open; since = since; shown = h }
  found_shown why h = absurd h

  refused_shown : (refusal : StepRefusal) → IsFetchRefusal s log refusal → ByUnit {S = S} {F = F} {H = H} {T = T} hands.Check e ⊥ s log 0 (troubles.Step refusal)
  refused_shown steps.Memory h = tt
  refused_shown steps.TurnsSpent h = h
  refused_shown (steps.Refused refusals.DepotFault) h = record { client = refl; is_open = is_open; since = h.0.1.since; shown = ((h.0.0, h.0.1.had), h.1) }
  refused_shown (steps.Refused x) h = absurd h

  pub trouble_shown : (trouble : Trouble S F) → Shown e.fetch_faults s log trouble → ByUnit {S = S} {F = F} {H = H} {T = T} hands.Check e ⊥ s log 0 trouble
  trouble_shown (troubles.Step refusal) h = refused_shown refusal h
  trouble_shown (troubles.Fetch fetch) h = record { client = refl; is_open = is_open; since = since; shown = h }
  trouble_shown (troubles.Found why) h = found_shown why h
  trouble_shown trouble h = absurd h

-- ---- what the report asks

-- that a check is open
pub may_end : {S F H T : Type 0} (s : Start) (log : List Moment) (ending : Ending S F H T) → s.alone ≡ true → IsChecking (world_of s log) → MayEnd hands.Check s log 0 ending
may_end s log (endings.Failed why b) alone is_open = (record { alone = alone; client = refl }, is_open)
may_end s log ending alone is_open = tt

-- a check has no term
pub never_stale : {S F H T : Type 0} (e : Evidence S F H T) (s : Start) (log : List Moment) (ending : Ending S F H T) → EndingShown hands.Check e ⊥ s log 0 ending → ending ≡ endings.Stale → ⊥
never_stale {S} {F} {H} {T} e s log ending shown is = subst (λ (x : Ending S F H T). EndingShown hands.Check e ⊥ s log 0 x) is shown

pub ending_shown : {S F H T : Type 0} (e : Evidence S F H T) (s : Start) (log : List Moment) (trouble : Trouble S F) (ending : Ending S F H T) → ending ≡ ending_by trouble
    → ByUnit {S = S} {F = F} {H = H} {T = T} hands.Check e ⊥ s log 0 trouble → EndingShown hands.Check e ⊥ s log 0 ending
ending_shown {S} {F} {H} {T} e s log trouble ending is shown = subst (λ (x : Ending S F H T). EndingShown hands.Check e ⊥ s log 0 x) (sym is) shown

-- ---- how it ends then

-- the report isn't refused, but where memory is wanting or turns are spent
pub unreported : RefusesSo → (s : Start) (mid new : List Moment) (why : Why) (x : EntryRefusal) → s.alone ≡ true → IsAlive s mid → Stepped s mid new 0 (ReadStep (ReadFails (why_of why))) (Refused (refusal_of x))
    → Halts s new 0 (steps.Refused x) → ⊥
unreported law s mid new why (refusals.Deposed entry) alone alive h halts = ⊎_elim
    (λ (abort : IsAbort (refusal_of (refusals.Deposed entry))). abort)
    (λ (how : HowRefused (ReadStep (ReadFails (why_of why))) (refusal_of (refusals.Deposed entry))). how)
    (live_refusal law s mid new (ReadStep (ReadFails (why_of why))) (refusal_of (refusals.Deposed entry)) alone alive h)
unreported law s mid new why x alone alive h halts = halts

-- the entry tells it
pub ends_failed : {S F H T : Type 0} (e : Evidence S F H T) (s : Start) (old new : List Moment) (why : Why) (b : By S F H T) → s.alone ≡ true → IsCheckShown e s old 0 (why_of why) b → NamesOne (FirstOf s old) (why_of why)
    → Stepped s old new 0 (ReadStep (ReadFails (why_of why))) HasEnded → EndsFailed e s old new why
ends_failed e s old new why b alone shown first step = record {
  image = step.image;
  is = stepped_is s old new (ReadStep (ReadFails (why_of why))) HasEnded alone step;
  by = b;
  shown = shown;
  first = first;
}
