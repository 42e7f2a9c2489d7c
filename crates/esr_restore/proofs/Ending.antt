-- How the unit of a restore's shard ends where it isn't restored.
use Rattle.std.proofs.Common.{◌≡◌, ⊎_elim, ℕ, Bool, true, false, List, refl, sym, ap, ◌∙◌, subst, true≢false}
use Rattle.esr_core.specs.Allowed.{Blocks}
use Rattle.esr_core.specs.Refusing.{MayRefuse, ReadFault}
use Rattle.esr_core.specs.Entry.{OfTarget, ReadBlob, RestoredShard, Step, ReadStep, Refusal, Refused, Moment}
use Rattle.esr_desk.specs.declared.entry.Why.{Why}
use Rattle.esr_desk.specs.declared.hand.Hand.TheVariants as hands
use Rattle.esr_desk.specs.declared.refusal.StepRefusal.{StepRefusal}
use Rattle.esr_desk.specs.declared.refusal.StepRefusal.TheVariants as steps
use Rattle.esr_desk.specs.declared.refusal.EntryRefusal.{EntryRefusal}
use Rattle.esr_desk.specs.declared.refusal.EntryRefusal.TheVariants as refusals
use Rattle.esr_desk.specs.declared.fault.FailedObject.TheVariants as objects
use Rattle.esr_desk.specs.declared.fault.By.{By}
use Rattle.esr_desk.specs.declared.fault.By.TheVariants as shows
use Rattle.esr_desk.specs.declared.unit.UnitRefusal.{UnitRefusal}
use Rattle.esr_desk.specs.declared.unit.UnitRefusal.TheVariants as units
use Rattle.esr_desk.specs.Entries.{why_of}
use Rattle.esr_desk.specs.Refusals.{refusal_of}
use Rattle.esr_desk.specs.Start.{Start, world_of}
use Rattle.esr_desk.specs.Last.{IsLast}
use Rattle.esr_desk.specs.Halts.{Halts}
use Rattle.esr_desk.specs.Own.{Own, reader_of}
use Rattle.esr_desk.specs.Outcome.{Grounds}
use Rattle.esr_desk.specs.Evidence.{Evidence}
use Rattle.esr_desk.specs.Restore.First.{HasFirst}
use Rattle.esr_desk.specs.Restore.Shown.{IsFor, IsRestoreShown}
use Rattle.esr_unit.specs.declared.trouble.Trouble.{Trouble}
use Rattle.esr_unit.specs.declared.trouble.Trouble.TheVariants as troubles
use Rattle.esr_unit.specs.declared.ending.Ending.{Ending}
use Rattle.esr_unit.specs.declared.ending.Ending.TheVariants as endings
use Rattle.esr_unit.specs.Ending.{ending_by}
use Rattle.esr_unit.specs.Shown.{EndingShown}
use Rattle.esr_unit.specs.Fetch.{IsRefusedBy, FetchErr}
use Rattle.esr_unit.specs.Fail.{GivenUp}
use Rattle.esr_unit.specs.Refusals.{RefusesSo, IsBlock, block_is, last_refused, reader_refused}
use Rattle.esr_model.specs.Names.{BlobName}
use Rattle.esr_core.specs.Laws.Tests.{clash}
use Rattle.esr_restore.specs.Refused.{IsUnitRefused}
use Rattle.esr_restore.specs.Trouble.{FaultyTarget, IsOfStart, IsTrouble}
use Rattle.esr_restore.specs.Worked.{Worked}
use Rattle.esr_restore.proofs.Going.{worked_none, worked_on, worked_same}

-- ---- what a fetch shows

module _ {S F H T : Type 0} (e : Evidence S F H T) (law : RefusesSo) (s : Start) (old new : List Moment) (who : ℕ) (name : BlobName) (out : (reader_of s new who).out ≡ true) (count : ℕ) (sure : Bool) where
  -- it was refused
  pub fetch_trouble : (refusal : StepRefusal) → IsRefusedBy s old new who (ReadStep (ReadBlob name)) refusal → IsTrouble e count sure s new who (troubles.Step refusal)
  fetch_trouble refusal h = reader_refused {S = S} {F = F} {H = H} {T = T} e (FaultyTarget count sure) s old new who name law refusal out h

  wanting : (refusal : StepRefusal) → refusal ≡ steps.Memory → IsTrouble e count sure s new who (troubles.Step refusal)
  wanting refusal is = subst (λ (r : StepRefusal). IsTrouble e count sure s new who (troubles.Step r)) (sym is) tt

  -- or failed
  pub whole_trouble : (trouble : Trouble S F) → FetchErr e.fetch_faults s old new who (ReadStep (ReadBlob name)) trouble → IsTrouble e count sure s new who trouble
  whole_trouble (troubles.Step refusal) h = ⊎_elim
      (λ (by : IsRefusedBy s old new who (ReadStep (ReadBlob name)) refusal). fetch_trouble refusal by)
      (λ (is : refusal ≡ steps.Memory). wanting refusal is)
      h
  whole_trouble (troubles.Fetch fetch) h = h
  whole_trouble trouble h = absurd h

-- a file that wasn't begun
pub start_trouble : {S F H T : Type 0} (e : Evidence S F H T) (count : ℕ) (sure : Bool) (s : Start) (log : List Moment) (who : ℕ) (trouble : Trouble S F) → IsOfStart count sure trouble → IsTrouble e count sure s log who trouble
start_trouble e count sure s log who (troubles.Step refusal) h = subst (λ (r : StepRefusal). IsTrouble e count sure s log who (troubles.Step r)) (sym h) tt
start_trouble e count sure s log who troubles.Own h = h
start_trouble e count sure s log who trouble h = absurd h

-- ---- what shows the end

module _ {S F H T : Type 0} (e : Evidence S F H T) (count : ℕ) (sure : Bool) (s : Start) (log : List Moment) (who : ℕ)
    (trouble : Trouble S F) (shown : IsTrouble e count sure s log who trouble) (ending : Ending S F H T) (made : ending ≡ ending_by trouble) where
  as_ending : (other : Ending S F H T) → ending ≡ other → EndingShown hands.Restore e (FaultyTarget count sure) s log who other
  as_ending other is = subst (λ (x : Ending S F H T). EndingShown hands.Restore e (FaultyTarget count sure) s log who x) (sym made ∙ is) shown

  -- a cause
  pub cause_shown : (why : Why) (b : By S F H T) → ending ≡ endings.Failed why b → IsRestoreShown e s log who (why_of why) b
  cause_shown why b is = as_ending (endings.Failed why b) is

  pub stop_halts : (refusal : StepRefusal) → ending ≡ endings.Stopped refusal → Halts s log who refusal
  stop_halts refusal is = as_ending (endings.Stopped refusal) is

  pub no_stale : ending ≡ endings.Stale → ⊥
  no_stale is = as_ending endings.Stale is

  pub own_faulty : ending ≡ endings.Own → FaultyTarget count sure
  own_faulty is = as_ending endings.Own is

unsure : (whole sure : Bool) → (whole ≡ true → sure ≡ true) → sure ≡ false → whole ≡ false
unsure true sure all is = absurd (clash sure (all refl) is)
unsure false sure all is = refl

-- that the target has failed
pub target_shown : {S F H T : Type 0} (e : Evidence S F H T) (s : Start) (log : List Moment) (who : ℕ) (target : T) → FaultyTarget (e.target_faults target) (e.target target).is_sure
    → (s.sure_targets ≡ true → (e.target target).is_sure ≡ true)
    → IsFor (reader_of s log who) (e.target target).made_for → HasFirst s (reader_of s log who) (e.target target).files → IsRestoreShown e s log who OfTarget (shows.Object (objects.Target target))
target_shown e s log who target faulty sure of first = record {
  failed = faulty.0;
  unsure = unsure s.sure_targets (e.target target).is_sure sure faulty.1;
  for_it = of;
  first = first;
}

pub not_stale : {S F H T : Type 0} (why : Why) (b : By S F H T) → ◌≡◌ {A = Ending S F H T} (endings.Failed why b) endings.Stale → ⊥
not_stale why b is = cc

-- ---- how it ends then

pub given_refused : {S F H T : Type 0} (e : Evidence S F H T) (s : Start) (old new : List Moment) (who : ℕ) (why : Why) (b : By S F H T) (result : UnitRefusal) → GivenUp hands.Restore e s old new who (endings.Failed why b) result
    → IsUnitRefused e s old new who result
given_refused e s old new who why b (units.Failed told) h =
    let done = subst (λ (w : Why). IsUnitRefused e s old new who (units.Failed w)) (sym h.0) ((reader_of s old who, worked_none (reader_of s old who), ap (λ (o : Own). o.reader) h.1), h.2) in
    done
given_refused e s old new who why b (units.Stopped refusal) h = (worked_same (reader_of s old who) (reader_of s new who) (ap (λ (o : Own). o.reader) h.same), h.halts)
given_refused e s old new who why b units.Stale h = absurd h

-- no rule of its own refuses the end of a ticket whose files are restored
no_refusal : (step : Step) (refusal : Refusal) → MayRefuse step refusal → (files bytes : ℕ) → step ≡ ReadStep (RestoredShard files bytes) → ⊥
no_refusal step refusal (ReadFault name) files bytes is = cc
no_refusal step refusal may files bytes is = cc

module _ (law : RefusesSo) (s : Start) (old new : List Moment) (who files bytes : ℕ) (out : (reader_of s new who).out ≡ true) where
  entry_halts : (x : EntryRefusal) → IsBlock (refusal_of x) → IsLast new who (ReadStep (RestoredShard files bytes)) (Refused (refusal_of x)) → Grounds s new who (steps.Refused x) → Halts s new who (steps.Refused x)
  entry_halts (refusals.Deposed entry) is last grounds = (ReadStep (RestoredShard files bytes), last)
  entry_halts (refusals.Aborted op) is last grounds = absurd (true≢false (sym out ∙ grounds.no_reader))
  entry_halts x is last grounds = absurd is

  pub end_halts : (refusal : StepRefusal) → IsRefusedBy s old new who (ReadStep (RestoredShard files bytes)) refusal → Halts s new who refusal
  end_halts steps.Memory h = tt
  end_halts steps.TurnsSpent h = h.1
  end_halts (steps.Refused x) h =
      let is : IsBlock (refusal_of x) = ⊎_elim
      (λ (blocks : Blocks (world_of s h.0.front) who (ReadStep (RestoredShard files bytes)) (refusal_of x)). block_is (world_of s h.0.front) who (ReadStep (RestoredShard files bytes)) (refusal_of x) blocks)
      (λ (may : MayRefuse (ReadStep (RestoredShard files bytes)) (refusal_of x)). absurd (no_refusal (ReadStep (RestoredShard files bytes)) (refusal_of x) may files bytes refl))
      (last_refused law s old new who (ReadStep (RestoredShard files bytes)) (refusal_of x) h.0) in
      entry_halts x is (record { front = h.0.front; image = h.0.image; is = h.0.is }) h.1

-- ---- a unit that went on before

pub unit_refused_on : {S F H T : Type 0} (e : Evidence S F H T) (s : Start) (old mid new : List Moment) (who : ℕ) (refusal : UnitRefusal) → Worked (reader_of s old who) (reader_of s mid who) → IsUnitRefused e s mid new who refusal
    → IsUnitRefused e s old new who refusal
unit_refused_on e s old mid new who (units.Failed why) worked h =
    ((h.0.0, worked_on (reader_of s old who) (reader_of s mid who) h.0.0 worked h.0.1, h.0.2), h.1)
unit_refused_on e s old mid new who (units.Stopped refusal) worked h = (worked_on (reader_of s old who) (reader_of s mid who) (reader_of s new who) worked h.0, h.1)
unit_refused_on e s old mid new who units.Stale worked h = absurd h
