-- Which refusals stop the work.
use Rattle.std.proofs.Common.{◌≡◌, ◌≢◌, ◌≤◌, inl, inr, IfErr, ℕ, Bool, true, false, true≢false, List, Option, Result, Err, refl, sym, ap, ◌∙◌, subst, arith}
use Rattle.esr_model.specs.Values.{Bytes}
use Rattle.esr_core.specs.World.{World, Ticket, Drop}
use Rattle.esr_core.specs.Ready.{IsShard}
use Rattle.esr_core.specs.Entry.{SettlePruned, Step, TakeStep, SettleStep, FinishStep, DroppedStep, PruneStep, Refusal, DeposedAt, StaleTerm, DepotFault, AbortedBy, Reply, Moment}
use Rattle.esr_core.specs.Refusing.{MayRefuse, DropFault, DropStale, RefusedSo}
use Rattle.esr_desk.specs.declared.refusal.EntryRefusal.{EntryRefusal}
use Rattle.esr_desk.specs.declared.refusal.EntryRefusal.TheVariants as refusals
use Rattle.esr_desk.specs.declared.refusal.StepRefusal.{StepRefusal}
use Rattle.esr_desk.specs.declared.refusal.StepRefusal.TheVariants as steps
use Rattle.esr_desk.specs.declared.unit.UnitRefusal.{UnitRefusal}
use Rattle.esr_desk.specs.declared.unit.UnitRefusal.TheVariants as units
use Rattle.esr_desk.specs.Refusals.{refusal_of, told_refusal}
use Rattle.esr_desk.specs.Start.{Start, world_of, ticket_of}
use Rattle.esr_desk.specs.Outcome.{Refusing, IsOfOp, Grounds, Outcome}
use Rattle.esr_desk.specs.Conditions.{CanFinish}
use Rattle.esr_desk.specs.Taken.{LeftBy, HasEndedAs}
use Rattle.esr_desk.specs.Halts.{Halts}
use Rattle.esr_desk.specs.Evidence.{Evidence}
use Rattle.esr_unit.specs.Refusals.{last_refused, over, IsBlock, block_is}
use Rattle.esr_upload.specs.Refused as uploads
use Rattle.esr_finish.specs.Refused as finishes
use Rattle.esr_restore.specs.Refused as restores
use Rattle.esr_delete.specs.Refused as deletes
use Rattle.esr_drive.specs.Laws.{Laws}
use Rattle.esr_drive.specs.Stopped.{StopsWork, SaidDeposed, SettleFell, DropFell, DeleteFell, IsHalted, IsUnitStopped, IsStopped, is_late}

-- ---- a step that nothing but a block refuses

so_blocked : (w : World) (who : ℕ) (step : Step) (refusal : Refusal) → (MayRefuse step refusal → ⊥) → RefusedSo w who step refusal → IsBlock refusal
so_blocked w who step refusal none (inl blocks) = block_is w who step refusal blocks
so_blocked w who step refusal none (inr may) = absurd (none may)

-- where no delete can have aborted its op, a record swap had failed
block_stops : (s : Start) (log : List Moment) (who : ℕ) (step : Step) (x : EntryRefusal) → IsBlock (refusal_of x) → Grounds s log who (steps.Refused x) → (IsOfOp s log who → ⊥) → StopsWork step (refusal_of x)
block_stops s log who step (refusals.Deposed entry) block grounds none = SaidDeposed step entry
block_stops s log who step (refusals.Aborted op) block grounds none = absurd (none grounds)
block_stops s log who step x block grounds none = absurd block

never_takes : (refusal : Refusal) → MayRefuse TakeStep refusal → ⊥
never_takes refusal may = elim may [ ]

never_finishes : (refusal : Refusal) → MayRefuse FinishStep refusal → ⊥
never_finishes refusal may = elim may [ ]

no_op : (s : Start) (log : List Moment) → IsOfOp s log 0 → ⊥
no_op s log h = let some : 1 ≤ 0 = h.ticket in omega (arith, some)

-- a take
pub take_stopped : {X : Type 0} → Laws → (s : Start) (old new : List Moment) (ok : X → Reply) (e : StepRefusal) → Outcome s old new 0 TakeStep ok (Err e) → IsStopped s new e
take_stopped laws s old new ok steps.Memory h = tt
take_stopped laws s old new ok steps.TurnsSpent h = h.1
take_stopped laws s old new ok (steps.Refused x) h = (
  0,
  TakeStep,
  record { front = h.0.front; image = h.0.image; is = h.0.is },
  block_stops s new 0 TakeStep x (so_blocked (world_of s h.0.front) 0 TakeStep (refusal_of x) (never_takes (refusal_of x)) (last_refused laws.refused s old new 0 TakeStep (refusal_of x) h.0)) h.1 (no_op s new),
  inr refl,
)

-- ---- the drop of an op

-- how it may be refused
abbrev MayRefuseDrop : Refusal → Type 0
MayRefuseDrop DepotFault = Unit {0}
MayRefuseDrop (StaleTerm own now) = Unit {0}
MayRefuseDrop refusal = IsBlock refusal

block_drop : (refusal : Refusal) → IsBlock refusal → MayRefuseDrop refusal
block_drop (DeposedAt place) block = tt
block_drop (AbortedBy op) block = tt
block_drop refusal block = absurd block

may_drop : (refusal : Refusal) → MayRefuse DroppedStep refusal → MayRefuseDrop refusal
may_drop _ DropFault = tt
may_drop _ (DropStale own now) = tt

so_dropped : (w : World) (who : ℕ) (refusal : Refusal) → RefusedSo w who DroppedStep refusal → MayRefuseDrop refusal
so_dropped w who refusal (inl blocks) = block_drop refusal (block_is w who DroppedStep refusal blocks)
so_dropped w who refusal (inr may) = may_drop refusal may

module _ (laws : Laws) (s : Start) (old new : List Moment) (who : ℕ) (work : (ticket_of s old who).work ≡ Drop) where
  abbrev Left : StepRefusal → Type 0
  Left e = LeftBy {X = Unit {0}} (HasEndedAs (ticket_of s old who)) (Err e) (ticket_of s old who) (ticket_of s new who)

  still_drop : ticket_of s new who ≡ ticket_of s old who → (ticket_of s new who).work ≡ Drop
  still_drop same = ap (λ (t : Ticket). t.work) same ∙ work

  drop_entry : (x : EntryRefusal) → MayRefuseDrop (refusal_of x) → Grounds s new who (steps.Refused x) → Left (steps.Refused x) → is_late (steps.Refused x) ≡ false → StopsWork DroppedStep (refusal_of x)
  drop_entry (refusals.Deposed entry) may grounds left late = SaidDeposed DroppedStep entry
  drop_entry (refusals.Aborted op) may grounds left late = absurd (grounds.no_drop (still_drop left))
  drop_entry (refusals.StaleTerm own now) may grounds left late = absurd (true≢false late)
  drop_entry refusals.DepotFault may grounds left late = DropFell
  drop_entry x may grounds left late = absurd may

  pub drop_halted : (e : StepRefusal) → Refusing s old new who DroppedStep (told_refusal e) × Grounds s new who e → Left e → is_late e ≡ false → IsHalted s new who e
  drop_halted steps.Memory h left late = tt
  drop_halted steps.TurnsSpent h left late = h.1
  drop_halted (steps.Refused x) h left late = (
    DroppedStep,
    record { front = h.0.front; image = h.0.image; is = h.0.is },
    drop_entry x (so_dropped (world_of s h.0.front) who (refusal_of x) (last_refused laws.refused s old new who DroppedStep (refusal_of x) h.0)) h.1 left late,
  )

  -- its term is over
  pub late_over : (e : StepRefusal) → Refusing s old new who DroppedStep (told_refusal e) × Grounds s new who e → Left e → is_late e ≡ true → (ticket_of s old who).out ≡ true
      → CanFinish s new who × ((ticket_of s new who).work ≡ Drop)
  late_over (steps.Refused (refusals.StaleTerm own now)) h left late out =
      (over s old new who DroppedStep own now tt (record { out = ap (λ (t : Ticket). t.out) left ∙ out; no_shard = λ (shard : IsShard (ticket_of s new who).work). subst IsShard (still_drop left) shard }) h.0, still_drop left)
  late_over e h left late out = absurd (true≢false (sym late))

-- the end of a ticket whose term is over
pub finish_halted : Laws → (s : Start) (old new : List Moment) (who : ℕ) (e : StepRefusal) → Refusing s old new who FinishStep (told_refusal e) × Grounds s new who e → ticket_of s new who ≡ ticket_of s old who
    → (ticket_of s old who).work ≡ Drop → IsHalted s new who e
finish_halted laws s old new who steps.Memory h kept work = tt
finish_halted laws s old new who steps.TurnsSpent h kept work = h.1
finish_halted laws s old new who (steps.Refused x) h kept work = (
  FinishStep,
  record { front = h.0.front; image = h.0.image; is = h.0.is },
  block_stops s new who FinishStep x (so_blocked (world_of s h.0.front) who FinishStep (refusal_of x) (never_finishes (refusal_of x)) (last_refused laws.refused s old new who FinishStep (refusal_of x) h.0)) h.1
      (λ (op : IsOfOp s new who). op.no_drop (ap (λ (t : Ticket). t.work) kept ∙ work)),
)

-- ---- a unit that was stopped

-- its refusal stops the work
pub unit_stopped : (s : Start) (log : List Moment) (who : ℕ) (e : StepRefusal) → who ≢ 0 → IsHalted s log who e → IsStopped s log e
unit_stopped s log who steps.Memory some h = tt
unit_stopped s log who steps.TurnsSpent some h = h
unit_stopped s log who (steps.Refused refusal) some h = (who, h.0, h.1, h.2, inl some)

halted : (s : Start) (log : List Moment) (who : ℕ) (e : StepRefusal) → Halts s log who e → IsHalted s log who e
halted s log who steps.Memory h = tt
halted s log who steps.TurnsSpent h = h
halted s log who (steps.Refused (refusals.Deposed entry)) h = (h.0, h.1, SaidDeposed h.0 entry)
halted s log who (steps.Refused refusal) h = absurd h

master_halted : (s : Start) (log : List Moment) (who : ℕ) (e : StepRefusal) → finishes.Stops s log who e → IsHalted s log who e
master_halted s log who (steps.Refused refusals.DepotFault) h = (SettleStep, h, SettleFell)
master_halted s log who e h = halted s log who e h

delete_halted : (clean : Bool) (s : Start) (log : List Moment) (who : ℕ) (e : StepRefusal) → deletes.Stops clean s log who e → IsHalted s log who e
delete_halted clean s log who (steps.Refused refusals.DepotFault) (inl h) = (PruneStep SettlePruned, h, DeleteFell)
delete_halted clean s log who (steps.Refused refusals.DepotFault) (inr h) = (DroppedStep, h.1, DropFell)
delete_halted clean s log who e h = halted s log who e h

module _ {S F H T : Type 0} (e : Evidence S F H T) (s : Start) (old new : List Moment) (who : ℕ) where
  -- ... of a shard
  pub upload_stopped : (files : Option (List (Bytes × Bytes))) (result : Result (Unit {0}) UnitRefusal) → IfErr result (uploads.IsUnitRefused e files s old new who) → IfErr result (IsUnitStopped s new who)
  upload_stopped files (Err (units.Stopped refusal)) h = halted s new who refusal h.1
  upload_stopped files result h = tt

  -- ... of a finalization
  pub master_stopped : (result : Result (Unit {0}) UnitRefusal) → IfErr result (λ x. finishes.IsUnitRefused e s old new who x) → IfErr result (IsUnitStopped s new who)
  master_stopped (Err (units.Stopped refusal)) h = master_halted s new who refusal h.2
  master_stopped result h = tt

  -- ... of a delete or cleanup
  pub delete_stopped : (result : Result (Unit {0}) UnitRefusal) → IfErr result (λ x. deletes.IsUnitRefused e s old new who x) → IfErr result (IsUnitStopped s new who)
  delete_stopped (Err (units.Stopped refusal)) h = delete_halted (ticket_of s old who).clean s new who refusal h.1
  delete_stopped result h = tt

  -- ... of a restore
  pub restore_halted : (x : UnitRefusal) (refusal : StepRefusal) → x ≡ units.Stopped refusal → restores.IsUnitRefused e s old new who x → IsHalted s new who refusal
  restore_halted x refusal is h =
      let stopped : restores.IsUnitRefused e s old new who (units.Stopped refusal) = subst (restores.IsUnitRefused {S = S} {F = F} {H = H} {T = T} e s old new who) is h in
      halted s new who refusal stopped.1
