-- Steps that are refused before they are looked at.
use Rattle.std.proofs.Common.{◌≡◌, ◌≢◌, ℕ, Bool, true, false, Option, Some, None, refl, sym, ap, ◌∙◌, subst, true≢false}
use Rattle.std.specs.Prelude.{not, if◌then◌else◌}
use Rattle.std.specs.Ordering.{nat_cmp}
use Rattle.std.specs.FinMap.{FinMap}
use Rattle.std.specs.FinMap as fin
use Rattle.std.proofs.lemmas.Option.{same_Some, none-some}
use Rattle.esr_core.specs.World.{World, Op, Ticket, Work, Finalize, Drop}
use Rattle.esr_core.specs.Entry.{Step, FailedStep, Refused}
use Rattle.esr_core.specs.Allowed.{IsFailure, IsAborted}
use Rattle.esr_ops.specs.Plan.{Plan, kind_of, seat_of, seat_out, IsPlanOf}
use Rattle.esr_ops.specs.Seats.{is_drop}
use Rattle.esr_progress.specs.Aborts.{op_aborter, aborter}
use Rattle.esr_progress.specs.Plans.{seat_there}
use Rattle.esr_desk.specs.declared.refusal.EntryRefusal.{EntryRefusal}
use Rattle.esr_desk.specs.declared.refusal.EntryRefusal.TheVariants as refusals
use Rattle.esr_desk.specs.Refusals.{refusal_of}
use Rattle.esr_repo.specs.Log.{calls}
use Rattle.esr_repo.specs.Counted.{is_fault}
use Rattle.esr_repo.specs.Blocks.{is_failure, as_aborted, block_of}

-- ---- the delete that has aborted the op of a ticket

picks : (drops : Bool) (x : Option ℕ) → drops ≡ false → (if not drops then x else None) ≡ x
picks false x kept = refl
picks true x kept = absurd (true≢false kept)

takes_none : (work : Work) → work ≢ Drop → is_drop (kind_of work) ≡ false
takes_none (Finalize info results made) other = refl
takes_none Drop other = absurd (other refl)
takes_none work other = refl

no_failure : (step : Step) → is_failure step ≡ false → IsFailure step → ⊥
no_failure (FailedStep why) is h = absurd (true≢false is)
no_failure step is h = h

fails_not : (step : Step) → (IsFailure step → ⊥) → is_failure step ≡ false
fails_not (FailedStep why) never = absurd (never tt)
fails_not step never = refl

-- a ticket of this op, which a delete has aborted
module _ (w : World) (who : ℕ) (step : Step) (by : ℕ) (other : is_failure step ≡ false) (t : Ticket) (there : fin.get w.tickets who ≡ Some t) where
  by_op : t.out ≡ true → is_drop (kind_of t.work) ≡ false → (o : Option Op) → fin.get w.ops t.op ≡ o → op_aborter o ≡ Some by → IsAborted w who step by
  by_op out no_drop None e a = absurd (none-some by a)
  by_op out no_drop (Some op) e a =
      record { t = t; out = record { there = there; out = out }; op = op; op_there = e; by_is = a; no_drop = λ is. true≢false (sym (ap (λ (x : Work). is_drop (kind_of x)) is) ∙ no_drop); no_failure = no_failure step other }

  by_kind : (drops : Bool) → is_drop (kind_of t.work) ≡ drops → t.out ≡ true → (if not drops then op_aborter (fin.get w.ops t.op) else None) ≡ Some by → IsAborted w who step by
  by_kind false no_drop out a = by_op out no_drop (fin.get w.ops t.op) refl a
  by_kind true no_drop out a = absurd (none-some by a)

  by_out : (out : Bool) → t.out ≡ out → aborter w.ops (if out then Some (seat_of t) else None) ≡ Some by → IsAborted w who step by
  by_out true out a = by_kind (is_drop (kind_of t.work)) refl out a
  by_out false out a = absurd (none-some by a)

by_ticket : (w : World) (who : ℕ) (step : Step) (by : ℕ) → is_failure step ≡ false → (o : Option Ticket) → fin.get w.tickets who ≡ o → aborter w.ops (seat_out o) ≡ Some by → IsAborted w who step by
by_ticket w who step by other None e a = absurd (none-some by a)
by_ticket w who step by other (Some t) e a = by_out w who step by other t e t.out refl a

module _ (w : World) (plan : Plan) (who : ℕ) (step : Step) (h : IsPlanOf w plan) where
  -- it is that of the world
  aborter_is : aborter plan.ops (fin.get plan.seats who) ≡ aborter w.ops (seat_out (fin.get w.tickets who))
  aborter_is = ap (λ (ops : FinMap nat_cmp Op). aborter ops (fin.get plan.seats who)) h.ops ∙ ap (aborter w.ops) (h.seats who)

  aborted_is : (by : ℕ) → is_failure step ≡ false → aborter plan.ops (fin.get plan.seats who) ≡ Some by → IsAborted w who step by
  aborted_is by other is = by_ticket w who step by other (fin.get w.tickets who) refl (sym aborter_is ∙ is)

  aborts : (by : ℕ) → IsAborted w who step by → aborter plan.ops (fin.get plan.seats who) ≡ Some by
  aborts by x =
      aborter_is
      ∙ ap (λ (o : Option Ticket). aborter w.ops (seat_out o)) x.out.there
      ∙ ap (aborter w.ops) (seat_there x.t x.out.out)
      ∙ picks (is_drop (kind_of x.t.work)) (op_aborter (fin.get w.ops x.t.op)) (takes_none x.t.work x.no_drop)
      ∙ ap op_aborter x.op_there
      ∙ x.by_is

  -- where nothing blocks the step, no delete has
  pub unaborted : block_of None plan who step ≡ None → (by : ℕ) → IsAborted w who step by → ⊥
  unaborted free by x =
      none-some (refusals.Aborted by)
      (sym free ∙ ap (λ (b : Bool). if b then None else as_aborted (aborter plan.ops (fin.get plan.seats who))) (fails_not step x.no_failure) ∙ ap as_aborted (aborts by x))

-- two deletes that have aborted it are one
pub one_aborter : (w : World) (who : ℕ) (step : Step) (a b : ℕ) → IsAborted w who step a → IsAborted w who step b → a ≡ b
one_aborter w who step a b x y =
    let t : x.t ≡ y.t = same_Some x.t y.t (sym x.out.there ∙ y.out.there) in
    let op : x.op ≡ y.op = same_Some x.op y.op (sym x.op_there ∙ ap (λ (u : Ticket). fin.get w.ops u.op) t ∙ y.op_there) in
    same_Some a b (sym x.by_is ∙ ap (λ (o : Op). o.aborted) op ∙ y.by_is)

-- ---- what a block tells

pub data Tells (d : Option ℕ) (plan : Plan) (who : ℕ) (step : Step) : EntryRefusal → Type 0 where
  OfSwap : (place : ℕ) → d ≡ Some place → Tells d plan who step (refusals.Deposed place)
  OfDelete : (by : ℕ) → d ≡ None → ((w : World) → IsPlanOf w plan → IsAborted w who step by) → Tells d plan who step (refusals.Aborted by)

pub block_tells : (d : Option ℕ) (plan : Plan) (who : ℕ) (step : Step) (refusal : EntryRefusal) → block_of d plan who step ≡ Some refusal → Tells d plan who step refusal
block_tells d plan who step refusal is = by d refl is
  where
    by_delete : d ≡ None → is_failure step ≡ false → (o : Option ℕ) → aborter plan.ops (fin.get plan.seats who) ≡ o → as_aborted o ≡ Some refusal → Tells d plan who step refusal
    by_delete none other None a is = absurd (none-some refusal is)
    by_delete none other (Some op) a is = subst (Tells d plan who step) (same_Some (refusals.Aborted op) refusal is) (OfDelete op none (λ w h. aborted_is w plan who step h op other a))

    by_step : d ≡ None → (b : Bool) → is_failure step ≡ b → (if b then None else as_aborted (aborter plan.ops (fin.get plan.seats who))) ≡ Some refusal → Tells d plan who step refusal
    by_step none true other is = absurd (none-some refusal is)
    by_step none false other is = by_delete none other (aborter plan.ops (fin.get plan.seats who)) refl is

    by : (o : Option ℕ) → d ≡ o → block_of o plan who step ≡ Some refusal → Tells d plan who step refusal
    by (Some place) e is = subst (Tells d plan who step) (same_Some (refusals.Deposed place) refusal is) (OfSwap place e)
    by None e is = by_step e (is_failure step) refl is

-- without one no record swap has failed
pub block_none : (d : Option ℕ) (plan : Plan) (who : ℕ) (step : Step) → block_of d plan who step ≡ None → d ≡ None
block_none (Some place) plan who step is = absurd (none-some (refusals.Deposed place) (sym is))
block_none None plan who step is = refl

-- it calls no container, and tells no failure
pub block_plain : (d : Option ℕ) (plan : Plan) (who : ℕ) (step : Step) (refusal : EntryRefusal) → Tells d plan who step refusal → calls step (Refused (refusal_of refusal)) ≡ false
block_plain d plan who step refusal (OfSwap place fell) = refl
block_plain d plan who step refusal (OfDelete op none aborted) = refl

pub block_no_fault : (d : Option ℕ) (plan : Plan) (who : ℕ) (step : Step) (refusal : EntryRefusal) → Tells d plan who step refusal → is_fault (Refused (refusal_of refusal)) ≡ false
block_no_fault d plan who step refusal (OfSwap place fell) = refl
block_no_fault d plan who step refusal (OfDelete op none aborted) = refl
