-- What a step of a worker learns of its seat: of its turn, or where it took none.
use Rattle.std.proofs.Common.{◌≡◌, ℕ, List, ◌++◌, length, Option, None, Result, Ok, Err, IfOk, OnErr, IsErrAnd, refl, sym, ap, ◌∙◌, subst}
use Rattle.esr_model.specs.Names.{BlobName}
use Rattle.esr_core.specs.World.{Ticket}
use Rattle.esr_core.specs.Entry.{Step, Reply, Refusal, Moment}
use Rattle.esr_desk.specs.declared.hand.Hand.{Hand}
use Rattle.esr_desk.specs.declared.hand.Hand.TheVariants as hands
use Rattle.esr_desk.specs.declared.refusal.StepRefusal.{StepRefusal}
use Rattle.esr_desk.specs.declared.refusal.StepRefusal.TheVariants as steps
use Rattle.esr_desk.specs.Refusals.{refusal_of, told_refusal}
use Rattle.esr_desk.specs.Start.{Start, Legal, ticket_of}
use Rattle.esr_desk.specs.Calls.{with_refusal, called, called_by}
use Rattle.esr_desk.specs.Outcome.{Grounds, Outcome}
use Rattle.esr_desk.specs.Taken.{LeftBy, tried_by, begun_by}
use Rattle.esr_handle.specs.Owned.{calls_in}
use Rattle.esr_handle.specs.Turned.{shared, Seen, Turned, Seated, or_no_seat}
use Rattle.esr_handle.proofs.Owned.{none_some}
use Rattle.esr_handle.proofs.Turns.{stays}

pub turned_at : {s : Start} {before : List Moment} {old : Seated} {turn : Seen} {value : List Moment} (seat : Option Seated) → or_no_seat seat ≡ old → Turned s before (or_no_seat seat).pass turn value → Turned s before old.pass turn value
turned_at {s} {before} {old} {turn} {value} seat view t = subst (λ (z : Seated). Turned s before z.pass turn value) view t

-- what the end of a turn goes by
pub end_of : {A B C D : Type 0} → A → B → C → D → A × B × C × D
end_of lent base alone came = (lent, base, alone, came)

-- ---- where no turn was taken, the seat is as it was

pub record IsIdle {X : Type 0} (s : Start) (before : List Moment) (old new : Seated) (result : Result X StepRefusal) : Type 0 where
  pub refusal : StepRefusal
  pub is : result ≡ Err refusal
  pub untold : told_refusal refusal ≡ None
  pub same : new ≡ old
  pub legal : Legal s (before ++ old.pass.seen)
  pub grounds : Grounds (shared s) (before ++ old.pass.seen) 0 refusal

err_is : {X : Type 0} (result : Result X StepRefusal) (refusal : StepRefusal) → IsErrAnd result (λ e. e ≡ refusal) → result ≡ Err refusal
err_is (Ok x) refusal is = absurd is
err_is (Err e) refusal is = ap Err is

pub is_idle : {X : Type 0} {seat now : Option Seated} {old : Seated} (s : Start) (before : List Moment) (refusal : StepRefusal) (result : Result X StepRefusal)
    → IsErrAnd result (λ e. e ≡ refusal) → or_no_seat seat ≡ old → now ≡ seat → Legal s (before ++ (or_no_seat seat).pass.seen) → (told_refusal refusal ≡ None) × Grounds (shared s) (before ++ (or_no_seat seat).pass.seen) 0 refusal
    → IsIdle s before old (or_no_seat now) result
is_idle s before refusal result is view kept legal grounds = record {
  refusal = refusal;
  is = err_is result refusal is;
  untold = grounds.0;
  same = ap or_no_seat kept ∙ view;
  legal = subst (λ (z : Seated). Legal s (before ++ z.pass.seen)) view legal;
  grounds = subst (λ (z : Seated). Grounds (shared s) (before ++ z.pass.seen) 0 refusal) view grounds.1;
}

-- ---- a refusal that the history doesn't tell

step_idle : {X : Type 0} (s : Start) (before seen : List Moment) (who : ℕ) (step : Step) (ok : X → Reply) (refusal : StepRefusal) → told_refusal refusal ≡ None → Legal s (before ++ seen) → Grounds (shared s) (before ++ seen) 0 refusal
    → Outcome {X = X} (shared s) (before ++ seen) (before ++ seen) who step ok (Err refusal)
step_idle s before seen who step ok steps.Memory untold legal grounds = (stays s before seen who legal, tt)
step_idle s before seen who step ok steps.TurnsSpent untold legal grounds = (stays s before seen who legal, grounds)
step_idle s before seen who step ok (steps.Refused refusal) untold legal grounds = absurd (none_some (refusal_of refusal) (sym untold))

tried_idle : (X : Type 0) (refusal : StepRefusal) (t : Ticket) → told_refusal refusal ≡ None → t ≡ tried_by {X = X} (Err refusal) t
tried_idle X steps.Memory t untold = refl
tried_idle X steps.TurnsSpent t untold = refl
tried_idle X (steps.Refused refusal) t untold = absurd (none_some (refusal_of refusal) (sym untold))

begun_idle : (X : Type 0) (name : BlobName) (refusal : StepRefusal) (t : Ticket) → told_refusal refusal ≡ None → t ≡ begun_by {X = X} name (Err refusal) t
begun_idle X name steps.Memory t untold = refl
begun_idle X name steps.TurnsSpent t untold = refl
begun_idle X name (steps.Refused refusal) t untold = absurd (none_some (refusal_of refusal) (sym untold))

left_idle : (X : Type 0) (gone : Ticket → Type 0) (refusal : StepRefusal) (t : Ticket) → told_refusal refusal ≡ None → LeftBy {X = X} gone (Err refusal) t t
left_idle X gone steps.Memory t untold = refl
left_idle X gone steps.TurnsSpent t untold = refl
left_idle X gone (steps.Refused refusal) t untold = absurd (none_some (refusal_of refusal) (sym untold))

-- ---- what the step learns

module _ {X : Type 0} {s : Start} {before : List Moment} {old new : Seated} {result : Result X StepRefusal} (i : IsIdle s before old new result) where
  at_old : (P : Seated → Result X StepRefusal → Type 0) → P old (Err i.refusal) → P new result
  at_old P p = subst (λ (r : Result X StepRefusal). P new r) (sym i.is) (subst (λ (z : Seated). P z (Err i.refusal)) (sym i.same) p)

  pub idle_step : (who : ℕ) (step : Step) (ok : X → Reply) → Outcome (shared s) (before ++ old.pass.seen) (before ++ new.pass.seen) who step ok result
  idle_step who step ok = at_old (λ (z : Seated) (r : Result X StepRefusal). Outcome (shared s) (before ++ old.pass.seen) (before ++ z.pass.seen) who step ok r) (step_idle s before old.pass.seen who step ok i.refusal i.untold i.legal i.grounds)

  pub idle_ok : (P : X → Type 0) → IfOk result P
  idle_ok P = subst (λ (r : Result X StepRefusal). IfOk r P) (sym i.is) tt

  pub idle_not : (x : X) → result ≡ Ok x → ⊥
  idle_not x is = let err : result ≡ Err i.refusal = i.is in cc

  -- it is what the old seat says
  pub idle_same : {A : Type 0} (of : Seated → A) → of new ≡ of old
  idle_same of = ap of i.same

  pub idle_kept : {A : Type 0} (of : Seated → A) → OnErr result (of new ≡ of old)
  idle_kept of = at_old (λ (z : Seated) (r : Result X StepRefusal). OnErr r (of z ≡ of old)) refl

  pub idle_tried : (who : ℕ) → ticket_of s (before ++ new.pass.seen) who ≡ tried_by result (ticket_of s (before ++ old.pass.seen) who)
  idle_tried who = at_old (λ (z : Seated) (r : Result X StepRefusal). ticket_of s (before ++ z.pass.seen) who ≡ tried_by r (ticket_of s (before ++ old.pass.seen) who)) (tried_idle X i.refusal (ticket_of s (before ++ old.pass.seen) who) i.untold)

  pub idle_begun : (who : ℕ) (name : BlobName) → ticket_of s (before ++ new.pass.seen) who ≡ begun_by name result (ticket_of s (before ++ old.pass.seen) who)
  idle_begun who name =
      at_old (λ (z : Seated) (r : Result X StepRefusal). ticket_of s (before ++ z.pass.seen) who ≡ begun_by name r (ticket_of s (before ++ old.pass.seen) who)) (begun_idle X name i.refusal (ticket_of s (before ++ old.pass.seen) who) i.untold)

  pub idle_left : (who : ℕ) (gone : Ticket → Ticket → Type 0) → LeftBy (gone (ticket_of s (before ++ old.pass.seen) who)) result (ticket_of s (before ++ old.pass.seen) who) (ticket_of s (before ++ new.pass.seen) who)
  idle_left who gone = at_old (λ (z : Seated) (r : Result X StepRefusal). LeftBy (gone (ticket_of s (before ++ old.pass.seen) who)) r (ticket_of s (before ++ old.pass.seen) who) (ticket_of s (before ++ z.pass.seen) who))
      (left_idle X (gone (ticket_of s (before ++ old.pass.seen) who)) i.refusal (ticket_of s (before ++ old.pass.seen) who) i.untold)

  pub idle_calls : calls_in (length before) new.pass.seen new.pass.mine ≡ calls_in (length before) old.pass.seen old.pass.mine
  idle_calls = idle_same (λ (z : Seated). calls_in (length before) z.pass.seen z.pass.mine)

  pub idle_called : (step : Step) (ok : X → Reply) → calls_in (length before) new.pass.seen new.pass.mine ≡ called (before ++ new.pass.seen) step ok result (calls_in (length before) old.pass.seen old.pass.mine)
  idle_called step ok =
      at_old (λ (z : Seated) (r : Result X StepRefusal). calls_in (length before) z.pass.seen z.pass.mine ≡ called (before ++ z.pass.seen) step ok r (calls_in (length before) old.pass.seen old.pass.mine))
      (sym (ap (λ (o : Option Refusal). with_refusal (before ++ old.pass.seen) step o (calls_in (length before) old.pass.seen old.pass.mine)) i.untold))

  pub idle_called_by : (hand : Hand) (step : Step) (ok : X → Reply) → calls_in (length before) new.pass.seen new.pass.mine ≡ called_by hand (before ++ new.pass.seen) step ok result (calls_in (length before) old.pass.seen old.pass.mine)
  idle_called_by hands.Check step ok = idle_called step ok
  idle_called_by hands.Verify step ok = idle_called step ok
  idle_called_by hand step ok = idle_calls
