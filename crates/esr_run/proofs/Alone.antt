-- What lines add, and that no check ends well by it.
use Rattle.std.proofs.Common.{◌≡◌, ◌≢◌, ℕ, true, List, [], ◌∷◌, ◌++◌, append-nil, Option, Some, None, Result, Ok, Err, refl, sym, ap, ◌∙◌, subst, inl, inr}
use Rattle.esr_core.specs.Entry.{Asked, Read, CheckedAll, DrawTest, Step, AskStep, LookStep, TakeStep, ElectStep, ReadStep, Reply, Refusal, Refused, Moment}
use Rattle.esr_desk.specs.declared.refusal.StepRefusal.{StepRefusal}
use Rattle.esr_desk.specs.Refusals.{told_refusal}
use Rattle.esr_desk.specs.Start.{Start}
use Rattle.esr_desk.specs.Outcome.{Stepped, Refusing, Outcome}
use Rattle.esr_quiet.specs.Smooth.{NoneChecked}
use Rattle.esr_drive.specs.Elections.{IsOfWait, AllOfWait}
use Rattle.esr_verify.specs.Began.{IsFurther, AllFurther}
use Rattle.esr_run.specs.Made.{AsksLine, AllAsk, AsksOnly}

-- ---- a line that asks for one step

pub asks_same : (old new : List Moment) → new ≡ old → AsksOnly old new
asks_same old new same = record { more = []; is = same ∙ sym (append-nil old); all = tt }

stepped_asks : (s : Start) (old new : List Moment) (step : Step) (reply : Reply) → AsksLine step → s.alone ≡ true → Stepped s old new 0 step reply → AsksOnly old new
stepped_asks s old new step reply asks alone h =
    let m : Moment = record { entry = record { who = 0; step = step; reply = reply }; image = h.image } in
    let front : h.front ≡ old = h.waited.grew ∙ ap (λ (l : List Moment). old ++ l) (h.waited.nobody alone) ∙ append-nil old in
    record { more = m ∷ []; is = h.is ∙ ap (λ (l : List Moment). l ++ m ∷ []) front; all = (refl, asks, tt) }

refused_asks : (s : Start) (old new : List Moment) (step : Step) (refusal : Option Refusal) → AsksLine step → s.alone ≡ true → Refusing s old new 0 step refusal → AsksOnly old new
refused_asks s old new step None asks alone h = asks_same old new (h.grew ∙ ap (λ (l : List Moment). old ++ l) (h.nobody alone) ∙ append-nil old)
refused_asks s old new step (Some refusal) asks alone h = stepped_asks s old new step (Refused refusal) asks alone h

pub line_asks : {X : Type 0} (s : Start) (old new : List Moment) (step : Step) (ok : X → Reply) (result : Result X StepRefusal) → AsksLine step → s.alone ≡ true → Outcome s old new 0 step ok result → AsksOnly old new
line_asks s old new step ok (Ok x) asks alone h = stepped_asks s old new step (ok x) asks alone h
line_asks s old new step ok (Err e) asks alone h = refused_asks s old new step (told_refusal e) asks alone h.0

-- ---- steps that are no end of a check

no_ask_end : (command : Asked) (snapshots blobs : ℕ) → AskStep command ≢ ReadStep (CheckedAll snapshots blobs)
no_ask_end command snapshots blobs e = cc

no_look_end : (snapshots blobs : ℕ) → LookStep ≢ ReadStep (CheckedAll snapshots blobs)
no_look_end snapshots blobs e = cc

no_take_end : (snapshots blobs : ℕ) → TakeStep ≢ ReadStep (CheckedAll snapshots blobs)
no_take_end snapshots blobs e = cc

no_elect_end : (snapshots blobs : ℕ) → ElectStep ≢ ReadStep (CheckedAll snapshots blobs)
no_elect_end snapshots blobs e = cc

no_draw_end : (snapshots blobs : ℕ) → ReadStep DrawTest ≢ ReadStep (CheckedAll snapshots blobs)
no_draw_end snapshots blobs e = cc

no_further_end : (read : Read) (snapshots blobs : ℕ) → IsFurther read → ReadStep read ≢ ReadStep (CheckedAll snapshots blobs)
no_further_end read snapshots blobs further e = let same : read ≡ CheckedAll snapshots blobs = cc in subst IsFurther same further

line_no_end : (step : Step) → AsksLine step → (snapshots blobs : ℕ) → step ≢ ReadStep (CheckedAll snapshots blobs)
line_no_end step (inl ask) snapshots blobs is = no_ask_end ask.0 snapshots blobs (sym ask.1 ∙ is)
line_no_end step (inr look) snapshots blobs is = no_look_end snapshots blobs (sym look ∙ is)

wait_no_end : (m : Moment) → IsOfWait m → (snapshots blobs : ℕ) → m.entry.who ≡ 0 → m.entry.step ≢ ReadStep (CheckedAll snapshots blobs)
wait_no_end m (inl some) snapshots blobs who step = some who
wait_no_end m (inr (inl take)) snapshots blobs who step = no_take_end snapshots blobs (sym take ∙ step)
wait_no_end m (inr (inr elect)) snapshots blobs who step = no_elect_end snapshots blobs (sym elect ∙ step)

-- ---- parts in which no check ends well

pub all_ask : (more : List Moment) → AllAsk more → NoneChecked more
all_ask [] all m snapshots blobs none who step = none
all_ask (x ∷ more) all m snapshots blobs (inl same) who step = line_no_end x.entry.step all.1 snapshots blobs (ap (λ (n : Moment). n.entry.step) same ∙ step)
all_ask (x ∷ more) all m snapshots blobs (inr later) who step = all_ask more all.2 m snapshots blobs later who step

pub all_wait : (more : List Moment) → AllOfWait more → NoneChecked more
all_wait [] all m snapshots blobs none who step = none
all_wait (x ∷ more) all m snapshots blobs (inl same) who step = wait_no_end x all.0 snapshots blobs (ap (λ (n : Moment). n.entry.who) same ∙ who) (ap (λ (n : Moment). n.entry.step) same ∙ step)
all_wait (x ∷ more) all m snapshots blobs (inr later) who step = all_wait more all.1 m snapshots blobs later who step

all_further : (rest : List Moment) → AllFurther rest → NoneChecked rest
all_further [] all m snapshots blobs none who step = none
all_further (x ∷ rest) all m snapshots blobs (inl same) who step = no_further_end all.1.0 snapshots blobs all.1.2 (sym all.1.1 ∙ ap (λ (n : Moment). n.entry.step) same ∙ step)
all_further (x ∷ rest) all m snapshots blobs (inr later) who step = all_further rest all.2 m snapshots blobs later who step

pub begun_none : (draw : Moment) (rest : List Moment) → draw.entry.step ≡ ReadStep DrawTest → AllFurther rest → NoneChecked (draw ∷ rest)
begun_none draw rest drew all m snapshots blobs (inl same) who step = no_draw_end snapshots blobs (sym drew ∙ ap (λ (n : Moment). n.entry.step) same ∙ step)
begun_none draw rest drew all m snapshots blobs (inr later) who step = all_further rest all m snapshots blobs later who step
