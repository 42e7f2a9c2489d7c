-- What a check adds to a history.
use Rattle.std.proofs.Common.{◌≡◌, inl, inr, ⊎_elim, ℕ, true, List, [], ◌∷◌, ◌++◌, append-nil, append_assoc, Option, Some, None, Result, Ok, Err, refl, sym, ap, ◌∙◌, subst}
use Rattle.esr_model.specs.Lists.{Has-either}
use Rattle.esr_model.specs.Names.{BlobName}
use Rattle.esr_model.specs.Values.{Has}
use Rattle.esr_core.specs.Entry.{Read, ReadBlob, CheckedAll, ReadFails, Step, LookStep, ReadStep, Reply, Refusal, Refused, HasEnded, Moment}
use Rattle.esr_desk.specs.declared.unit.UnitRefusal.{UnitRefusal}
use Rattle.esr_desk.specs.declared.unit.UnitRefusal.TheVariants as units
use Rattle.esr_desk.specs.declared.refusal.StepRefusal.{StepRefusal}
use Rattle.esr_desk.specs.declared.refusal.StepRefusal.TheVariants as steps
use Rattle.esr_desk.specs.declared.hand.Hand.TheVariants as hands
use Rattle.esr_desk.specs.Entries.{why_of}
use Rattle.esr_desk.specs.Evidence.{Evidence}
use Rattle.esr_desk.specs.Refusals.{refusal_of, told_refusal}
use Rattle.esr_unit.specs.declared.ending.Ending.{Ending}
use Rattle.esr_unit.specs.declared.ending.Ending.TheVariants as endings
use Rattle.esr_unit.specs.Fail.{GivenUp, IsReported}
use Rattle.esr_desk.specs.Start.{Start}
use Rattle.esr_desk.specs.Outcome.{Stepped, Refusing, Outcome}
use Rattle.esr_desk.specs.Grew.{GrewBy, AllOf}
use Rattle.esr_desk.specs.Check.Shown.{AllFetches, SinceLook}
use Rattle.esr_check.specs.Began.{IsOfCheck, AllOfCheck, GrewOfCheck, HasBegun, NotBegun, Begun, AsksOne, NoneChecked}
use Rattle.esr_check.specs.Went.{Went}
use Rattle.esr_check.proofs.Living.{front_is, moment_of, stepped_is}

-- ---- further steps

of_check_both : (a b : List Moment) → AllOfCheck a → AllOfCheck b → AllOfCheck (a ++ b)
of_check_both [] b one two = two
of_check_both (m ∷ a) b one two = (one.0, one.1, of_check_both a b one.2 two)

of_check_fetches : (ms : List Moment) → AllFetches ms → AllOfCheck ms
of_check_fetches [] all = tt
of_check_fetches (m ∷ ms) all = (all.0, (ReadBlob all.1.0, all.1.1, tt), of_check_fetches ms all.2)

of_check_own : (ms : List Moment) → AllOfCheck ms → AllOf 0 ms
of_check_own [] all = tt
of_check_own (m ∷ ms) all = (all.0, of_check_own ms all.2)

pub of_check_none : (s : Start) (log : List Moment) → GrewOfCheck s log log
of_check_none s log = record { more = []; is = sym (append-nil log); legal = λ was. was; all = tt }

pub of_check_on : (s : Start) (old mid new : List Moment) → GrewOfCheck s old mid → GrewOfCheck s mid new → GrewOfCheck s old new
of_check_on s old mid new first second = record {
  more = first.more ++ second.more;
  is = second.is ∙ ap (λ (log : List Moment). log ++ second.more) first.is ∙ append_assoc old first.more second.more;
  legal = λ was. second.legal (first.legal was);
  all = of_check_both first.more second.more first.all second.all;
}

pub went_of_check : (s : Start) (old new : List Moment) (P : BlobName → Type 0) → Went s old new P → GrewOfCheck s old new
went_of_check s old new P went = record { more = went.more; is = went.is; legal = went.grew.legal; all = of_check_fetches went.more went.all }

pub of_check_grew : (s : Start) (old new : List Moment) → GrewOfCheck s old new → GrewBy s 0 old new
of_check_grew s old new g = record { more = g.more; is = g.is; legal = g.legal; own = λ alone. of_check_own g.more g.all }

-- by a step
stepped_of_check : (s : Start) (old new : List Moment) (read : Read) (reply : Reply) → s.alone ≡ true → IsOfCheck read → Stepped s old new 0 (ReadStep read) reply → GrewOfCheck s old new
stepped_of_check s old new read reply alone of h = record {
  more = moment_of s old new (ReadStep read) reply alone h ∷ [];
  is = stepped_is s old new (ReadStep read) reply alone h;
  legal = λ was. h.legal;
  all = (refl, (read, refl, of), tt);
}

refusing_of_check : (s : Start) (old new : List Moment) (read : Read) (refusal : Option Refusal) → s.alone ≡ true → IsOfCheck read → Refusing s old new 0 (ReadStep read) refusal → GrewOfCheck s old new
refusing_of_check s old new read None alone of h = record { more = []; is = front_is s old new 0 alone h ∙ sym (append-nil old); legal = λ was. h.legal; all = tt }
refusing_of_check s old new read (Some refusal) alone of h = stepped_of_check s old new read (Refused refusal) alone of h

pub outcome_of_check : {X : Type 0} (s : Start) (old new : List Moment) (read : Read) (ok : X → Reply) (result : Result X StepRefusal) → s.alone ≡ true → IsOfCheck read → Outcome s old new 0 (ReadStep read) ok result
    → GrewOfCheck s old new
outcome_of_check s old new read ok (Ok x) alone of h = stepped_of_check s old new read (ok x) alone of h
outcome_of_check s old new read ok (Err e) alone of h = refusing_of_check s old new read (told_refusal e) alone of h.0

-- by the report that it failed
same_of_check : (s : Start) (old new : List Moment) → new ≡ old → GrewOfCheck s old new
same_of_check s old new same = subst (λ (log : List Moment). GrewOfCheck s old log) (sym same) (of_check_none s old)

pub report_of_check : {S F H T : Type 0} (s : Start) (old new : List Moment) (ending : Ending S F H T) (result : UnitRefusal) → s.alone ≡ true → IsReported hands.Check s old new 0 ending result → GrewOfCheck s old new
report_of_check s old new (endings.Failed why b) (units.Failed told) alone h = stepped_of_check s old new (ReadFails (why_of why)) HasEnded alone tt h
report_of_check s old new (endings.Failed why b) (units.Stopped refusal) alone h = refusing_of_check s old new (ReadFails (why_of why)) (told_refusal refusal) alone tt h
report_of_check s old new ending result alone h = same_of_check s old new h

-- ---- by a look

looked_begun : (s : Start) (old new : List Moment) (reply : Reply) → s.alone ≡ true → Stepped s old new 0 LookStep reply → HasBegun old new
looked_begun s old new reply alone h = record {
  look = moment_of s old new LookStep reply alone h;
  rest = [];
  is = stepped_is s old new LookStep reply alone h;
  looker = refl;
  looks = refl;
  all = tt;
}

-- and fetches
pub since_look : (s : Start) (old mid new : List Moment) (reply : Reply) (P : BlobName → Type 0) → s.alone ≡ true → Stepped s old mid 0 LookStep reply → Went s mid new P → SinceLook new
since_look s old mid new reply P alone step went =
    let look = moment_of s old mid LookStep reply alone step in
    record {
      before = old;
      look = look;
      fetches = went.more;
      is = went.is ∙ ap (λ (log : List Moment). log ++ went.more) (stepped_is s old mid LookStep reply alone step) ∙ append_assoc old (look ∷ []) went.more;
      looker = refl;
      looks = refl;
      all = went.all;
    }

-- and further steps
pub begun_on : (s : Start) (old mid new : List Moment) (reply : Reply) → s.alone ≡ true → Stepped s old mid 0 LookStep reply → GrewOfCheck s mid new → HasBegun old new
begun_on s old mid new reply alone step g =
    let h = looked_begun s old mid reply alone step in
    record {
      look = h.look;
      rest = h.rest ++ g.more;
      is = g.is ∙ ap (λ (log : List Moment). log ++ g.more) h.is ∙ append_assoc old (h.look ∷ h.rest) g.more;
      looker = h.looker;
      looks = h.looks;
      all = of_check_both h.rest g.more h.all g.all;
    }

pub asks_stopped : (X : Type 0) (old new : List Moment) (refusal : StepRefusal) → HasBegun old new → AsksOne {X = X} old new (Err (units.Stopped refusal))
asks_stopped X old new (steps.Refused refusal) h = h
asks_stopped X old new steps.Memory h = Begun h
asks_stopped X old new steps.TurnsSpent h = Begun h

-- it was given up
pub asks_given : (X : Type 0) {S F H T : Type 0} (e : Evidence S F H T) (s : Start) (old mid new : List Moment) (ending : Ending S F H T) (result : UnitRefusal) → GivenUp hands.Check e s mid new 0 ending result → HasBegun old new
    → AsksOne {X = X} old new (Err result)
asks_given X e s old mid new ending (units.Failed why) h begun = begun
asks_given X e s old mid new ending (units.Stopped refusal) h begun = asks_stopped X old new refusal begun
asks_given X e s old mid new (endings.Failed why b) units.Stale h begun = h
asks_given X e s old mid new (endings.Stopped refusal) units.Stale h begun = h
asks_given X e s old mid new endings.Own units.Stale h begun = h
asks_given X e s old mid new endings.Stale units.Stale h begun = h

-- the look was refused
pub asks_look : (X : Type 0) (s : Start) (old new : List Moment) (e : StepRefusal) → s.alone ≡ true → Refusing s old new 0 LookStep (told_refusal e) → AsksOne {X = X} old new (Err (units.Stopped e))
asks_look X s old new steps.Memory alone h = NotBegun (front_is s old new 0 alone h)
asks_look X s old new steps.TurnsSpent alone h = NotBegun (front_is s old new 0 alone h)
asks_look X s old new (steps.Refused x) alone h = looked_begun s old new (Refused (refusal_of x)) alone h

-- ---- no check ended well

pub unchecked_none : (log : List Moment) → NoneChecked log log
unchecked_none log = record { more = []; is = sym (append-nil log); none = λ m snapshots blobs has. absurd has }

pub unchecked_on : (old mid new : List Moment) → NoneChecked old mid → NoneChecked mid new → NoneChecked old new
unchecked_on old mid new first second = record {
  more = first.more ++ second.more;
  is = second.is ∙ ap (λ (log : List Moment). log ++ second.more) first.is ∙ append_assoc old first.more second.more;
  none = λ m snapshots blobs has at ended.
      ⊎_elim (λ (a : Has first.more m). first.none m snapshots blobs a at ended) (λ (b : Has second.more m). second.none m snapshots blobs b at ended) (Has-either first.more second.more m has);
}

fetches_unchecked : (ms : List Moment) (m : Moment) (snapshots blobs : ℕ) → AllFetches ms → Has ms m → m.entry.step ≡ ReadStep (CheckedAll snapshots blobs) → ⊥
fetches_unchecked [] m snapshots blobs all none is = none
fetches_unchecked (x ∷ ms) m snapshots blobs all (inl same) is =
    let other : ReadStep (ReadBlob all.1.0) ≡ ReadStep (CheckedAll snapshots blobs) = sym all.1.1 ∙ ap (λ (n : Moment). n.entry.step) same ∙ is in cc
fetches_unchecked (x ∷ ms) m snapshots blobs all (inr has) is = fetches_unchecked ms m snapshots blobs all.2 has is

pub went_unchecked : (s : Start) (old new : List Moment) (P : BlobName → Type 0) → Went s old new P → NoneChecked old new
went_unchecked s old new P went = record { more = went.more; is = went.is; none = λ m snapshots blobs has at ended. fetches_unchecked went.more m snapshots blobs went.all has at }

-- by a step that is another, or was answered otherwise
stepped_unchecked : (s : Start) (old new : List Moment) (step : Step) (reply : Reply) → s.alone ≡ true → ((snapshots blobs : ℕ) → step ≡ ReadStep (CheckedAll snapshots blobs) → reply ≡ HasEnded → ⊥)
    → Stepped s old new 0 step reply → NoneChecked old new
stepped_unchecked s old new step reply alone other h =
    let one = moment_of s old new step reply alone h in
    record {
      more = one ∷ [];
      is = stepped_is s old new step reply alone h;
      none = λ m snapshots blobs has at ended.
          ⊎_elim
          (λ (same : one ≡ m). other snapshots blobs (ap (λ (n : Moment). n.entry.step) same ∙ at) (ap (λ (n : Moment). n.entry.reply) same ∙ ended))
          (λ none. absurd none) has;
    }

pub refusing_unchecked : (s : Start) (old new : List Moment) (step : Step) (refusal : Option Refusal) → s.alone ≡ true → Refusing s old new 0 step refusal → NoneChecked old new
refusing_unchecked s old new step None alone h = record { more = []; is = front_is s old new 0 alone h ∙ sym (append-nil old); none = λ m snapshots blobs has. absurd has }
refusing_unchecked s old new step (Some refusal) alone h = stepped_unchecked s old new step (Refused refusal) alone (λ snapshots blobs at ended. cc) h

pub outcome_unchecked : {X : Type 0} (s : Start) (old new : List Moment) (step : Step) (ok : X → Reply) (result : Result X StepRefusal) → s.alone ≡ true → ((snapshots blobs : ℕ) → step ≡ ReadStep (CheckedAll snapshots blobs) → ⊥)
    → Outcome s old new 0 step ok result → NoneChecked old new
outcome_unchecked s old new step ok (Ok x) alone other h = stepped_unchecked s old new step (ok x) alone (λ snapshots blobs at ended. other snapshots blobs at) h
outcome_unchecked s old new step ok (Err e) alone other h = refusing_unchecked s old new step (told_refusal e) alone h.0

-- by the report that it failed
same_unchecked : (old new : List Moment) → new ≡ old → NoneChecked old new
same_unchecked old new same = subst (λ (log : List Moment). NoneChecked old log) (sym same) (unchecked_none old)

pub report_unchecked : {S F H T : Type 0} (s : Start) (old new : List Moment) (ending : Ending S F H T) (result : UnitRefusal) → s.alone ≡ true → IsReported hands.Check s old new 0 ending result → NoneChecked old new
report_unchecked s old new (endings.Failed why b) (units.Failed told) alone h = stepped_unchecked s old new (ReadStep (ReadFails (why_of why))) HasEnded alone (λ snapshots blobs at ended. cc) h
report_unchecked s old new (endings.Failed why b) (units.Stopped refusal) alone h = refusing_unchecked s old new (ReadStep (ReadFails (why_of why))) (told_refusal refusal) alone h
report_unchecked s old new ending result alone h = same_unchecked old new h
