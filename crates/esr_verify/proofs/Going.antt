-- Histories of a verification that go on.
use Rattle.std.proofs.Common.{◌≡◌, ⊎_elim, ℕ, true, List, [], ◌∷◌, ◌++◌, append-nil, append_assoc, Option, Some, None, Result, Ok, Err, refl, sym, ap, ◌∙◌, subst}
use Rattle.esr_model.specs.Lists.{Has-either}
use Rattle.esr_core.specs.World.{Caller}
use Rattle.esr_model.specs.Names.{BlobName}
use Rattle.esr_model.specs.Values.{Has}
use Rattle.esr_core.specs.Entry.{Read, ReadBlob, ReadFails, Step, Reply, Refusal, Refused, ReadStep, DrawTest, VerifiedAll, DrawnFrom, HasEnded, Moment}
use Rattle.esr_desk.specs.declared.refusal.StepRefusal.{StepRefusal}
use Rattle.esr_desk.specs.declared.hand.Hand.TheVariants as hands
use Rattle.esr_desk.specs.declared.unit.UnitRefusal.{UnitRefusal}
use Rattle.esr_desk.specs.declared.unit.UnitRefusal.TheVariants as units
use Rattle.esr_desk.specs.Entries.{why_of}
use Rattle.esr_desk.specs.Refusals.{told_refusal}
use Rattle.esr_desk.specs.Start.{Start}
use Rattle.esr_desk.specs.Outcome.{Waited, Stepped, Refusing, Outcome}
use Rattle.esr_desk.specs.Grew.{GrewBy, AllOf}
use Rattle.esr_desk.specs.Own.{caller_of}
use Rattle.esr_unit.specs.declared.ending.Ending.{Ending}
use Rattle.esr_unit.specs.declared.ending.Ending.TheVariants as endings
use Rattle.esr_unit.specs.Fetch.{IsAsked}
use Rattle.esr_unit.specs.Fail.{IsReported}
use Rattle.esr_verify.specs.Steps.{Answered}
use Rattle.esr_verify.specs.Verified.{Are}
use Rattle.esr_verify.specs.Law.{DeposesSo}
use Rattle.esr_verify.specs.Began.{IsFurther, AllFurther, NoneVerified}
use Rattle.esr_verify.specs.Went.{Went, GrewFurther, Drew, Kept}
use Rattle.esr_verify.proofs.Living.{alive_on, stepped_alive}

-- ---- steps

are_both : (ms ns : List Moment) (one two : List Answered) → Are ms one → Are ns two → Are (ms ++ ns) (one ++ two)
are_both [] ns [] two a b = b
are_both (m ∷ ms) ns (x ∷ one) two a b = (a.0, are_both ms ns one two a.1 b)
are_both ms ns one two a b = absurd a

pub went_none : (log : List Moment) → Went log log []
went_none log = record { moments = []; is = sym (append-nil log); are = tt }

pub went_on : (old mid new : List Moment) (one two : List Answered) → Went old mid one → Went mid new two → Went old new (one ++ two)
went_on old mid new one two first second = record {
  moments = first.moments ++ second.moments;
  is = second.is ∙ ap (λ (log : List Moment). log ++ second.moments) first.is ∙ append_assoc old first.moments second.moments;
  are = are_both first.moments second.moments one two first.are second.are;
}

pub went_as : (old new : List Moment) (one two : List Answered) → one ≡ two → Went old new one → Went old new two
went_as old new one two same went = subst (λ (l : List Answered). Went old new l) same went

-- ---- one step, where nobody else makes any

pub front_is : (s : Start) (old front : List Moment) (who : ℕ) → s.alone ≡ true → Waited s old front who → front ≡ old
front_is s old front who alone h = h.grew ∙ ap (λ (others : List Moment). old ++ others) (h.nobody alone) ∙ append-nil old

module _ (s : Start) (old new : List Moment) (step : Step) (reply : Reply) (alone : s.alone ≡ true) (h : Stepped s old new 0 step reply) where
  abbrev pub moment_of : Moment
  moment_of = record { entry = record { who = 0; step = step; reply = reply }; image = h.image }

  pub stepped_is : new ≡ old ++ moment_of ∷ []
  stepped_is = h.is ∙ ap (λ (log : List Moment). log ++ moment_of ∷ []) (front_is s old h.front 0 alone h.waited)

  pub stepped_went : Went old new (record { step = step; reply = reply } ∷ [])
  stepped_went = record { moments = moment_of ∷ []; is = stepped_is; are = (refl, tt) }

-- ---- further steps

pub further_both : (a b : List Moment) → AllFurther a → AllFurther b → AllFurther (a ++ b)
further_both [] b one two = two
further_both (m ∷ a) b one two = (one.0, one.1, further_both a b one.2 two)

pub further_none : (s : Start) (log : List Moment) → GrewFurther s log log
further_none s log = record { more = []; is = sym (append-nil log); legal = λ was. was; all = tt }

pub further_on : (s : Start) (old mid new : List Moment) → GrewFurther s old mid → GrewFurther s mid new → GrewFurther s old new
further_on s old mid new first second = record {
  more = first.more ++ second.more;
  is = second.is ∙ ap (λ (log : List Moment). log ++ second.more) first.is ∙ append_assoc old first.more second.more;
  legal = λ was. second.legal (first.legal was);
  all = further_both first.more second.more first.all second.all;
}

further_own : (ms : List Moment) → AllFurther ms → AllOf 0 ms
further_own [] all = tt
further_own (m ∷ ms) all = (all.0, further_own ms all.2)

pub grew_further : (s : Start) (old new : List Moment) → GrewFurther s old new → GrewBy s 0 old new
grew_further s old new g = record { more = g.more; is = g.is; legal = g.legal; own = λ alone. further_own g.more g.all }

-- by a step
stepped_further : (s : Start) (old new : List Moment) (read : Read) (reply : Reply) → s.alone ≡ true → IsFurther read → Stepped s old new 0 (ReadStep read) reply → GrewFurther s old new
stepped_further s old new read reply alone further h = record {
  more = moment_of s old new (ReadStep read) reply alone h ∷ [];
  is = stepped_is s old new (ReadStep read) reply alone h;
  legal = λ was. h.legal;
  all = (refl, (read, refl, further), tt);
}

refusing_further : (s : Start) (old new : List Moment) (read : Read) (refusal : Option Refusal) → s.alone ≡ true → IsFurther read → Refusing s old new 0 (ReadStep read) refusal → GrewFurther s old new
refusing_further s old new read None alone further h = record { more = []; is = front_is s old new 0 alone h ∙ sym (append-nil old); legal = λ was. h.legal; all = tt }
refusing_further s old new read (Some refusal) alone further h = stepped_further s old new read (Refused refusal) alone further h

pub outcome_further : {X : Type 0} (s : Start) (old new : List Moment) (read : Read) (ok : X → Reply) (result : Result X StepRefusal) → s.alone ≡ true → IsFurther read → Outcome s old new 0 (ReadStep read) ok result
    → GrewFurther s old new
outcome_further s old new read ok (Ok x) alone further h = stepped_further s old new read (ok x) alone further h
outcome_further s old new read ok (Err e) alone further h = refusing_further s old new read (told_refusal e) alone further h.0

-- by a fetch, whatever it was answered
asked_further : (s : Start) (old new : List Moment) (name : BlobName) → s.alone ≡ true → IsAsked s old new 0 (ReadStep (ReadBlob name)) → GrewFurther s old new
asked_further s old new name alone h = ⊎_elim
    (λ (w : Waited s old new 0). refusing_further s old new (ReadBlob name) None alone tt w)
    (λ (made : (reply : Reply) × Stepped s old new 0 (ReadStep (ReadBlob name)) reply). stepped_further s old new (ReadBlob name) made.0 alone tt made.1)
    h

same_further : (s : Start) (old new : List Moment) → new ≡ old → GrewFurther s old new
same_further s old new same = subst (λ (log : List Moment). GrewFurther s old log) (sym same) (further_none s old)

-- by the report that it failed
pub report_further : {S F H T : Type 0} (s : Start) (old new : List Moment) (ending : Ending S F H T) (result : UnitRefusal) → s.alone ≡ true → IsReported hands.Verify s old new 0 ending result → GrewFurther s old new
report_further s old new (endings.Failed why b) (units.Failed told) alone h = stepped_further s old new (ReadFails (why_of why)) HasEnded alone tt h
report_further s old new (endings.Failed why b) (units.Stopped refusal) alone h = refusing_further s old new (ReadFails (why_of why)) (told_refusal refusal) alone tt h
report_further s old new ending result alone h = same_further s old new h

-- ---- no verification ended well

pub unverified_none : (log : List Moment) → NoneVerified log log
unverified_none log = record { more = []; is = sym (append-nil log); none = λ m has. absurd has }

pub unverified_on : (old mid new : List Moment) → NoneVerified old mid → NoneVerified mid new → NoneVerified old new
unverified_on old mid new first second = record {
  more = first.more ++ second.more;
  is = second.is ∙ ap (λ (log : List Moment). log ++ second.more) first.is ∙ append_assoc old first.more second.more;
  none = λ m has at ended. ⊎_elim (λ (a : Has first.more m). first.none m a at ended) (λ (b : Has second.more m). second.none m b at ended) (Has-either first.more second.more m has);
}

-- by a step that is another, or was answered otherwise
other_moment : (one m : Moment) (read : Read) (reply : Reply) → (read ≡ VerifiedAll → reply ≡ HasEnded → ⊥) → one.entry.step ≡ ReadStep read → one.entry.reply ≡ reply → one ≡ m → m.entry.step ≡ ReadStep VerifiedAll
    → m.entry.reply ≡ HasEnded → ⊥
other_moment one m read reply other step_is reply_is same at ended =
    let there : ReadStep read ≡ ReadStep VerifiedAll = sym step_is ∙ ap (λ (n : Moment). n.entry.step) same ∙ at in
    let gave : reply ≡ HasEnded = sym reply_is ∙ ap (λ (n : Moment). n.entry.reply) same ∙ ended in
    let is : read ≡ VerifiedAll = cc in
    other is gave

stepped_unverified : (s : Start) (old new : List Moment) (read : Read) (reply : Reply) → s.alone ≡ true → (read ≡ VerifiedAll → reply ≡ HasEnded → ⊥) → Stepped s old new 0 (ReadStep read) reply → NoneVerified old new
stepped_unverified s old new read reply alone other h =
    let one = moment_of s old new (ReadStep read) reply alone h in
    record {
      more = one ∷ [];
      is = stepped_is s old new (ReadStep read) reply alone h;
      none = λ m has at ended. ⊎_elim (λ (same : one ≡ m). other_moment one m read reply other refl refl same at ended) (λ none. absurd none) has;
    }

pub refusing_unverified : (s : Start) (old new : List Moment) (read : Read) (refusal : Option Refusal) → s.alone ≡ true → Refusing s old new 0 (ReadStep read) refusal → NoneVerified old new
refusing_unverified s old new read None alone h = record { more = []; is = front_is s old new 0 alone h ∙ sym (append-nil old); none = λ m has. absurd has }
refusing_unverified s old new read (Some refusal) alone h = stepped_unverified s old new read (Refused refusal) alone (λ at ended. cc) h

pub outcome_unverified : {X : Type 0} (s : Start) (old new : List Moment) (read : Read) (ok : X → Reply) (result : Result X StepRefusal) → s.alone ≡ true → (read ≡ VerifiedAll → ⊥) → Outcome s old new 0 (ReadStep read) ok result
    → NoneVerified old new
outcome_unverified s old new read ok (Ok x) alone other h = stepped_unverified s old new read (ok x) alone (λ at ended. other at) h
outcome_unverified s old new read ok (Err e) alone other h = refusing_unverified s old new read (told_refusal e) alone h.0

asked_unverified : (s : Start) (old new : List Moment) (name : BlobName) → s.alone ≡ true → IsAsked s old new 0 (ReadStep (ReadBlob name)) → NoneVerified old new
asked_unverified s old new name alone h = ⊎_elim
    (λ (w : Waited s old new 0). refusing_unverified s old new (ReadBlob name) None alone w)
    (λ (made : (reply : Reply) × Stepped s old new 0 (ReadStep (ReadBlob name)) reply). stepped_unverified s old new (ReadBlob name) made.0 alone (λ at ended. cc) made.1)
    h

same_unverified : (old new : List Moment) → new ≡ old → NoneVerified old new
same_unverified old new same = subst (λ (log : List Moment). NoneVerified old log) (sym same) (unverified_none old)

pub report_unverified : {S F H T : Type 0} (s : Start) (old new : List Moment) (ending : Ending S F H T) (result : UnitRefusal) → s.alone ≡ true → IsReported hands.Verify s old new 0 ending result → NoneVerified old new
report_unverified s old new (endings.Failed why b) (units.Failed told) alone h = stepped_unverified s old new (ReadFails (why_of why)) HasEnded alone (λ at ended. cc) h
report_unverified s old new (endings.Failed why b) (units.Stopped refusal) alone h = refusing_unverified s old new (ReadFails (why_of why)) (told_refusal refusal) alone h
report_unverified s old new ending result alone h = same_unverified old new h

-- ---- the id that was drawn

-- it is drawn
pub has_drawn : DeposesSo → (s : Start) (old new : List Moment) (id : ℕ) → s.alone ≡ true → Stepped s old new 0 (ReadStep DrawTest) (DrawnFrom id) → (caller_of s new).drawn ≡ Some id → Drew s new id
has_drawn law s old new id alone h is_open = record {
  before = old;
  image = h.image;
  between = [];
  is = stepped_is s old new (ReadStep DrawTest) (DrawnFrom id) alone h;
  is_open = is_open;
  alive = stepped_alive law s old new DrawTest (DrawnFrom id) (λ place e. cc) h;
}

-- and stays drawn
pub drew_on : DeposesSo → (s : Start) (old new : List Moment) (id : ℕ) → GrewFurther s old new → Drew s old id → (caller_of s new).drawn ≡ (caller_of s old).drawn → Drew s new id
drew_on law s old new id grew d same =
    let draw : Moment = record { entry = record { who = 0; step = ReadStep DrawTest; reply = DrawnFrom id }; image = d.image } in
    record {
      before = d.before;
      image = d.image;
      between = d.between ++ grew.more;
      is = grew.is ∙ ap (λ (log : List Moment). log ++ grew.more) d.is ∙ append_assoc d.before (draw ∷ d.between) grew.more;
      is_open = same ∙ d.is_open;
      alive = alive_on law s old new grew d.alive;
    }

pub kept_none : (s : Start) (log : List Moment) (id : ℕ) → Drew s log id → Kept s log log id
kept_none s log id drew = record { grew = further_none s log; drew = drew; unverified = unverified_none log }

pub kept_on : (s : Start) (old mid new : List Moment) (id : ℕ) → GrewFurther s old mid → NoneVerified old mid → Kept s mid new id → Kept s old new id
kept_on s old mid new id first none second = record {
  grew = further_on s old mid new first second.grew;
  drew = second.drew;
  unverified = unverified_on old mid new none second.unverified;
}

-- by a step, not the last, that leaves what who 0 drew
pub kept_by : {X : Type 0} → DeposesSo → (s : Start) (old new : List Moment) (id : ℕ) (read : Read) (ok : X → Reply) (result : Result X StepRefusal) → s.alone ≡ true → IsFurther read → (read ≡ VerifiedAll → ⊥)
    → Outcome s old new 0 (ReadStep read) ok result
    → Drew s old id → (caller_of s new).drawn ≡ (caller_of s old).drawn → Kept s old new id
kept_by law s old new id read ok result alone further other step drew same =
    let grew = outcome_further s old new read ok result alone further step in
    record { grew = grew; drew = drew_on law s old new id grew drew same; unverified = outcome_unverified s old new read ok result alone other step }

-- by a fetch
pub kept_asked : DeposesSo → (s : Start) (old new : List Moment) (id : ℕ) (name : BlobName) → s.alone ≡ true → IsAsked s old new 0 (ReadStep (ReadBlob name)) → Drew s old id → (caller_of s new).drawn ≡ (caller_of s old).drawn
    → Kept s old new id
kept_asked law s old new id name alone asked drew same =
    let grew = asked_further s old new name alone asked in
    record { grew = grew; drew = drew_on law s old new id grew drew same; unverified = asked_unverified s old new name alone asked }

pub drawn_same : (old new : Caller) → new ≡ old → new.drawn ≡ old.drawn
drawn_same old new same = ap (λ (c : Caller). c.drawn) same
