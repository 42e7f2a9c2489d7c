-- What elections leave, where nobody else makes a step.
use Rattle.std.proofs.Common.{◌≡◌, ℕ, ◌+◌, ◌≤◌, true, List, [], ◌∷◌, ◌++◌, Ok, Err, OnOk, IfErr, append-nil, refl, sym, ap, ◌∙◌, subst, arith}
use Rattle.esr_core.specs.Ready.{AnyReady}
use Rattle.esr_core.specs.Entry.{TakeStep, ElectStep, Reply, NothingReady, ElectedTerm, Refusal, Refused, Moment}
use Rattle.esr_desk.specs.declared.refusal.StepRefusal.{StepRefusal}
use Rattle.esr_desk.specs.declared.refusal.StepRefusal.TheVariants as steps
use Rattle.esr_desk.specs.declared.refusal.EntryRefusal.{EntryRefusal}
use Rattle.esr_desk.specs.Refusals.{refusal_of, told_refusal}
use Rattle.esr_desk.specs.Start.{Start, Legal, world_of}
use Rattle.esr_desk.specs.Outcome.{Waited, Stepped, Refusing, Grounds}
use Rattle.esr_desk.specs.Grew.{NoneOut}
use Rattle.esr_desk.specs.Last.{IsLast}
use Rattle.esr_quiet.specs.Asked.{GrewAsking}
use Rattle.esr_quiet.specs.Asking.{asking_none, asking_on, asking_stepped}
use Rattle.esr_drive.specs.Laws.{Laws}
use Rattle.esr_drive.specs.Over.{NoReaderOut}
use Rattle.esr_drive.specs.Stopped.{IsStopped, StoppedIn, stopped_in}
use Rattle.esr_drive.specs.Takes.{idle_takes, stepped_takes}
use Rattle.esr_drive.specs.Works.{WorksOnly}
use Rattle.esr_drive.specs.Elections.{ElectsOnly, elections, HasElected, elections_more, elects_none, elects_on, works_elect_none}
use Rattle.esr_drive.specs.Worked.{Answer}
use Rattle.esr_drive.proofs.Resting.{GivesNone, stepped_is, step_rest, step_readers}

pub term_none : (term : ℕ) → GivesNone (ElectedTerm term)
term_none term ticket op unit e = cc

pub refused_none : (refusal : Refusal) → GivesNone (Refused refusal)
refused_none refusal ticket op unit e = cc

-- so many elections were made, and nothing else
pub record Elected (s : Start) (times : ℕ) (old new : List Moment) : Type 0 where
  pub grew : GrewAsking s [] old new
  pub only : ElectsOnly old new
  pub takes : idle_takes new ≡ idle_takes old
  pub count : elections new ≡ elections old + times
  pub rest : NoneOut s old → NoneOut s new
  pub readers : NoReaderOut s old → NoReaderOut s new

pub elected_none : (s : Start) (log : List Moment) → Elected s 0 log log
elected_none s log = record { grew = asking_none s log; only = elects_none log; takes = refl; count = omega arith; rest = λ none. none; readers = λ none. none }

-- where a step was not told
pub elected_same : (s : Start) (times : ℕ) (old mid new : List Moment) → s.alone ≡ true → Waited s mid new 0 → Elected s times old mid → Elected s times old new
elected_same s times old mid new alone h was = subst (Elected s times old) (sym (h.grew ∙ ap (λ (l : List Moment). mid ++ l) (h.nobody alone) ∙ append-nil mid)) was

module _ (laws : Laws) (s : Start) (alone : s.alone ≡ true) where
  module _ (mid new : List Moment) (reply : Reply) (none : GivesNone reply) (h : Stepped s mid new 0 ElectStep reply) where
    abbrev electing : Moment
    electing = record { entry = record { who = 0; step = ElectStep; reply = reply }; image = h.image }

    elect_is : new ≡ mid ++ electing ∷ []
    elect_is = stepped_is laws s alone mid new ElectStep reply h

    elect_only : ElectsOnly mid new
    elect_only = record { more = electing ∷ []; is = elect_is; all = (refl, tt) }

    pub elected_one : (times : ℕ) (old : List Moment) → Elected s times old mid → Elected s (times + 1) old new
    elected_one times old was =
        let one : elections new ≡ elections mid + elections (electing ∷ []) = elections_more mid (electing ∷ []) new elect_is in
        let last : elections (electing ∷ []) ≡ 1 = refl in
        let before : elections mid ≡ elections old + times = was.count in
        let none_taken : idle_takes new ≡ idle_takes mid + 0 = stepped_takes s mid new ElectStep reply alone h in
        let taken : idle_takes mid ≡ idle_takes old = was.takes in
        record {
          grew = asking_on s [] [] old mid new was.grew (asking_stepped s mid new ElectStep reply h);
          only = elects_on old mid new was.only elect_only;
          takes = omega (arith, none_taken, taken);
          count = omega (arith, one, last, before);
          rest = λ rest. step_rest laws s alone mid new ElectStep reply none h (was.rest rest);
          readers = λ rest. step_readers laws s alone mid new ElectStep reply none h (was.readers rest);
        }

-- ---- by the answer

pub as_refused : (s : Start) (mid new : List Moment) (e : StepRefusal) (refusal : EntryRefusal) → e ≡ steps.Refused refusal → Refusing s mid new 0 ElectStep (told_refusal e) × Grounds s new 0 e
    → Stepped s mid new 0 ElectStep (Refused (refusal_of refusal))
as_refused s mid new e refusal is h = subst (λ (x : StepRefusal). Refusing s mid new 0 ElectStep (told_refusal x)) is h.0

pub as_wanting : (s : Start) (mid new : List Moment) (e : StepRefusal) → e ≡ steps.Memory → Refusing s mid new 0 ElectStep (told_refusal e) × Grounds s new 0 e → Waited s mid new 0
as_wanting s mid new e is h = subst (λ (x : StepRefusal). Refusing s mid new 0 ElectStep (told_refusal x)) is h.0

pub as_spent : (s : Start) (mid new : List Moment) (e : StepRefusal) → e ≡ steps.TurnsSpent → Refusing s mid new 0 ElectStep (told_refusal e) × Grounds s new 0 e → Waited s mid new 0 × Grounds s new 0 steps.TurnsSpent
as_spent s mid new e is h = subst (λ (x : StepRefusal). Refusing s mid new 0 ElectStep (told_refusal x) × Grounds s new 0 x) is h

-- some of them
pub some_elected : (s : Start) (some times : ℕ) (old new : List Moment) → some ≤ times → Elected s some old new → elections new ≤ elections old + times
some_elected s some times old new le was =
    let few : some ≤ times = le in
    let count : elections new ≡ elections old + some = was.count in
    omega (arith, few, count)

-- all of them
pub all_elected : (s : Start) (made times : ℕ) (old new : List Moment) → made ≡ times → Elected s made old new → elections new ≡ elections old + times
all_elected s made times old new is was = subst (λ (n : ℕ). elections new ≡ elections old + n) is was.count

-- ---- and the work after them

pub elects_then : (times : ℕ) (old mid new : List Moment) (r : Answer) → elections mid ≡ elections old + times → WorksOnly mid new → HasElected times old new r
elects_then times old mid new r all w = by_answer r (works_elect_none mid new w ∙ all)
  where
    at_most : elections new ≡ elections old + times → elections new ≤ elections old + times
    at_most is = let same : elections new ≡ elections old + times = is in omega (arith, same)

    by_answer : (x : Answer) → elections new ≡ elections old + times → HasElected times old new x
    by_answer (Err steps.Memory) is = at_most is
    by_answer (Err steps.TurnsSpent) is = at_most is
    by_answer x is = is

pub tickets_then : (s : Start) (old mid new : List Moment) (r : Answer) → s.alone ≡ true → (NoneOut s old → NoneOut s mid) → OnOk r (s.alone ≡ true → NoneOut s mid → NoneOut s new)
    → OnOk r (NoneOut s old → NoReaderOut s old → NoneOut s new)
tickets_then s old mid new (Ok x) alone first second = λ tickets readers. second alone (first tickets)
tickets_then s old mid new (Err e) alone first second = tt

pub readers_then : (s : Start) (old mid new : List Moment) (r : Answer) → s.alone ≡ true → (NoReaderOut s old → NoReaderOut s mid) → OnOk r (s.alone ≡ true → NoReaderOut s mid → NoReaderOut s new)
    → OnOk r (NoneOut s old → NoReaderOut s old → NoReaderOut s new)
readers_then s old mid new (Ok x) alone first second = λ tickets readers. second alone (first readers)
readers_then s old mid new (Err e) alone first second = tt

pub ready_then : (s : Start) (new : List Moment) (r : Answer) → ((log : List Moment) → Legal s log → IsLast log 0 TakeStep NothingReady → AnyReady (world_of s log) → ⊥) → Legal s new → OnOk r (IsLast new 0 TakeStep NothingReady)
    → OnOk r (AnyReady (world_of s new) → ⊥)
ready_then s new (Ok x) law legal last = law new legal last
ready_then s new (Err e) law legal last = tt

pub stopped_then : (s : Start) (new : List Moment) (r : Answer) → IfErr r (IsStopped s new) → IfErr r (StoppedIn s new)
stopped_then s new (Ok x) h = tt
stopped_then s new (Err e) h = stopped_in s new e h
