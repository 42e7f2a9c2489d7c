-- Test blobs are written as they are to be, as the history goes on.
use Rattle.std.proofs.Common.{◌≡◌, ℕ, List, [], ◌∷◌, ◌++◌, Option, Some, Result, Ok, Err, OnOk, sym, ap, ◌∙◌, subst, ⊎_elim}
use Rattle.esr_model.specs.Names.{BlobName}
use Rattle.esr_model.specs.Values.{Bytes, Has}
use Rattle.esr_core.specs.Entry.{CommitTest, Step, ReadStep, Reply, WasDone, Refusal, Refused, Moment}
use Rattle.esr_core.specs.After.{caller_wrote}
use Rattle.esr_names.specs.IdText.{id_text}
use Rattle.esr_desk.specs.declared.refusal.StepRefusal.{StepRefusal}
use Rattle.esr_desk.specs.declared.refusal.StepRefusal.TheVariants as steps
use Rattle.esr_desk.specs.Refusals.{refusal_of}
use Rattle.esr_desk.specs.Start.{Start, told_bytes}
use Rattle.esr_desk.specs.Own.{caller_of}
use Rattle.esr_desk.specs.Verify.Conditions.{HoldsText, CanCommitTest}
use Rattle.esr_desk.specs.Verify.Tested.{IsTested, AreTested}
use Rattle.esr_repo.specs.Next.{Added, Did}
use Rattle.esr_solo.proofs.Showing.{last_or, no_end}

-- the test blob that a step commits is new, and holds the text of the id if it was added
pub record Tests {X : Type 0} (s : Start) (old new : List Moment) (name : BlobName) (result : Result X StepRefusal) : Type 0 where
  pub once : Has (caller_of s old).committed name → ⊥
  pub id : ℕ
  pub drawn : (caller_of s old).drawn ≡ Some id
  pub wrote : OnOk result (caller_of s new ≡ caller_wrote (caller_of s old) name (told_bytes s (id_text id)))

-- by the step: any other commits none
abbrev pub TestsBy : {X : Type 0} → Start → List Moment → List Moment → Step → Result X StepRefusal → Type 0
TestsBy s old new (ReadStep (CommitTest name)) result = Tests s old new name result
TestsBy s old new step result = Unit {0}

tests_as : {X : Type 0} (s : Start) (old new : List Moment) (step : Step) (result : Result X StepRefusal) (name : BlobName) → TestsBy s old new step result → step ≡ ReadStep (CommitTest name) → Tests s old new name result
tests_as s old new step result name t is = subst (λ (x : Step). TestsBy s old new x result) is t

-- what the last entry commits
abbrev IsNewTest : Start → List Moment → Moment → Type 0
IsNewTest s log m = (name : BlobName) → m.entry.step ≡ ReadStep (CommitTest name) → IsTested s log m name

-- one more entry
goes_on : (s : Start) (log : List Moment) (m : Moment) → IsNewTest s log m → AreTested s log → AreTested s (log ++ m ∷ [])
goes_on s log m new h front back x name is step =
    ⊎_elim
    (λ (last : (front ≡ log) × (m ≡ x)).
    subst (λ (l : List Moment). IsTested s l x name) (sym last.0)
    (subst (λ (y : Moment). IsTested s log y name) last.1 (new name (ap (λ (y : Moment). y.entry.step) last.1 ∙ step))))
    (λ (earlier : (rest : List Moment) × (log ≡ front ++ x ∷ rest)). h front earlier.0 x name earlier.1 step)
    (last_or log m front x back is)

no_done : (refusal : Refusal) → Refused refusal ≡ WasDone → ⊥
no_done refusal e = cc

-- it was answered Ok
done : {X : Type 0} (s : Start) (old new : List Moment) (who : ℕ) (step : Step) (ok : X → Reply) (x : X) → TestsBy {X = X} s old new step (Ok x) → (d : Added s old new who step (ok x))
    → IsNewTest s old (record { entry = record { who = who; step = step; reply = ok x }; image = d.image })
done {X} s old new who step ok x t d name is =
    let one : Tests {X = X} s old new name (Ok x) = tests_as {X = X} s old new step (Ok x) name t is in
    record { once = one.once; id = one.id; drawn = one.drawn; wrote = λ reply. subst (λ (l : List Moment). caller_of s l ≡ caller_wrote (caller_of s old) name (told_bytes s (id_text one.id))) d.is one.wrote }

-- or refused
refused : (X : Type 0) (s : Start) (old new : List Moment) (who : ℕ) (step : Step) (e : StepRefusal) (refusal : Refusal) → TestsBy {X = X} s old new step (Err e) → (d : Added s old new who step (Refused refusal))
    → IsNewTest s old (record { entry = record { who = who; step = step; reply = Refused refusal }; image = d.image })
refused X s old new who step e refusal t d name is =
    let one : Tests {X = X} s old new name (Err e) = tests_as {X = X} s old new step (Err e) name t is in
    record { once = one.once; id = one.id; drawn = one.drawn; wrote = λ reply. absurd (no_done refusal reply) }

-- a step of a repository
pub tested_did : {X : Type 0} (s : Start) (old new : List Moment) (who : ℕ) (step : Step) (ok : X → Reply) (result : Result X StepRefusal) → TestsBy s old new step result → Did s old new who step ok result → AreTested s old
    → AreTested s new
tested_did s old new who step ok (Ok x) t d h =
    subst (λ (l : List Moment). AreTested s l) (sym d.is) (goes_on s old (record { entry = record { who = who; step = step; reply = ok x }; image = d.image }) (done s old new who step ok x t d) h)
tested_did s old new who step ok (Err steps.Memory) t same h = subst (λ (l : List Moment). AreTested s l) (sym same) h
tested_did s old new who step ok (Err steps.TurnsSpent) t never h = absurd never
tested_did {X} s old new who step ok (Err (steps.Refused refusal)) t d h =
    subst (λ (l : List Moment). AreTested s l) (sym d.is)
    (goes_on s old (record { entry = record { who = who; step = step; reply = Refused (refusal_of refusal) }; image = d.image }) (refused X s old new who step (steps.Refused refusal) (refusal_of refusal) t d) h)

-- nothing was committed yet
none_tested : (s : Start) → AreTested s []
none_tested s front back m name is = absurd (no_end front m back is)

pub begins_tested : (s : Start) (log : List Moment) → log ≡ [] → AreTested s log
begins_tested s log none = subst (λ (l : List Moment). AreTested s l) (sym none) (none_tested s)

-- a commit of a test blob, as the desk asks
pub test_new : {X : Type 0} (s : Start) (own log new : List Moment) (name : BlobName) (contents : Option Bytes) (result : Result X StepRefusal) → own ≡ log → HoldsText s (caller_of s log) contents → CanCommitTest (caller_of s log) name
    → OnOk result (caller_of s new ≡ caller_wrote (caller_of s own) name contents) → Tests s own new name result
test_new s own log new name contents result view holds may wrote = record {
  once = λ there. may.once (subst (λ (l : List Moment). Has (caller_of s l).committed name) view there);
  id = holds.0;
  drawn = ap (λ (l : List Moment). (caller_of s l).drawn) view ∙ holds.1;
  wrote = subst (λ (x : Option Bytes). OnOk result (caller_of s new ≡ caller_wrote (caller_of s own) name x)) holds.2 wrote;
}
