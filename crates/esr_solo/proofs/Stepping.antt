-- A step of the desk is that of its repository.
use Rattle.std.proofs.Common.{◌≡◌, ◌<◌, ◌≤◌, ℕ, ◌+◌, ◌-◌, ◌^◌, List, [], ◌∷◌, ◌++◌, length, Option, Some, None, Bool, true, IfSome, Result, Ok, Err, IfOk, OnOk, refl, sym, ap, ◌∙◌, subst, append-nil, ◌≢◌, arith}
use Rattle.std.proofs.lemmas.List.{length-append}
use Rattle.esr_model.specs.Names.{BlobName}
use Rattle.esr_core.specs.Entry.{Why, ReadStep, RestoredShard, HasEnded, Step, Reply, Refused, Moment}
use Rattle.esr_desk.specs.declared.hand.Hand.{Hand}
use Rattle.esr_desk.specs.declared.hand.Hand.TheVariants as hands
use Rattle.esr_desk.specs.declared.fault.Fault.{Fault}
use Rattle.esr_desk.specs.declared.fault.By.{By}
use Rattle.esr_desk.specs.declared.target.RestoredTarget.{RestoredTarget}
use Rattle.esr_desk.specs.declared.refusal.EntryRefusal.{EntryRefusal}
use Rattle.esr_desk.specs.declared.refusal.StepRefusal.{StepRefusal}
use Rattle.esr_desk.specs.declared.refusal.StepRefusal.TheVariants as steps
use Rattle.esr_desk.specs.Refusals.{refusal_of}
use Rattle.esr_desk.specs.Start.{Start, Legal}
use Rattle.esr_desk.specs.Own.{reader_of}
use Rattle.esr_desk.specs.Calls.{Call, IsMine}
use Rattle.esr_desk.specs.Hands.{fetch_step, fail_step}
use Rattle.esr_desk.specs.Outcome.{Waited, Stepped, Grounds, Outcome, fetch_reply}
use Rattle.esr_desk.specs.Last.{IsLast}
use Rattle.esr_desk.specs.Once.{AreOnce, AreRemovedOnce}
use Rattle.esr_desk.specs.Numbered.{Numbered}
use Rattle.esr_desk.specs.Evidence.{Evidence, NeverFailed}
use Rattle.esr_desk.specs.Shown.{IsShown, IsTeller, AreShown}
use Rattle.esr_desk.specs.Restore.Targets.{IsFilled, AreTargetsOf}
use Rattle.esr_desk.specs.Verify.Tested.{AreTested}
use Rattle.esr_repo.specs.Next.{Added, Did}
use Rattle.esr_solo.specs.Turns.{turns_of}
use Rattle.esr_solo.specs.Kept.{kept_by, targets_by}
use Rattle.esr_solo.proofs.Showing.{IsNoReportOf, did, reported}
use Rattle.esr_solo.proofs.Listing.{IsNoRestoration, targets_did, target_listed}
use Rattle.esr_solo.proofs.Committing.{IsNew, once_did}
use Rattle.esr_solo.proofs.Testing.{TestsBy, tested_did}
use Rattle.esr_solo.proofs.Removing.{RemovesBy, removed_did}

-- nothing was added
waited : (s : Start) (own log : List Moment) (who : ℕ) → own ≡ log → Legal s own → Waited s log log who
waited s own log who e l = record { others = []; grew = sym (append-nil log); alone = λ some. refl; besides = λ some m other by made. other; nobody = λ alone. refl; legal = subst (Legal s) e l }

pub waited_as : (s : Start) (own log : List Moment) (who : ℕ) → own ≡ log → Legal s own → Waited s log own who
waited_as s own log who e l = subst (λ (x : List Moment). Waited s log x who) (sym e) (waited s own log who e l)

-- all turns were taken
all_taken : (earlier n left : ℕ) → n + left ≡ 2 ^ 40 → left ≡ 0 → 2 ^ 33 ≤ earlier + n
all_taken earlier n left e none = omega (arith, e, none)

pub spent : (s : Start) (own log : List Moment) (who left : ℕ) → own ≡ log → Legal s own → length own + left ≡ 2 ^ 40 → left ≡ 0 → Waited s log log who × (2 ^ 33 ≤ s.earlier_turns + length log)
spent s own log who left view legal turns none = (waited s own log who view legal, subst (λ (l : List Moment). 2 ^ 33 ≤ s.earlier_turns + length l) view (all_taken s.earlier_turns (length own) left turns none))

stepped : (s : Start) (own log new : List Moment) (who : ℕ) (step : Step) (reply : Reply) → own ≡ log → Legal s own → Added s own new who step reply → Stepped s log new who step reply
stepped s own log new who step reply e l a =
    record {
      front = log;
      waited = waited s own log who e l;
      image = a.image;
      is = a.is ∙ ap (λ (x : List Moment). x ++ record { entry = record { who = who; step = step; reply = reply }; image = a.image } ∷ []) e;
      legal = a.legal;
    }

-- ---- while turns are left

pub is_short : (own : List Moment) (left : ℕ) → length own + left ≡ 2 ^ 40 → left ≢ 0 → length own < 2 ^ 41
is_short own left turns some = below (length own) turns
  where
    below : (n : ℕ) → n + left ≡ 2 ^ 40 → n < 2 ^ 41
    below n e = omega (arith, e)

-- what a step gives where the history is short
pub turns_left : {X : Type 0} (result : Result X StepRefusal) (quiet short : Type 0) (P : X → Type 0) → short → IfOk result (λ x. quiet → short → P x) → IfOk result (λ x. quiet → P x)
turns_left (Ok x) quiet short P now h = λ q. h q now
turns_left (Err e) quiet short P now h = tt

pub turns_left_of : {X : Type 0} (result : Result (Option X) StepRefusal) (quiet short : Type 0) (P : X → Type 0) → short → IfOk result (λ o. IfSome o (λ x. quiet → short → P x)) → IfOk result (λ o. IfSome o (λ x. quiet → P x))
turns_left_of (Ok (Some x)) quiet short P now h = λ q. h q now
turns_left_of (Ok None) quiet short P now h = tt
turns_left_of (Err e) quiet short P now h = tt

-- what the repository says of failures, within the turns
pub never : (quiet : Bool) (own log : List Moment) (left : ℕ) → own ≡ log → length own + left ≡ 2 ^ 40 → (quiet ≡ true → length own ≤ 2 ^ 41 → NeverFailed own) → quiet ≡ true → NeverFailed log
never quiet own log left view turns none is_quiet = subst (λ (l : List Moment). NeverFailed l) view (none is_quiet (below (length own) turns))
  where
    below : (n : ℕ) → n + left ≡ 2 ^ 40 → n ≤ 2 ^ 41
    below n e = omega (arith, e)

-- ---- the turns

one_more : (log new : List Moment) (m : Moment) → new ≡ log ++ m ∷ [] → length new ≡ length log + 1
one_more log new m e = ap length e ∙ length-append log (m ∷ [])

-- how many entries a step added
pub grown : {X : Type 0} (s : Start) (own new : List Moment) (who : ℕ) (step : Step) (ok : X → Reply) (result : Result X StepRefusal) → Did s own new who step ok result → length new ≡ length own + turns_of result
grown s own new who step ok (Ok x) d = one_more own new (record { entry = record { who = who; step = step; reply = ok x }; image = d.image }) d.is
grown s own new who step ok (Err steps.Memory) d = ap length d ∙ omega arith
grown s own new who step ok (Err steps.TurnsSpent) never = absurd never
grown s own new who step ok (Err (steps.Refused refusal)) d = one_more own new (record { entry = record { who = who; step = step; reply = Refused (refusal_of refusal) }; image = d.image }) d.is

pub at_most_one : {X : Type 0} (result : Result X StepRefusal) → turns_of result ≤ 1
at_most_one (Err steps.Memory) = omega arith
at_most_one result = omega arith

pub counted : (n k left rest took all : ℕ) → left ≢ 0 → took ≤ 1 → rest ≡ left - took → n + left ≡ all → k ≡ n + took → k + rest ≡ all
counted n k left rest took all some few is e d = omega (arith, some, few, is, e, d)

-- ---- the history stays legal

pub legal_did : {X : Type 0} (s : Start) (own new : List Moment) (who : ℕ) (step : Step) (ok : X → Reply) (result : Result X StepRefusal) → Legal s own → Did s own new who step ok result → Legal s new
legal_did s own new who step ok (Err steps.Memory) l d = subst (Legal s) (sym d) l
legal_did s own new who step ok (Err steps.TurnsSpent) l never = absurd never
legal_did s own new who step ok result l d = d.legal

-- why a step is refused, as the repository tells it
abbrev pub HasGrounds : Start → List Moment → Type 0
HasGrounds s log = (who : ℕ) (step : Step) (refusal : EntryRefusal) → length log ≤ 2 ^ 41 → IsLast log who step (Refused (refusal_of refusal)) → Grounds s log who (steps.Refused refusal)

few_now : {X : Type 0} (s : Start) (own new : List Moment) (who : ℕ) (step : Step) (ok : X → Reply) (result : Result X StepRefusal) (left : ℕ) → length own + left ≡ 2 ^ 40 → left ≢ 0 → Did s own new who step ok result
    → length new ≤ 2 ^ 41
few_now s own new who step ok result left turns some d = within (length own) (length new) left (turns_of result) turns some (at_most_one result) (grown s own new who step ok result d)
  where
    within : (n m left took : ℕ) → n + left ≡ 2 ^ 40 → left ≢ 0 → took ≤ 1 → m ≡ n + took → m ≤ 2 ^ 41
    within n m left took turns some few more = omega (arith, turns, some, few, more)

-- what the desk learns by a step of the repository, which counts no turns
pub outcome : {X : Type 0} (s : Start) (own log new : List Moment) (who : ℕ) (step : Step) (ok : X → Reply) (result : Result X StepRefusal) (left : ℕ) → own ≡ log → Legal s own → length own + left ≡ 2 ^ 40 → left ≢ 0
    → HasGrounds s new → Did s own new who step ok result
    → Outcome s log new who step ok result
outcome s own log new who step ok (Ok x) left e l turns some grounds d = stepped s own log new who step (ok x) e l d
outcome s own log new who step ok (Err steps.Memory) left e l turns some grounds d = (subst (λ (x : List Moment). Waited s log x who) (sym d) (waited_as s own log who e l), tt)
outcome s own log new who step ok (Err steps.TurnsSpent) left e l turns some grounds never = absurd never
outcome s own log new who step ok (Err (steps.Refused refusal)) left e l turns some grounds d = (
  stepped s own log new who step (Refused (refusal_of refusal)) e l d,
  grounds who step refusal (few_now s own new who step ok (Err (steps.Refused refusal)) left turns some d) (record { front = own; image = d.image; is = d.is }),
)

-- no history passes the turns
pub is_few : {X : Type 0} (s : Start) (own new : List Moment) (who : ℕ) (step : Step) (ok : X → Reply) (result : Result X StepRefusal) (left : ℕ) → length own + left ≡ 2 ^ 40 → left ≢ 0 → Did s own new who step ok result
    → OnOk result (s.alone ≡ true → length new ≤ 2 ^ 40)
is_few s own new who step ok (Ok x) left turns some d = λ alone. within (length own) (length new) left turns some (grown s own new who step ok (Ok x) d)
  where
    within : (n m left : ℕ) → n + left ≡ 2 ^ 40 → left ≢ 0 → m ≡ n + 1 → m ≤ 2 ^ 40
    within n m left turns some more = omega (arith, turns, some, more)
is_few s own new who step ok (Err e) left turns some d = tt

-- ---- the steps of each hand

fail_restores : (hand : Hand) (why : Why) → IsNoRestoration (fail_step hand why) HasEnded
fail_restores hands.Unit why before who = refl
fail_restores hand why before who = refl

fail_commits : (hand : Hand) (s : Start) (log : List Moment) (who : ℕ) (why : Why) → IsNew s log who (fail_step hand why)
fail_commits hands.Unit s log who why name is no_metadata noted = cc
fail_commits hand s log who why name is no_metadata noted = cc

fail_tests : (hand : Hand) (s : Start) (own new : List Moment) (why : Why) (result : Result Unit StepRefusal) → TestsBy s own new (fail_step hand why) result
fail_tests hands.Unit s own new why result = tt
fail_tests hand s own new why result = tt

fail_removes : (hand : Hand) (own : List Moment) (who : ℕ) (why : Why) → RemovesBy own who (fail_step hand why)
fail_removes hands.Unit own who why = tt
fail_removes hand own who why = tt

pub fetch_reports : (hand : Hand) (name : BlobName) (reply : Reply) → IsNoReportOf (fetch_step hand name) reply
fetch_reports hands.Unit name reply why told ended = cc
fetch_reports hand name reply why told ended = cc

pub fetch_restores : (hand : Hand) (name : BlobName) {F : Type 0} (o : Option F) → IsNoRestoration (fetch_step hand name) (fetch_reply o)
fetch_restores hands.Unit name None before who = refl
fetch_restores hands.Unit name (Some f) before who = refl
fetch_restores hands.Delete name None before who = refl
fetch_restores hands.Delete name (Some f) before who = refl
fetch_restores hands.Restore name None before who = refl
fetch_restores hands.Restore name (Some f) before who = refl
fetch_restores hands.Check name None before who = refl
fetch_restores hands.Check name (Some f) before who = refl
fetch_restores hands.Verify name None before who = refl
fetch_restores hands.Verify name (Some f) before who = refl

pub fetch_commits : (hand : Hand) (s : Start) (log : List Moment) (who : ℕ) (name : BlobName) → IsNew s log who (fetch_step hand name)
fetch_commits hands.Unit s log who name other is no_metadata noted = cc
fetch_commits hand s log who name other is no_metadata noted = cc

pub fetch_tests : (hand : Hand) {X : Type 0} (s : Start) (own new : List Moment) (name : BlobName) (result : Result X StepRefusal) → TestsBy s own new (fetch_step hand name) result
fetch_tests hands.Unit s own new name result = tt
fetch_tests hand s own new name result = tt

pub fetch_removes : (hand : Hand) (own : List Moment) (who : ℕ) (name : BlobName) → RemovesBy own who (fetch_step hand name)
fetch_removes hands.Unit own who name = tt
fetch_removes hand own who name = tt

-- a restore's ticket is numbered from 1 on
pub teller_is : (hand : Hand) (calls : List Call) (who : ℕ) → IsMine hand calls who → IsTeller hand who
teller_is hands.Restore calls who mine = mine.some
teller_is hands.Check calls who mine = mine
teller_is hands.Verify calls who mine = mine
teller_is hand calls who mine = tt

-- ---- the invariant

module _ {S F H T : Type 0} (e : Evidence S F H T) (s : Start) (own new : List Moment) (who : ℕ) (faults : List (Fault S F H T)) (targets : List (RestoredTarget T)) (left rest all : ℕ)
    (h : (length own + left ≡ all) × AreShown e s own faults × AreTargetsOf e s own targets × AreOnce s own × Numbered 1 s.world × (s.world.entries ≡ []) × AreTested s own × AreRemovedOnce own × Legal s own) (some : left ≢ 0) where
  -- after a step that neither reports a failure nor restores a shard
  pub keeps : {X : Type 0} (step : Step) (ok : X → Reply) (result : Result X StepRefusal) → rest ≡ left - turns_of result → ((x : X) → IsNoReportOf step (ok x)) → ((x : X) → IsNoRestoration step (ok x)) → IsNew s own who step
      → Did s own new who step ok result
      → TestsBy s own new step result → RemovesBy own who step
      → (length new + rest ≡ all) × AreShown e s new faults × AreTargetsOf e s new targets × AreOnce s new × Numbered 1 s.world × (s.world.entries ≡ []) × AreTested s new × AreRemovedOnce new × Legal s new
  keeps step ok result turns none unrestored unnoted d tests removals = (
    counted (length own) (length new) left rest (turns_of result) all some (at_most_one result) turns h.0 (grown s own new who step ok result d),
    did e s own new who step ok result faults none d h.1,
    targets_did e s own new who step ok result targets unrestored d h.2,
    once_did s own new who step ok result unnoted d h.3,
    h.4,
    h.5,
    tested_did s own new who step ok result tests d h.6,
    removed_did s own new who step ok result removals d h.7,
    legal_did s own new who step ok result h.8 d,
  )

  -- after the report of a failure whose cause is shown
  pub keeps_report : (hand : Hand) (log : List Moment) (why : Why) (result : Result Unit StepRefusal) (roomy after : List (Fault S F H T)) (b : By S F H T) → rest ≡ left - turns_of result → own ≡ log → IsTeller hand who
      → IsShown hand e s log who why b → roomy ≡ faults
      → after ≡ roomy ++ kept_by (all - left) b result → Did s own new who (fail_step hand why) (λ _. HasEnded) result
      → (length new + rest ≡ all) × AreShown e s new after × AreTargetsOf e s new targets × AreOnce s new × Numbered 1 s.world × (s.world.entries ≡ []) × AreTested s new × AreRemovedOnce new × Legal s new
  keeps_report hand log why result roomy after b turns view teller shown same is d =
      let n : all - left ≡ length own = place_is (length own) left all (all - left) h.0 refl in
      let at : after ≡ faults ++ kept_by (length own) b result = is ∙ ap (λ (l : List (Fault S F H T)). l ++ kept_by (all - left) b result) same ∙ ap (λ (k : ℕ). faults ++ kept_by k b result) n in (
        counted (length own) (length new) left rest (turns_of result) all some (at_most_one result) turns h.0 (grown s own new who (fail_step hand why) (λ _. HasEnded) result d),
        subst (λ (l : List (Fault S F H T)). AreShown e s new l) (sym at)
            (reported e s hand own new who why result faults b teller (subst (λ (l : List Moment). IsShown hand e s l who why b) (sym view) shown) d h.1),
        targets_did e s own new who (fail_step hand why) (λ _. HasEnded) result targets (λ x. fail_restores hand why) d h.2,
        once_did s own new who (fail_step hand why) (λ _. HasEnded) result (fail_commits hand s own who why) d h.3,
        h.4,
        h.5,
        tested_did s own new who (fail_step hand why) (λ _. HasEnded) result (fail_tests hand s own new why result) d h.6,
        removed_did s own new who (fail_step hand why) (λ _. HasEnded) result (fail_removes hand own who why) d h.7,
        legal_did s own new who (fail_step hand why) (λ _. HasEnded) result h.8 d,
      )
    where
      place_is : (n left all place : ℕ) → n + left ≡ all → place ≡ all - left → place ≡ n
      place_is n left all place e d = omega (arith, e, d)

  -- after the end of a restore, which hands its target over
  pub keeps_target : (log : List Moment) (files bytes : ℕ) (result : Result Unit StepRefusal) (roomy after : List (RestoredTarget T)) (target : RestoredTarget T) → rest ≡ left - turns_of result → own ≡ log
      → IsFilled e s (reader_of s log who) files bytes target → roomy ≡ targets
      → after ≡ roomy ++ targets_by target result → Did s own new who (ReadStep (RestoredShard files bytes)) (λ _. HasEnded) result
      → (length new + rest ≡ all) × AreShown e s new faults × AreTargetsOf e s new after × AreOnce s new × Numbered 1 s.world × (s.world.entries ≡ []) × AreTested s new × AreRemovedOnce new × Legal s new
  keeps_target log files bytes result roomy after target turns view filled same is d = (
    counted (length own) (length new) left rest (turns_of result) all some (at_most_one result) turns h.0 (grown s own new who (ReadStep (RestoredShard files bytes)) (λ _. HasEnded) result d),
    did e s own new who (ReadStep (RestoredShard files bytes)) (λ _. HasEnded) result faults (λ x why told ended. cc) d h.1,
    subst (λ (l : List (RestoredTarget T)). AreTargetsOf e s new l) (sym (is ∙ ap (λ (l : List (RestoredTarget T)). l ++ targets_by target result) same))
        (target_listed e s own new who files bytes result targets target (subst (λ (l : List Moment). IsFilled e s (reader_of s l who) files bytes target) (sym view) filled) d h.2),
    once_did s own new who (ReadStep (RestoredShard files bytes)) (λ _. HasEnded) result (λ name commit no_metadata noted. cc) d h.3,
    h.4,
    h.5,
    tested_did s own new who (ReadStep (RestoredShard files bytes)) (λ _. HasEnded) result tt d h.6,
    removed_did s own new who (ReadStep (RestoredShard files bytes)) (λ _. HasEnded) result tt d h.7,
    legal_did s own new who (ReadStep (RestoredShard files bytes)) (λ _. HasEnded) result h.8 d,
  )
