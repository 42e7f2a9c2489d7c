-- No ticket removes a name twice as the history goes on.
use Rattle.std.proofs.Common.{◌≡◌, ℕ, ◌≤◌, List, [], ◌∷◌, ◌++◌, Result, Ok, Err, sym, ap, ◌∙◌, subst, ⊎_elim}
use Rattle.esr_model.specs.Names.{BlobName}
use Rattle.esr_core.specs.Entry.{Step, PruneStep, RemoveDoomed, Reply, Refused, Moment}
use Rattle.esr_desk.specs.declared.refusal.StepRefusal.{StepRefusal}
use Rattle.esr_desk.specs.declared.refusal.StepRefusal.TheVariants as steps
use Rattle.esr_desk.specs.Refusals.{refusal_of}
use Rattle.esr_model.specs.Values.{Has}
use Rattle.esr_core.specs.Past.{entries_by, ShareName, Repeats}
use Rattle.esr_desk.specs.Start.{Start, formats_of, world_of}
use Rattle.esr_desk.specs.Made.{made_there}
use Rattle.esr_desk.specs.Once.{IsFresh, IsNewRemoval, AreRemovedOnce}
use Rattle.esr_repo.specs.Next.{Added, AddedOr, Did}
use Rattle.esr_solo.proofs.Showing.{last_or, no_end}

-- the ticket has named none of the names that the step removes; any other removes none
abbrev pub RemovesBy : List Moment → ℕ → Step → Type 0
RemovesBy log who (PruneStep (RemoveDoomed names)) = IsNewRemoval log who names
RemovesBy log who step = Unit {0}

removes_as : (log : List Moment) (who : ℕ) (step : Step) (names : List BlobName) → RemovesBy log who step → step ≡ PruneStep (RemoveDoomed names) → IsNewRemoval log who names
removes_as log who step names removes is = subst (λ (x : Step). RemovesBy log who x) is removes

-- one more entry
goes_on : (log : List Moment) (m : Moment) → RemovesBy log m.entry.who m.entry.step → AreRemovedOnce log → AreRemovedOnce (log ++ m ∷ [])
goes_on log m new h front back x names is step =
    ⊎_elim
    (λ (last : (front ≡ log) × (m ≡ x)).
    subst (λ (l : List Moment). IsNewRemoval l x.entry.who names) (sym last.0)
    (subst (λ (k : ℕ). IsNewRemoval log k names) (ap (λ (y : Moment). y.entry.who) last.1)
    (removes_as log m.entry.who m.entry.step names new (ap (λ (y : Moment). y.entry.step) last.1 ∙ step))))
    (λ (earlier : (rest : List Moment) × (log ≡ front ++ x ∷ rest)). h front earlier.0 x names earlier.1 step)
    (last_or log m front x back is)

added : (s : Start) (old new : List Moment) (who : ℕ) (step : Step) (reply : Reply) → RemovesBy old who step → Added s old new who step reply → AreRemovedOnce old → AreRemovedOnce new
added s old new who step reply removes a h =
    subst (λ (l : List Moment). AreRemovedOnce l) (sym a.is) (goes_on old (record { entry = record { who = who; step = step; reply = reply }; image = a.image }) removes h)

added_or : (s : Start) (old new : List Moment) (who : ℕ) (step : Step) (e : StepRefusal) → RemovesBy old who step → AddedOr s old new who step e → AreRemovedOnce old → AreRemovedOnce new
added_or s old new who step steps.Memory removes same h = subst (λ (l : List Moment). AreRemovedOnce l) (sym same) h
added_or s old new who step steps.TurnsSpent removes never h = absurd never
added_or s old new who step (steps.Refused refusal) removes a h = added s old new who step (Refused (refusal_of refusal)) removes a h

-- a step of a repository
pub removed_did : {X : Type 0} (s : Start) (old new : List Moment) (who : ℕ) (step : Step) (ok : X → Reply) (result : Result X StepRefusal) → RemovesBy old who step → Did s old new who step ok result → AreRemovedOnce old
    → AreRemovedOnce new
removed_did s old new who step ok (Ok x) removes d h = added s old new who step (ok x) removes d h
removed_did s old new who step ok (Err e) removes d h = added_or s old new who step e removes d h

-- nothing was removed yet
none_removed : AreRemovedOnce []
none_removed front back m names is = absurd (no_end front m back is)

pub begins_removed : (log : List Moment) → log ≡ [] → AreRemovedOnce log
begins_removed log none = subst (λ (l : List Moment). AreRemovedOnce l) (sym none) none_removed

share : (was names : List BlobName) (name : BlobName) → Has was name → Has names name → ShareName was names
share [] names name a b = absurd a
share (x ∷ was) [] name a b = absurd b
share (x ∷ was) (y ∷ names) name a b = (name, a, b)

-- a removal, as the desk asks
pub removal_new : (s : Start) (own log : List Moment) (who : ℕ) (names : List BlobName) → own ≡ log → 1 ≤ who → IsFresh s log who (PruneStep (RemoveDoomed names)) → IsNewRemoval own who names
removal_new s own log who names view some fresh = subst (λ (l : List Moment). IsNewRemoval l who names) (sym view) new
  where
    new : IsNewRemoval log who names
    new m has by made was step name in_names in_was =
        fresh m.entry
        (subst (λ (k : ℕ). Has (entries_by (world_of s log).entries k) m.entry) by (made_there (formats_of s) s.world log m (subst (λ (k : ℕ). 1 ≤ k) (sym by) some) made has))
        (subst (λ (x : Step). Repeats x (PruneStep (RemoveDoomed names))) (sym step) (share was names name in_was in_names))
