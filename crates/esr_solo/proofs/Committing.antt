-- No blob is committed twice as the history goes on.
use Rattle.std.proofs.Common.{◌≡◌, ℕ, List, [], ◌∷◌, ◌++◌, Result, Ok, Err, sym, ap, ◌∙◌, subst, ⊎_elim, refl}
use Rattle.esr_model.specs.Names.{BlobName}
use Rattle.esr_model.specs.Values.{Has}
use Rattle.esr_core.specs.Entry.{Step, CommitStep, Reply, Refused, Moment}
use Rattle.esr_core.specs.Allowed.{IsMetadata}
use Rattle.esr_desk.specs.declared.refusal.StepRefusal.{StepRefusal}
use Rattle.esr_desk.specs.declared.refusal.StepRefusal.TheVariants as steps
use Rattle.esr_desk.specs.Refusals.{refusal_of}
use Rattle.esr_desk.specs.Start.{Start, ticket_of}
use Rattle.esr_desk.specs.Once.{AreOnce}
use Rattle.esr_repo.specs.Next.{Added, AddedOr, Did}
use Rattle.esr_solo.proofs.Showing.{last_or, no_end}
use Rattle.esr_depot.specs.declared.depot.Commit.{Commit}
use Rattle.esr_depot.specs.declared.depot.Commit.TheVariants as commits
use Rattle.esr_desk.specs.Outcome.{commit_reply}
use Rattle.esr_solo.proofs.Listing.{IsNoRestoration}

-- the ticket has not noted the name
abbrev pub IsUnnoted : Start → List Moment → ℕ → BlobName → Type 0
IsUnnoted s log who name = (IsMetadata name → ⊥) → Has (ticket_of s log who).noted name → ⊥

-- nor any name that the step commits
abbrev pub IsNew : Start → List Moment → ℕ → Step → Type 0
IsNew s log who step = (name : BlobName) → step ≡ CommitStep name → IsUnnoted s log who name

-- one more entry
goes_on : (s : Start) (log : List Moment) (m : Moment) → IsNew s log m.entry.who m.entry.step → AreOnce s log → AreOnce s (log ++ m ∷ [])
goes_on s log m new h front back x name is step =
    ⊎_elim
    (λ (last : (front ≡ log) × (m ≡ x)).
    subst (λ (l : List Moment). IsUnnoted s l x.entry.who name) (sym last.0)
    (subst (λ (k : ℕ). IsUnnoted s log k name) (ap (λ (y : Moment). y.entry.who) last.1)
    (new name (ap (λ (y : Moment). y.entry.step) last.1 ∙ step))))
    (λ (earlier : (rest : List Moment) × (log ≡ front ++ x ∷ rest)). h front earlier.0 x name earlier.1 step)
    (last_or log m front x back is)

added : (s : Start) (old new : List Moment) (who : ℕ) (step : Step) (reply : Reply) → IsNew s old who step → Added s old new who step reply → AreOnce s old → AreOnce s new
added s old new who step reply unnoted a h =
    subst (λ (l : List Moment). AreOnce s l) (sym a.is) (goes_on s old (record { entry = record { who = who; step = step; reply = reply }; image = a.image }) unnoted h)

added_or : (s : Start) (old new : List Moment) (who : ℕ) (step : Step) (e : StepRefusal) → IsNew s old who step → AddedOr s old new who step e → AreOnce s old → AreOnce s new
added_or s old new who step steps.Memory unnoted same h = subst (λ (l : List Moment). AreOnce s l) (sym same) h
added_or s old new who step steps.TurnsSpent unnoted never h = absurd never
added_or s old new who step (steps.Refused refusal) unnoted a h = added s old new who step (Refused (refusal_of refusal)) unnoted a h

-- a step of a repository
pub once_did : {X : Type 0} (s : Start) (old new : List Moment) (who : ℕ) (step : Step) (ok : X → Reply) (result : Result X StepRefusal) → IsNew s old who step → Did s old new who step ok result → AreOnce s old → AreOnce s new
once_did s old new who step ok (Ok x) unnoted d h = added s old new who step (ok x) unnoted d h
once_did s old new who step ok (Err e) unnoted d h = added_or s old new who step e unnoted d h

-- nothing was committed yet
none_once : (s : Start) → AreOnce s []
none_once s front back m name is = absurd (no_end front m back is)

pub begins_once : (s : Start) (log : List Moment) → log ≡ [] → AreOnce s log
begins_once s log none = subst (λ (l : List Moment). AreOnce s l) (sym none) (none_once s)

same_name : (a b : BlobName) → CommitStep a ≡ CommitStep b → a ≡ b
same_name a b e = cc

-- a commit under a name that its ticket has not noted
pub commit_fresh : (s : Start) (own log : List Moment) (who : ℕ) (name : BlobName) → own ≡ log → IsUnnoted s log who name → IsNew s own who (CommitStep name)
commit_fresh s own log who name view unnoted other is =
    subst (λ (n : BlobName). IsUnnoted s own who n) (same_name name other is)
    (subst (λ (l : List Moment). IsUnnoted s l who name) (sym view) unnoted)

-- a commit restores no shard
pub no_end_of : (name : BlobName) (c : Commit) → IsNoRestoration (CommitStep name) (commit_reply c)
no_end_of name commits.Done before who = refl
no_end_of name commits.Exists before who = refl
