-- What the steps that call the container for a blob do to the history, with what is told of the blob.
use Rattle.std.specs.Prelude.{◌≡◌, ℕ, List, [], ◌∷◌, ◌++◌, Option, Some, None, Result, Ok, Err, if◌then◌else◌}
use Rattle.esr_model.specs.Names.{BlobName}
use Rattle.esr_model.specs.Values.{Bytes}
use Rattle.esr_core.specs.Entry.{Step, WasFetched, WasAbsent, Refused, DepotFault, Entry, Moment}
use Rattle.esr_core.specs.After.{told_blob}
use Rattle.esr_core.specs.Allowed.{IsMetadata}
use Rattle.esr_depot.specs.declared.error.CallError.{CallError}
use Rattle.esr_depot.specs.declared.error.CallError.TheVariants as errors
use Rattle.esr_depot.specs.declared.depot.Commit.{Commit}
use Rattle.esr_depot.specs.declared.depot.Commit.TheVariants as commits
use Rattle.esr_desk.specs.Start.{Start, formats_of}
use Rattle.esr_desk.specs.Outcome.{commit_reply}
use Rattle.esr_desk.specs.declared.refusal.EntryRefusal.TheVariants as refusals
use Rattle.esr_desk.specs.declared.refusal.StepRefusal.{StepRefusal}
use Rattle.esr_desk.specs.declared.refusal.StepRefusal.TheVariants as steps
use Rattle.esr_repo.specs.Next.{Added, AddedOr}

-- a blob that was added is told as its stage was
abbrev pub AddedBlob : Start → List Moment → List Moment → ℕ → Step → BlobName → Option Bytes → Commit → Type 0
AddedBlob s old new who step name contents commits.Done = (a : Added s old new who step (commit_reply commits.Done)) × (told_blob (formats_of s) a.image name ≡ contents)
AddedBlob s old new who step name contents commits.Exists = Added s old new who step (commit_reply commits.Exists) × IsMetadata name

abbrev pub CommitDid : Start → List Moment → List Moment → ℕ → Step → BlobName → Option Bytes → Result Commit StepRefusal → Type 0
CommitDid s old new who step name contents (Ok c) = AddedBlob s old new who step name contents c
CommitDid s old new who step name contents (Err e) = AddedOr s old new who step e

-- what can be read of a blob is what is told of it
abbrev pub FetchDid : {F : Type 0} → (F → Option Bytes) → Start → List Moment → List Moment → ℕ → Step → BlobName → Result (Option F) StepRefusal → Type 0
FetchDid left s old new who step name (Ok None) = Added s old new who step WasAbsent
FetchDid left s old new who step name (Ok (Some f)) = (a : Added s old new who step WasFetched) × (told_blob (formats_of s) a.image name ≡ left f) × ((bytes : Bytes) × (left f ≡ (if s.tells then Some bytes else None)))
FetchDid left s old new who step name (Err e) = AddedOr s old new who step e

-- the entries after a call that gave this error: one more where the container failed, and none where memory was wanting
abbrev pub with_error : List Entry → ℕ → Step → CallError → List Entry
with_error es who step errors.Memory = es
with_error es who step errors.Failed = es ++ record { who = who; step = step; reply = Refused DepotFault } ∷ []

-- why the step is refused then
abbrev pub refusal_of_error : CallError → StepRefusal
refusal_of_error errors.Memory = steps.Memory
refusal_of_error errors.Failed = steps.Refused refusals.DepotFault
