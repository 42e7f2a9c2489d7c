-- No step is made twice on one name, and no blob is committed twice.
use Rattle.std.specs.Prelude.{◌≡◌, ℕ, ◌≤◌, List, [], ◌∷◌, ◌++◌}
use Rattle.esr_model.specs.Names.{BlobName}
use Rattle.esr_model.specs.Values.{Has}
use Rattle.esr_core.specs.Entry.{Read, ReadBlob, Prune, FetchShard, PlanShards, SettlePruned, RemoveDoomed, Step, DrawStep, BeginStep, CommitStep, LatestStep, FetchStep, ListStep, RaiseStep, SettleStep, DroppedStep, ReadStep, PruneStep, DeposedAt, Reply, Refused, Moment}
use Rattle.esr_core.specs.Allowed.{IsMetadata}
use Rattle.esr_core.specs.Past.{IsNewStep}
use Rattle.esr_desk.specs.Start.{Start, ticket_of, world_of}

-- what a step asks: it repeats none that was made
abbrev pub IsFresh : Start → List Moment → ℕ → Step → Type 0
IsFresh s log who step = IsNewStep (world_of s log) who step

-- ---- of a whole history

-- each commit of a history, but for the metadata of a finalization, is under a name that its ticket had not noted
abbrev pub AreOnce : Start → List Moment → Type 0
AreOnce s log = (front back : List Moment) (m : Moment) (name : BlobName) → log ≡ front ++ m ∷ back → m.entry.step ≡ CommitStep name → (IsMetadata name → ⊥)
    → Has (ticket_of s front m.entry.who).noted name → ⊥

abbrev pub IsBlobRead : Read → Type 0
IsBlobRead (ReadBlob name) = Unit {0}
IsBlobRead read = ⊥

-- a delete's ticket plans, settles and removes no name at all at most once
abbrev pub IsOnePrune : Prune → Type 0
IsOnePrune (FetchShard name) = Unit {0}
IsOnePrune (PlanShards shards) = Unit {0}
IsOnePrune SettlePruned = Unit {0}
IsOnePrune (RemoveDoomed []) = Unit {0}
IsOnePrune prune = ⊥

-- a ticket makes the step once, on each name where it has one
abbrev pub IsSingle : Step → Type 0
IsSingle (DrawStep count) = Unit {0}
IsSingle (BeginStep name) = Unit {0}
IsSingle (CommitStep name) = Unit {0}
IsSingle LatestStep = Unit {0}
IsSingle (FetchStep name) = Unit {0}
IsSingle (ListStep after) = Unit {0}
IsSingle RaiseStep = Unit {0}
IsSingle SettleStep = Unit {0}
IsSingle DroppedStep = Unit {0}
IsSingle (ReadStep read) = IsBlobRead read
IsSingle (PruneStep prune) = IsOnePrune prune
IsSingle step = ⊥

-- the step without its shards: two plans are one step, whatever they plan
abbrev pub unplanned : Prune → Prune
unplanned (PlanShards shards) = PlanShards []
unplanned prune = prune

-- the step without a count: two draws are one step, however many ids they draw
abbrev pub uncounted : Step → Step
uncounted (DrawStep count) = DrawStep 0
uncounted (PruneStep prune) = PruneStep (unplanned prune)
uncounted step = step

-- the step was made: it was not refused as deposed
abbrev pub WasMade : Reply → Type 0
WasMade reply = (place : ℕ) → reply ≡ Refused (DeposedAt place) → ⊥

-- the history has no such step of the ticket
abbrev pub IsNew : List Moment → ℕ → Step → Type 0
IsNew log who step = (m : Moment) → Has log m → m.entry.who ≡ who → WasMade m.entry.reply → uncounted m.entry.step ≡ uncounted step → ⊥

-- it has none at all
abbrev pub HasMadeNone : List Moment → ℕ → Type 0
HasMadeNone log who = (m : Moment) → Has log m → m.entry.who ≡ who → WasMade m.entry.reply → ⊥

-- no ticket makes a step twice on one name, or lists twice after one, and each draws, raises, puts `index.latest`, settles and drops at most once
abbrev pub NoneTwice : List Moment → Type 0
NoneTwice log = (front back : List Moment) (m : Moment) → log ≡ front ++ m ∷ back → 1 ≤ m.entry.who → IsSingle m.entry.step → WasMade m.entry.reply → IsNew front m.entry.who m.entry.step

-- the ticket has named none of these names in a removal
abbrev pub IsNewRemoval : List Moment → ℕ → List BlobName → Type 0
IsNewRemoval log who names = (m : Moment) → Has log m → m.entry.who ≡ who → WasMade m.entry.reply → (was : List BlobName) → m.entry.step ≡ PruneStep (RemoveDoomed was)
    → (name : BlobName) → Has names name → Has was name → ⊥

-- each removal of a history is of names that its ticket had not named
abbrev pub AreRemovedOnce : List Moment → Type 0
AreRemovedOnce log = (front back : List Moment) (m : Moment) (names : List BlobName) → log ≡ front ++ m ∷ back → m.entry.step ≡ PruneStep (RemoveDoomed names)
    → IsNewRemoval front m.entry.who names
