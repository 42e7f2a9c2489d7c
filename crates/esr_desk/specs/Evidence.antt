-- What shows that something failed, whoever tells it.
use Rattle.std.specs.Prelude.{◌≡◌, ◌<◌, ℕ, true, false, List, ◌∷◌, ◌++◌, Option, Some}
use Rattle.esr_model.specs.Names.{BlobName}
use Rattle.esr_model.specs.Values.{Bytes, Has}
use Rattle.esr_model.specs.Image.{Image}
use Rattle.esr_core.specs.Entry.{Reason, Step, Reply, Refused, Refusal, DepotFault, WasFetched, Moment}
use Rattle.esr_formats.specs.Reasons.{unreadable}
use Rattle.esr_source.specs.Told.{ShardTold, TargetTold}
use Rattle.esr_desk.specs.declared.hand.Hand.{Hand}
use Rattle.esr_desk.specs.declared.fault.FailedObject.TheVariants as objects
use Rattle.esr_desk.specs.declared.fault.By.{By}
use Rattle.esr_desk.specs.declared.fault.By.TheVariants as by
use Rattle.esr_desk.specs.Start.{Start}
use Rattle.esr_desk.specs.Own.{read_blobs}
use Rattle.esr_desk.specs.Hands.{fetch_step}

-- how often an object of each kind has failed, and what a shard and a target tell
pub record Evidence (S F H T : Type 0) : Type 0 where
  pub stage_faults : S → ℕ
  pub fetch_faults : F → ℕ
  pub shard_faults : H → ℕ
  pub target_faults : T → ℕ
  pub shard : H → ShardTold
  pub target : T → TargetTold

abbrev pub evidence : {S F H T : Type 0} → (S → ℕ) → (F → ℕ) → (H → ℕ) → (T → ℕ) → (H → ShardTold) → (T → TargetTold) → Evidence S F H T
evidence stages fetches shards targets shard target = record { stage_faults = stages; fetch_faults = fetches; shard_faults = shards; target_faults = targets; shard = shard; target = target }

-- ---- the history tells it

-- the step was made, and answered so
pub record HadReply (log : List Moment) (who : ℕ) (step : Step) (reply : Reply) : Type 0 where
  pub image : Option Image
  pub there : Has log (record { entry = record { who = who; step = step; reply = reply }; image = image })

-- some step was refused so
abbrev pub HadRefusal : List Moment → ℕ → Refusal → Type 0
HadRefusal log who refusal = (step : Step) × HadReply log who step (Refused refusal)

-- the blob was fetched, with this answer
abbrev pub HadFetch : Hand → List Moment → ℕ → BlobName → Reply → Type 0
HadFetch hand log who name reply = HadReply log who (fetch_step hand name) reply

-- the container failed as it was fetched
abbrev pub HadFetchFault : Hand → List Moment → ℕ → Type 0
HadFetchFault hand log who = (name : BlobName) × HadFetch hand log who name (Refused DepotFault)

-- A step was made with this answer, and later another one with its own.
pub record HadSince (log : List Moment) (who : ℕ) (first : Step) (gave : Reply) (step : Step) (reply : Reply) : Type 0 where
  pub before : List Moment
  pub image : Option Image
  pub more : List Moment
  pub is : log ≡ before ++ record { entry = record { who = who; step = first; reply = gave }; image = image } ∷ more
  pub had : HadReply more who step reply

-- no entry tells that the container failed
abbrev pub NeverFailed : List Moment → Type 0
NeverFailed log = (m : Moment) → Has log m → m.entry.reply ≡ Refused DepotFault → ⊥

-- ---- what was read shows it

-- the blob was there, and these are its bytes, where the container tells
pub record HasRead (hand : Hand) (s : Start) (log : List Moment) (who : ℕ) (name : BlobName) (bytes : Bytes) : Type 0 where
  pub had : HadFetch hand log who name WasFetched
  pub read : s.tells ≡ true → Has (read_blobs hand s log who) (name, bytes)

-- its bytes don't read as the kind of its name: this is the first reason
abbrev pub WasUnreadable : Hand → Start → List Moment → ℕ → BlobName → Reason → Type 0
WasUnreadable hand s log who name reason = (bytes : Bytes) × HasRead hand s log who name bytes × (unreadable name bytes ≡ Some reason)

-- ---- an object failed, or a step

-- an object of the container has failed so often, which it can't where the container is quiet
abbrev pub Faulty : Start → ℕ → Type 0
Faulty s count = (0 < count) × (s.quiet ≡ false)

-- a fetch has failed, or the container did in a step, which this shows
abbrev pub FetchShown : {S F H T : Type 0} → Evidence S F H T → Start → Type 0 → By S F H T → Type 0
FetchShown e s fault (by.Object (objects.Fetch fetch)) = Faulty s (e.fetch_faults fetch)
FetchShown e s fault by.Entry = fault × (s.quiet ≡ false)
FetchShown e s fault b = ⊥

-- so has a stage
abbrev pub DepotShown : {S F H T : Type 0} → Evidence S F H T → Start → Type 0 → By S F H T → Type 0
DepotShown e s fault (by.Object (objects.Stage stage)) = Faulty s (e.stage_faults stage)
DepotShown e s fault b = FetchShown e s fault b

-- no object failed, but what was read shows it
abbrev pub ReadShown : {S F H T : Type 0} → By S F H T → Type 0 → Type 0
ReadShown by.Nothing shown = shown
ReadShown b shown = ⊥

-- no object failed, but a step shows it
abbrev pub StepShown : {S F H T : Type 0} → By S F H T → Type 0 → Type 0
StepShown by.Entry shown = shown
StepShown b shown = ⊥
