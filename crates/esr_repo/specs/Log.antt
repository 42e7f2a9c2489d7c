-- The moments of a history: each entry with the image that its step left. Moments are counted by the container's clock, so none is stored.
use Rattle.std.specs.Prelude.{ℕ, Bool, true, false, List, [], ◌∷◌, Option, option_map, if◌then◌else◌}
use Rattle.esr_model.specs.Image.{Image}
use Rattle.esr_core.specs.Entry.{is_recorded, Read, ReadBlob, RestoredShard, CheckedAll, DrawTest, BeginTest, CommitTest, RemoveTests, VerifiedAll, ReadFails, Prune, FetchShard, PlanShards, SettlePruned, RemoveDoomed, EndDelete, DeleteFails, Step, AskStep, TakeStep, DrawStep, BeginStep, CommitStep, LatestStep, FetchStep, ListStep, RaiseStep, SettleStep, DoneStep, FailedStep, FinishStep, DroppedStep, ElectStep, LookStep, ReadStep, PruneStep, Reply, Refused, NameTaken, DepotFault, Entry, Moment}
pub use Rattle.esr_progress.specs.Kept.{image_of}
use Rattle.esr_depot.specs.Look.{Look}
use Rattle.esr_depot.specs.Calls.{up}

-- the image at a moment, where it is told
abbrev pub image_at : Look → ℕ → Option Image
image_at l k = option_map image_of (l.at k)

-- a step that reads calls the container where it names blobs
abbrev pub reads_container : Read → Bool
reads_container (ReadBlob name) = true
reads_container (RestoredShard files bytes) = false
reads_container (CheckedAll snapshots blobs) = false
reads_container DrawTest = false
reads_container (BeginTest name) = true
reads_container (CommitTest name) = true
reads_container (RemoveTests names) = true
reads_container VerifiedAll = false
reads_container (ReadFails why) = false

-- and a step of a delete's ticket where it fetches, settles or removes
abbrev pub prunes_container : Prune → Bool
prunes_container (FetchShard name) = true
prunes_container (PlanShards shards) = false
prunes_container SettlePruned = true
prunes_container (RemoveDoomed names) = true
prunes_container EndDelete = false
prunes_container (DeleteFails why) = false

-- a step that isn't refused calls the container once, or not at all; a command is put into its record, or not
abbrev pub asks_container : Step → Bool
asks_container (AskStep command) = is_recorded command
asks_container TakeStep = false
asks_container (DrawStep n) = false
asks_container (BeginStep name) = true
asks_container (CommitStep name) = true
asks_container LatestStep = true
asks_container (FetchStep name) = true
asks_container (ListStep from) = true
asks_container RaiseStep = true
asks_container SettleStep = true
asks_container (DoneStep result) = false
asks_container (FailedStep why) = false
asks_container FinishStep = false
asks_container DroppedStep = true
asks_container ElectStep = true
asks_container LookStep = false
asks_container (ReadStep read) = reads_container read
asks_container (PruneStep prune) = prunes_container prune

-- whether the step called the container, by its answer
abbrev pub calls : Step → Reply → Bool
calls step (Refused DepotFault) = true
calls step (Refused (NameTaken name)) = true
calls step (Refused refusal) = false
calls step reply = asks_container step

-- the clock after an entry
abbrev pub tick : ℕ → Entry → ℕ
tick t e = if calls e.step e.reply then up t else t

abbrev pub ticks : ℕ → List Entry → ℕ
ticks t [] = t
ticks t (e ∷ es) = ticks (tick t e) es

abbrev pub log_from : (ℕ → Option Image) → ℕ → List Entry → List Moment
log_from at t [] = []
log_from at t (e ∷ es) = record { entry = e; image = at (tick t e) } ∷ log_from at (tick t e) es

-- the moments of these entries, from a clock on
abbrev pub log_of : Look → ℕ → List Entry → List Moment
log_of l t es = log_from (image_at l) t es
