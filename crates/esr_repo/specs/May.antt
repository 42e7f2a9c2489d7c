-- What a step needs so that it may be added to the history. Each answer that may come needs its case of what is allowed, for
-- every image that the call of the container may leave.
use Rattle.std.specs.Prelude.{◌≡◌, ◌≢◌, ◌⊎◌, ℕ, Bool, true, false, List, ◌++◌, Option, Some, None}
use Rattle.std.specs.Option.{unwrap_or, option_to_list}
use Rattle.std.specs.FinMap as fin
use Rattle.esr_model.specs.Names.{BlobName, Latest}
use Rattle.esr_model.specs.Values.{Bytes, Has, ShardResult, ReadsBack}
use Rattle.esr_model.specs.Image.{Blobs, Image, Present}
use Rattle.esr_core.specs.World.{World, Op, AllDone, info_of, record_of}
use Rattle.esr_core.specs.Entry.{ReadBlob, BeginTest, CommitTest, RemoveTests, FetchShard, RemoveDoomed, WasRemoved, Step, BeginStep, CommitStep, LatestStep, FetchStep, ReadStep, PruneStep, Reply, WasBegun, WasDone, WasThere, WasReplaced, WasFetched, WasAbsent, HasEnded, Refused, DepotFault, NameTaken, Refusal, Moment}
use Rattle.esr_core.specs.Steps.{Removes}
use Rattle.esr_core.specs.After.{answered, done_step, swaps_record}
use Rattle.esr_core.specs.Allowed.{Allows, Told, Adds, IsMetadata}
use Rattle.esr_root.specs.Root.{Root}
use Rattle.esr_record.specs.Record.{Record}
use Rattle.esr_meta.specs.Info.{Info, IsInfo}
use Rattle.esr_formats.specs.Roots.{root_of}
use Rattle.esr_formats.specs.Clusters.{cluster_of}
use Rattle.esr_formats.specs.Infos.{info_of_code, info_kind}
use Rattle.esr_ops.specs.Plan.{Plan, IsPlanOf}
use Rattle.esr_desk.specs.Start.{Start, formats_of, world_of, ticket_of}
use Rattle.esr_repo.specs.Log.{calls}
use Rattle.esr_repo.specs.Repo.{HasInfos}

-- an image is told only where the container tells
abbrev pub CanTell : Start → Option Image → Type 0
CanTell s image = (i : Image) → image ≡ Some i → s.tells ≡ true

-- the ticket may answer a step so, whatever image of which P holds the call leaves
abbrev pub MayAnswer : Start → List Moment → ℕ → Step → Reply → (Blobs → Type 0) → Type 0
MayAnswer s log who step reply P = (image : Option Image) → CanTell s image → Told image P → Allows (formats_of s) s.part_size (world_of s log) who step reply image

-- the blobs are those of the world
abbrev pub Same : Start → List Moment → Blobs → Type 0
Same s log blobs = blobs ≡ (world_of s log).blobs

-- the world, blobs aside, after a step with this answer
abbrev pub next_world : Start → List Moment → ℕ → Step → Reply → Option Image → World
next_world s log who step reply image = answered (formats_of s) (world_of s log) who step reply image

-- A step without a call of the container. Where no plan is given, that which is kept serves the new world too.
pub record MayNote (s : Start) (log : List Moment) (who : ℕ) (step : Step) (reply : Reply) (plan : Option Plan) (next : ℕ) : Type 0 where
  pub plain : calls step reply ≡ false
  pub allows : MayAnswer s log who step reply (Same s log)
  pub plan_is : (image : Option Image) (old : Plan) → IsPlanOf (world_of s log) old → IsPlanOf (next_world s log who step reply image) (unwrap_or plan old)
  pub next_is : (image : Option Image) → next ≡ (next_world s log who step reply image).next_id

-- a refusal by rule, which changes nothing
pub record MayRefuse (s : Start) (log : List Moment) (who : ℕ) (step : Step) (refusal : Refusal) : Type 0 where
  pub plain : calls step (Refused refusal) ≡ false
  pub allows : MayAnswer s log who step (Refused refusal) (Same s log)

abbrev pub is_refused : Reply → Bool
is_refused (Refused refusal) = true
is_refused reply = false

-- the world, blobs aside, after a step that swaps the record
abbrev pub swapped_world : Start → List Moment → ℕ → Step → World
swapped_world s log who step = done_step (formats_of s) (world_of s log) who step HasEnded None

-- the info of the snapshot that a ticket finalizes, which can be written
pub record IsMadeInfo (s : Start) (log : List Moment) (k : ℕ) (info : Info) : Type 0 where
  pub op : Op
  pub there : fin.get (world_of s log).ops (ticket_of s log k).op ≡ Some op
  pub results : List ShardResult
  pub done : AllDone op.shards results
  pub is : info_of_code info ≡ info_of op results
  pub back : ReadsBack info_kind (info_of_code info)
  pub valid : IsInfo info

-- the infos after a swap: those that are left, where they are given, or one more where it is
abbrev pub infos_after : Option (List Info) → Option Info → List Info → List Info
infos_after (Some left) info old = left
infos_after None info old = old ++ option_to_list info

-- the infos that served the world serve that after the swap too, with what is given
abbrev pub InfosServe : Start → List Moment → ℕ → Step → Option (List Info) → Option Info → Type 0
InfosServe s log who step left info = (old : List Info) → HasInfos s (world_of s log) old
    → HasInfos s (record (swapped_world s log who step) { blobs = (world_of s log).blobs }) (infos_after left info old)

-- A step that swaps the record. It may fail in the container where it may be answered. Where no root, no infos or no plan is
-- given, those that are kept serve the new world too.
pub record MaySwap (s : Start) (log : List Moment) (who : ℕ) (step : Step) (reply : Reply) (cluster : Record) (root : Option Root) (left : Option (List Info)) (info : Option Info) (plan : Option Plan) (next : ℕ) : Type 0 where
  pub swaps : swaps_record step ≡ true
  pub answers : is_refused reply ≡ false
  pub allows : MayAnswer s log who step reply (Same s log)
  pub cluster_is : cluster_of cluster ≡ record_of (swapped_world s log who step)
  pub root_is : (old : Root) → root_of old ≡ (world_of s log).root → root_of (unwrap_or root old) ≡ (swapped_world s log who step).root
  -- they are those of the snapshots that the new root lists
  pub infos_are : InfosServe s log who step left info
  pub plan_is : (old : Plan) → IsPlanOf (world_of s log) old → IsPlanOf (swapped_world s log who step) (unwrap_or plan old)
  pub next_is : next ≡ (swapped_world s log who step).next_id

-- the name is one of the layout
abbrev pub IsNamed : Start → BlobName → Type 0
IsNamed s name = ReadsBack (formats_of s).names name

-- the step begins the blob: of a ticket, or of a verification
abbrev pub IsBegin : Step → BlobName → Type 0
IsBegin (BeginStep it) name = it ≡ name
IsBegin (ReadStep (BeginTest it)) name = it ≡ name
IsBegin step name = ⊥

-- a blob is begun
pub record MayBegin (s : Start) (log : List Moment) (who : ℕ) (step : Step) (name : BlobName) : Type 0 where
  pub is : IsBegin step name
  pub begins : IsNamed s name → MayAnswer s log who step WasBegun (Same s log)
  pub fails : IsNamed s name → MayAnswer s log who step (Refused DepotFault) (Same s log)

-- there is a blob of the name already
abbrev pub IsThere : Start → List Moment → BlobName → Blobs → Type 0
IsThere s log name blobs = Present (formats_of s) (world_of s log).blobs name × Same s log blobs

-- the blob was added
abbrev pub IsAdded : Start → List Moment → BlobName → Bytes → Blobs → Type 0
IsAdded s log name bytes = Adds (formats_of s) (world_of s log) name bytes

-- the step commits the blob: of a ticket, or of a verification
abbrev pub IsCommit : Step → BlobName → Type 0
IsCommit (CommitStep it) name = it ≡ name
IsCommit (ReadStep (CommitTest it)) name = it ≡ name
IsCommit step name = ⊥

-- a blob of these bytes is committed
pub record MayCommit (s : Start) (log : List Moment) (who : ℕ) (step : Step) (name : BlobName) (bytes : Bytes) : Type 0 where
  pub is : IsCommit step name
  pub stored : name ≢ Latest
  pub commits : IsNamed s name → MayAnswer s log who step WasDone (IsAdded s log name bytes)
  pub finds : IsNamed s name → IsMetadata name → MayAnswer s log who step WasThere (IsThere s log name)
  pub taken : IsNamed s name → (IsMetadata name → ⊥) → MayAnswer s log who step (Refused (NameTaken name)) (IsThere s log name)
  pub fails : IsNamed s name → MayAnswer s log who step (Refused DepotFault) (λ blobs. Same s log blobs ⊎ IsAdded s log name bytes blobs)

-- the blob was put, whether its name was free or taken
abbrev pub IsPut : Start → List Moment → BlobName → Bytes → Blobs → Type 0
IsPut s log name bytes blobs = blobs ≡ fin.insert (world_of s log).blobs ((formats_of s).names.text name) bytes

-- `index.latest` is replaced by one of these bytes
pub record MayReplace (s : Start) (log : List Moment) (who : ℕ) (bytes : Bytes) : Type 0 where
  pub out : (ticket_of s log who).out ≡ true
  pub puts : IsNamed s Latest → MayAnswer s log who LatestStep WasReplaced (IsPut s log Latest bytes)
  pub fails : IsNamed s Latest → MayAnswer s log who LatestStep (Refused DepotFault) (λ blobs. Same s log blobs ⊎ IsPut s log Latest bytes blobs)

-- the blob that is told under the name, if one is
abbrev pub IsFound : Start → List Moment → BlobName → Option Bytes → Blobs → Type 0
IsFound s log name found blobs = (fin.get (world_of s log).blobs ((formats_of s).names.text name) ≡ found) × Same s log blobs

-- the step fetches the blob: of a ticket, of a delete's, or of one that reads
abbrev pub IsFetch : Step → BlobName → Type 0
IsFetch (FetchStep it) name = it ≡ name
IsFetch (PruneStep (FetchShard it)) name = it ≡ name
IsFetch (ReadStep (ReadBlob it)) name = it ≡ name
IsFetch step name = ⊥

-- a blob is fetched
pub record MayFetch (s : Start) (log : List Moment) (who : ℕ) (step : Step) (name : BlobName) : Type 0 where
  pub is : IsFetch step name
  pub fetches : IsNamed s name → MayAnswer s log who step WasFetched (λ blobs. (bytes : Bytes) × IsFound s log name (Some bytes) blobs)
  pub misses : IsNamed s name → MayAnswer s log who step WasAbsent (IsFound s log name None)
  pub fails : IsNamed s name → MayAnswer s log who step (Refused DepotFault) (Same s log)

-- some of these blobs are gone, and nothing else
abbrev pub IsLess : Start → List Moment → List BlobName → Blobs → Type 0
IsLess s log names blobs = Removes (formats_of s) (world_of s log).blobs blobs names

-- all of them are gone
abbrev pub AreGone : Start → List Moment → List BlobName → Blobs → Type 0
AreGone s log names blobs = IsLess s log names blobs × ((name : BlobName) → Has names name → fin.get blobs ((formats_of s).names.text name) ≡ None)

-- the step removes these blobs: test blobs, or what a delete doomed
abbrev pub IsRemoval : Step → List BlobName → Type 0
IsRemoval (ReadStep (RemoveTests it)) names = it ≡ names
IsRemoval (PruneStep (RemoveDoomed it)) names = it ≡ names
IsRemoval step names = ⊥

-- blobs are removed
pub record MayRemove (s : Start) (log : List Moment) (who : ℕ) (step : Step) (names : List BlobName) : Type 0 where
  pub is : IsRemoval step names
  pub removes : MayAnswer s log who step WasRemoved (AreGone s log names)
  pub fails : MayAnswer s log who step (Refused DepotFault) (IsLess s log names)
