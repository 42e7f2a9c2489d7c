-- What a cleanup that comes to its end leaves: what the safe root reaches, and `index.latest`.
use Rattle.std.specs.Prelude.{◌≡◌, ◌⊎◌, ℕ, List, [], ◌∷◌, Some, None}
use Rattle.std.specs.FinMap as fin
use Rattle.esr_model.specs.Names.{BlobName, Latest, ShardIndex}
use Rattle.esr_model.specs.Values.{Bytes, Has, RootSnap, SnapList, ShardFiles, ReadsBack, Formats}
use Rattle.esr_model.specs.Image.{At, Reads, Generation}
use Rattle.esr_model.specs.Cleanup.{BlobSize}
use Rattle.esr_core.specs.World.{World}
use Rattle.esr_core.specs.Entry.{CommitTest, RemoveTests, RemoveDoomed, Step, CommitStep, LatestStep, ListStep, DroppedStep, ReadStep, PruneStep, WasListed, HasEnded, Moment}
use Rattle.esr_core.specs.Allowed.{InReach}

-- The container holds nothing but the safe root, what it reaches, and `index.latest`. That all of it is there which the safe root's
-- snapshots need, each image of a history has, cleanup or not.
abbrev pub HoldsReachAlone : Formats → World → Type 0
HoldsReachAlone f w = (text bytes : Bytes) → fin.get w.blobs text ≡ Some bytes → (name : BlobName) × (f.names.text name ≡ text) × ReadsBack f.names name × ((name ≡ Latest) ⊎ InReach f w name)

-- the indices of the safe root's shards list listed snapshots alone
abbrev pub ListsListedAlone : Formats → World → Type 0
ListsListedAlone f w = (index shard generation : ℕ) → Generation w.root index shard generation → (held : ShardFiles) → Reads (At f w.blobs) (ShardIndex index shard generation) f.shard_index held
    → (l : SnapList) → Has held.snapshots l → (s : RootSnap) × Has w.root.snapshots s × (s.uuid ≡ l.uuid)

-- a commit of a test blob, by who 0
abbrev pub IsTestCommit : Step → Type 0
IsTestCommit (ReadStep (CommitTest name)) = Unit {0}
IsTestCommit step = ⊥

-- a step that may change the blobs: a commit, a replacement of `index.latest`, a removal
abbrev pub ChangesBlobs : Step → Type 0
ChangesBlobs (CommitStep name) = Unit {0}
ChangesBlobs LatestStep = Unit {0}
ChangesBlobs (PruneStep (RemoveDoomed names)) = Unit {0}
ChangesBlobs (ReadStep (CommitTest name)) = Unit {0}
ChangesBlobs (ReadStep (RemoveTests names)) = Unit {0}
ChangesBlobs step = ⊥

-- none of the moments is such a step
abbrev pub NoneOf : (Step → Type 0) → List Moment → Type 0
NoneOf kind [] = Unit {0}
NoneOf kind (m ∷ log) = (kind m.entry.step → ⊥) × NoneOf kind log

-- the first page of a listing was told to this ticket
pub record IsFirstPage (m : Moment) (k : ℕ) : Type 0 where
  pub who : m.entry.who ≡ k
  pub step : m.entry.step ≡ ListStep None
  pub page : List BlobSize
  pub reply : m.entry.reply ≡ WasListed page

-- the op of this ticket left the record
pub record IsLastDrop (m : Moment) (k : ℕ) : Type 0 where
  pub who : m.entry.who ≡ k
  pub step : m.entry.step ≡ DroppedStep
  pub reply : m.entry.reply ≡ HasEnded
