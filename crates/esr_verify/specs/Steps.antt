-- The steps of a verification that goes well, with what each was answered.
use Rattle.std.specs.Prelude.{ℕ, zero, suc, List, [], ◌∷◌, ◌++◌, map}
use Rattle.esr_model.specs.Names.{BlobName, TestMaster, TestNode}
use Rattle.esr_core.specs.Entry.{Step, Reply, ReadStep, ReadBlob, DrawTest, BeginTest, CommitTest, RemoveTests, VerifiedAll, DrawnFrom, WasBegun, WasDone, WasFetched, WasRemoved, HasEnded}

-- a step, and its answer
pub record Answered : Type 0 where
  pub step : Step
  pub reply : Reply

-- the test blobs of so many workers, from this one on
abbrev pub node_names : ℕ → ℕ → ℕ → List BlobName
node_names id first zero = []
node_names id first (suc count) = TestNode id first ∷ node_names id (suc first) count

-- the test blobs under an id: the master's, and one for each worker from 0
abbrev pub test_names : ℕ → ℕ → List BlobName
test_names id workers = TestMaster id ∷ node_names id 0 workers

-- each is begun and committed
abbrev pub writing : List BlobName → List Answered
writing [] = []
writing (name ∷ names) = record { step = ReadStep (BeginTest name); reply = WasBegun } ∷ record { step = ReadStep (CommitTest name); reply = WasDone } ∷ writing names

-- and is there
abbrev pub reading : List BlobName → List Answered
reading names = map (λ name. record { step = ReadStep (ReadBlob name); reply = WasFetched }) names

-- An id is drawn; each test blob is written, then each is read, then all are removed at once.
abbrev pub verification : ℕ → List BlobName → List Answered
verification id names =
    record { step = ReadStep DrawTest; reply = DrawnFrom id } ∷ writing names
    ++ reading names
    ++ record { step = ReadStep (RemoveTests names); reply = WasRemoved } ∷ record { step = ReadStep VerifiedAll; reply = HasEnded } ∷ []
