-- That no name was taken.
use Rattle.std.specs.Prelude.{◌≡◌, ◌≢◌, ℕ, List}
use Rattle.esr_model.specs.Names.{BlobName}
use Rattle.esr_model.specs.Values.{Has}
use Rattle.esr_core.specs.Entry.{CommitStep, DepotFault, NameTaken, Reply, WasDone, Refused, Moment}

-- a commit that was answered so may have left its blob
abbrev pub MayLeave : Reply → Type 0
MayLeave WasDone = Unit {0}
MayLeave (Refused DepotFault) = Unit {0}
MayLeave reply = ⊥

-- a commit of this name by this ticket was answered so
pub record WasTried (log : List Moment) (k : ℕ) (name : BlobName) : Type 0 where
  pub moment : Moment
  pub there : Has log moment
  pub of : moment.entry.who ≡ k
  pub step : moment.entry.step ≡ CommitStep name
  pub left : MayLeave moment.entry.reply

-- no commit of a ticket was refused since its name was taken
abbrev pub NoneTaken : List Moment → Type 0
NoneTaken log = (m : Moment) (name : BlobName) → Has log m → m.entry.step ≡ CommitStep name → m.entry.reply ≢ Refused (NameTaken name)
