-- What who 0 has made since it began anew, as the world tells it.
use Rattle.std.specs.Prelude.{◌≡◌, ◌⊎◌, ℕ, true, None}
use Rattle.esr_model.specs.Names.{BlobName}
use Rattle.esr_model.specs.Values.{Has}
use Rattle.esr_core.specs.World.{World, Caller}
use Rattle.esr_core.specs.Restores.{IsTestOf}
use Rattle.esr_core.specs.Entry.{Read, ReadBlob, DrawTest, BeginTest, CommitTest, RemoveTests, Step, ReadStep, Entry}
use Rattle.esr_core.specs.Past.{entries_by}

-- an id was drawn
abbrev pub HasDrawn : Caller → Type 0
HasDrawn c = c.drawn ≡ None → ⊥

-- a draw is told by its id, or since there was none left; test blobs by the id that they are under, also where one is fetched
abbrev pub TellsRead : Caller → Read → Type 0
TellsRead c DrawTest = HasDrawn c ⊎ (c.spent ≡ true)
TellsRead c (BeginTest name) = HasDrawn c
TellsRead c (CommitTest name) = HasDrawn c
TellsRead c (RemoveTests names) = (name : BlobName) → Has names name → HasDrawn c
TellsRead c (ReadBlob name) = (id : ℕ) → IsTestOf id name → HasDrawn c
TellsRead c read = Unit {0}

abbrev pub TellsStep : Caller → Step → Type 0
TellsStep c (ReadStep read) = TellsRead c read
TellsStep c step = Unit {0}

-- who 0 fetches a test blob only where an id was drawn
abbrev pub ReadsOwn : Caller → ℕ → Step → Type 0
ReadsOwn c who (ReadStep (ReadBlob name)) = who ≡ 0 → TellsRead c (ReadBlob name)
ReadsOwn c who step = Unit {0}

-- so are all the steps that it has made, and what it has committed
pub record TellsClient (w : World) : Type 0 where
  pub made : (e : Entry) → Has (entries_by w.entries 0) e → TellsStep w.caller e.step
  pub committed : (name : BlobName) → Has w.caller.committed name → HasDrawn w.caller
