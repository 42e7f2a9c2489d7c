-- That test blobs are written as they are to be.
use Rattle.std.specs.Prelude.{◌≡◌, ℕ, List, [], ◌∷◌, ◌++◌, Some}
use Rattle.esr_model.specs.Names.{BlobName}
use Rattle.esr_model.specs.Values.{Has}
use Rattle.esr_core.specs.Entry.{CommitTest, ReadStep, WasDone, Moment}
use Rattle.esr_core.specs.After.{caller_wrote}
use Rattle.esr_names.specs.IdText.{id_text}
use Rattle.esr_desk.specs.Start.{Start, told_bytes}
use Rattle.esr_desk.specs.Own.{caller_of}

-- The test blob is committed under a name under which none was yet; if it was added, it holds the text of the id that was drawn.
pub record IsTested (s : Start) (front : List Moment) (m : Moment) (name : BlobName) : Type 0 where
  pub once : Has (caller_of s front).committed name → ⊥
  pub id : ℕ
  pub drawn : (caller_of s front).drawn ≡ Some id
  pub wrote : m.entry.reply ≡ WasDone → caller_of s (front ++ m ∷ []) ≡ caller_wrote (caller_of s front) name (told_bytes s (id_text id))

-- so is each that a history commits
abbrev pub AreTested : Start → List Moment → Type 0
AreTested s log = (front back : List Moment) (m : Moment) (name : BlobName) → log ≡ front ++ m ∷ back → m.entry.step ≡ ReadStep (CommitTest name) → IsTested s front m name
