-- Histories that ask nothing of sources and digests, and images that are whole by their digests.
use Rattle.std.specs.Prelude.{◌≡◌, ℕ, Bool, List, Option, Some, None}
use Rattle.std.specs.Ordering.{nat_cmp}
use Rattle.std.specs.FinMap.{FinMap}
use Rattle.std.specs.FinMap as fin
use Rattle.esr_model.specs.Values.{Bytes, Has, Formats}
use Rattle.esr_model.specs.Image.{Image}
use Rattle.esr_core.specs.World.{Op}
use Rattle.esr_core.specs.Entry.{AsksNoSnapshot, Moment}
use Rattle.esr_core.specs.Allowed.{IsWhole}
use Rattle.esr_core.specs.Left.{safe_in}

-- no step of the caller asks for a snapshot
abbrev pub AskNoSnapshot : List Moment → Type 0
AskNoSnapshot log = (m : Moment) → Has log m → m.entry.who ≡ 0 → AsksNoSnapshot m.entry.step

-- each of these ops copies a snapshot
abbrev pub AreClones : FinMap nat_cmp Op → Type 0
AreClones ops = (o : ℕ) (op : Op) → fin.get ops o ≡ Some op → op.source ≡ None → ⊥

-- The safe root of the image is whole by its digests: it is there with all that it reaches, no two of these blobs disagree, and the
-- parts of each file have the length and the digest that its entry states.
abbrev pub IsWholeByDigests : Formats → Image → Type 0
IsWholeByDigests f i = IsWhole f i.blobs (safe_in f i)

-- the same texts and digests, of sources that tell these files
abbrev pub retold : Formats → (Bytes → Bytes → ℕ → Bool) → (Bytes → Bytes → ℕ → Option (List (Bytes × Bytes))) → Formats
retold f known told = record f { known = known; told = told }
