-- The images that a crash might leave over a history.
use Rattle.std.specs.Prelude.{◌≡◌, ◌⊎◌, ℕ, List, [], ◌∷◌, Option, Some, None}
use Rattle.esr_model.specs.Values.{Bytes, ClusterRecord, Formats}
use Rattle.esr_model.specs.Image.{Image}
use Rattle.esr_core.specs.World.{World, image_of}
use Rattle.esr_core.specs.Entry.{DepotFault, Refused, Moment}
use Rattle.esr_core.specs.After.{after}
use Rattle.esr_core.specs.Allowed.{Allowed}

-- the same step where its call of the container fails and leaves this image
abbrev pub cut_off : Moment → Image → Moment
cut_off m i = record { entry = record m.entry { reply = Refused DepotFault }; image = Some i }

-- a crash leaves the image of the world, or what the next call may leave where it fails, or what a crash leaves later
abbrev pub Leaves : Formats → ℕ → World → List Moment → Image → Type 0
Leaves f part_size w [] i = i ≡ image_of f w
Leaves f part_size w (m ∷ log) i = (i ≡ image_of f w) ⊎ (Allowed f part_size w (cut_off m i) ⊎ Leaves f part_size (after f w m) log i)

-- ---- how many roots there are up to the safe one

-- by a record, where there is one
abbrev pub safe_of : Option ClusterRecord → ℕ
safe_of None = 0
safe_of (Some cluster) = cluster.ledger.safe

-- by the text of a record, where there is one and it reads
abbrev pub safe_by : Formats → Option Bytes → ℕ
safe_by f None = 0
safe_by f (Some text) = safe_of (f.cluster.read text)

-- by an image
abbrev pub safe_in : Formats → Image → ℕ
safe_in f i = safe_by f i.text
