-- Histories with their images: which are legal, and which commands count.
use Rattle.std.specs.Prelude.{◌≡◌, ℕ, ◌≤◌, Bool, true, false, nat_lt, ◌&&◌, length, if◌then◌else◌, List, [], ◌∷◌, ◌++◌, Option, Some, None}
use Rattle.std.specs.FinMap as fin
use Rattle.esr_model.specs.Values.{Bytes, Has, FileEntry, Formats, files_told}
use Rattle.esr_model.specs.Shelf.{Command}
use Rattle.esr_model.specs.Image.{Image, Blobs, At, FileStands}
use Rattle.esr_core.specs.World.{World, Shard, Ticket, Swap, swap}
use Rattle.esr_core.specs.Entry.{Step, SettleStep, SettlePruned, PruneStep, DepotFault, Reply, WasSettled, Refused, Moment}
use Rattle.esr_core.specs.After.{after}
use Rattle.esr_core.specs.Allowed.{Allowed}

-- the world after a list of moments
abbrev pub world_from : Formats → World → List Moment → World
world_from f w [] = w
world_from f w (m ∷ log) = world_from f (after f w m) log

-- each moment is a step from the world that the one before left
abbrev pub IsLegal : Formats → ℕ → World → List Moment → Type 0
IsLegal f part_size w [] = Unit {0}
IsLegal f part_size w (m ∷ log) = Allowed f part_size w m × IsLegal f part_size (after f w m) log

-- ---- the commands that count

-- the settle of a swap: it counts where it was answered Ok or its call failed
abbrev pub counts : Reply → Bool
counts WasSettled = true
counts (Refused DepotFault) = true
counts reply = false

-- the command of a ticket whose root has this number, where the image's safe root is not below it
abbrev pub command_by : ℕ → Option Swap → Option ℕ → List Command
command_by safe (Some s) (Some n) = if nat_lt n safe then s.commands else []
command_by safe (Some s) None = []
command_by safe None n = []

abbrev pub command_of : Formats → ℕ → Option Ticket → List Command
command_of f safe None = []
command_of f safe (Some t) = command_by safe (swap f t) t.raised

abbrev pub is_settle : Step → Bool
is_settle SettleStep = true
is_settle (PruneStep SettlePruned) = true
is_settle step = false

abbrev pub commands_at : Formats → ℕ → World → ℕ → Step → Reply → List Command
commands_at f safe w who step reply = if counts reply && is_settle step then command_of f safe (fin.get w.tickets who) else []

-- the commands that count in an image with this many roots up to the safe one
abbrev pub committed : Formats → ℕ → World → List Moment → List Command
committed f safe w [] = []
committed f safe w (m ∷ log) = commands_at f safe w m.entry.who m.entry.step m.entry.reply ++ committed f safe (after f w m) log

-- ---- honest digests

-- a file of the sources and one that stands in the container have equal bytes where they have equal length and digest
abbrev pub IsHonest : Formats → Blobs → Type 0
IsHonest f blobs = (place name : Bytes) (number : ℕ) (file : Bytes × Bytes) (i k : ℕ) (e : FileEntry) (bytes : Bytes) → Has (files_told f place name number) file → FileStands f (At f blobs) i k e bytes
    → length bytes ≡ length file.1 → f.digest bytes ≡ f.digest file.1 → bytes ≡ file.1

-- the sources tell the files of each shard that a ticket has
abbrev pub TellsShards : Formats → World → Type 0
TellsShards f w = (k : ℕ) (t : Ticket) (index number : ℕ) → fin.get w.tickets k ≡ Some t → t.out ≡ true → t.work ≡ Shard index number → t.source ≡ None → f.known t.place t.name number ≡ true

-- they tell each shard that the history hands out
abbrev pub TellsHandedOut : Formats → World → List Moment → Type 0
TellsHandedOut f w [] = TellsShards f w
TellsHandedOut f w (m ∷ log) = TellsShards f w × TellsHandedOut f (after f w m) log

-- the sources tell all files
abbrev pub AllKnown : Formats → Type 0
AllKnown f = (place name : Bytes) (number : ℕ) → f.known place name number ≡ true

-- the container tells its image at each moment
abbrev pub AreTold : List Moment → Type 0
AreTold [] = Unit {0}
AreTold (m ∷ log) = ((image : Image) × (m.image ≡ Some image)) × AreTold log

-- between two worlds of a history `safe` doesn't fall; from a deposed one on it stays
pub record Lasts (f : Formats) (w last : World) : Type 0 where
  pub rises : w.safe ≤ last.safe
  pub alone : w.deposed ≡ true → last.safe ≡ w.safe
