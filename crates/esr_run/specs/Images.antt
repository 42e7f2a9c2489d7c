-- The images of a run: all that a crash at any moment since its entry might have left.
use Rattle.std.specs.Prelude.{◌≡◌, ◌⊎◌, ℕ, suc, ◌≤◌, List, [], ◌∷◌, ◌++◌, Some}
use Rattle.std.specs.FinMap as fin
use Rattle.esr_model.specs.Values.{Formats}
use Rattle.esr_model.specs.Shelf.{Shelved, shelf_after}
use Rattle.esr_model.specs.Kept.{Kept}
use Rattle.esr_core.specs.World.{World, Ticket}
use Rattle.esr_core.specs.Entry.{Entry, SettlePruned, SettleStep, PruneStep, WasSettled, Moment}
use Rattle.esr_core.specs.History.{TellsHandedOut, committed}
use Rattle.esr_core.specs.Left.{safe_in}
use Rattle.esr_core.specs.Sources.{HonestUploads, AreOfSources, AreOfOps}
use Rattle.esr_law.specs.Digests.{IsWholeByDigests}
use Rattle.esr_depot.specs.Image.{Image as Held}
use Rattle.esr_depot.specs.Look.{Look, now}
use Rattle.esr_desk.specs.Start.{Start, formats_of, world_of}
use Rattle.esr_repo.specs.Log.{image_of, ticks, log_of}

-- a container that tells its image, which is kept for this shelf: nothing was written yet, or a run or a crash in it left it
pub record Holds (f : Formats) (l : Look) (shelf : List Shelved) : Type 0 where
  pub image : Held
  pub told : now l ≡ Some image
  pub kept : Kept f (image_of image) shelf

-- the sources tell each shard that the run handed out, and while one is out what they tell and what stands in the container have
-- equal bytes where they have equal length and digest
pub record TellsWork (f : Formats) (world : World) (log : List Moment) : Type 0 where
  pub known : TellsHandedOut f world log
  pub honest : HonestUploads f world log

-- no command was carried out: each image since the entry is kept for the shelf of the entry
abbrev pub StaysKept : Formats → Look → Look → Type 0
StaysKept f before after = (shelf : List Shelved) → Holds f before shelf → (i : Held) → after.since before.clock i → Kept f (image_of i) shelf

-- each image since the entry is kept for the shelf of the entry with the commands that count in that image; a snapshot among these
-- has the files as they are stored
abbrev pub EveryImageKept : Formats → World → List Moment → Look → Look → Type 0
EveryImageKept f world log before after =
    (shelf : List Shelved) → Holds f before shelf → (i : Held) → after.since before.clock i
    → Kept f (image_of i) (shelf_after shelf (committed f (safe_in f (image_of i)) world log))

-- the safe root of each image since the entry is whole by its digests
abbrev pub EveryImageWhole : Formats → Look → Look → Type 0
EveryImageWhole f before after = (shelf : List Shelved) → Holds f before shelf → (i : Held) → after.since before.clock i → IsWholeByDigests f (image_of i)

-- Each finalization that was given makes a snapshot of the files that the sources tell; and each snapshot among the commands that
-- count, in whatever image, is that of an op of the run, with exactly these files.
pub record AreOfTheirSources (f : Formats) (world : World) (log : List Moment) : Type 0 where
  pub given : AreOfSources f world log
  pub counted : AreOfOps f world log

abbrev pub SnapshotsOfSources : Formats → World → List Moment → Look → Type 0
SnapshotsOfSources f world log before = (shelf : List Shelved) → Holds f before shelf → TellsWork f world log → AreOfTheirSources f world log

-- in this world the entry is a settle that was answered, of a finalization's or a delete's ticket that had raised that root
pub record Settles (world : World) (e : Entry) (n : ℕ) : Type 0 where
  pub step : (e.step ≡ SettleStep) ⊎ (e.step ≡ PruneStep SettlePruned)
  pub answered : e.reply ≡ WasSettled
  pub ticket : Ticket
  pub there : fin.get world.tickets e.who ≡ Some ticket
  pub raised : ticket.raised ≡ Some n

-- a settle that was answered stays: in each image since its moment its root is the safe one, or lies below it
abbrev pub AnsweredStay : Start → ℕ → List Entry → Look → Type 0
AnsweredStay s clock history after =
    (front back : List Entry) (e : Entry) (n : ℕ) → history ≡ front ++ e ∷ back → Settles (world_of s (log_of after clock front)) e n
    → (i : Held) → after.since (ticks clock (front ++ e ∷ [])) i → suc n ≤ safe_in (formats_of s) (image_of i)
