-- How a check ends well.
use Rattle.std.specs.Prelude.{◌≡◌, ◌↔◌, ℕ, true, List, [], ◌∷◌, ◌++◌, length, ℤ, pos, negsuc, Option, Some, None}
use Rattle.esr_model.specs.Names.{BlobName}
use Rattle.esr_model.specs.Values.{Has}
use Rattle.esr_model.specs.Image.{Image}
use Rattle.esr_core.specs.World.{no_caller}
use Rattle.esr_core.specs.Restores.{AreOnce}
use Rattle.esr_core.specs.Allowed.{InReach, IsWhole, CheckedBy}
use Rattle.esr_core.specs.Entry.{LookStep, ReadStep, ReadBlob, CheckedAll, Looked, WasFetched, HasEnded, Moment}
use Rattle.esr_desk.specs.Start.{Start, formats_of, world_of}
use Rattle.esr_desk.specs.Own.{caller_of}

-- the last of so many roots up to the safe one, if there is any
abbrev pub last_root : ℤ → Option ℕ
last_root (pos n) = Some n
last_root (negsuc n) = None

-- these moments are fetches of who 0, of these blobs one after another, each of which was there
abbrev pub AreFetched : List Moment → List BlobName → Type 0
AreFetched [] [] = Unit {0}
AreFetched [] (name ∷ names) = ⊥
AreFetched (m ∷ moments) [] = ⊥
AreFetched (m ∷ moments) (name ∷ names) = (m.entry ≡ record { who = 0; step = ReadStep (ReadBlob name); reply = WasFetched }) × AreFetched moments names

-- The history went on by a look, fetches of so many blobs, no two of one name, and the end of the check. Where the container tells,
-- these are exactly the safe root and what it reaches, and the root is whole.
pub record HasChecked (s : Start) (old new : List Moment) (snapshots blobs : ℕ) : Type 0 where
  pub look : Option Image
  pub fetches : List Moment
  pub end : Option Image
  pub is : new ≡ old ++ record { entry = record { who = 0; step = LookStep; reply = Looked (world_of s old).root.snapshots (world_of s old).safe }; image = look }
      ∷ fetches ++ record { entry = record { who = 0; step = ReadStep (CheckedAll snapshots blobs); reply = HasEnded }; image = end } ∷ []
  pub names : List BlobName
  pub are : AreFetched fetches names
  pub once : AreOnce names
  -- without a root there is nothing to fetch
  pub rootless : (world_of s old).safe ≡ 0 → names ≡ []
  pub snapshots_is : snapshots ≡ length (world_of s old).root.snapshots
  pub blobs_is : blobs ≡ length names
  pub reached : s.tells ≡ true → (name : BlobName) → Has names name ↔ InReach (formats_of s) (world_of s new) name
  pub whole : s.tells ≡ true → IsWhole (formats_of s) (world_of s new).blobs (world_of s new).safe
  pub closed : caller_of s new ≡ no_caller

-- a check has read all: where the container tells, it has read the safe root and what that reaches, and nothing else, and the root is whole
abbrev pub HasReadAll : Start → List Moment → Type 0
HasReadAll s log = s.tells ≡ true → CheckedBy (formats_of s) (world_of s log)
