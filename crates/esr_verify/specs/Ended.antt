-- A verification that ended well.
use Rattle.std.specs.Prelude.{◌≡◌, ℕ, true, List, [], ◌∷◌, ◌++◌, Option}
use Rattle.esr_model.specs.Names.{BlobName}
use Rattle.esr_model.specs.Image.{Image}
use Rattle.esr_model.specs.Values.{Has}
use Rattle.esr_core.specs.World.{no_caller}
use Rattle.esr_core.specs.Restores.{WasRead}
use Rattle.esr_core.specs.Entry.{Moment, ReadStep, RemoveTests, VerifiedAll, WasRemoved, HasEnded}
use Rattle.esr_names.specs.IdText.{id_text}
use Rattle.esr_desk.specs.Start.{Start}
use Rattle.esr_desk.specs.Own.{caller_of}
use Rattle.esr_verify.specs.Steps.{Answered}
use Rattle.esr_verify.specs.Went.{Went}

-- the test blobs are removed, and it ends
abbrev pub ending : List BlobName → List Answered
ending names = record { step = ReadStep (RemoveTests names); reply = WasRemoved } ∷ record { step = ReadStep VerifiedAll; reply = HasEnded } ∷ []

-- The history went on by these steps, of which the last ended it. Where the container tells, each of these test blobs had been
-- read as the text of the id.
pub record Ended (s : Start) (old new : List Moment) (id : ℕ) (names : List BlobName) (steps : List Answered) : Type 0 where
  pub went : Went old new steps
  pub front : List Moment
  pub image : Option Image
  pub last : new ≡ front ++ record { entry = record { who = 0; step = ReadStep VerifiedAll; reply = HasEnded }; image = image } ∷ []
  pub read : (name : BlobName) → Has names name → s.tells ≡ true → WasRead (caller_of s front).read name (id_text id)
  pub closed : caller_of s new ≡ no_caller
