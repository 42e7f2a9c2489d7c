-- How a verification ends well.
use Rattle.std.specs.Prelude.{◌≡◌, ℕ, true, List, [], ◌∷◌, ◌++◌, Option}
use Rattle.esr_model.specs.Names.{BlobName}
use Rattle.esr_model.specs.Image.{Image}
use Rattle.esr_model.specs.Values.{Has}
use Rattle.esr_core.specs.World.{no_caller}
use Rattle.esr_core.specs.Restores.{WasRead}
use Rattle.esr_core.specs.Entry.{Moment, ReadStep, VerifiedAll, HasEnded}
use Rattle.esr_names.specs.IdText.{id_text}
use Rattle.esr_desk.specs.Start.{Start}
use Rattle.esr_desk.specs.Own.{caller_of}
use Rattle.esr_verify.specs.Steps.{Answered, test_names, verification}

-- these moments are these steps of who 0, with these answers
abbrev pub Are : List Moment → List Answered → Type 0
Are [] [] = Unit {0}
Are [] (a ∷ more) = ⊥
Are (m ∷ moments) [] = ⊥
Are (m ∷ moments) (a ∷ more) = (m.entry ≡ record { who = 0; step = a.step; reply = a.reply }) × Are moments more

-- The history went on by a verification of so many workers, under an id that it drew. Where the container tells its contents,
-- each test blob was read back as the text of the id.
pub record HasVerified (s : Start) (old new : List Moment) (workers : ℕ) : Type 0 where
  pub id : ℕ
  pub moments : List Moment
  pub is : new ≡ old ++ moments
  pub are : Are moments (verification id (test_names id workers))
  -- the history before its last step
  pub front : List Moment
  pub image : Option Image
  pub last : new ≡ front ++ record { entry = record { who = 0; step = ReadStep VerifiedAll; reply = HasEnded }; image = image } ∷ []
  pub read : (name : BlobName) → Has (test_names id workers) name → s.tells ≡ true → WasRead (caller_of s front).read name (id_text id)
  pub closed : caller_of s new ≡ no_caller
