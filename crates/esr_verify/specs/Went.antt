-- How far the history of a verification has gone.
use Rattle.std.specs.Prelude.{◌≡◌, ℕ, false, List, ◌∷◌, ◌++◌, Option, Some}
use Rattle.esr_model.specs.Image.{Image}
use Rattle.esr_core.specs.Entry.{Moment, ReadStep, DrawTest, DrawnFrom}
use Rattle.esr_desk.specs.Start.{Start, Legal, world_of}
use Rattle.esr_desk.specs.Own.{caller_of}
use Rattle.esr_verify.specs.Steps.{Answered}
use Rattle.esr_verify.specs.Verified.{Are}
use Rattle.esr_verify.specs.Began.{AllFurther, NoneVerified}

-- it has gone on by these steps of who 0, with these answers
pub record Went (old new : List Moment) (steps : List Answered) : Type 0 where
  pub moments : List Moment
  pub is : new ≡ old ++ moments
  pub are : Are moments steps

-- no record swap has failed that deposed the world
abbrev pub IsAlive : Start → List Moment → Type 0
IsAlive s log = (world_of s log).deposed ≡ false

-- it has gone on by legal steps, each a further one of a verification
pub record GrewFurther (s : Start) (old new : List Moment) : Type 0 where
  pub more : List Moment
  pub is : new ≡ old ++ more
  pub legal : Legal s old → Legal s new
  pub all : AllFurther more

-- who 0 drew the id, and its verification is open, in a world that isn't deposed
pub record Drew (s : Start) (log : List Moment) (id : ℕ) : Type 0 where
  pub before : List Moment
  pub image : Option Image
  pub between : List Moment
  pub is : log ≡ before ++ record { entry = record { who = 0; step = ReadStep DrawTest; reply = DrawnFrom id }; image = image } ∷ between
  pub is_open : (caller_of s log).drawn ≡ Some id
  pub alive : IsAlive s log

-- it has gone on, and the verification is still open; none ended well meanwhile
pub record Kept (s : Start) (old new : List Moment) (id : ℕ) : Type 0 where
  pub grew : GrewFurther s old new
  pub drew : Drew s new id
  pub unverified : NoneVerified old new
