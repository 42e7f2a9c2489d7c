-- The last entry of a history.
use Rattle.std.specs.Prelude.{◌≡◌, ℕ, List, [], ◌∷◌, ◌++◌, Option}
use Rattle.esr_model.specs.Image.{Image}
use Rattle.esr_core.specs.Entry.{Step, Reply, Moment}

-- it is this step of the ticket
pub record IsLast (log : List Moment) (who : ℕ) (step : Step) (reply : Reply) : Type 0 where
  pub front : List Moment
  pub image : Option Image
  pub is : log ≡ front ++ record { entry = record { who = who; step = step; reply = reply }; image = image } ∷ []
