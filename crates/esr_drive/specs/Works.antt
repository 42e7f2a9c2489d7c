-- What the work adds to a history.
use Rattle.std.specs.Prelude.{◌≡◌, ◌≢◌, ◌⊎◌, List, [], ◌∷◌, ◌++◌}
use Rattle.esr_core.specs.Entry.{TakeStep, Moment}

-- a step of a ticket, or a take
abbrev pub IsWork : Moment → Type 0
IsWork m = (m.entry.who ≢ 0) ⊎ (m.entry.step ≡ TakeStep)

abbrev pub AllWork : List Moment → Type 0
AllWork [] = Unit {0}
AllWork (m ∷ more) = IsWork m × AllWork more

-- it has gone on by these alone
pub record WorksOnly (old new : List Moment) : Type 0 where
  pub more : List Moment
  pub is : new ≡ old ++ more
  pub all : AllWork more
