-- The ticket of a cleanup in a history: where it was given, and where its listing began.
use Rattle.std.specs.Prelude.{◌≡◌, ℕ, List, ◌∷◌, ◌++◌}
use Rattle.esr_model.specs.Values.{Has}
use Rattle.esr_core.specs.Entry.{GivenCleanup, Gave, Moment}
use Rattle.esr_core.specs.Cleaned.{IsFirstPage, IsLastDrop}

-- the ticket was given at this moment, for a cleanup
pub record IsGivenCleanup (m : Moment) (k : ℕ) : Type 0 where
  pub op : ℕ
  pub reply : m.entry.reply ≡ Gave k op GivenCleanup

-- among the moments the ticket was told its first page; what came before it, and after
pub record HasFirstPage (log : List Moment) (k : ℕ) : Type 0 where
  pub front : List Moment
  pub first : Moment
  pub back : List Moment
  pub is : log ≡ front ++ first ∷ back
  pub page : IsFirstPage first k

-- a cleanup that came to its end with the last moment: its ticket was given before
pub record IsEndedCleanup (before : List Moment) (last : Moment) (k : ℕ) : Type 0 where
  pub given : Moment
  pub there : Has before given
  pub gives : IsGivenCleanup given k
  pub drop : IsLastDrop last k
