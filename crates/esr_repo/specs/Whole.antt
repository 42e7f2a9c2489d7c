-- A repository at any time: a container beside its legal history, and what it shows of the past.
use Rattle.std.specs.Prelude.{ℕ, List, Option}
use Rattle.esr_core.specs.Entry.{Entry}
use Rattle.esr_depot.specs.Image.{Image as Held}
use Rattle.esr_depot.specs.Look.{Look}
use Rattle.esr_desk.specs.Start.{Start}
use Rattle.esr_repo.specs.Repo.{Kept, IsRepo}
use Rattle.esr_repo.specs.Past.{IsPast}

pub record IsWhole (l : Look) (s : Start) (clock : ℕ) (earlier : ℕ → Held → Type 0) (es : List Entry) (k : Kept) (deposed : Option ℕ) : Type 0 where
  pub repo : IsRepo l s clock es k deposed
  pub past : IsPast s clock earlier l es
