-- What a repository keeps of the container's failures, at any time.
use Rattle.std.specs.Prelude.{◌≡◌, ℕ, List, Option, Some}
use Rattle.esr_core.specs.Entry.{Entry}
use Rattle.esr_repo.specs.Counted.{IsCounted}
use Rattle.esr_repo.specs.Deposed.{FailedSwap, AreDeposedSo}

-- the container counted each failure that the history tells, and each refusal as deposed names the record swap that failed
pub record IsKeptOfFaults (start now : ℕ) (es : List Entry) (deposed : Option ℕ) : Type 0 where
  pub counted : IsCounted start now es
  pub named : AreDeposedSo es
  -- the place that is kept is that of such a swap
  pub fallen : (place : ℕ) → deposed ≡ Some place → FailedSwap es place
