-- What a cleanup that came to its end leaves.
use Rattle.esr_model.specs.Values.{Formats}
use Rattle.esr_core.specs.World.{World}
use Rattle.esr_core.specs.Cleaned.{HoldsReachAlone, ListsListedAlone}
use Rattle.esr_law.specs.Latest.{HasLatest}
use Rattle.esr_law.specs.Reach.{RefusesUnlisted, HoldsListedReach, HoldsReach}

-- The container holds exactly what the safe root reaches, and `index.latest` with its number; the indices of its shards list listed
-- snapshots alone.
pub record HoldsExactly (f : Formats) (w : World) : Type 0 where
  pub alone : HoldsReachAlone f w
  pub listed : ListsListedAlone f w
  pub latest : HasLatest f w
  -- all that it reaches, where the indices of what reads as a root have no other snapshots than it lists
  pub present : HoldsListedReach f w
  pub all : RefusesUnlisted f → HoldsReach f w
