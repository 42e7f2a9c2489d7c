-- What a cleanup that comes to its end leaves in the container.
use Rattle.std.specs.Prelude.{◌≡◌, ℕ, List, ◌∷◌, ◌++◌}
use Rattle.esr_model.specs.Values.{Formats}
use Rattle.esr_model.specs.Image.{Image}
use Rattle.esr_model.specs.Shelf.{Shelved}
use Rattle.esr_model.specs.Kept.{Kept}
use Rattle.esr_core.specs.World.{World, Opened}
use Rattle.esr_core.specs.Entry.{Moment}
use Rattle.esr_core.specs.History.{world_from, IsLegal, AreTold}
use Rattle.esr_core.specs.Tracked.{Tracked}
use Rattle.esr_core.specs.Cleaned.{HoldsReachAlone, ListsListedAlone, IsTestCommit, ChangesBlobs, NoneOf}
use Rattle.esr_law.specs.Cleanups.{HasFirstPage, IsEndedCleanup}
use Rattle.esr_law.specs.Latest.{HasLatest}
use Rattle.esr_law.specs.Reach.{HoldsReach}
use Rattle.esr_law.specs.Exact.{HoldsExactly}
use Rattle.esr_depot.specs.Look.{Look}
use Rattle.esr_run.specs.Images.{Holds}

-- the container holds exactly the safe root, all that it reaches, and `index.latest` with its number; and the indices of its shards
-- list listed snapshots alone
pub record IsCleaned (f : Formats) (w : World) : Type 0 where
  pub reach : HoldsReach f w
  pub alone : HoldsReachAlone f w
  pub latest : HasLatest f w
  pub listed : ListsListedAlone f w

-- From a kept image on: a cleanup came to its end, as its op left the record. Then its ticket was told a first page. Where no test
-- blob was committed between that and the end, it is so in the world to which the history leads, whose image the container has at
-- the end of the run, unless something was committed, replaced or removed since.
abbrev pub CleanupsLeaveReach : Formats → World → List Moment → Look → Type 0
CleanupsLeaveReach f world log before =
    (shelf : List Shelved) → Holds f before shelf → (front back : List Moment) (last : Moment) (k : ℕ) → log ≡ front ++ last ∷ back → IsEndedCleanup front last k
    → (page : HasFirstPage front k) × (NoneOf IsTestCommit page.back → NoneOf ChangesBlobs back → IsCleaned f (world_from f world log))

-- the law on it
abbrev pub CleanedLaw : Type 0
CleanedLaw =
    (f : Formats) (part_size : ℕ) (image : Image) (shelf : List Shelved) (w : World) (before rest : List Moment) (last : Moment) (k : ℕ) → Kept f image shelf → Opened f image w → Tracked w
    → IsLegal f part_size w (before ++ last ∷ rest) → AreTold (before ++ last ∷ rest) → IsEndedCleanup before last k
    → (page : HasFirstPage before k) × (NoneOf IsTestCommit page.back → NoneOf ChangesBlobs rest → HoldsExactly f (world_from f w (before ++ last ∷ rest)))
