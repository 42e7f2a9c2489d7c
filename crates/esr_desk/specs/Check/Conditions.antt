-- What a step of a check needs, by the world after a history.
use Rattle.std.specs.Prelude.{◌≡◌, ◌≢◌, ℕ, true, List, length}
use Rattle.esr_model.specs.Names.{BlobName, Latest}
use Rattle.esr_model.specs.Values.{Has}
use Rattle.esr_core.specs.Restores.{IsTestOf}
use Rattle.esr_core.specs.Allowed.{IsChecking, InReach, CheckedBy}
use Rattle.esr_core.specs.Entry.{Moment}
use Rattle.esr_desk.specs.Start.{Start, formats_of, world_of}
use Rattle.esr_desk.specs.Own.{caller_of}

-- it fetches the safe root and what that reaches, each once
pub record CanCheck (s : Start) (log : List Moment) (name : BlobName) : Type 0 where
  pub is_open : IsChecking (world_of s log)
  pub once : Has (caller_of s log).fetched name → ⊥
  pub stored : name ≢ Latest
  -- it is no test blob, also where the container tells nothing
  pub untested : (id : ℕ) → IsTestOf id name → ⊥
  pub reached : s.tells ≡ true → InReach (formats_of s) (world_of s log) name

-- all was well: so many snapshots are listed, and so many blobs were fetched, each of which was there; where the container tells,
-- they are the safe root and all that it reaches, and it is whole
pub record CanEndCheck (s : Start) (log : List Moment) (snapshots blobs : ℕ) : Type 0 where
  pub is_open : IsChecking (world_of s log)
  pub snapshots_is : snapshots ≡ length (world_of s log).root.snapshots
  pub blobs_is : blobs ≡ length (caller_of s log).found
  pub present : (name : BlobName) → Has (caller_of s log).fetched name → Has (caller_of s log).found name
  pub done : s.tells ≡ true → CheckedBy (formats_of s) (world_of s log)
