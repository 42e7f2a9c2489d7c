-- What a root holds.
use Rattle.std.specs.Prelude.{◌≡◌, List, [], map, filter}
use Rattle.std.specs.List.{AllByRecursion}
use Rattle.esr_names.specs.declared.ids.Id.{Id}
use Rattle.esr_root.specs.Ids.{has_id}
use Rattle.esr_root.specs.Snaps.{AreSnaps}
use Rattle.esr_root.specs.Indices.{AreIndices, IsListed}
use Rattle.esr_root.specs.declared.snaps.RootSnap.{RootSnap}
use Rattle.esr_root.specs.declared.indices.RootIndex.{RootIndex}

-- the snapshots in order of finalization, and the indices in byte order of their names
pub record Root : Type 0 where
  pub snapshots : List RootSnap
  pub indices : List RootIndex

-- the root before the first snapshot
abbrev pub empty_root : Root
empty_root = record { snapshots = []; indices = [] }

-- what every root keeps
pub record IsRoot (r : Root) : Type 0 where
  pub snapshots : AreSnaps r.snapshots
  pub indices : AreIndices r.indices
  pub listed : AllByRecursion (IsListed r.snapshots) r.indices

-- the uuids of some snapshots
abbrev pub uuids_of : List RootSnap → List Id
uuids_of ss = map (λ s. s.uuid) ss

-- the snapshots of an index stand in the root's order
abbrev pub IsInRootOrder : List RootSnap → RootIndex → Type 0
IsInRootOrder ss i = i.snapshots ≡ filter (λ u. has_id u i.snapshots) (uuids_of ss)

-- the snapshots of each index do
abbrev pub IsOrdered : Root → Type 0
IsOrdered r = AllByRecursion (IsInRootOrder r.snapshots) r.indices
