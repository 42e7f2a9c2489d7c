-- All that the safe root reaches.
use Rattle.std.specs.Prelude.{◌≡◌, ◌≢◌, ◌⊎◌, ℕ, Some}
use Rattle.esr_model.specs.Names.{BlobName, IndexMeta}
use Rattle.esr_model.specs.Values.{Bytes, Has, RootSnap, RootIndex, RootData, Formats}
use Rattle.esr_model.specs.Image.{Present}
use Rattle.esr_core.specs.World.{World}
use Rattle.esr_core.specs.Allowed.{InReach}

-- each snapshot that an index of the root has is listed
abbrev pub IndexesListed : RootData → Type 0
IndexesListed root = (x : RootIndex) (u : ℕ) → Has root.indices x → Has x.snapshots u → (s : RootSnap) × Has root.snapshots s × (s.uuid ≡ u)

-- what reads as a root is such a one
abbrev pub RefusesUnlisted : Formats → Type 0
RefusesUnlisted f = (bytes : Bytes) (root : RootData) → f.root.read bytes ≡ Some root → IndexesListed root

-- what an index of the root has of a snapshot that isn't listed
pub record IsUnlistedMeta (root : RootData) (name : BlobName) : Type 0 where
  pub index : ℕ
  pub uuid : ℕ
  pub name_is : name ≡ IndexMeta index uuid
  pub unlisted : (s : RootSnap) → Has root.snapshots s → s.uuid ≢ uuid

-- what the safe root reaches is there, and the root itself; it may lack what its indices have of snapshots that it doesn't list
abbrev pub HoldsListedReach : Formats → World → Type 0
HoldsListedReach f w = (name : BlobName) → InReach f w name → Present f w.blobs name ⊎ IsUnlistedMeta w.root name

-- all of it is there
abbrev pub HoldsReach : Formats → World → Type 0
HoldsReach f w = (name : BlobName) → InReach f w name → Present f w.blobs name
