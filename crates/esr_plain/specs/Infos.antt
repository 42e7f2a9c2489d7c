-- What has to agree with the info of a listed snapshot.
use Rattle.std.specs.Prelude.{◌≡◌, ℕ, List}
use Rattle.esr_model.specs.Names.{BlobName, Snap, Meta, IndexMeta}
use Rattle.esr_model.specs.Values.{Bytes, Has, IndexRef, RootSnap, RootIndex, RootData, SnapInfo, Formats}
use Rattle.esr_model.specs.Image.{Reads, global_of}

-- the info has the name, the uuid and the state of the listed snapshot
abbrev pub IsOf : RootSnap → SnapInfo → Type 0
IsOf snap info = (info.name ≡ snap.name) × (info.uuid ≡ snap.uuid) × (info.state ≡ snap.state)

-- the root lists the index of this reference, with the snapshot
abbrev pub IsListedIn : RootData → ℕ → IndexRef → Type 0
IsListedIn root uuid r = (x : RootIndex) × Has root.indices x × (x.name ≡ r.name) × (x.id ≡ r.id) × Has x.snapshots uuid

-- the same of each reference
abbrev pub AreListed : RootData → ℕ → List IndexRef → Type 0
AreListed root uuid refs = (r : IndexRef) → Has refs r → IsListedIn root uuid r

-- one of the references is to this index
abbrev pub IsReferred : List IndexRef → RootIndex → Type 0
IsReferred refs x = (r : IndexRef) × Has refs r × (r.name ≡ x.name) × (r.id ≡ x.id)

-- the same of each index of the root that has the snapshot
abbrev pub AreExact : RootData → ℕ → List IndexRef → Type 0
AreExact root uuid refs = (x : RootIndex) → Has root.indices x → Has x.snapshots uuid → IsReferred refs x

-- the metadata of each index in the snapshot are there
abbrev pub HaveMetas : (f : Formats) → (BlobName → Bytes → Type 0) → ℕ → List IndexRef → Type 0
HaveMetas f has uuid refs = (r : IndexRef) → Has refs r → Reads has (IndexMeta r.id uuid) f.index_meta (record { index = r; uuid = uuid })

pub record Agrees (f : Formats) (has : BlobName → Bytes → Type 0) (root : RootData) (snap : RootSnap) (info : SnapInfo) : Type 0 where
  pub of : IsOf snap info
  pub global : Reads has (Meta snap.uuid) f.global (global_of info)
  pub metas : HaveMetas f has snap.uuid info.indices
  pub listed : AreListed root snap.uuid info.indices
  pub exact : AreExact root snap.uuid info.indices

-- the info reads, and agrees with all that
pub record InfoStands (f : Formats) (has : BlobName → Bytes → Type 0) (root : RootData) (snap : RootSnap) (info : SnapInfo) : Type 0 where
  pub reads : Reads has (Snap snap.uuid) f.info info
  pub agrees : Agrees f has root snap info
