-- The infos of the snapshots that a root lists.
use Rattle.std.specs.Prelude.{◌≡◌, ℕ, Bool, List, map, Option, Some}
use Rattle.esr_model.specs.Names.{Snap}
use Rattle.esr_model.specs.Values.{Bytes, Has, RootData}
use Rattle.esr_model.specs.Values.{RootSnap as Listed}
use Rattle.esr_model.specs.Image.{AllPairs, At, Reads}
use Rattle.esr_core.specs.Restores.{AreApart}
use Rattle.esr_depot.specs.Image.{Image as Held}
use Rattle.esr_root.specs.Root.{Root}
use Rattle.esr_root.specs.declared.snaps.RootSnap.{RootSnap}
use Rattle.esr_meta.specs.Info.{Info}
use Rattle.esr_formats.specs.Refs.{ref_of_code}
use Rattle.esr_formats.specs.Roots.{root_of, root_snap_of}
use Rattle.esr_formats.specs.Infos.{info_of_code}
use Rattle.esr_formats.specs.Formats.{formats}
use Rattle.esr_agreement.specs.Agreement.{Agrees}

-- this is the info of a snapshot that the root lists
pub record IsInfoOf (held : Option Held) (root : Root) (s : RootSnap) (info : Info) : Type 0 where
  pub agrees : Agrees (root_of root) (root_snap_of s) (info_of_code info)
  pub apart : AreApart (map ref_of_code info.indices)
  -- where the container tells, the blob of the snapshot's info reads as it
  pub there : (i : Held) (known : Bytes → Bytes → ℕ → Bool) (told : Bytes → Bytes → ℕ → Option (List (Bytes × Bytes))) → held ≡ Some i
      → Reads (At (formats known told) i.blobs) (Snap s.uuid.number) (formats known told).info (info_of_code info)

-- each info is of a snapshot that is listed
abbrev pub AreListed : RootData → List Info → Type 0
AreListed root infos = (info : Info) → Has infos info → (snap : Listed) × Has root.snapshots snap × (info.uuid.number ≡ snap.uuid)

-- these are the infos of the snapshots, in their order
abbrev pub AreInfosIn : Option Held → Root → List RootSnap → List Info → Type 0
AreInfosIn held root snaps infos = AllPairs (IsInfoOf held root) snaps infos
