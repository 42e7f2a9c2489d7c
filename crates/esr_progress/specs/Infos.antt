-- The infos of the listed snapshots, which a repository keeps: the answer of a restore tells the indices of its snapshot.
use Rattle.std.specs.Prelude.{◌≡◌, ◌⊎◌, ℕ, Bool, true, List, map}
use Rattle.esr_model.specs.Values.{Has, IndexRef, RootSnap, Formats}
use Rattle.esr_core.specs.World.{World}
use Rattle.esr_core.specs.Allowed.{AreIndicesIn, NoDeleting, HaveGenerations, WasMade, IsInInfo}
use Rattle.esr_meta.specs.Info.{Info}
use Rattle.esr_formats.specs.Refs.{ref_of_code}

-- The indices of a listed snapshot: those of its finalization, or, where the container tells, those of the info that is there. Each shard
-- has a generation; once a delete was given this follows from the law alone.
pub record HasIndices (f : Formats) (w : World) (tells : Bool) (uuid : ℕ) (indices : List IndexRef) : Type 0 where
  pub within : AreIndicesIn w.root uuid indices
  pub generations : NoDeleting w → HaveGenerations w.root indices
  pub told : WasMade f w uuid indices ⊎ (tells ≡ true → IsInInfo f w uuid indices)

-- each listed snapshot has an info among these, and each of these tells the indices of its snapshot
pub record AreInfosOf (f : Formats) (w : World) (tells : Bool) (infos : List Info) : Type 0 where
  pub there : (snap : RootSnap) → Has w.root.snapshots snap → (info : Info) × Has infos info × (info.uuid.number ≡ snap.uuid)
  pub each : (info : Info) → Has infos info → HasIndices f w tells info.uuid.number (map ref_of_code info.indices)
