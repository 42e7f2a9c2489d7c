-- What a root and a snapshot need so that the snapshot can be finalized in it.
use Rattle.std.specs.Prelude.{◌≡◌, ◌≢◌, ℕ, List, map}
use Rattle.esr_model.specs.Values.{Has, IndexRef, RootSnap, RootIndex, RootData, SnapInfo, ShardResult}
use Rattle.esr_model.specs.Places.{places}
use Rattle.esr_core.specs.Tracked.{IsOneIndex}

-- the root lists neither the name nor the uuid, names and ids of indices agree, and each shard has its result, in order
pub record MayFinalize (root : RootData) (info : SnapInfo) (results : List ShardResult) : Type 0 where
  pub unlisted : (s : RootSnap) → Has root.snapshots s → (s.name ≢ info.name) × (s.uuid ≢ info.uuid)
  pub indices : (r : IndexRef) (x : RootIndex) → Has info.indices r → Has root.indices x → IsOneIndex r.name r.id x.name x.id
  pub each : map {B = ℕ × ℕ} (λ (r : ShardResult). (r.index, r.shard)) results ≡ map {B = ℕ × ℕ} (λ (p : IndexRef × ℕ). (p.0.id, p.1)) (places info.indices)
