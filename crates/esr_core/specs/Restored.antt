-- What a restore's ticket may read, and what stands on the shelf of it.
use Rattle.std.specs.Prelude.{◌≡◌, ℕ, List}
use Rattle.esr_model.specs.Names.{ShardSnap}
use Rattle.esr_model.specs.Values.{Bytes, Has, IndexRef, ShardSnapshot, Formats}
use Rattle.esr_model.specs.Shelf.{Shelved, ShelfShard}
use Rattle.esr_model.specs.Places.{shelf_places}
use Rattle.esr_model.specs.Image.{AllPairs, Reads, FileStands}
use Rattle.esr_core.specs.World.{World, Reader, HeldIn}

-- what the ticket may read stands: the snapshot of its shard, and each file that this lists
pub record IsServed (f : Formats) (w : World) (q : Reader) : Type 0 where
  pub snap : ShardSnapshot
  pub snap_reads : Reads (HeldIn f w) (ShardSnap q.index q.number q.uuid) f.shard_snap snap
  pub contents : List Bytes
  pub stand : AllPairs (FileStands f (HeldIn f w) q.index q.number) snap.files contents

-- the one snapshot of this uuid on the shelf has this name, and the shards of these indices, in the order of their names
pub record IsShelvedAs (shelf : List Shelved) (name : Bytes) (uuid : ℕ) (indices : List IndexRef) : Type 0 where
  pub shelved : Shelved
  pub there : Has shelf shelved
  pub name_is : shelved.name ≡ name
  pub uuid_is : shelved.uuid ≡ uuid
  pub only : (x : Shelved) → Has shelf x → x.uuid ≡ uuid → x ≡ shelved
  pub shards : AllPairs (λ (p : IndexRef × ℕ) (s : ShelfShard). (s.index ≡ p.0.name) × (s.number ≡ p.1)) (shelf_places indices) shelved.shards
