-- What holds of open restores and of what their tickets have read, over a container that tells.
use Rattle.std.specs.Prelude.{◌≡◌, ◌⊎◌, ℕ, ◌-◌, ◌^◌, false, true, List, Some, map, length, sum_by, min}
use Rattle.std.specs.Ordering.{nat_cmp}
use Rattle.std.specs.FinMap.{FinMap}
use Rattle.std.specs.FinMap as fin
use Rattle.esr_model.specs.Names.{BlobName, Snap, ShardSnap}
use Rattle.esr_model.specs.Values.{Bytes, Has, RootData, SnapInfo, FileEntry, ShardSnapshot, Formats}
use Rattle.esr_model.specs.Shelf.{Shelved, ShelfShard, names_uuid}
use Rattle.esr_model.specs.Parts.{part_names}
use Rattle.esr_model.specs.Places.{places}
use Rattle.esr_model.specs.Image.{AllPairs, Reads}
use Rattle.esr_core.specs.World.{World, Deletion, RestoreShard, Restoring, Reader, HeldIn}
use Rattle.esr_core.specs.Queue.{Lists}
use Rattle.esr_core.specs.Allowed.{RestoredBy}
use Rattle.esr_core.specs.ReadTracked.{RestoresTracked}

-- of an open restore: its snapshot is listed, no open delete names it, and its shards are those of the info that is there
pub record RestoreLaw (f : Formats) (has : BlobName → Bytes → Type 0) (root : RootData) (deletes : FinMap nat_cmp Deletion) (r : Restoring) : Type 0 where
  pub listed : Lists root r.uuid
  pub spared : (d : ℕ) (x : Deletion) → fin.get deletes d ≡ Some x → names_uuid x.uuids r.uuid ≡ false
  pub info : SnapInfo
  pub info_reads : Reads has (Snap r.uuid) f.info info
  pub shards : map (λ (s : RestoreShard). (s.ref, s.number)) r.shards ≡ places info.indices

-- a part of a file of the shard's snapshot
pub record IsPartOf (f : Formats) (has : BlobName → Bytes → Type 0) (q : Reader) (name : BlobName) : Type 0 where
  pub snap : ShardSnapshot
  pub snap_reads : Reads has (ShardSnap q.index q.number q.uuid) f.shard_snap snap
  pub e : FileEntry
  pub listed : Has snap.files e
  pub part : Has (part_names q.index q.number e) name

-- of a ticket that is out: what it read is there, and nobody may remove it; it is the snapshot of its shard, or a part that this lists
pub record ReaderLaw (f : Formats) (has : BlobName → Bytes → Type 0) (q : Reader) : Type 0 where
  pub held : (name : BlobName) (bytes : Bytes) → Has q.read (name, bytes) → has name bytes
  pub named : (name : BlobName) (bytes : Bytes) → Has q.read (name, bytes) → (name ≡ ShardSnap q.index q.number q.uuid) ⊎ IsPartOf f has q name

pub record ReadLaw (f : Formats) (w : World) : Type 0 where
  pub tracked : RestoresTracked w.next_op w.next_ticket w.restores w.readers
  pub restores : (o : ℕ) (r : Restoring) → fin.get w.restores o ≡ Some r → RestoreLaw f (HeldIn f w) w.root w.deletes r
  pub readers : (k : ℕ) (q : Reader) → fin.get w.readers k ≡ Some q → q.out ≡ true → ReaderLaw f (HeldIn f w) q

-- while the restore is open this snapshot of the shelf is the one that it reads
abbrev pub ReadsShelved : World → List Shelved → ℕ → Shelved → Type 0
ReadsShelved w shelf o x = (r : Restoring) → fin.get w.restores o ≡ Some r → (x.uuid ≡ r.uuid) × Has shelf x

-- what a ticket restored are the files of its shard on the shelf, under their names and in their order
pub record IsOnShelf (f : Formats) (shelf : List Shelved) (q : Reader) (files bytes : ℕ) (by : RestoredBy f q files bytes) : Type 0 where
  pub shelved : Shelved
  pub there : Has shelf shelved
  pub uuid_is : shelved.uuid ≡ q.uuid
  -- no other has its uuid
  pub only : (x : Shelved) → Has shelf x → x.uuid ≡ q.uuid → x ≡ shelved
  pub shard : ShelfShard
  pub shard_there : Has shelved.shards shard
  pub index_is : shard.index ≡ q.name
  pub number_is : shard.number ≡ q.number
  pub names : AllPairs (λ (e : FileEntry) (file : Bytes × Bytes). e.physical ≡ file.0) by.snap.files shard.files
  pub contents : by.contents ≡ map (λ (file : Bytes × Bytes). file.1) shard.files
  pub files_is : files ≡ length shard.files
  pub bytes_is : bytes ≡ min (sum_by (λ (file : Bytes × Bytes). length file.1) shard.files) (2 ^ 64 - 1)
