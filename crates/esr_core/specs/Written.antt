-- The blobs that a shard's ticket has committed are there while it is out, and its base.
use Rattle.std.specs.Prelude.{◌≡◌, ℕ, ◌<◌, true, Some}
use Rattle.std.specs.Ordering.{nat_cmp}
use Rattle.std.specs.FinMap.{FinMap}
use Rattle.std.specs.FinMap as fin
use Rattle.esr_model.specs.Names.{BlobName, ShardSnap, ShardIndex}
use Rattle.esr_model.specs.Values.{Bytes, Has, FileEntry, ShardFiles, Formats}
use Rattle.esr_model.specs.Image.{Blobs, Reads, At}
use Rattle.esr_core.specs.World.{Ticket, Shard}
use Rattle.esr_core.specs.Ready.{IsShard}
use Rattle.esr_core.specs.Steps.{Drew, ShardCommits}

pub record WroteLaw (f : Formats) (blobs : Blobs) (t : Ticket) : Type 0 where
  pub there : (name : BlobName) (bytes : Bytes) → Has t.wrote (name, bytes) → At f blobs name bytes
  pub own : (name : BlobName) (bytes : Bytes) → Has t.wrote (name, bytes) → ShardCommits t name
  -- and the base that it fetched is as it was
  pub base : (index shard g : ℕ) (bytes : Bytes) → t.work ≡ Shard index shard → t.base ≡ Some g → Has t.read (ShardIndex index shard g, bytes) → At f blobs (ShardIndex index shard g) bytes
  -- as is the snapshot of the shard that a clone's fetched
  pub source : (index shard u : ℕ) (bytes : Bytes) → t.work ≡ Shard index shard → t.source ≡ Some u → Has t.read (ShardSnap index shard u, bytes) → At f blobs (ShardSnap index shard u) bytes
  -- the files of the base have ids below those that it drew
  pub fresh : (index shard g : ℕ) (held : ShardFiles) → t.work ≡ Shard index shard → t.base ≡ Some g → Reads (At f blobs) (ShardIndex index shard g) f.shard_index held → (e : FileEntry) → Has held.files e → (id : ℕ) → Drew t id
      → e.name < id

abbrev pub Written : Formats → Blobs → FinMap nat_cmp Ticket → Type 0
Written f blobs tickets = (k : ℕ) (t : Ticket) → fin.get tickets k ≡ Some t → t.out ≡ true → IsShard t.work → WroteLaw f blobs t
