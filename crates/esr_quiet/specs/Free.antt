-- What is still to be written is free, and no base has its snapshot yet.
use Rattle.std.specs.Prelude.{◌≡◌, ◌≢◌, ◌⊎◌, ℕ, true, List, Some}
use Rattle.std.specs.FinMap as fin
use Rattle.esr_model.specs.Names.{BlobName, Root, ShardSnap, ShardIndex}
use Rattle.esr_model.specs.Values.{Bytes, Has, SnapList, ShardFiles, Formats}
use Rattle.esr_model.specs.Image.{Blobs, At, Present, Reads}
use Rattle.esr_core.specs.World.{World, Op, ShardWork, Pending, Shard, Deleting, Ticket, Swap, Caller}
use Rattle.esr_core.specs.Generations.{IsLive}
use Rattle.esr_core.specs.Ready.{Waits}
use Rattle.esr_core.specs.Restores.{IsTestOf}
use Rattle.esr_core.specs.Steps.{ShardCommits}

-- a ticket that is out for the shard builds on this generation
pub record IsBaseOf (w : World) (index number generation : ℕ) : Type 0 where
  pub ticket : ℕ
  pub t : Ticket
  pub there : fin.get w.tickets ticket ≡ Some t
  pub out : t.out ≡ true
  pub work : t.work ≡ Shard index number
  pub base_is : t.base ≡ Some generation

-- the generation of the shard is live, or the base of a ticket that is out
abbrev pub IsInUse : World → ℕ → ℕ → ℕ → Type 0
IsInUse w index number generation = IsLive w.root w.ops index number generation ⊎ IsBaseOf w index number generation

-- a test blob under the id that who 0 drew is there only where who 0 committed it
abbrev pub AreOwnTests : Formats → Blobs → Caller → Type 0
AreOwnTests f blobs caller = (id : ℕ) (name : BlobName) → caller.drawn ≡ Some id → IsTestOf id name → Present f blobs name → Has caller.committed name

pub record Free (f : Formats) (w : World) : Type 0 where
  -- a name that a shard's ticket may commit is that of no blob, but of one that it committed
  pub shards : (k : ℕ) (t : Ticket) (name : BlobName) → fin.get w.tickets k ≡ Some t → t.out ≡ true → ShardCommits t name → Present f w.blobs name → Has t.noted name
  -- so is the name of an index of a shard that a delete's plan has
  pub plans : (k : ℕ) (t : Ticket) (uuids : List ℕ) (s : Swap) (name : BlobName) (bytes : Bytes) → fin.get w.tickets k ≡ Some t → t.work ≡ Deleting uuids (Some s) → Has s.own (name, bytes) → Present f w.blobs name → Has t.noted name
  -- of a shard that is pending there is no snapshot blob yet
  pub pending : (o : ℕ) (op : Op) (s : ShardWork) → fin.get w.ops o ≡ Some op → Has op.shards s → s.state ≡ Pending → Present f w.blobs (ShardSnap s.ref.id s.number op.uuid) → ⊥
  -- the root that a ticket raised is there only where the ticket committed it
  pub roots : (k n : ℕ) (t : Ticket) → fin.get w.tickets k ≡ Some t → t.raised ≡ Some n → Present f w.blobs (Root n) → Has t.noted (Root n)
  -- and each raised a root of its own
  pub own_root : (j k n : ℕ) (t u : Ticket) → fin.get w.tickets j ≡ Some t → fin.get w.tickets k ≡ Some u → t.raised ≡ Some n → u.raised ≡ Some n → j ≡ k
  -- no generation in use lists the snapshot of an op for which the shard is still to be done
  pub unlisted : (o : ℕ) (op : Op) (s : ShardWork) (g : ℕ) (held : ShardFiles) (l : SnapList) → fin.get w.ops o ≡ Some op → Has op.shards s → Waits s.state → IsInUse w s.ref.id s.number g
      → Reads (At f w.blobs) (ShardIndex s.ref.id s.number g) f.shard_index held → Has held.snapshots l → l.uuid ≢ op.uuid
  pub tests : AreOwnTests f w.blobs w.caller
  -- what a verification wrote and hasn't removed stands
  pub wrote : (name : BlobName) (bytes : Bytes) → Has w.caller.wrote (name, bytes) → (Has w.caller.removed name → ⊥) → At f w.blobs name bytes
