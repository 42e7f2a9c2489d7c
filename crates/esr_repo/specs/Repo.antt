-- A container beside the history of its steps, and what is kept of the world that they lead to.
use Rattle.std.specs.Prelude.{◌≡◌, ◌≢◌, ◌⊎◌, ℕ, ◌+◌, ◌-◌, ◌^◌, ◌<◌, ◌≤◌, Bool, true, false, List, [], length, map, Option, Some, None}
use Rattle.std.specs.Ordering.{nat_cmp}
use Rattle.std.specs.FinMap.{FinMap}
use Rattle.std.specs.FinMap as fin
use Rattle.esr_model.specs.Names.{BlobName, ShardIndex}
use Rattle.esr_model.specs.Values.{Bytes, Has, IndexRef, RootSnap, RootData, ReadsBack, Formats}
use Rattle.esr_model.specs.Shelf.{names_uuid}
use Rattle.esr_model.specs.Delete.{PrunedShard, deleted_root}
use Rattle.esr_core.specs.World.{World, Op, Deleting, Swap, Ticket, Caller, record_of}
use Rattle.esr_core.specs.World as core
use Rattle.esr_core.specs.Restores.{IsTestOf}
use Rattle.esr_core.specs.Entry.{Entry, Moment}
use Rattle.esr_core.specs.Allowed.{WasMade}
use Rattle.esr_core.specs.Tracked.{Tracked}
use Rattle.esr_core.specs.Ranked.{Ranked}
use Rattle.esr_core.specs.ReadTracked.{ReadTracked}
use Rattle.esr_depot.specs.Image.{Image as Held}
use Rattle.esr_depot.specs.Look.{Look, now}
use Rattle.esr_meta.specs.Info.{Info}
use Rattle.esr_formats.specs.Clusters.{cluster_kind}
use Rattle.esr_formats.specs.Refs.{ref_of_code}
use Rattle.esr_progress.specs.Infos.{AreInfosOf}
use Rattle.esr_desk.specs.Start.{Start, formats_of, world_of, Legal}
pub use Rattle.esr_progress.specs.Kept.{Kept, IsKeptOf}
use Rattle.esr_repo.specs.Log.{image_of, ticks, log_of}
use Rattle.esr_repo.specs.Client.{TellsClient}
use Rattle.esr_repo.specs.Tickets.{AreStale, AreOfOps}

-- it was told that the container tells its image exactly where it does
pub record TellsSo (l : Look) (tells : Bool) : Type 0 where
  pub untold : now l ≡ None → tells ≡ false
  pub told : (i : Held) → now l ≡ Some i → tells ≡ true

-- the plan is what a delete makes of some shards of this root: it writes indices of shards alone
pub record PlannedBy (root : RootData) (uuids : List ℕ) (s : Swap) : Type 0 where
  pub shards : List PrunedShard
  pub first : ℕ
  pub root_is : s.root ≡ deleted_root root uuids shards first
  pub own : (name : BlobName) (bytes : Bytes) → Has s.own (name, bytes) → (index : ℕ) × (number : ℕ) × (generation : ℕ) × (name ≡ ShardIndex index number generation)

-- so is each plan of a delete, of the root that its ticket copied
abbrev pub OwnIndices : World → Type 0
OwnIndices w = (k : ℕ) (t : Ticket) (uuids : List ℕ) (s : Swap) → fin.get w.tickets k ≡ Some t → t.work ≡ Deleting uuids (Some s) → PlannedBy t.root uuids s

-- a delete that has settled took the snapshot of this uuid away
pub record TookAway (tickets : FinMap nat_cmp Ticket) (uuid : ℕ) : Type 0 where
  pub k : ℕ
  pub t : Ticket
  pub uuids : List ℕ
  pub plan : Option Swap
  pub there : fin.get tickets k ≡ Some t
  pub settled : t.settled ≡ true
  pub work : t.work ≡ Deleting uuids plan
  pub snap : RootSnap
  pub was : Has t.root.snapshots snap
  pub named : names_uuid uuids snap.uuid ≡ true
  pub is : snap.uuid ≡ uuid

-- no snapshot of this uuid is listed or open, and none will be
pub record IsPast (root : RootData) (ops : FinMap nat_cmp Op) (next uuid : ℕ) : Type 0 where
  pub below : uuid < next
  pub unlisted : (snap : RootSnap) → Has root.snapshots snap → snap.uuid ≢ uuid
  pub unopened : (o : ℕ) (op : Op) → fin.get ops o ≡ Some op → op.uuid ≢ uuid

-- what deletes took away is gone for good
abbrev pub Gone : World → Type 0
Gone w = (uuid : ℕ) → TookAway w.tickets uuid → IsPast w.root w.ops w.next_id uuid

-- each info is of a snapshot that is listed
abbrev pub AreListed : RootData → List Info → Type 0
AreListed root infos = (info : Info) → Has infos info → (snap : RootSnap) × Has root.snapshots snap × (info.uuid.number ≡ snap.uuid)

-- the root lists a snapshot of this uuid
abbrev pub ListsUuid : RootData → ℕ → Type 0
ListsUuid root uuid = (snap : RootSnap) × Has root.snapshots snap × (snap.uuid ≡ uuid)

-- each delete and cleanup that has settled found it listed
abbrev pub FoundBy : FinMap nat_cmp Ticket → ℕ → Type 0
FoundBy tickets uuid = (k : ℕ) (t : Ticket) (uuids : List ℕ) (plan : Option Swap) → fin.get tickets k ≡ Some t → t.settled ≡ true → t.work ≡ Deleting uuids plan → ListsUuid t.root uuid

-- a finalization of the history made the snapshot, or each of these found it listed
abbrev pub MadeOrFound : Formats → World → ℕ → List IndexRef → Type 0
MadeOrFound f w uuid indices = WasMade f w uuid indices ⊎ FoundBy w.tickets uuid

-- the infos are those of the listed snapshots, and of no others
pub record HasInfos (s : Start) (w : World) (infos : List Info) : Type 0 where
  pub are : AreInfosOf (formats_of s) w s.tells infos
  pub listed : AreListed w.root infos
  pub found : (info : Info) → Has infos info → MadeOrFound (formats_of s) w info.uuid.number (map ref_of_code info.indices)

-- the name is that of a test blob
abbrev pub IsTest : BlobName → Type 0
IsTest name = (id : ℕ) × IsTestOf id name

-- what who 0 has committed are test blobs
abbrev pub AreTests : Caller → Type 0
AreTests c = (name : BlobName) → Has c.committed name → IsTest name

-- what holds of the world, whatever is kept
pub record IsSteady (s : Start) (log : List Moment) (l : Look) : Type 0 where
  pub legal : Legal s log
  pub image : (i : Held) → now l ≡ Some i → image_of i ≡ core.image_of (formats_of s) (world_of s log)
  pub record_back : ReadsBack cluster_kind (record_of (world_of s log))
  pub tracked : Tracked (world_of s log)
  pub ranked : Ranked (world_of s log)
  pub pruning : OwnIndices (world_of s log)
  pub gone : Gone (world_of s log)
  pub read_tracked : ReadTracked (world_of s log)
  pub tests : AreTests (world_of s log).caller
  -- what was made is told by the steps of the history alone
  pub no_entries : s.world.entries ≡ []
  pub client : TellsClient (world_of s log)
  pub stale : AreStale (world_of s log)
  pub of_ops : AreOfOps (world_of s log)
  pub few_ops : (world_of s log).next_op ≤ s.world.next_op + length log
  pub few_tickets : (world_of s log).next_ticket ≤ s.world.next_ticket + length log

-- a start from which there can be as many steps as anyone makes
pub record IsRoomy (s : Start) : Type 0 where
  pub ops : s.world.next_op ≤ 2 ^ 61
  pub tickets : s.world.next_ticket ≤ 2 ^ 61

-- The history is legal from what was told at the start to what the container has now. After a record swap that failed,
-- at the place that is kept, nothing is said of what is kept.
pub record IsRepo (l : Look) (s : Start) (clock : ℕ) (es : List Entry) (k : Kept) (deposed : Option ℕ) : Type 0 where
  pub roomy : IsRoomy s
  pub bounded : clock ≤ 2 ^ 64 - 1
  pub clock_is : l.clock ≡ ticks clock es
  pub tells : TellsSo l s.tells
  pub steady : IsSteady s (log_of l clock es) l
  pub live : deposed ≡ None → ((world_of s (log_of l clock es)).deposed ≡ false) × IsKeptOf (world_of s (log_of l clock es)) k × HasInfos s (world_of s (log_of l clock es)) k.infos
  pub fallen : (place : ℕ) → deposed ≡ Some place → (world_of s (log_of l clock es)).deposed ≡ true
