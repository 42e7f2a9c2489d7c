-- The world: the container's image and what the process knows of its open operations.
use Rattle.std.specs.Prelude.{length, ◌++◌, ◌≡◌, ℕ, suc, Bool, false, List, [], ◌∷◌, Option, Some, None, map, sum_by, min, ◌-◌, ◌^◌, ◌==◌, if◌then◌else◌}
use Rattle.std.specs.Ordering.{nat_cmp}
use Rattle.std.specs.FinMap.{FinMap}
use Rattle.std.specs.FinMap as fin
use Rattle.esr_model.specs.Names.{BlobName, Snap, Meta, IndexMeta}
use Rattle.esr_model.specs.Values.{Bytes, IndexRef, RootData, SnapInfo, RecordWork, Creating, Cloning, DeletingOf, Cleaning, Ledger, ClusterRecord, ShardResult, Formats}
use Rattle.esr_model.specs.Shelf.{ShelfShard, Shelved, Command, Create, Clone}
use Rattle.esr_model.specs.Places.{comes_first, sorted_by}
use Rattle.esr_model.specs.Kept.{first_id}
use Rattle.esr_model.specs.Finalize.{finalized_root}
use Rattle.esr_model.specs.Cleanup.{BlobSize}
use Rattle.esr_model.specs.Image.{Blobs, Image, Has, AllPairs, RootIs, At, global_of}
use Rattle.esr_core.specs.Entry.{Why, Entry}
use Rattle.esr_core.specs.Stored.{stored_files}

pub data ShardState : Type 0 where
  Pending : ShardState
  Out : (ticket : ℕ) → ShardState
  Done : (outcome : ShardResult) → ShardState
  GivenUp : ShardState

pub record ShardWork : Type 0 where
  pub ref : IndexRef
  pub number : ℕ
  pub place : Bytes
  pub state : ShardState

-- an open snapshot or clone
pub record Op : Type 0 where
  pub name : Bytes
  pub uuid : ℕ
  pub moment : ℕ
  pub indices : List IndexRef
  pub shards : List ShardWork
  pub failed : Bool
  -- the snapshot that a clone copies
  pub source : Option ℕ
  -- the delete that aborted it
  pub aborted : Option ℕ

-- an open delete, or a cleanup, which names none
pub record Deletion : Type 0 where
  pub uuids : List ℕ
  pub clean : Bool
  pub failed : Bool

-- what the unit of a master ticket makes of the repository: its root, the blobs that it writes before it, and its command
pub record Swap : Type 0 where
  pub root : RootData
  pub own : List (BlobName × Bytes)
  pub commands : List Command

-- what a ticket is for
pub data Work : Type 0 where
  Shard : (index number : ℕ) → Work
  Finalize : (info : SnapInfo) (shards : List ShardResult) (made : Command) → Work
  -- of a delete or cleanup: its swap is made when its ids are drawn
  Deleting : (uuids : List ℕ) (plan : Option Swap) → Work
  Drop : Work

pub record Ticket : Type 0 where
  pub work : Work
  pub op : ℕ
  -- of its snapshot
  pub uuid : ℕ
  -- of a shard: the place of its files, and the name of its index
  pub place : Bytes
  pub name : Bytes
  -- of a clone's shard: the snapshot that it copies
  pub source : Option ℕ
  pub term : ℕ
  -- copies made at `take`
  pub safe : ℕ
  pub root : RootData
  pub base : Option ℕ
  -- the ids that it drew: from first on
  pub first : ℕ
  pub drawn : ℕ
  -- the names that it committed, or found as Exists
  pub noted : List BlobName
  -- the blobs that it committed
  pub wrote : List (BlobName × Bytes)
  -- the blobs that it fetched, as they were then
  pub read : List (BlobName × Bytes)
  pub raised : Option ℕ
  pub tried_latest : Bool
  pub settled : Bool
  pub out : Bool
  -- of a cleanup: what its pages told, the first page first, and whether the last of them ended the listing
  pub clean : Bool
  pub listed : List BlobSize
  pub whole : Bool

-- how far a restore has come with a shard
pub data ReadState : Type 0 where
  Unread : ReadState
  BeingRead : (ticket : ℕ) → ReadState
  -- so many files, of so many bytes
  Restored : (files bytes : ℕ) → ReadState
  NotRestored : (why : Why) → ReadState

pub record RestoreShard : Type 0 where
  pub ref : IndexRef
  pub number : ℕ
  pub state : ReadState

-- an open restore of a listed snapshot into a place: some shard of it is unread or being read
pub record Restoring : Type 0 where
  pub uuid : ℕ
  pub place : Bytes
  pub shards : List RestoreShard

-- the ticket of a restore's shard; it belongs to no term
pub record Reader : Type 0 where
  pub op : ℕ
  -- of the snapshot
  pub uuid : ℕ
  pub index : ℕ
  pub number : ℕ
  -- of the index
  pub name : Bytes
  pub place : Bytes
  -- the blobs that it fetched, as they were then
  pub read : List (BlobName × Bytes)
  pub out : Bool

-- what who 0 has done since it last asked or looked, or a check or verification of it ended
pub record Caller : Type 0 where
  -- a check is open, begun by a look
  pub looked : Bool
  -- a verification is open, and drew this id
  pub drawn : Option ℕ
  -- a verification is open that drew none, as there was none left
  pub spent : Bool
  pub committed : List BlobName
  -- what it committed, where the container tells
  pub wrote : List (BlobName × Bytes)
  -- fetched, and of these the ones that were there
  pub fetched : List BlobName
  pub found : List BlobName
  pub removed : List BlobName
  pub read : List (BlobName × Bytes)

abbrev pub no_caller : Caller
no_caller = record { looked = false; drawn = None; spent = false; committed = []; wrote = []; fetched = []; found = []; removed = []; read = [] }

-- `safe` and `pending` count roots: the safe root is the last of the first `safe` ones, and the next to be begun is `pending`
pub record World : Type 0 where
  pub blobs : Blobs
  pub safe : ℕ
  pub pending : ℕ
  pub term : ℕ
  -- the safe root, read
  pub root : RootData
  -- open snapshots and open deletes, under one numbering
  pub ops : FinMap nat_cmp Op
  pub deletes : FinMap nat_cmp Deletion
  -- the numbers of snapshots in the order in which they completed
  pub completed : List ℕ
  pub tickets : FinMap nat_cmp Ticket
  pub next_op : ℕ
  pub next_ticket : ℕ
  -- the next id that is drawn
  pub next_id : ℕ
  -- all that was ever doomed: what settled deletes doomed, each of them its own names, and the test blobs of who 0
  pub doomed : List BlobName
  pub deposed : Bool
  -- open restores, under the numbering of ops, and their tickets, under that of tickets; the cluster record has neither
  pub restores : FinMap nat_cmp Restoring
  pub readers : FinMap nat_cmp Reader
  pub caller : Caller
  -- what was asked and answered so far, the last entry first; a step that was refused as deposed is none of these
  pub entries : List Entry

-- the blob is there with these bytes, and nobody may remove it
abbrev pub Safely : Formats → Blobs → List BlobName → BlobName → Bytes → Type 0
Safely f blobs doomed name bytes = At f blobs name bytes × (Has doomed name → ⊥)

abbrev pub HeldIn : Formats → World → BlobName → Bytes → Type 0
HeldIn f w = Safely f w.blobs w.doomed

-- the ops of the cluster record, by number
abbrev pub work_by : Op → Option ℕ → RecordWork
work_by op None = Creating op.name op.uuid op.moment op.indices
work_by op (Some source) = Cloning op.name op.uuid op.moment op.indices source

abbrev pub work_of : Op → RecordWork
work_of op = work_by op op.source

abbrev pub deletion_work : Deletion → RecordWork
deletion_work x = if x.clean then Cleaning else DeletingOf x.uuids

abbrev pub record_ops : FinMap nat_cmp Op → FinMap nat_cmp Deletion → List (ℕ × RecordWork)
record_ops ops deletes =
    fin.entries (fin.from_entries {R = nat_cmp} (map (λ (e : ℕ × Op). (e.0, work_of e.1)) (fin.entries ops) ++ map (λ (e : ℕ × Deletion). (e.0, deletion_work e.1)) (fin.entries deletes)))

abbrev pub ledger_of : World → Ledger
ledger_of w = record { safe = w.safe; pending = w.pending; term = w.term }

abbrev pub record_of : World → ClusterRecord
record_of w = record { ledger = ledger_of w; ops = record_ops w.ops w.deletes }

abbrev pub image_of : Formats → World → Image
image_of f w = record { blobs = w.blobs; text = Some (f.cluster.text (record_of w)) }

-- a shard of an op where that which a ticket holds goes on to this state
abbrev pub marked_by : ℕ → ShardState → ShardWork → ShardState → ShardWork
marked_by k new s (Out j) = if j == k then record s { state = new } else s
marked_by k new s Pending = s
marked_by k new s (Done r) = s
marked_by k new s GivenUp = s

abbrev pub marked : ℕ → ShardState → ShardWork → ShardWork
marked k new s = marked_by k new s s.state

-- each shard of the op is done, with these results
abbrev pub AllDone : List ShardWork → List ShardResult → Type 0
AllDone shards results = AllPairs (λ (s : ShardWork) (r : ShardResult). s.state ≡ Done r) shards results

-- the info of the op's snapshot with these sums
abbrev pub info_with : Op → ℕ → ℕ → SnapInfo
info_with op files bytes = record { name = op.name; uuid = op.uuid; state = 1; moment = op.moment; indices = op.indices; files = files; bytes = bytes }

-- sums stop at 2^63 - 1
abbrev pub info_of : Op → List ShardResult → SnapInfo
info_of op results = info_with op (min (sum_by (λ (r : ShardResult). r.files) results) (2 ^ 63 - 1)) (min (sum_by (λ (r : ShardResult). r.bytes) results) (2 ^ 63 - 1))

-- by the index's name, then by number
abbrev pub comes_first_of : ShardWork → ShardWork → Bool
comes_first_of s z = comes_first (s.ref, s.number) (z.ref, z.number)

abbrev pub shelved_shard : Formats → Blobs → ℕ → ShardWork → ShelfShard
shelved_shard f blobs uuid s = record { index = s.ref.name; number = s.number; files = stored_files f blobs s.ref.id s.number uuid }

-- what the op puts on the shelf: the files that are stored
abbrev pub shelved_of : Formats → Blobs → Op → Shelved
shelved_of f blobs op = record { name = op.name; uuid = op.uuid; shards = map (shelved_shard f blobs op.uuid) (sorted_by comes_first_of op.shards) }

abbrev pub index_names : List IndexRef → List Bytes
index_names indices = map (λ (r : IndexRef). r.name) indices

-- what its settle makes of the shelf: a snapshot of the files that are stored, or of what another one has of its indices
abbrev pub made_from : Formats → Blobs → Op → Option ℕ → Command
made_from f blobs op None = Create (shelved_of f blobs op)
made_from f blobs op (Some source) = Clone source op.name op.uuid (index_names op.indices)

abbrev pub made_of : Formats → Blobs → Op → Command
made_of f blobs op = made_from f blobs op op.source

abbrev pub metadata : Formats → SnapInfo → List (BlobName × Bytes)
metadata f info =
    (Snap info.uuid, f.info.text info) ∷ (Meta info.uuid, f.global.text (global_of info))
    ∷ map (λ (r : IndexRef). (IndexMeta r.id info.uuid, f.index_meta.text (record { index = r; uuid = info.uuid }))) info.indices

abbrev pub swap_of : Formats → Work → RootData → Option Swap
swap_of f (Finalize info shards made) root = Some (record { root = finalized_root root info shards; own = metadata f info; commands = made ∷ [] })
swap_of f (Shard index number) root = None
swap_of f (Deleting uuids plan) root = plan
swap_of f Drop root = None

abbrev pub swap : Formats → Ticket → Option Swap
swap f t = swap_of f t.work t.root

-- the deletes that opening keeps
abbrev pub kept_deletes : List (ℕ × RecordWork) → List (List ℕ)
kept_deletes [] = []
kept_deletes ((o, DeletingOf uuids) ∷ ops) = uuids ∷ kept_deletes ops
kept_deletes ((o, Creating name uuid moment indices) ∷ ops) = kept_deletes ops
kept_deletes ((o, Cloning name uuid moment indices source) ∷ ops) = kept_deletes ops
kept_deletes ((o, Cleaning) ∷ ops) = kept_deletes ops

-- numbered from one on
abbrev pub numbered_deletes : ℕ → List (List ℕ) → FinMap nat_cmp Deletion
numbered_deletes number [] = fin.empty
numbered_deletes number (uuids ∷ rest) = fin.insert (numbered_deletes (suc number) rest) number (record { uuids = uuids; clean = false; failed = false })

-- a world in which nothing is open but deletes
abbrev pub idle_world : Blobs → ℕ → ℕ → ℕ → RootData → FinMap nat_cmp Deletion → ℕ → World
idle_world blobs safe pending term root deletes next_op =
    record {
      blobs = blobs;
      safe = safe;
      pending = pending;
      term = term;
      root = root;
      ops = fin.empty;
      deletes = deletes;
      completed = [];
      tickets = fin.empty;
      next_op = next_op;
      next_ticket = 1;
      next_id = first_id term;
      doomed = [];
      deposed = false;
      restores = fin.empty;
      readers = fin.empty;
      caller = no_caller;
      entries = [];
    }

-- the world that opening makes of an image with this record, whose safe root reads as root: the term is raised by one,
-- snapshots, clones and a cleanup are dropped, deletes are kept and numbered 1, 2, ..
abbrev pub opened : Blobs → ClusterRecord → RootData → World
opened blobs cluster root =
    idle_world blobs cluster.ledger.safe cluster.ledger.pending (suc cluster.ledger.term) root (numbered_deletes 1 (kept_deletes cluster.ops)) (suc (length (kept_deletes cluster.ops)))

-- a container in which nothing was written has no root, and term 0
abbrev pub no_record : ClusterRecord
no_record = record { ledger = record { safe = 0; pending = 0; term = 0 }; ops = [] }

abbrev pub no_root : RootData
no_root = record { snapshots = []; indices = [] }

-- opening the image leads to this world
pub data Opened (f : Formats) (image : Image) : World → Type 0 where
  OpenedEmpty : image.text ≡ None → Opened f image (opened image.blobs no_record no_root)
  OpenedRecord : (cluster : ClusterRecord) (text : Bytes) (root : RootData) → image.text ≡ Some text → f.cluster.read text ≡ Some cluster
      → RootIs f (At f image.blobs) cluster.ledger.safe root → Opened f image (opened image.blobs cluster root)
