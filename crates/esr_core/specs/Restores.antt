-- What a restore is made of, and what its steps make of it.
use Rattle.std.specs.Prelude.{◌≡◌, ◌≢◌, ℕ, suc, Bool, true, false, List, [], ◌∷◌, Option, Some, None, map, ◌==◌, ◌&&◌, ◌||◌, if◌then◌else◌}
use Rattle.std.specs.Ordering.{nat_cmp}
use Rattle.std.specs.FinMap.{FinMap}
use Rattle.std.specs.FinMap as fin
use Rattle.esr_model.specs.Names.{BlobName, Root, Latest, Snap, Meta, IndexMeta, ShardSnap, ShardIndex, File, Part, TestMaster, TestNode}
use Rattle.esr_model.specs.Values.{Bytes, Has, IndexRef, FileEntry, ShardSnapshot, Formats}
use Rattle.esr_model.specs.Parts.{part_names}
use Rattle.esr_model.specs.Places.{places}
use Rattle.esr_model.specs.Image.{Reads}
use Rattle.esr_core.specs.World.{World, ReadState, Unread, BeingRead, Restored, NotRestored, RestoreShard, Restoring, Reader}

-- none stands twice
abbrev pub AreOnce : {A : Type 0} → List A → Type 0
AreOnce [] = Unit {0}
AreOnce (x ∷ xs) = (Has xs x → ⊥) × AreOnce xs

-- ---- a restore

-- the ids are distinct
abbrev pub AreApart : List IndexRef → Type 0
AreApart [] = Unit {0}
AreApart (r ∷ refs) = ((q : IndexRef) → Has refs q → r.id ≢ q.id) × AreApart refs

-- it begins with each shard of these indices unread
abbrev pub unread : IndexRef × ℕ → RestoreShard
unread p = record { ref = p.0; number = p.1; state = Unread }

abbrev pub restore_of : ℕ → Bytes → List IndexRef → Restoring
restore_of uuid place indices = record { uuid = uuid; place = place; shards = map unread (places indices) }

-- the shard is unread or being read
abbrev pub waits : ReadState → Bool
waits Unread = true
waits (BeingRead ticket) = true
waits (Restored files bytes) = false
waits (NotRestored why) = false

abbrev pub any_waits : List RestoreShard → Bool
any_waits [] = false
any_waits (s ∷ shards) = waits s.state || any_waits shards

-- a restore ends with its last shard; one without shards is none
abbrev pub put_restore : FinMap nat_cmp Restoring → ℕ → Restoring → FinMap nat_cmp Restoring
put_restore restores o r = if any_waits r.shards then fin.insert restores o r else fin.remove restores o

-- the shard that is of this index and number
abbrev pub restore_shard : List RestoreShard → ℕ → ℕ → Option RestoreShard
restore_shard [] index number = None
restore_shard (s ∷ shards) index number = if (s.ref.id == index) && (s.number == number) then Some s else restore_shard shards index number

-- it goes to a ticket
abbrev pub handed : ℕ → ℕ → ℕ → RestoreShard → RestoreShard
handed k index number s = if (s.ref.id == index) && (s.number == number) then record s { state = BeingRead k } else s

-- what a ticket reads goes on to this state
abbrev pub ended_by : ℕ → ReadState → RestoreShard → ReadState → RestoreShard
ended_by k new s (BeingRead j) = if j == k then record s { state = new } else s
ended_by k new s Unread = s
ended_by k new s (Restored files bytes) = s
ended_by k new s (NotRestored why) = s

abbrev pub ended : ℕ → ReadState → RestoreShard → RestoreShard
ended k new s = ended_by k new s s.state

-- ---- its tickets

abbrev pub reader_of : ℕ → Restoring → RestoreShard → Reader
reader_of o r s = record { op = o; uuid = r.uuid; index = s.ref.id; number = s.number; name = s.ref.name; place = r.place; read = []; out = true }

abbrev pub read_more : Reader → BlobName → Bytes → Reader
read_more q name bytes = record q { read = (name, bytes) ∷ q.read }

-- the ticket is out under this number
pub record IsReading (w : World) (k : ℕ) (q : Reader) : Type 0 where
  pub there : fin.get w.readers k ≡ Some q
  pub out : q.out ≡ true

-- these bytes were read under the name
abbrev pub WasRead : List (BlobName × Bytes) → BlobName → Bytes → Type 0
WasRead read name bytes = Has read (name, bytes)

-- the blob is that of a file of the shard, or of a part of one
abbrev pub IsPiece : ℕ → ℕ → BlobName → Type 0
IsPiece index number (Root n) = ⊥
IsPiece index number Latest = ⊥
IsPiece index number (Snap u) = ⊥
IsPiece index number (Meta u) = ⊥
IsPiece index number (IndexMeta i u) = ⊥
IsPiece index number (ShardSnap i k u) = ⊥
IsPiece index number (ShardIndex i k g) = ⊥
IsPiece index number (File i k x) = (i ≡ index) × (k ≡ number)
IsPiece index number (Part i k x p) = (i ≡ index) × (k ≡ number)
IsPiece index number (TestMaster v) = ⊥
IsPiece index number (TestNode v n) = ⊥

-- the blob is a test blob under this id
abbrev pub IsTestOf : ℕ → BlobName → Type 0
IsTestOf v (Root n) = ⊥
IsTestOf v Latest = ⊥
IsTestOf v (Snap u) = ⊥
IsTestOf v (Meta u) = ⊥
IsTestOf v (IndexMeta i u) = ⊥
IsTestOf v (ShardSnap i k u) = ⊥
IsTestOf v (ShardIndex i k g) = ⊥
IsTestOf v (File i k x) = ⊥
IsTestOf v (Part i k x p) = ⊥
IsTestOf v (TestMaster u) = u ≡ v
IsTestOf v (TestNode u n) = u ≡ v

-- what the ticket read as the snapshot of its shard lists the blob
pub record ListsPiece (f : Formats) (q : Reader) (name : BlobName) : Type 0 where
  pub snap : ShardSnapshot
  pub snap_read : Reads (WasRead q.read) (ShardSnap q.index q.number q.uuid) f.shard_snap snap
  pub e : FileEntry
  pub listed : Has snap.files e
  pub part : Has (part_names q.index q.number e) name

-- ---- the world after its steps

abbrev pub restore_opened : World → ℕ → Bytes → List IndexRef → World
restore_opened w uuid place indices = record w { restores = put_restore w.restores w.next_op (restore_of uuid place indices); next_op = suc w.next_op }

abbrev pub shard_handed : World → ℕ → Restoring → RestoreShard → World
shard_handed w o r s =
    record w { restores = fin.insert w.restores o (record r { shards = map (handed w.next_ticket s.ref.id s.number) r.shards }); readers = fin.insert w.readers w.next_ticket (reader_of o r s); next_ticket = suc w.next_ticket }

abbrev pub more_read : World → ℕ → Reader → BlobName → Bytes → World
more_read w k q name bytes = record w { readers = fin.insert w.readers k (read_more q name bytes) }

abbrev pub shard_ended : World → ℕ → Reader → Restoring → ReadState → World
shard_ended w k q r state =
    record w { restores = put_restore w.restores q.op (record r { shards = map (ended k state) r.shards }); readers = fin.insert w.readers k (record q { out = false }) }
