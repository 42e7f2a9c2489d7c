-- What the tickets of restores are of, over any container.
use Rattle.std.specs.Prelude.{◌≡◌, ℕ, ◌<◌, true, List, Some, map}
use Rattle.std.specs.FinMap as fin
use Rattle.esr_model.specs.Values.{Bytes, Has, IndexRef}
use Rattle.esr_model.specs.Places.{places}
use Rattle.esr_core.specs.World.{World, RestoreShard, Restoring, Reader}
use Rattle.esr_core.specs.Entry.{ReadStep, RestoredShard, HasEnded, Moment}

-- in this step the ticket has restored its shard
abbrev pub RestoresIn : Moment → ℕ → ℕ → ℕ → Type 0
RestoresIn m k files bytes = m.entry ≡ record { who = k; step = ReadStep (RestoredShard files bytes); reply = HasEnded }

-- the ticket is of the same shard, of the same snapshot, for the same place
pub record IsSameReader (old new : Reader) : Type 0 where
  pub op_is : new.op ≡ old.op
  pub uuid_is : new.uuid ≡ old.uuid
  pub index_is : new.index ≡ old.index
  pub number_is : new.number ≡ old.number
  pub name_is : new.name ≡ old.name
  pub place_is : new.place ≡ old.place

-- under this number there is a ticket that is the same
pub record IsThereAs (w : World) (k : ℕ) (old : Reader) : Type 0 where
  pub q : Reader
  pub there : fin.get w.readers k ≡ Some q
  pub same : IsSameReader old q

-- a ticket was given for this shard
pub record IsGiven (w : World) (k o index number uuid : ℕ) : Type 0 where
  pub q : Reader
  pub there : fin.get w.readers k ≡ Some q
  pub out : q.out ≡ true
  pub op_is : q.op ≡ o
  pub index_is : q.index ≡ index
  pub number_is : q.number ≡ number
  pub uuid_is : q.uuid ≡ uuid

-- the ticket reads a shard of one of these indices, as the snapshot of this uuid has it, for this place
pub record IsReaderOf (q : Reader) (uuid : ℕ) (place : Bytes) (indices : List IndexRef) : Type 0 where
  pub uuid_is : q.uuid ≡ uuid
  pub place_is : q.place ≡ place
  pub shard : IndexRef × ℕ
  pub there : Has (places indices) shard
  pub index_is : shard.0.id ≡ q.index
  pub name_is : shard.0.name ≡ q.name
  pub number_is : shard.1 ≡ q.number

-- the restore of this op, while it is open, is of this snapshot, this place, and the shards of these indices
pub record IsRestoreOf (r : Restoring) (uuid : ℕ) (place : Bytes) (indices : List IndexRef) : Type 0 where
  pub uuid_is : r.uuid ≡ uuid
  pub place_is : r.place ≡ place
  pub shards : map (λ (s : RestoreShard). (s.ref, s.number)) r.shards ≡ places indices

pub record ReadsAs (w : World) (o uuid : ℕ) (place : Bytes) (indices : List IndexRef) : Type 0 where
  pub begun : o < w.next_op
  pub restore : (r : Restoring) → fin.get w.restores o ≡ Some r → IsRestoreOf r uuid place indices
