-- The plan of a delete or cleanup, and the shard indices that are written by it.
use Rattle.std.specs.Prelude.{◌≡◌, ◌⊎◌, ℕ, ◌+◌, ◌<◌, ◌^◌, Bool, true, false, List, [], length, Option, Some, None}
use Rattle.esr_model.specs.Names.{BlobName, ShardIndex}
use Rattle.esr_model.specs.Values.{Bytes, Has, RootData, ShardFiles, IsOneEach}
use Rattle.esr_model.specs.Delete.{PrunedShard, files_read, left_text, deleted_root}
use Rattle.esr_core.specs.World.{Ticket, Deleting, Swap, swap}
use Rattle.esr_core.specs.Pruning.{AreRead, AreOfRoot, AreWritable, pruned_shards, delete_swap, planned}
use Rattle.esr_core.specs.Allowed.{IsUnlisted}
use Rattle.esr_reach.specs.Held.{HeldShard, held_at}
use Rattle.esr_dooming.specs.Reading.{AreToRead, AreHeldSome}
use Rattle.esr_desk.specs.Start.{Start, formats_of}
use Rattle.esr_desk.specs.Conditions.{CanCommit}
use Rattle.esr_finish.specs.Ticket.{MayPutRoot, IsUnnoted, noted_with}
use Rattle.esr_delete.specs.Gathered.{HoldsRead}

-- what is planned: the shards that go by what was read, and the root with the generations that were drawn for them
pub record IsDraft (s : Start) (t : Ticket) (uuids : List ℕ) (held : List HeldShard) (shards : List PrunedShard) (first : ℕ) (root : RootData) : Type 0 where
  pub blobs : List (BlobName × Bytes)
  pub told : s.tells ≡ true → t.read ≡ blobs
  pub are_held : HoldsRead (formats_of s) t.root blobs held
  pub are_read : AreRead (formats_of s) t.clean t.root uuids blobs
  pub shards_are : shards ≡ pruned_shards (formats_of s) t.clean t.root uuids blobs
  pub of_root : AreOfRoot t.root shards
  pub are_to_read : AreToRead t.clean t.root uuids shards
  pub some_held : AreHeldSome held shards
  pub writable : AreWritable (formats_of s) t.root uuids blobs shards
  pub one_each : IsOneEach t.root.indices
  pub root_is : root ≡ deleted_root t.root uuids shards first
  pub range : first + length shards < 2 ^ 128

-- it was planned so
pub record HasPlanned (s : Start) (old new : Ticket) (uuids : List ℕ) (held : List HeldShard) (shards : List PrunedShard) (first : ℕ) (root : RootData) : Type 0 where
  pub draft : IsDraft s old uuids held shards first root
  pub is : new ≡ planned (formats_of s) shards first old

-- these blobs were committed one after another, each added
pub record Notes (s : Start) (old new : Ticket) (blobs : List (BlobName × Bytes)) : Type 0 where
  -- those that were added, where the container tells
  pub wrote : List (BlobName × Bytes)
  pub from : s.tells ≡ true → (b : BlobName × Bytes) → Has wrote b → Has old.wrote b ⊎ Has blobs b
  pub is : new ≡ record old { noted = noted_with blobs old.noted; wrote = wrote }

-- all shard indices of its plan were
pub record NotesOwn (s : Start) (old new : Ticket) : Type 0 where
  pub change : Swap
  pub is : swap (formats_of s) old ≡ Some change
  pub notes : Notes s old new change.own

-- the ticket of a delete or cleanup is out
pub record IsPruner (t : Ticket) (clean : Bool) : Type 0 where
  pub out : t.out ≡ true
  pub uuids : List ℕ
  pub plan : Option Swap
  pub work : t.work ≡ Deleting uuids plan
  pub mode : t.clean ≡ clean

-- the ticket has this plan, and has written nothing
pub record IsUnwritten (s : Start) (t : Ticket) (held : List HeldShard) (shards : List PrunedShard) (first : ℕ) (root : RootData) : Type 0 where
  pub uuids : List ℕ
  pub out : t.out ≡ true
  pub unsettled : t.settled ≡ false
  pub draft : IsDraft s t uuids held shards first root
  pub work : t.work ≡ Deleting uuids (Some (delete_swap (formats_of s) t.clean t.root t.read uuids shards first))
  pub unraised : t.raised ≡ None
  pub unnoted : t.noted ≡ []
  pub untried : t.tried_latest ≡ false
  pub unlisted : IsUnlisted t

-- the ticket has this plan, and has written its shard indices, so that its root is next
pub record IsIndexed (s : Start) (t : Ticket) (held : List HeldShard) (shards : List PrunedShard) (first : ℕ) (root : RootData) : Type 0 where
  pub uuids : List ℕ
  pub out : t.out ≡ true
  pub unsettled : t.settled ≡ false
  pub draft : IsDraft s t uuids held shards first root
  pub work : t.work ≡ Deleting uuids (Some (delete_swap (formats_of s) t.clean t.root t.read uuids shards first))
  pub next : MayPutRoot s t root
  pub untried : t.tried_latest ≡ false
  pub unlisted : IsUnlisted t

-- what the old index of a shard is known to be, which is written without some snapshots under this id
pub record IsIndexOf (s : Start) (t : Ticket) (held : List HeldShard) (left : List ℕ) (p : PrunedShard) (id : ℕ) : Type 0 where
  pub files : ShardFiles
  pub is_held : held_at held p.index p.number ≡ Some files
  pub told : s.tells ≡ true → files_read (formats_of s) t.read p ≡ Some files
  pub may : p.kept ≡ true → CanCommit s t (ShardIndex p.index p.number id) (left_text (formats_of s) left (files_read (formats_of s) t.read p))
  pub new : p.kept ≡ true → IsUnnoted t (ShardIndex p.index p.number id)
