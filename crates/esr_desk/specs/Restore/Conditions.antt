-- What a step of a restore's ticket needs, by what the ticket has read.
use Rattle.std.specs.Prelude.{◌≡◌, ◌⊎◌, ℕ, true}
use Rattle.esr_model.specs.Names.{BlobName, ShardSnap}
use Rattle.esr_core.specs.World.{Reader}
use Rattle.esr_core.specs.Restores.{IsPiece, ListsPiece}
use Rattle.esr_core.specs.Allowed.{RestoredBy}
use Rattle.esr_desk.specs.Start.{Start, formats_of}

-- it fetches the snapshot of its shard, and then the parts of the files that this lists
pub record CanRead (s : Start) (q : Reader) (name : BlobName) : Type 0 where
  pub out : q.out ≡ true
  pub may : (name ≡ ShardSnap q.index q.number q.uuid) ⊎ (IsPiece q.index q.number name × (s.tells ≡ true → ListsPiece (formats_of s) q name))

-- it has restored so many files of so many bytes
pub record CanEndRestore (s : Start) (q : Reader) (files bytes : ℕ) : Type 0 where
  pub out : q.out ≡ true
  pub done : s.tells ≡ true → RestoredBy (formats_of s) q files bytes
