-- What was read of the parts of a file.
use Rattle.std.specs.Prelude.{◌≡◌, ℕ, suc, ◌≤◌, Bool, true, false, List, length, Option, option_map}
use Rattle.std.specs.List.{concat}
use Rattle.esr_names.specs.declared.blob.ShardId.{ShardId}
use Rattle.esr_model.specs.Names.{BlobName}
use Rattle.esr_model.specs.Values.{Bytes}
use Rattle.esr_core.specs.World.{Reader}
use Rattle.esr_core.specs.Restores.{WasRead}
use Rattle.esr_hash.specs.declared.hasher.Hasher.{Hasher}
use Rattle.esr_hash.specs.Fed.{HasFed}
use Rattle.esr_parts.specs.Reads.{Fed}
use Rattle.esr_parts.specs.Back.{Grew}
use Rattle.esr_source.specs.Begun.{Begun, more}
use Rattle.esr_shardidx.specs.declared.entry.FileEntry.{FileEntry as CodeEntry}
use Rattle.esr_formats.specs.Shards.{entry_of}
use Rattle.esr_desk.specs.Start.{Start, told_bytes}
use Rattle.esr_desk.specs.Readers.{with_read}
use Rattle.esr_desk.specs.Restore.Parts.{IsFront, AreFronts, AreExact}

-- a blob came, of which nothing is read yet; where the container is quiet no read of it fails
pub record Came (s : Start) (old new : Reader) (name : BlobName) (left : Option Bytes) (sure : Bool) : Type 0 where
  pub bytes : Bytes
  pub holds : left ≡ told_bytes s bytes
  pub is : new ≡ with_read name (told_bytes s bytes) old
  pub served : s.quiet ≡ true → sure ≡ true

-- a part was read, to one byte past its size at most, hashed, and written as far as its size; whether it has exactly that size
pub record ReadPart (s : Start) (q : Reader) (hasher_old hasher_new : Hasher) (begun_old begun_new : Option Begun) (name : BlobName) (size : ℕ) (exact : Bool) : Type 0 where
  pub front : Bytes
  pub read : s.tells ≡ true → IsFront (WasRead q.read) (name, size) front
  pub fed : Fed hasher_old hasher_new front
  pub bound : length front ≤ suc size
  pub grew : Grew begun_old begun_new size front
  pub whole : exact ≡ true → length front ≡ size
  pub other : exact ≡ false → length front ≡ size → ⊥

-- all parts of a file were read; where each has its size, the begun file has grown by what was read
pub record ReadParts (s : Start) (q : Reader) (hasher : Hasher) (begun_old begun_new : Option Begun) (at : ShardId) (e : CodeEntry) (exact : Bool) : Type 0 where
  pub fronts : List Bytes
  pub read : s.tells ≡ true → AreFronts (WasRead q.read) at.index.number at.number (entry_of e) fronts
  pub fed : HasFed hasher (concat fronts)
  pub whole : exact ≡ true → AreExact at.index.number at.number (entry_of e) fronts
  pub grew : exact ≡ true → begun_new ≡ option_map (more (concat fronts)) begun_old
  pub other : exact ≡ false → AreExact at.index.number at.number (entry_of e) fronts → ⊥
