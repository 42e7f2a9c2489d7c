-- What was read of the parts of a file.
use Rattle.std.specs.Prelude.{◌≡◌, ℕ, suc, ◌≤◌, Bool, true, false, length, List}
use Rattle.esr_names.specs.declared.blob.ShardId.{ShardId}
use Rattle.esr_model.specs.Names.{BlobName}
use Rattle.esr_model.specs.Values.{Bytes, Has}
use Rattle.std.specs.List.{concat}
use Rattle.esr_model.specs.Parts.{part_names}
use Rattle.esr_core.specs.World.{Caller}
use Rattle.esr_core.specs.Restores.{WasRead}
use Rattle.esr_hash.specs.declared.hasher.Hasher.{Hasher}
use Rattle.esr_hash.specs.Fed.{HasFed}
use Rattle.esr_parts.specs.Reads.{Fed}
use Rattle.esr_shardidx.specs.declared.entry.FileEntry.{FileEntry as CodeEntry}
use Rattle.esr_formats.specs.Shards.{entry_of}
use Rattle.esr_desk.specs.Start.{Start}
use Rattle.esr_desk.specs.Restore.Parts.{IsFront, AreFronts, AreExact}

-- a part was read, to one byte past its size at most, and hashed; whether it has exactly that size
pub record ReadPart (s : Start) (c : Caller) (hasher_old hasher_new : Hasher) (name : BlobName) (size : ℕ) (exact : Bool) : Type 0 where
  pub front : Bytes
  pub found : Has c.found name
  pub read : s.tells ≡ true → IsFront (WasRead c.read) (name, size) front
  pub fed : Fed hasher_old hasher_new front
  pub bound : length front ≤ suc size
  pub whole : exact ≡ true → length front ≡ size
  pub other : exact ≡ false → length front ≡ size → ⊥

-- all parts of a file were read and hashed; whether each has its size
pub record ReadParts (s : Start) (c : Caller) (hasher : Hasher) (at : ShardId) (e : CodeEntry) (exact : Bool) : Type 0 where
  pub fronts : List Bytes
  pub found : (name : BlobName) → Has (part_names at.index.number at.number (entry_of e)) name → Has c.found name
  pub read : s.tells ≡ true → AreFronts (WasRead c.read) at.index.number at.number (entry_of e) fronts
  pub fed : HasFed hasher (concat fronts)
  pub whole : exact ≡ true → AreExact at.index.number at.number (entry_of e) fronts
  pub other : exact ≡ false → AreExact at.index.number at.number (entry_of e) fronts → ⊥
