-- The parts of a file that are put one after another.
use Rattle.std.specs.Prelude.{◌≡◌, ◌⊎◌, ℕ, zero, suc, ◌<◌, Bool, true, false, List, [], ◌∷◌, length, take, drop, Option}
use Rattle.std.specs.Io.KnownBytes.{Consumes, IsAtEnd}
use Rattle.esr_names.specs.declared.blob.ShardId.{ShardId}
use Rattle.esr_names.specs.declared.blob.BlobName.{BlobName as CodeName}
use Rattle.esr_names.specs.Layout.{IsName}
use Rattle.esr_model.specs.Names.{BlobName}
use Rattle.esr_model.specs.Values.{Bytes}
use Rattle.esr_model.specs.Uploads.{file_blobs}
use Rattle.esr_core.specs.World.{Ticket, Shard}
use Rattle.esr_core.specs.Entry.{Moment}
use Rattle.esr_core.specs.After.{committing}
use Rattle.esr_core.specs.Allowed.{IsMetadata, IsNumbered}
use Rattle.esr_hash.specs.declared.hasher.Hasher.{Hasher}
use Rattle.esr_hash.specs.Fed.{HasFed}
use Rattle.esr_parts.specs.Reads.{Fed}
use Rattle.esr_shardidx.specs.declared.entry.FileEntry.{FileEntry as CodeEntry}
use Rattle.esr_shardidx.specs.Parts.{part_name, part_count as code_count}
use Rattle.esr_formats.specs.Names.{name_of}
use Rattle.esr_formats.specs.Shards.{entry_of}
use Rattle.esr_desk.specs.declared.refusal.StepRefusal.TheVariants.{Memory}
use Rattle.esr_desk.specs.Start.{Start, formats_of, told_bytes}
use Rattle.esr_desk.specs.Conditions.{CanCommit}
use Rattle.esr_desk.specs.Taken.{after_writes}
use Rattle.esr_desk.specs.Told.{TellsAll}
use Rattle.esr_unit.specs.declared.trouble.Trouble.{Trouble}
use Rattle.esr_unit.specs.declared.trouble.Trouble.TheVariants as troubles

-- there was no memory to start a file, or its source failed
abbrev pub IsOfStart : {S F : Type 0} → ℕ → Trouble S F → Type 0
IsOfStart faults (troubles.Step refusal) = refusal ≡ Memory
IsOfStart faults troubles.Own = 0 < faults
IsOfStart faults trouble = ⊥

-- the ticket is of a shard, and a blob of the name may be stored, whatever its bytes
pub record CanStore (s : Start) (t : Ticket) (name : CodeName) : Type 0 where
  pub index : ℕ
  pub number : ℕ
  pub work : t.work ≡ Shard index number
  pub layout : IsName name
  pub own : IsMetadata (name_of name) → ⊥
  pub may : (bytes : Bytes) → CanCommit s t (name_of name) bytes

-- a piece of the file was read and hashed: it has the whole size and is the blob of this name, or the file is at its end
pub record PutPart (s : Start) (left_old left_new : Option Bytes) (hasher_old hasher_new : Hasher) (old new : Ticket) (name : BlobName) (size : ℕ) (full : Bool) : Type 0 where
  pub piece : Bytes
  pub took : Consumes left_old left_new piece
  pub fed : Fed hasher_old hasher_new piece
  pub whole : full ≡ true → (length piece ≡ size) × (new ≡ committing name (told_bytes s piece) old)
  pub short : full ≡ false → (length piece < size) × IsAtEnd left_new

-- the name of the part of that number
abbrev pub blob_name : ShardId → CodeEntry → ℕ → BlobName
blob_name at e k = name_of (part_name at e k)

-- where the files of the ticket's shard are known, each part of the entry has the number of one of the parts of one of them
abbrev pub AreNumbered : Start → Ticket → ShardId → CodeEntry → Type 0
AreNumbered s t at e = (k : ℕ) → k < code_count e.print.len e.part_size → IsNumbered (formats_of s) s.part_size t at.number (blob_name at e k) t.source

-- n pieces of the size, under the names from number j on
unfoldable pub cut : (ℕ → BlobName) → ℕ → ℕ → ℕ → Bytes → List (BlobName × Bytes)
cut name size j zero bytes = []
cut name size j (suc n) bytes = (name j, take size bytes) ∷ cut name size (suc j) n (drop size bytes)

-- the file was read and hashed up to its entry's length, or to its end before; with that length its blobs were committed
pub record PutParts (s : Start) (left_old left_new : Option Bytes) (hasher : Hasher) (at : ShardId) (e : CodeEntry) (old new : Ticket) : Type 0 where
  pub bytes : Bytes
  pub took : Consumes left_old left_new bytes
  pub fed : HasFed hasher bytes
  pub ends : IsAtEnd left_new ⊎ (length bytes ≡ e.print.len)
  pub is : length bytes ≡ e.print.len → new ≡ after_writes s (file_blobs at.index.number at.number (entry_of e) bytes) old

-- where the file had this length, the ticket tells each step that it made
pub record PartsTold (s : Start) (log : List Moment) (who : ℕ) (hasher : Hasher) (len : ℕ) : Type 0 where
  pub bytes : Bytes
  pub fed : HasFed hasher bytes
  pub tells : length bytes ≡ len → TellsAll s log who
