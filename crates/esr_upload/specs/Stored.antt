-- A file that is stored under an id.
use Rattle.std.specs.Prelude.{◌≡◌, ℕ, ◌<◌, false, true, List, Option, Some, None}
use Rattle.esr_model.specs.Names.{BlobName, File, Part}
use Rattle.esr_model.specs.Values.{Bytes, Has}
use Rattle.esr_model.specs.Uploads.{file_blobs}
use Rattle.esr_core.specs.World.{Ticket, Shard}
use Rattle.esr_core.specs.Steps.{Drew}
use Rattle.esr_hash.specs.Prints.{print_of}
use Rattle.esr_parts.specs.Reads.{Tells}
use Rattle.esr_shardidx.specs.declared.entry.FileEntry.{FileEntry as CodeEntry}
use Rattle.esr_formats.specs.Shards.{entry_of}
use Rattle.esr_desk.specs.Start.{Start}
use Rattle.esr_desk.specs.Sources.{TellSame}
use Rattle.esr_desk.specs.Taken.{after_writes}

-- the name is of a file with an id below this one
abbrev pub IsFileBelow : ℕ → BlobName → Type 0
IsFileBelow id (File index number file) = file < id
IsFileBelow id (Part index number file part) = file < id
IsFileBelow id name = ⊥

-- the ticket has committed files with ids below this one, and nothing else
abbrev pub AreBelow : Ticket → ℕ → Type 0
AreBelow t id = (name : BlobName) → Has t.noted name → IsFileBelow id name

-- the ticket is out for the shard, and has drawn the id, under which it has committed nothing yet
pub record MayStore (t : Ticket) (index number id : ℕ) : Type 0 where
  pub out : t.out ≡ true
  pub unsettled : t.settled ≡ false
  pub work : t.work ≡ Shard index number
  pub drew : Drew t id
  pub below : AreBelow t id

-- the ticket is out for the shard
pub record IsAt (t : Ticket) (index number : ℕ) : Type 0 where
  pub out : t.out ≡ true
  pub unsettled : t.settled ≡ false
  pub work : t.work ≡ Shard index number

-- the ticket copies nothing, and where the files of its address are known the shard tells the same
pub record IsToldBy (s : Start) (told : Option (List (Bytes × Bytes))) (number : ℕ) (t : Ticket) : Type 0 where
  pub source_is : t.source ≡ None
  pub tells : s.known t.place t.name number ≡ true → TellSame told (s.told t.place t.name number)

-- the entry has the print of the file, where that is told
abbrev pub HasPrint : Option Bytes → CodeEntry → Type 0
HasPrint None e = Unit {0}
HasPrint (Some bytes) e = print_of bytes ≡ e.print

-- the blobs of the file were committed, one after another: they have the bytes that the file is told to have, of the entry's print
pub record Stored (s : Start) (told : Option Bytes) (index number : ℕ) (e : CodeEntry) (old new : Ticket) : Type 0 where
  pub bytes : Bytes
  pub tells : Tells told bytes
  pub print : print_of bytes ≡ e.print
  pub is : new ≡ after_writes s (file_blobs index number (entry_of e) bytes) old
