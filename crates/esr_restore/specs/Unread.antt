-- Blobs that the ticket has not read.
use Rattle.std.specs.Prelude.{◌≡◌, ◌<◌, ℕ, List}
use Rattle.esr_names.specs.declared.blob.ShardId.{ShardId}
use Rattle.esr_model.specs.Names.{BlobName}
use Rattle.esr_model.specs.Values.{Has}
use Rattle.esr_core.specs.Entry.{ReadBlob, ReadStep, Moment}
use Rattle.esr_shardidx.specs.declared.entry.FileEntry.{FileEntry as CodeEntry}
use Rattle.esr_shardidx.specs.Parts.{part_name}
use Rattle.esr_formats.specs.Names.{name_of}
use Rattle.esr_desk.specs.Start.{Start}
use Rattle.esr_desk.specs.Once.{IsFresh}

-- it has fetched none of these blobs
abbrev pub AreUnread : Start → List Moment → ℕ → (BlobName → Type 0) → Type 0
AreUnread s log who P = (name : BlobName) → P name → IsFresh s log who (ReadStep (ReadBlob name))

-- the name of a part of the file, of one of the first n parts
abbrev pub IsPartOf : ShardId → CodeEntry → BlobName → Type 0
IsPartOf at e name = (k : ℕ) × (name_of (part_name at e k) ≡ name)

abbrev pub IsPartBefore : ShardId → CodeEntry → ℕ → BlobName → Type 0
IsPartBefore at e n name = (k : ℕ) × (k < n) × (name_of (part_name at e k) ≡ name)

-- the name of a part of one of the files
abbrev pub IsPartOfAny : ShardId → List CodeEntry → BlobName → Type 0
IsPartOfAny at es name = (e : CodeEntry) × Has es e × IsPartOf at e name
