-- What is stored of a shard, read from the blobs.
use Rattle.std.specs.Prelude.{ℕ, List, [], Option, Some, None, map}
use Rattle.std.specs.FinMap as fin
use Rattle.esr_model.specs.Names.{BlobName, ShardSnap}
use Rattle.esr_model.specs.Values.{Bytes, FileEntry, ShardSnapshot, Formats}
use Rattle.esr_model.specs.Parts.{part_names}
use Rattle.esr_model.specs.Image.{Blobs, concat}

abbrev pub or_no_bytes : Option Bytes → Bytes
or_no_bytes None = []
or_no_bytes (Some bytes) = bytes

-- the bytes of a blob; none where it isn't there
abbrev pub blob_at : Formats → Blobs → BlobName → Bytes
blob_at f blobs name = or_no_bytes (fin.get blobs (f.names.text name))

-- a file: its physical name, and the bytes of its parts, one after another
abbrev pub stored_file : Formats → Blobs → ℕ → ℕ → FileEntry → Bytes × Bytes
stored_file f blobs index shard e = (e.physical, concat (map (blob_at f blobs) (part_names index shard e)))

abbrev pub or_no_entries : Option ShardSnapshot → List FileEntry
or_no_entries None = []
or_no_entries (Some snap) = snap.files

-- the files that a snapshot lists of the shard
abbrev pub stored_entries : Formats → Blobs → ℕ → ℕ → ℕ → List FileEntry
stored_entries f blobs index shard uuid = or_no_entries (f.shard_snap.read (blob_at f blobs (ShardSnap index shard uuid)))

-- the files of the shard with their bytes
abbrev pub stored_files : Formats → Blobs → ℕ → ℕ → ℕ → List (Bytes × Bytes)
stored_files f blobs index shard uuid = map (stored_file f blobs index shard) (stored_entries f blobs index shard uuid)
