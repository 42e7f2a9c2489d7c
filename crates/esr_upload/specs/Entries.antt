-- The entries and the blobs of planned files.
use Rattle.std.specs.Prelude.{◌≡◌, ℕ, ◌+◌, List, [], ◌∷◌, ◌++◌, map, Option, Some, None, option_map}
use Rattle.std.specs.List.{AllByRecursion}
use Rattle.esr_hash.specs.declared.print.Print.{Print}
use Rattle.esr_hash.specs.Prints.{print_of}
use Rattle.esr_model.specs.Names.{BlobName}
use Rattle.esr_model.specs.Values.{Bytes}
use Rattle.esr_model.specs.Uploads.{blobs_by}
use Rattle.esr_core.specs.World.{Ticket}
use Rattle.esr_source.specs.declared.files.ListedFile.{ListedFile}
use Rattle.esr_shardidx.specs.declared.entry.FileEntry.{FileEntry as CodeEntry}
use Rattle.esr_parts.specs.Reads.{Tells}
use Rattle.esr_formats.specs.Ids.{id_of}
use Rattle.esr_formats.specs.Shards.{entry_of}
use Rattle.esr_reuse.specs.declared.reuse.Planned.{Planned}
use Rattle.esr_reuse.specs.Plans.{file_planned}
use Rattle.esr_desk.specs.Start.{Start}
use Rattle.esr_desk.specs.Taken.{after_writes}
use Rattle.esr_upload.specs.Surveyed.{printed, TellsAll, IsShort, ListsAsMany}

-- one for a file that reuses nothing
abbrev pub is_new : Option CodeEntry → ℕ
is_new None = 1
is_new (Some e) = 0

-- how many of the files reuse nothing
abbrev pub new_count : List Planned → ℕ
new_count [] = 0
new_count (p ∷ ps) = is_new p.reused + new_count ps

abbrev pub len_planned : Planned → ℕ
len_planned p = p.print.len

-- the entry of a file: the one that it reuses, or a new one under this id
abbrev pub entry_at : ℕ → ℕ → Planned → Option CodeEntry → CodeEntry
entry_at size next p None = record { name = id_of next; physical = p.physical; print = p.print; part_size = size }
entry_at size next p (Some e) = e

-- the entries of files, the new ones under ids from this one on
abbrev pub entries_at : ℕ → ℕ → List Planned → List CodeEntry
entries_at size next [] = []
entries_at size next (p ∷ ps) = entry_at size next p p.reused ∷ entries_at size (next + is_new p.reused) ps

-- the blobs of a file of these bytes, unless it is reused
abbrev pub blobs_at : ℕ → ℕ → CodeEntry → Bytes → Option CodeEntry → List (BlobName × Bytes)
blobs_at index number e bytes reuse = blobs_by index number (entry_of e) bytes (option_map entry_of reuse)

-- the blobs of files
abbrev pub all_blobs : ℕ → ℕ → ℕ → ℕ → List Planned → List (Bytes × Bytes) → List (BlobName × Bytes)
all_blobs index number size next [] fs = []
all_blobs index number size next (p ∷ ps) [] = []
all_blobs index number size next (p ∷ ps) (f ∷ fs) =
    blobs_at index number (entry_at size next p p.reused) f.1 p.reused ++ all_blobs index number size (next + is_new p.reused) ps fs

-- a file was read, and had this print
pub record ReadOnce (told : Option Bytes) (print : Print) : Type 0 where
  pub bytes : Bytes
  pub tells : Tells told bytes
  pub print_is : print_of bytes ≡ print

-- all files were read for these plans
pub record Reads (told : Option (List (Bytes × Bytes))) (listed : Option (List ListedFile)) (ps : List Planned) : Type 0 where
  pub files : List (Bytes × Bytes)
  pub named : map file_planned ps ≡ map printed files
  pub tells : TellsAll told files
  pub short : AllByRecursion IsShort files
  pub many : ListsAsMany listed files

-- the blobs of a file were committed, unless it is reused
pub record StoredOne (s : Start) (told : Option Bytes) (index number : ℕ) (p : Planned) (e : CodeEntry) (old new : Ticket) : Type 0 where
  pub bytes : Bytes
  pub tells : Tells told bytes
  pub print_is : print_of bytes ≡ p.print
  pub is : new ≡ after_writes s (blobs_at index number e bytes p.reused) old

-- the blobs of the files that reuse nothing were committed, file by file, under ids from this one on
pub record StoredAll (s : Start) (told : Option (List (Bytes × Bytes))) (index number size first : ℕ) (ps : List Planned) (es : List CodeEntry) (old new : Ticket) : Type 0 where
  pub files : List (Bytes × Bytes)
  pub named : map file_planned ps ≡ map printed files
  pub tells : TellsAll told files
  pub entries : es ≡ entries_at size first ps
  pub is : new ≡ after_writes s (all_blobs index number size first ps files) old
