-- What a shard's unit stores of the files of a source.
use Rattle.std.specs.Prelude.{◌≡◌, ℕ, zero, suc, ◌+◌, Bool, true, false, ◌&&◌, ◌==◌, if◌then◌else◌, nat_lt, List, [], ◌∷◌, ◌++◌, map, length, take, drop, Option, Some, None}
use Rattle.std.specs.Ordering.{nat_cmp, eq_by_cmp}
use Rattle.std.specs.Cmp.Lexicographic.{slice_cmp}
use Rattle.esr_model.specs.Names.{BlobName, ShardSnap, ShardIndex}
use Rattle.esr_model.specs.Values.{Bytes, FileEntry, ShardSnapshot, SnapList, ShardFiles, Formats}
use Rattle.esr_model.specs.Parts.{part_count, part_names}
use Rattle.esr_model.specs.Places.{put_by}

abbrev pub same_bytes : Bytes → Bytes → Bool
same_bytes a b = eq_by_cmp (slice_cmp nat_cmp) a b

-- the entry has this physical name, length and digest
abbrev pub matches : FileEntry → Bytes → ℕ → Bytes → Bool
matches e physical len digest = same_bytes e.physical physical && ((e.len == len) && same_bytes e.digest digest)

-- the first entry that matches: its file is reused
abbrev pub reused : List FileEntry → Bytes → ℕ → Bytes → Option FileEntry
reused [] physical len digest = None
reused (e ∷ es) physical len digest = if matches e physical len digest then Some e else reused es physical len digest

abbrev pub reused_file : Formats → ShardFiles → Bytes × Bytes → Option FileEntry
reused_file f base file = reused base.files file.0 (length file.1) (f.digest file.1)

-- the entry of a file: the base's, or a new one under the next id
abbrev pub entry_by : Formats → ℕ → ℕ → Bytes × Bytes → Option FileEntry → FileEntry
entry_by f part_size next file None = record { name = next; physical = file.0; len = length file.1; digest = f.digest file.1; part_size = part_size }
entry_by f part_size next file (Some e) = e

abbrev pub next_by : Option FileEntry → ℕ → ℕ
next_by None next = suc next
next_by (Some e) next = next

-- the entries of the files, in their order
abbrev pub entries_from : Formats → ℕ → ShardFiles → ℕ → List (Bytes × Bytes) → List FileEntry
entries_from f part_size base next [] = []
entries_from f part_size base next (file ∷ files) = entry_by f part_size next file (reused_file f base file) ∷ entries_from f part_size base (next_by (reused_file f base file) next) files

-- the id after those of the new files
abbrev pub id_after : Formats → ShardFiles → ℕ → List (Bytes × Bytes) → ℕ
id_after f base next [] = next
id_after f base next (file ∷ files) = id_after f base (next_by (reused_file f base file) next) files

-- so many pieces of these bytes, each of the size, the last of what is left
abbrev pub pieces : ℕ → ℕ → Bytes → List Bytes
pieces size zero bytes = []
pieces size (suc zero) bytes = bytes ∷ []
pieces size (suc (suc n)) bytes = take size bytes ∷ pieces size (suc n) (drop size bytes)

abbrev pub pairs : {A B : Type 0} → List A → List B → List (A × B)
pairs [] ys = []
pairs (x ∷ xs) [] = []
pairs (x ∷ xs) (y ∷ ys) = (x, y) ∷ pairs xs ys

-- the blobs of a new file
abbrev pub file_blobs : ℕ → ℕ → FileEntry → Bytes → List (BlobName × Bytes)
file_blobs index shard e bytes = pairs (part_names index shard e) (pieces e.part_size (part_count e.len e.part_size) bytes)

abbrev pub blobs_by : ℕ → ℕ → FileEntry → Bytes → Option FileEntry → List (BlobName × Bytes)
blobs_by index shard e bytes None = file_blobs index shard e bytes
blobs_by index shard e bytes (Some base) = []

-- the blobs of the files that aren't reused
abbrev pub new_blobs : Formats → ℕ → ShardFiles → ℕ → ℕ → ℕ → List (Bytes × Bytes) → List (BlobName × Bytes)
new_blobs f part_size base index shard next [] = []
new_blobs f part_size base index shard next (file ∷ files) =
    blobs_by index shard (entry_by f part_size next file (reused_file f base file)) file.1 (reused_file f base file)
    ++ new_blobs f part_size base index shard (next_by (reused_file f base file) next) files

-- the index lists the file's id
abbrev pub has_entry : List FileEntry → ℕ → Bool
has_entry [] id = false
has_entry (e ∷ es) id = if e.name == id then true else has_entry es id

abbrev pub id_first : FileEntry → FileEntry → Bool
id_first a b = nat_lt a.name b.name

-- the files with those more that aren't there yet, by id
abbrev pub with_entries : List FileEntry → List FileEntry → List FileEntry
with_entries have [] = have
with_entries have (e ∷ es) = with_entries (if has_entry have e.name then have else put_by id_first e have) es

-- the shard index with a snapshot more
abbrev pub with_snap : ShardFiles → ℕ → List FileEntry → ShardFiles
with_snap base uuid entries =
    record { files = with_entries base.files entries; snapshots = base.snapshots ++ record { uuid = uuid; files = map (λ (e : FileEntry). e.name) entries } ∷ [] }

abbrev pub no_files : ShardFiles
no_files = record { files = []; snapshots = [] }

-- all that the unit of a shard writes: the new parts, the snapshot of the shard and its index under the last id
abbrev pub shard_blobs : Formats → ℕ → ShardFiles → ℕ → ℕ → ℕ → ℕ → List (Bytes × Bytes) → List (BlobName × Bytes)
shard_blobs f part_size base index shard uuid first files =
    let entries : List FileEntry = entries_from f part_size base first files in
    new_blobs f part_size base index shard first files
    ++ (ShardSnap index shard uuid, f.shard_snap.text (record { uuid = uuid; files = entries }))
    ∷ (ShardIndex index shard (id_after f base first files), f.shard_index.text (with_snap base uuid entries)) ∷ []

-- all that the unit of a clone's shard writes: the snapshot of the shard with the files of its source, and its index under the one id
abbrev pub clone_blobs : Formats → ShardFiles → ℕ → ℕ → ℕ → ℕ → List FileEntry → List (BlobName × Bytes)
clone_blobs f base index shard uuid g files =
    (ShardSnap index shard uuid, f.shard_snap.text (record { uuid = uuid; files = files })) ∷ (ShardIndex index shard g, f.shard_index.text (with_snap base uuid files)) ∷ []
