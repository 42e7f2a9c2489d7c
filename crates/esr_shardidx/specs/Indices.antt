-- The index of a shard: its value, its text, how it is read, and what makes one of another.
use Rattle.std.specs.Prelude.{◌≡◌, ◌<◌, ◌^◌, ◌+◌, ◌==◌, ◌||◌, ◌&&◌, ℕ, nat_lt, Bool, true, false, if◌then◌else◌, codes, filter, find, map, List, [], ◌∷◌, ◌++◌, Option, Some, None, Result, Ok, Err}
use Rattle.std.specs.List.{list_any, list_all, AllByRecursion}
use Rattle.std.specs.Option.{ok_or}
use Rattle.std.specs.Str.{bytes_eq}
use Rattle.serde_json.specs.Data.{Data, string, array, object, member, no_members}
use Rattle.serde_json.specs.View.{items_of}
use Rattle.serde_json.specs.Written.{compact_text}
use Rattle.esr_names.specs.IdText.{id_text}
use Rattle.esr_names.specs.declared.ids.Id.{Id}
use Rattle.esr_hash.specs.declared.print.Print.{Print}
use Rattle.esr_json.specs.declared.key.Key.TheVariants as keys
use Rattle.esr_json.specs.declared.refusal.Reason.{Reason}
use Rattle.esr_json.specs.declared.refusal.Reason.TheVariants.{BadId, Duplicate, Unlisted}
use Rattle.esr_json.specs.Steps.{◌>>=◌}
use Rattle.esr_json.specs.Access.{parsed, items_at, text_item}
use Rattle.esr_shardidx.specs.Entries.{file_text, read_file, entry_of, entry_data, IsEntry}
use Rattle.esr_shardidx.specs.Snapshots.{SnapValue, has_name, id_at}
use Rattle.esr_shardidx.specs.declared.entry.FileEntry.{FileEntry}
use Rattle.esr_shardidx.specs.declared.index.SnapList.{SnapList}

-- the stored files of a shard, and which of them each snapshot has
pub record IndexValue : Type 0 where
  pub files : List FileEntry
  pub snapshots : List SnapList

abbrev pub is_id : Id → Id → Bool
is_id u v = v.number == u.number

-- an id that stands twice
abbrev pub repeats : List Id → Bool
repeats [] = false
repeats (u ∷ us) = list_any (is_id u) us || repeats us

-- the list is that of this snapshot
abbrev pub has_uuid : Id → SnapList → Bool
has_uuid u l = l.uuid.number == u.number

-- the list has the file with this id
abbrev pub names_file : Id → SnapList → Bool
names_file u l = list_any (is_id u) l.files

-- some list has the file
abbrev pub is_named : List SnapList → FileEntry → Bool
is_named ls e = list_any (names_file e.name) ls

-- the files that some list has
abbrev pub named_by : List SnapList → List FileEntry → List FileEntry
named_by ls es = filter (is_named ls) es

-- one of the entries has this id
abbrev pub has_file : List FileEntry → Id → Bool
has_file es u = list_any (has_name u) es

-- the file has this physical name and print
abbrev pub is_same : List ℕ → Print → FileEntry → Bool
is_same physical p e = bytes_eq e.physical physical && (e.print.len == p.len && bytes_eq e.print.sha256 p.sha256)

-- ---- reading

-- files whose ids rise
unfoldable pub index_files_from : List FileEntry → List Data → Result (List FileEntry) Reason
index_files_from before [] = Ok before
index_files_from before (d ∷ ds) = entry_of before [] d >>= λ e.
    if list_any (has_name e.name) before then Err Duplicate else index_files_from (before ++ e ∷ []) ds

unfoldable pub file_item : Data → Result Id Reason
file_item d = text_item keys.Files d >>= λ text. ok_or (read_file text) BadId

unfoldable pub file_ids_from : List Id → List Data → Result (List Id) Reason
file_ids_from before [] = Ok before
file_ids_from before (d ∷ ds) = file_item d >>= λ u. file_ids_from (before ++ u ∷ []) ds

unfoldable pub list_of : Data → Result SnapList Reason
list_of d = do
  items ← items_at keys.Files d
  files ← file_ids_from [] items
  uuid ← id_at keys.Uuid d
  Ok (record { files = files; uuid = uuid })

-- a list of a snapshot that has none yet, of different files that there are
abbrev pub checked : List FileEntry → List SnapList → SnapList → Result SnapList Reason
checked files before l =
    if list_any (has_uuid l.uuid) before || repeats l.files then Err Duplicate
    else (if list_all (has_file files) l.files then Ok l else Err Unlisted)

unfoldable pub lists_from : List FileEntry → List SnapList → List Data → Result (List SnapList) Reason
lists_from files before [] = Ok before
lists_from files before (d ∷ ds) = do
  read ← list_of d
  l ← checked files before read
  lists_from files (before ++ l ∷ []) ds

-- a file that no list has is read as the others, and left out
unfoldable pub shard_index_of : Data → Result IndexValue Reason
shard_index_of d = do
  items ← items_at keys.Files d
  files ← index_files_from [] items
  lists ← items_at keys.Snapshots d
  snapshots ← lists_from files [] lists
  Ok (record { files = named_by snapshots files; snapshots = snapshots })

-- what the bytes are the text of
abbrev pub shard_index_from : List ℕ → Result IndexValue Reason
shard_index_from bytes = parsed bytes >>= shard_index_of

-- ---- writing

abbrev pub file_data : Id → Data
file_data u = string (file_text u)

abbrev pub list_data : SnapList → Data
list_data l =
    object (member (codes "files") (array (items_of (map file_data l.files)))
    (member (codes "uuid") (string (id_text l.uuid.number)) no_members))

unfoldable pub shard_index_data : IndexValue → Data
shard_index_data v =
    object (member (codes "files") (array (items_of (map entry_data v.files)))
    (member (codes "snapshots") (array (items_of (map list_data v.snapshots))) no_members))

abbrev pub shard_index_text : IndexValue → List ℕ
shard_index_text v = compact_text (shard_index_data v)

-- ---- the values that there are

-- the ids rise
abbrev pub Rises : List FileEntry → Type 0
Rises [] = Unit {0}
Rises (e ∷ es) = AllByRecursion (λ f. e.name.number < f.name.number) es × Rises es

-- no snapshot has two lists, those before among them, and each list has different files that there are
abbrev pub AreLists : List FileEntry → List SnapList → List SnapList → Type 0
AreLists files before [] = Unit {0}
AreLists files before (l ∷ ls) =
    AllByRecursion (λ u. u.number < 2 ^ 128) l.files × (l.uuid.number < 2 ^ 128) × (list_any (has_uuid l.uuid) before ≡ false)
    × (repeats l.files ≡ false) × (list_all (has_file files) l.files ≡ true) × AreLists files (before ++ l ∷ []) ls

pub record IsShardIndex (v : IndexValue) : Type 0 where
  pub entries : AllByRecursion IsEntry v.files
  pub rises : Rises v.files
  pub lists : AreLists v.files [] v.snapshots
  pub named : AllByRecursion (λ e. is_named v.snapshots e ≡ true) v.files

-- ---- one of another

-- the entry among others that rise by id, unless one of them has its id
abbrev pub insert_file : FileEntry → List FileEntry → List FileEntry
insert_file e [] = e ∷ []
insert_file e (f ∷ fs) =
    if nat_lt f.name.number e.name.number then f ∷ insert_file e fs
    else (if f.name.number == e.name.number then f ∷ fs else e ∷ f ∷ fs)

-- the place of the first entry with this id or one above it
abbrev pub place_of : Id → List FileEntry → ℕ
place_of u [] = 0
place_of u (f ∷ fs) = if nat_lt f.name.number u.number then place_of u fs + 1 else 0

-- the entry, if there is one, has this id
abbrev pub is_at : Id → Option FileEntry → Bool
is_at u None = false
is_at u (Some e) = has_name u e

-- the entries, each with an id that isn't there yet
abbrev pub insert_files : List FileEntry → List FileEntry → List FileEntry
insert_files files [] = files
insert_files files (e ∷ es) = insert_files (insert_file e files) es

abbrev pub name_of : FileEntry → Id
name_of e = e.name

-- the list of the snapshot's files
abbrev pub list_of_snap : SnapValue → SnapList
list_of_snap s = record { files = map name_of s.files; uuid = s.uuid }

-- the index with the snapshot added, unless it has that snapshot already
abbrev pub with_snap_of : IndexValue → SnapValue → IndexValue
with_snap_of v s =
    if list_any (has_uuid s.uuid) v.snapshots then v
    else record { files = insert_files v.files s.files; snapshots = v.snapshots ++ list_of_snap s ∷ [] }

-- the snapshots that are listed
abbrev pub listed_of : List Id → List SnapList → List SnapList
listed_of listed ls = filter (λ l. list_any (is_id l.uuid) listed) ls

-- the listed snapshots, and the files that some of them has
abbrev pub survivors_of : IndexValue → List Id → IndexValue
survivors_of v listed = record { files = named_by (listed_of listed v.snapshots) v.files; snapshots = listed_of listed v.snapshots }

-- this is the entry that they have under its id
abbrev pub HasEntry : List FileEntry → FileEntry → Type 0
HasEntry es e = find (has_name e.name) es ≡ Some e

-- they have no other entry under its id
abbrev pub Agrees : List FileEntry → FileEntry → Type 0
Agrees es e = (f : FileEntry) → find (has_name e.name) es ≡ Some f → f ≡ e
