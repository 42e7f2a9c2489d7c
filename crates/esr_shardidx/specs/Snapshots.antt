-- What a snapshot has of a shard: its value, its text, and how it is read.
use Rattle.std.specs.Prelude.{◌≡◌, ◌<◌, ◌^◌, ◌==◌, ◌&&◌, ℕ, Bool, true, false, not, if◌then◌else◌, codes, map, List, [], ◌∷◌, ◌++◌, Result, Ok, Err}
use Rattle.std.specs.List.{list_any, AllByRecursion}
use Rattle.std.specs.Option.{ok_or}
use Rattle.serde_json.specs.Data.{Data, string, array, object, member, no_members}
use Rattle.serde_json.specs.View.{items_of}
use Rattle.serde_json.specs.Written.{compact_text}
use Rattle.esr_names.specs.IdText.{id_text, read_id}
use Rattle.esr_names.specs.declared.ids.Id.{Id}
use Rattle.esr_json.specs.declared.key.Key.{Key}
use Rattle.esr_json.specs.declared.key.Key.TheVariants as keys
use Rattle.esr_json.specs.declared.refusal.Reason.{Reason}
use Rattle.esr_json.specs.declared.refusal.Reason.TheVariants.{BadId, Duplicate}
use Rattle.esr_json.specs.Steps.{◌>>=◌}
use Rattle.esr_json.specs.Access.{parsed, text_at, items_at}
use Rattle.esr_shardidx.specs.Entries.{last_of, is_below, name_stays, entry_of, entry_data, IsEntry, is_sized}
use Rattle.esr_shardidx.specs.declared.entry.FileEntry.{FileEntry}

-- the files of a shard that a snapshot has, and the snapshot's id
pub record SnapValue : Type 0 where
  pub files : List FileEntry
  pub uuid : Id

-- the entry has this id
abbrev pub has_name : Id → FileEntry → Bool
has_name u e = e.name.number == u.number

-- ---- reading

unfoldable pub id_at : Key → Data → Result Id Reason
id_at key d = text_at key d >>= λ text. ok_or (read_id text) BadId

-- files whose physical names rise, and no id twice
unfoldable pub snap_files_from : List FileEntry → List Data → Result (List FileEntry) Reason
snap_files_from before [] = Ok before
snap_files_from before (d ∷ ds) = entry_of [] before d >>= λ e.
    if list_any (has_name e.name) before then Err Duplicate else snap_files_from (before ++ e ∷ []) ds

unfoldable pub shard_snap_of : Data → Result SnapValue Reason
shard_snap_of d = do
  items ← items_at keys.Files d
  files ← snap_files_from [] items
  uuid ← id_at keys.Uuid d
  Ok (record { files = files; uuid = uuid })

-- what the bytes are the text of
abbrev pub shard_snap_from : List ℕ → Result SnapValue Reason
shard_snap_from bytes = parsed bytes >>= shard_snap_of

-- ---- writing

unfoldable pub shard_snap_data : SnapValue → Data
shard_snap_data s =
    object (member (codes "files") (array (items_of (map entry_data s.files)))
    (member (codes "uuid") (string (id_text s.uuid.number)) no_members))

abbrev pub shard_snap_text : SnapValue → List ℕ
shard_snap_text s = compact_text (shard_snap_data s)

-- ---- the values that there are

-- files whose physical names rise, and no id twice, those before among them
abbrev pub AreSnapFiles : List FileEntry → List FileEntry → Type 0
AreSnapFiles before [] = Unit {0}
AreSnapFiles before (e ∷ es) =
    IsEntry e × (name_stays (last_of before) e.physical ≡ false) × (list_any (has_name e.name) before ≡ false) × AreSnapFiles (before ++ e ∷ []) es

pub record IsShardSnap (s : SnapValue) : Type 0 where
  pub files : AreSnapFiles [] s.files
  pub uuid : s.uuid.number < 2 ^ 128

-- the entry may stand after the others
abbrev pub follows : List FileEntry → FileEntry → Bool
follows before e = is_sized e && (not (name_stays (last_of before) e.physical) && not (list_any (has_name e.name) before))

-- entries that may stand one after another, after those before
abbrev pub are_snap_files : List FileEntry → List FileEntry → Bool
are_snap_files before [] = true
are_snap_files before (e ∷ es) = follows before e && are_snap_files (before ++ e ∷ []) es

-- the physical names rise
abbrev pub NamesRise : List FileEntry → Type 0
NamesRise [] = Unit {0}
NamesRise (e ∷ es) = AllByRecursion (λ f. is_below e.physical f.physical ≡ true) es × NamesRise es
