-- Reading a root, with the first reason to refuse it.
use Rattle.std.specs.Prelude.{ℕ, pos, unsigned_abs, codes, is_none, option_map, length, nat_lt, ◌==◌, ◌||◌, List, [], ◌∷◌, ◌++◌, if◌then◌else◌, Option, Some, None, Result, Ok, Err}
use Rattle.std.specs.Option.{ok_or}
use Rattle.std.specs.List.{list_any, list_all}
use Rattle.std.specs.Str.{bytes_eq}
use Rattle.serde_json.specs.Data.{Data, null, boolean, number, string, array, object}
use Rattle.esr_names.specs.IdText.{read_id}
use Rattle.esr_names.specs.declared.ids.Id.{Id}
use Rattle.esr_json.specs.declared.key.Key.{Key}
use Rattle.esr_json.specs.declared.key.Key.TheVariants as keys
use Rattle.esr_json.specs.declared.refusal.Reason.{Reason}
use Rattle.esr_json.specs.declared.refusal.Reason.TheVariants.{WrongKind, OutOfRange, BadName, BadId, Duplicate, Unlisted}
use Rattle.esr_json.specs.Steps.{◌>>=◌}
use Rattle.esr_json.specs.Access.{parsed, text_at, number_or, items_at, items_or_none, members_at, text_item}
use Rattle.esr_names.specs.NameRule.{snap_name_fault, index_name_fault}
use Rattle.esr_root.specs.Ids.{has_id, repeats}
use Rattle.esr_root.specs.Snaps.{clashes, lists}
use Rattle.esr_root.specs.Root.{Root}
use Rattle.esr_root.specs.declared.snaps.RootSnap.{RootSnap}
use Rattle.esr_root.specs.declared.indices.RootIndex.{RootIndex}

-- a text that a name may be
unfoldable pub name_of : Data → Result (List ℕ) Reason
name_of d = do
  name ← text_at keys.Name d
  if is_none (snap_name_fault name) then Ok name else Err BadName

-- a member that is the text of an id
unfoldable pub id_of : Key → Data → Result Id Reason
id_of key d = text_at key d >>= λ text. ok_or (read_id text) BadId

-- 1 where it is absent
unfoldable pub state_of : Data → Result ℕ Reason
state_of d = number_or keys.State (pos 0) (pos 255) (pos 1) d >>= λ z. Ok (unsigned_abs z)

-- a snapshot, its members in the order of their names
unfoldable pub snap_of : Data → Result RootSnap Reason
snap_of d = do
  name ← name_of d
  uuid ← id_of keys.Uuid d
  state ← state_of d
  Ok (record { name = name; uuid = uuid; state = state })

-- the snapshots after some: none has a name or a uuid that stood before
unfoldable pub snaps_from : List RootSnap → List Data → Result (List RootSnap) Reason
snaps_from before [] = Ok before
snaps_from before (d ∷ ds) = snap_of d >>= λ s.
    if list_any (λ old. clashes old s) before then Err Duplicate else snaps_from (before ++ s ∷ []) ds

-- ---- indices

-- a name that an index may have
abbrev pub index_name_of : List ℕ → Result (List ℕ) Reason
index_name_of name = if is_none (index_name_fault name) then Ok name else Err BadName

-- an element of an index's list of snapshots
unfoldable pub id_item : Data → Result Id Reason
id_item d = text_item keys.Snapshots d >>= λ text. ok_or (read_id text) BadId

-- the ids after some
unfoldable pub ids_from : List Id → List Data → Result (List Id) Reason
ids_from before [] = Ok before
ids_from before (d ∷ ds) = id_item d >>= λ u. ids_from (before ++ u ∷ []) ds

-- none is written `_new`, and Elasticsearch writes two other texts for it
abbrev pub generation_text : List ℕ → Result (Option Id) Reason
generation_text s =
    if bytes_eq s (codes "_new") || bytes_eq s (codes "_deleted") then Ok None
    else ok_or (option_map Some (read_id s)) BadId

-- an element of the list of generations
abbrev pub generation_of : Data → Result (Option Id) Reason
generation_of null = Ok None
generation_of (boolean b) = Err (WrongKind keys.ShardGenerations)
generation_of (number n) = Err (WrongKind keys.ShardGenerations)
generation_of (string s) = generation_text s
generation_of (array ds) = Err (WrongKind keys.ShardGenerations)
generation_of (object ms) = Err (WrongKind keys.ShardGenerations)

-- the generations after some
unfoldable pub generations_from : List (Option Id) → List Data → Result (List (Option Id)) Reason
generations_from before [] = Ok before
generations_from before (d ∷ ds) = generation_of d >>= λ g. generations_from (before ++ g ∷ []) ds

-- none where it is absent; how many there are is looked at before the elements
unfoldable pub generations_of : Data → Result (List (Option Id)) Reason
generations_of d = do
  ds ← items_or_none keys.ShardGenerations d
  if nat_lt 1024 (length ds) then Err (OutOfRange keys.ShardGenerations (pos 1024)) else generations_from [] ds

-- an index by its name and its value
unfoldable pub index_of : List ℕ × Data → Result RootIndex Reason
index_of e = do
  name ← index_name_of e.0
  id ← id_of keys.Id e.1
  items ← items_at keys.Snapshots e.1
  snapshots ← ids_from [] items
  generations ← generations_of e.1
  Ok (record { name = name; id = id; snapshots = snapshots; generations = generations })

-- an index, whose id no earlier one has, with snapshots that stand once and are listed
abbrev pub checked : List RootSnap → List Id → RootIndex → Result RootIndex Reason
checked snaps before index =
    if has_id index.id before || repeats index.snapshots then Err Duplicate
    else (if list_all (lists snaps) index.snapshots then Ok index else Err Unlisted)

-- an index with no snapshot is left out
abbrev pub kept : List RootIndex → RootIndex → List RootIndex
kept indices index = if length index.snapshots == 0 then indices else indices ++ index ∷ []

-- the indices after some, which had these ids, also those that were left out
unfoldable pub indices_from : List RootSnap → List Id → List RootIndex → List (List ℕ × Data) → Result (List RootIndex) Reason
indices_from snaps ids indices [] = Ok indices
indices_from snaps ids indices (e ∷ es) = do
  read ← index_of e
  index ← checked snaps ids read
  indices_from snaps (ids ++ index.id ∷ []) (kept indices index) es

-- the root that a value is
unfoldable pub root_of : Data → Result Root Reason
root_of d = do
  items ← items_at keys.Snapshots d
  members ← members_at keys.Indices d
  snapshots ← snaps_from [] items
  indices ← indices_from snapshots [] [] members
  Ok (record { snapshots = snapshots; indices = indices })

-- the root that bytes are the text of, or the first reason to refuse them
abbrev pub root_from : List ℕ → Result Root Reason
root_from bytes = parsed bytes >>= root_of
