-- The lists `indices` of the texts, and the members that name things: what they read as, and what is
-- written of them.
use Rattle.std.specs.Prelude.{◌≡◌, ◌<◌, ◌≤◌, ◌^◌, ◌==◌, ◌++◌, ◌||◌, ℕ, Bool, false, pos, unsigned_abs, codes, is_none, List, [], ◌∷◌, map, if◌then◌else◌, None, Result, Ok, Err}
use Rattle.std.specs.Option.{ok_or}
use Rattle.std.specs.List.{list_any}
use Rattle.std.specs.Str.{bytes_eq}
use Rattle.serde_json.specs.Data.{Data, unsigned, number, string, array, object, no_members, member}
use Rattle.serde_json.specs.View.{items_of}
use Rattle.esr_names.specs.IdText.{id_text, read_id}
use Rattle.esr_names.specs.NameRule.{snap_name_fault, index_name_fault}
use Rattle.esr_names.specs.declared.ids.Id.{Id}
use Rattle.esr_names.specs.declared.index_ref.IndexRef.{IndexRef}
use Rattle.esr_json.specs.declared.key.Key.{Key}
use Rattle.esr_json.specs.declared.key.Key.TheVariants as keys
use Rattle.esr_json.specs.declared.refusal.Reason.{Reason}
use Rattle.esr_json.specs.declared.refusal.Reason.TheVariants.{BadName, BadId, Duplicate}
use Rattle.esr_json.specs.Steps.{◌>>=◌}
use Rattle.esr_json.specs.Access.{text_at, number_at, items_at}

-- a member that is the text of an id
unfoldable pub id_at : Key → Data → Result Id Reason
id_at key d = text_at key d >>= λ text. ok_or (read_id text) BadId

-- the member `name`, a snapshot's
unfoldable pub snap_name_at : Data → Result (List ℕ) Reason
snap_name_at d = do
  name ← text_at keys.Name d
  if is_none (snap_name_fault name) then Ok name else Err BadName

-- the member `name`, an index's
unfoldable pub index_name_at : Data → Result (List ℕ) Reason
index_name_at d = do
  name ← text_at keys.Name d
  if is_none (index_name_fault name) then Ok name else Err BadName

-- an index, with its number of shards
unfoldable pub ref_of : Data → Result IndexRef Reason
ref_of d = do
  id ← id_at keys.Id d
  name ← index_name_at d
  shards ← number_at keys.Shards (pos 1) (pos 1024) d
  Ok (record { id = id; name = name; shards = unsigned_abs shards })

-- a name or an id that stood before
abbrev pub clashes : IndexRef → IndexRef → Bool
clashes new old = bytes_eq old.name new.name || (old.id.number == new.id.number)

-- the indices of a list, after those before
unfoldable pub refs_from : List IndexRef → List Data → Result (List IndexRef) Reason
refs_from before [] = Ok before
refs_from before (d ∷ ds) = ref_of d >>= λ r.
    if list_any (clashes r) before then Err Duplicate else refs_from (before ++ r ∷ []) ds

-- the member `indices`
unfoldable pub indices_at : Data → Result (List IndexRef) Reason
indices_at d = items_at keys.Indices d >>= refs_from []

-- the text of an id
abbrev pub id_data : Id → Data
id_data u = string (id_text u.number)

-- an index, as it is written
abbrev pub ref_data : IndexRef → Data
ref_data r =
    object (member (codes "id") (id_data r.id)
    (member (codes "name") (string r.name)
    (member (codes "shards") (number (unsigned r.shards)) no_members)))

-- the indices, as they are written
abbrev pub indices_data : List IndexRef → Data
indices_data rs = array (items_of (map ref_data rs))

-- an index that a text can name
pub record IsRef (r : IndexRef) : Type 0 where
  pub id : r.id.number < 2 ^ 128
  pub name : index_name_fault r.name ≡ None
  pub least : 1 ≤ r.shards
  pub most : r.shards ≤ 1024

-- the names and the ids of the indices differ, from those before too
abbrev pub AreRefs : List IndexRef → List IndexRef → Type 0
AreRefs before [] = Unit {0}
AreRefs before (r ∷ rs) = IsRef r × (list_any (clashes r) before ≡ false) × AreRefs (before ++ r ∷ []) rs
