-- The metadata of an index: what a text reads as, and what is written.
use Rattle.std.specs.Prelude.{◌≡◌, ◌<◌, ◌≤◌, ◌^◌, ℕ, pos, unsigned_abs, codes, List, None, Result, Ok}
use Rattle.serde_json.specs.Data.{Data, unsigned, number, string, object, no_members, member}
use Rattle.serde_json.specs.Written.{compact_text}
use Rattle.esr_names.specs.NameRule.{index_name_fault}
use Rattle.esr_names.specs.declared.ids.Id.{Id}
use Rattle.esr_json.specs.declared.key.Key.TheVariants as keys
use Rattle.esr_json.specs.declared.refusal.Reason.{Reason}
use Rattle.esr_json.specs.Steps.{◌>>=◌}
use Rattle.esr_json.specs.Access.{parsed, number_at}
use Rattle.esr_names.specs.Indices.{id_at, index_name_at, id_data}

-- the metadata of an index
pub record Index : Type 0 where
  pub id : Id
  pub name : List ℕ
  pub shards : ℕ
  pub uuid : Id

-- what holds of all metadata of indices
pub record IsIndexMeta (m : Index) : Type 0 where
  pub id : m.id.number < 2 ^ 128
  pub name : index_name_fault m.name ≡ None
  pub least : 1 ≤ m.shards
  pub most : m.shards ≤ 1024
  pub uuid : m.uuid.number < 2 ^ 128

-- the metadata of an index, their members looked at in byte order
unfoldable pub index_meta_of : Data → Result Index Reason
index_meta_of d = do
  id ← id_at keys.Id d
  name ← index_name_at d
  shards ← number_at keys.Shards (pos 1) (pos 1024) d
  uuid ← id_at keys.Uuid d
  Ok (record { id = id; name = name; shards = unsigned_abs shards; uuid = uuid })

-- the metadata that the bytes read as
abbrev pub index_meta_from : List ℕ → Result Index Reason
index_meta_from bytes = parsed bytes >>= index_meta_of

-- the metadata of an index, as they are written
unfoldable pub index_meta_data : Index → Data
index_meta_data m =
    object (member (codes "id") (id_data m.id)
    (member (codes "name") (string m.name)
    (member (codes "shards") (number (unsigned m.shards))
    (member (codes "uuid") (id_data m.uuid) no_members))))

-- the text of an index's metadata
abbrev pub index_meta_text : Index → List ℕ
index_meta_text m = compact_text (index_meta_data m)
