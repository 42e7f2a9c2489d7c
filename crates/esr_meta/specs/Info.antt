-- The info of a snapshot: what a text reads as, and what is written.
use Rattle.std.specs.Prelude.{◌≡◌, ◌<◌, ◌-◌, ◌^◌, ℕ, pos, unsigned_abs, codes, List, [], None, Result, Ok}
use Rattle.serde_json.specs.Data.{Data, unsigned, number, string, object, no_members, member}
use Rattle.serde_json.specs.Written.{compact_text}
use Rattle.esr_names.specs.declared.ids.Id.{Id}
use Rattle.esr_names.specs.NameRule.{snap_name_fault}
use Rattle.esr_names.specs.declared.index_ref.IndexRef.{IndexRef}
use Rattle.esr_json.specs.declared.key.Key.TheVariants as keys
use Rattle.esr_json.specs.declared.refusal.Reason.{Reason}
use Rattle.esr_json.specs.Steps.{◌>>=◌}
use Rattle.esr_json.specs.Access.{parsed, number_at}
use Rattle.esr_names.specs.Indices.{id_at, snap_name_at, indices_at, id_data, indices_data, AreRefs}

-- the info of a snapshot
pub record Info : Type 0 where
  pub bytes : ℕ
  pub files : ℕ
  pub indices : List IndexRef
  pub moment : ℕ
  pub name : List ℕ
  pub state : ℕ
  pub uuid : Id

-- what holds of every info
pub record IsInfo (i : Info) : Type 0 where
  pub bytes : i.bytes < 2 ^ 63
  pub files : i.files < 2 ^ 63
  pub indices : AreRefs [] i.indices
  pub moment : i.moment < 2 ^ 64
  pub name : snap_name_fault i.name ≡ None
  pub state : i.state < 256
  pub uuid : i.uuid.number < 2 ^ 128

-- an info, its members looked at in byte order
unfoldable pub info_of : Data → Result Info Reason
info_of d = do
  bytes ← number_at keys.Bytes (pos 0) (pos (2 ^ 63 - 1)) d
  files ← number_at keys.Files (pos 0) (pos (2 ^ 63 - 1)) d
  indices ← indices_at d
  moment ← number_at keys.Moment (pos 0) (pos (2 ^ 64 - 1)) d
  name ← snap_name_at d
  state ← number_at keys.State (pos 0) (pos 255) d
  uuid ← id_at keys.Uuid d
  Ok (record { bytes = unsigned_abs bytes; files = unsigned_abs files; indices = indices; moment = unsigned_abs moment; name = name; state = unsigned_abs state; uuid = uuid })

-- the info that the bytes read as
abbrev pub info_from : List ℕ → Result Info Reason
info_from bytes = parsed bytes >>= info_of

-- an info, as it is written
unfoldable pub info_data : Info → Data
info_data i =
    object (member (codes "bytes") (number (unsigned i.bytes))
    (member (codes "files") (number (unsigned i.files))
    (member (codes "indices") (indices_data i.indices)
    (member (codes "moment") (number (unsigned i.moment))
    (member (codes "name") (string i.name)
    (member (codes "state") (number (unsigned i.state))
    (member (codes "uuid") (id_data i.uuid) no_members)))))))

-- the text of an info
abbrev pub info_text : Info → List ℕ
info_text i = compact_text (info_data i)
