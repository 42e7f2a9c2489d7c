-- The global metadata of a snapshot: what a text reads as, and what is written.
use Rattle.std.specs.Prelude.{◌≡◌, ◌<◌, ◌-◌, ◌^◌, ℕ, pos, unsigned_abs, codes, List, None, Result, Ok}
use Rattle.serde_json.specs.Data.{Data, unsigned, number, string, object, no_members, member}
use Rattle.serde_json.specs.Written.{compact_text}
use Rattle.esr_names.specs.NameRule.{snap_name_fault}
use Rattle.esr_json.specs.declared.key.Key.TheVariants as keys
use Rattle.esr_json.specs.declared.refusal.Reason.{Reason}
use Rattle.esr_json.specs.Steps.{◌>>=◌}
use Rattle.esr_json.specs.Access.{parsed, number_at}
use Rattle.esr_meta.specs.declared.global.GlobalMeta.{GlobalMeta}
use Rattle.esr_names.specs.Indices.{id_at, snap_name_at, id_data}

-- what holds of all global metadata
pub record IsGlobal (m : GlobalMeta) : Type 0 where
  pub moment : m.moment < 2 ^ 64
  pub name : snap_name_fault m.name ≡ None
  pub uuid : m.uuid.number < 2 ^ 128

-- global metadata, their members looked at in byte order
unfoldable pub global_of : Data → Result GlobalMeta Reason
global_of d = do
  moment ← number_at keys.Moment (pos 0) (pos (2 ^ 64 - 1)) d
  name ← snap_name_at d
  uuid ← id_at keys.Uuid d
  Ok (record { moment = unsigned_abs moment; name = name; uuid = uuid })

-- the global metadata that the bytes read as
abbrev pub global_from : List ℕ → Result GlobalMeta Reason
global_from bytes = parsed bytes >>= global_of

-- global metadata, as they are written
unfoldable pub global_data : GlobalMeta → Data
global_data m =
    object (member (codes "moment") (number (unsigned m.moment))
    (member (codes "name") (string m.name)
    (member (codes "uuid") (id_data m.uuid) no_members)))

-- the text of global metadata
abbrev pub global_text : GlobalMeta → List ℕ
global_text m = compact_text (global_data m)
