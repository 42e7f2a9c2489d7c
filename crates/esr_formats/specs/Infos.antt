-- The info of a snapshot.
use Rattle.std.specs.Prelude.{map}
use Rattle.esr_meta.specs.Info.{Info, info_text, info_from}
use Rattle.esr_model.specs.Values.{SnapInfo, Kind}
use Rattle.esr_formats.specs.Ids.{id_of}
use Rattle.esr_formats.specs.Refs.{ref_of_code, code_ref}
use Rattle.esr_formats.specs.Kinds.{kind_by}

-- the info that an info of the code is
abbrev pub info_of_code : Info → SnapInfo
info_of_code i = record { name = i.name; uuid = i.uuid.number; state = i.state; moment = i.moment; indices = map ref_of_code i.indices; files = i.files; bytes = i.bytes }

-- the info of the code that an info is
abbrev pub code_info : SnapInfo → Info
code_info i = record { bytes = i.bytes; files = i.files; indices = map code_ref i.indices; moment = i.moment; name = i.name; state = i.state; uuid = id_of i.uuid }

-- how infos are written and read
unfoldable pub info_kind : Kind SnapInfo
info_kind = kind_by code_info info_of_code info_text info_from
