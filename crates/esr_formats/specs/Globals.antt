-- The global metadata of a snapshot.
use Rattle.esr_meta.specs.declared.global.GlobalMeta.{GlobalMeta as CodeGlobal}
use Rattle.esr_meta.specs.Global.{global_text, global_from}
use Rattle.esr_model.specs.Values.{GlobalMeta, Kind}
use Rattle.esr_formats.specs.Ids.{id_of}
use Rattle.esr_formats.specs.Kinds.{kind_by}

-- the global metadata that those of the code are
abbrev pub global_of_code : CodeGlobal → GlobalMeta
global_of_code m = record { name = m.name; uuid = m.uuid.number; moment = m.moment }

-- the global metadata of the code that they are
abbrev pub code_global : GlobalMeta → CodeGlobal
code_global m = record { moment = m.moment; name = m.name; uuid = id_of m.uuid }

-- how they are written and read
unfoldable pub global_kind : Kind GlobalMeta
global_kind = kind_by code_global global_of_code global_text global_from
