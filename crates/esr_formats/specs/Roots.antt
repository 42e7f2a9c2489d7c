-- The root.
use Rattle.std.specs.Prelude.{map, option_map}
use Rattle.esr_root.specs.declared.snaps.RootSnap.{RootSnap as CodeSnap}
use Rattle.esr_root.specs.declared.indices.RootIndex.{RootIndex as CodeIndex}
use Rattle.esr_root.specs.Root.{Root}
use Rattle.esr_root.specs.Text.{root_text}
use Rattle.esr_root.specs.Reading.{root_from}
use Rattle.esr_model.specs.Values.{RootSnap, RootIndex, RootData, Kind}
use Rattle.esr_formats.specs.Ids.{number_of, id_of}
use Rattle.esr_formats.specs.Kinds.{kind_by}

-- a listed snapshot
abbrev pub root_snap_of : CodeSnap → RootSnap
root_snap_of s = record { name = s.name; uuid = s.uuid.number; state = s.state }

-- a listed index
abbrev pub root_index_of : CodeIndex → RootIndex
root_index_of i = record { name = i.name; id = i.id.number; snapshots = map number_of i.snapshots; generations = map (option_map number_of) i.generations }

-- the root that a root of the code is
abbrev pub root_of : Root → RootData
root_of r = record { snapshots = map root_snap_of r.snapshots; indices = map root_index_of r.indices }

-- the same the other way
abbrev pub code_root_snap : RootSnap → CodeSnap
code_root_snap s = record { name = s.name; uuid = id_of s.uuid; state = s.state }

abbrev pub code_root_index : RootIndex → CodeIndex
code_root_index i = record { name = i.name; id = id_of i.id; snapshots = map id_of i.snapshots; generations = map (option_map id_of) i.generations }

-- the root of the code that a root is
abbrev pub code_root : RootData → Root
code_root r = record { snapshots = map code_root_snap r.snapshots; indices = map code_root_index r.indices }

-- how roots are written and read
unfoldable pub root_kind : Kind RootData
root_kind = kind_by code_root root_of root_text root_from
