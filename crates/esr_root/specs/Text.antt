-- The text of a root: members in byte order of their keys, with no space between.
use Rattle.std.specs.Prelude.{ℕ, List, codes, map, Option, Some, None}
use Rattle.serde_json.specs.Data.{Data, unsigned, number, string, array, object, no_members, member}
use Rattle.serde_json.specs.View.{items_of}
use Rattle.serde_json.specs.Written.{compact_text}
use Rattle.esr_names.specs.IdText.{id_text}
use Rattle.esr_names.specs.declared.ids.Id.{Id}
use Rattle.esr_json.specs.Named.{with_members}
use Rattle.esr_root.specs.Root.{Root}
use Rattle.esr_root.specs.declared.snaps.RootSnap.{RootSnap}
use Rattle.esr_root.specs.declared.indices.RootIndex.{RootIndex}

-- an id is written as its text
abbrev pub id_data : Id → Data
id_data u = string (id_text u.number)

-- a snapshot is written with its state, also where that is 1
abbrev pub snap_data : RootSnap → Data
snap_data s =
    object (member (codes "name") (string s.name)
    (member (codes "state") (number (unsigned s.state))
    (member (codes "uuid") (id_data s.uuid) no_members)))

-- a shard without a generation is written as a new one
abbrev pub generation_data : Option Id → Data
generation_data None = string (codes "_new")
generation_data (Some u) = id_data u

-- an index is written without its name, which is its key
abbrev pub index_data : RootIndex → Data
index_data i =
    object (member (codes "id") (id_data i.id)
    (member (codes "shard_generations") (array (items_of (map generation_data i.generations)))
    (member (codes "snapshots") (array (items_of (map id_data i.snapshots))) no_members)))

-- an index under its name
abbrev pub index_entry : RootIndex → List ℕ × Data
index_entry i = (i.name, index_data i)

-- the value that a root is written as
unfoldable pub root_data : Root → Data
root_data r =
    object (member (codes "indices") (object (with_members no_members (map index_entry r.indices)))
    (member (codes "snapshots") (array (items_of (map snap_data r.snapshots))) no_members))

-- the text of a root
abbrev pub root_text : Root → List ℕ
root_text r = compact_text (root_data r)
