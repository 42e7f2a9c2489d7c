-- The names of blobs.
use Rattle.std.specs.Prelude.{◌^◌, Bool, true, nat_lt, ◌&&◌, if◌then◌else◌, Option, Some, None, option_map, option_and_then}
use Rattle.std.specs.Str.{bytes_eq}
use Rattle.esr_names.specs.declared.ids.Id.{Id}
use Rattle.esr_names.specs.declared.blob.BlobName.{BlobName as CodeName}
use Rattle.esr_names.specs.declared.blob.BlobName.TheVariants as code
use Rattle.esr_names.specs.Layout.{name_text}
use Rattle.esr_names.specs.Reading as reading
use Rattle.esr_model.specs.Names.{BlobName, Root, Latest, Snap, Meta, IndexMeta, ShardSnap, ShardIndex, File, Part, TestMaster, TestNode}
use Rattle.esr_model.specs.Values.{Bytes, Kind}
use Rattle.esr_formats.specs.Ids.{id_of}

-- the name that a name of the code is
abbrev pub name_of : CodeName → BlobName
name_of (code.Root n) = Root n
name_of code.Latest = Latest
name_of (code.Snap u) = Snap u.number
name_of (code.Meta u) = Meta u.number
name_of (code.IndexMeta i u) = IndexMeta i.number u.number
name_of (code.ShardSnap s u) = ShardSnap s.index.number s.number u.number
name_of (code.ShardIndex s g) = ShardIndex s.index.number s.number g.number
name_of (code.Whole s x) = File s.index.number s.number x.number
name_of (code.Part s x k) = Part s.index.number s.number x.number k
name_of (code.TestMaster v) = TestMaster v.number
name_of (code.TestNode v w) = TestNode v.number w

-- the name of the code that a name is
abbrev pub code_name : BlobName → CodeName
code_name (Root n) = code.Root n
code_name Latest = code.Latest
code_name (Snap u) = code.Snap (id_of u)
code_name (Meta u) = code.Meta (id_of u)
code_name (IndexMeta i u) = code.IndexMeta (id_of i) (id_of u)
code_name (ShardSnap i k u) = code.ShardSnap (record { index = id_of i; number = k }) (id_of u)
code_name (ShardIndex i k g) = code.ShardIndex (record { index = id_of i; number = k }) (id_of g)
code_name (File i k x) = code.Whole (record { index = id_of i; number = k }) (id_of x)
code_name (Part i k x p) = code.Part (record { index = id_of i; number = k }) (id_of x) p
code_name (TestMaster v) = code.TestMaster (id_of v)
code_name (TestNode v w) = code.TestNode (id_of v) w

-- an id of 128 bits
abbrev pub is_id : Id → Bool
is_id u = nat_lt u.number (2 ^ 128)

-- the ids and the numbers of the name are those of the layout
unfoldable pub is_of_layout : CodeName → Bool
is_of_layout (code.Root n) = nat_lt n (2 ^ 63)
is_of_layout code.Latest = true
is_of_layout (code.Snap u) = is_id u
is_of_layout (code.Meta u) = is_id u
is_of_layout (code.IndexMeta i u) = is_id i && is_id u
is_of_layout (code.ShardSnap s u) = (is_id s.index && is_id u) && nat_lt s.number 1024
is_of_layout (code.ShardIndex s g) = (is_id s.index && is_id g) && nat_lt s.number 1024
is_of_layout (code.Whole s x) = (is_id s.index && is_id x) && nat_lt s.number 1024
is_of_layout (code.Part s x k) = (is_id s.index && is_id x) && (nat_lt s.number 1024 && nat_lt k (2 ^ 61))
is_of_layout (code.TestMaster v) = is_id v
is_of_layout (code.TestNode v w) = is_id v && nat_lt w 64

-- the name, where it is one of the layout and its text is just these bytes
abbrev pub checked_name : Bytes → CodeName → Option CodeName
checked_name bytes name = if is_of_layout name && bytes_eq (name_text name) bytes then Some name else None

-- the name whose text these bytes are
unfoldable pub read_name : Bytes → Option CodeName
read_name bytes = option_and_then (checked_name bytes) (reading.name_of bytes)

-- how names are written and read
unfoldable pub name_kind : Kind BlobName
name_kind = record { text = λ name. name_text (code_name name); read = λ bytes. option_map name_of (read_name bytes) }
