-- The layout: which text each blob name has.
use Rattle.std.specs.Prelude.{ℕ, ◌<◌, ◌^◌, List, ◌++◌, codes, decimal}
use Rattle.esr_names.specs.IdText.{id_text}
use Rattle.esr_names.specs.declared.ids.Id.{Id}
use Rattle.esr_names.specs.declared.blob.ShardId.{ShardId}
use Rattle.esr_names.specs.declared.blob.BlobName.{BlobName}
use Rattle.esr_names.specs.declared.blob.BlobName.TheVariants.{Root, Latest, Snap, Meta, IndexMeta, ShardSnap, ShardIndex, Whole, Part, TestMaster, TestNode}

-- the text of an id
abbrev pub text_of_id : Id → List ℕ
text_of_id u = id_text u.number

-- a text below the folder of a shard
abbrev pub below : ShardId → List ℕ → List ℕ
below s rest = codes "indices/" ++ (text_of_id s.index ++ (codes "/" ++ (decimal s.number ++ (codes "/" ++ rest))))

-- the text of a blob's name
unfoldable pub name_text : BlobName → List ℕ
name_text (Root n) = codes "index-" ++ decimal n
name_text Latest = codes "index.latest"
name_text (Snap u) = codes "snap-" ++ (text_of_id u ++ codes ".dat")
name_text (Meta u) = codes "meta-" ++ (text_of_id u ++ codes ".dat")
name_text (IndexMeta i u) = codes "indices/" ++ (text_of_id i ++ (codes "/meta-" ++ (text_of_id u ++ codes ".dat")))
name_text (ShardSnap s u) = below s (codes "snap-" ++ (text_of_id u ++ codes ".dat"))
name_text (ShardIndex s g) = below s (codes "index-" ++ text_of_id g)
name_text (Whole s x) = below s (codes "__" ++ text_of_id x)
name_text (Part s x k) = below s (codes "__" ++ (text_of_id x ++ (codes ".part" ++ decimal k)))
name_text (TestMaster v) = codes "tests-" ++ (text_of_id v ++ codes "/master.dat")
name_text (TestNode v w) = codes "tests-" ++ (text_of_id v ++ (codes "/data-w" ++ (decimal w ++ codes ".dat")))

-- the numbers that a name may have
unfoldable pub IsName : BlobName → Type 0
IsName (Root n) = n < 2 ^ 63
IsName Latest = Unit {0}
IsName (Snap u) = Unit {0}
IsName (Meta u) = Unit {0}
IsName (IndexMeta i u) = Unit {0}
IsName (ShardSnap s u) = s.number < 1024
IsName (ShardIndex s g) = s.number < 1024
IsName (Whole s x) = s.number < 1024
IsName (Part s x k) = (s.number < 1024) × (k < 2 ^ 61)
IsName (TestMaster v) = Unit {0}
IsName (TestNode v w) = w < 64

-- a number that the type of an id holds
abbrev pub IsId : Id → Type 0
IsId u = u.number < 2 ^ 128

-- the ids of a name are of 128 bits, as their type says
unfoldable pub HasIds : BlobName → Type 0
HasIds (Root n) = Unit {0}
HasIds Latest = Unit {0}
HasIds (Snap u) = IsId u
HasIds (Meta u) = IsId u
HasIds (IndexMeta i u) = IsId i × IsId u
HasIds (ShardSnap s u) = IsId s.index × IsId u
HasIds (ShardIndex s g) = IsId s.index × IsId g
HasIds (Whole s x) = IsId s.index × IsId x
HasIds (Part s x k) = IsId s.index × IsId x
HasIds (TestMaster v) = IsId v
HasIds (TestNode v w) = IsId v
