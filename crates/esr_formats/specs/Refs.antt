-- Indices as a command names them.
use Rattle.std.specs.Prelude.{◌≢◌, ◌≤◌, List, [], ◌∷◌}
use Rattle.esr_names.specs.declared.index_ref.IndexRef.{IndexRef as CodeRef}
use Rattle.esr_model.specs.Values.{Has, IndexRef}
use Rattle.esr_formats.specs.Ids.{id_of}

-- the index that an index of the code is
abbrev pub ref_of_code : CodeRef → IndexRef
ref_of_code r = record { id = r.id.number; name = r.name; shards = r.shards }

-- the index of the code that an index is
abbrev pub code_ref : IndexRef → CodeRef
code_ref r = record { id = id_of r.id; name = r.name; shards = r.shards }

-- each has 1 to 1,024 shards, and no later one has its name or its id
abbrev pub AreApart : List IndexRef → Type 0
AreApart [] = Unit {0}
AreApart (r ∷ rs) = (1 ≤ r.shards) × (r.shards ≤ 1024) × ((q : IndexRef) → Has rs q → (q.name ≢ r.name) × (q.id ≢ r.id)) × AreApart rs
