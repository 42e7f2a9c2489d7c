-- The metadata of an index in a snapshot.
use Rattle.esr_meta.specs.Index.{Index, index_meta_text, index_meta_from}
use Rattle.esr_model.specs.Values.{IndexMetadata, Kind}
use Rattle.esr_formats.specs.Ids.{id_of}
use Rattle.esr_formats.specs.Kinds.{kind_by}

-- the metadata that those of the code are
abbrev pub index_meta_of : Index → IndexMetadata
index_meta_of m = record { index = record { id = m.id.number; name = m.name; shards = m.shards }; uuid = m.uuid.number }

-- the metadata of the code that they are
abbrev pub code_index_meta : IndexMetadata → Index
code_index_meta m = record { id = id_of m.index.id; name = m.index.name; shards = m.index.shards; uuid = id_of m.uuid }

-- how they are written and read
unfoldable pub index_meta_kind : Kind IndexMetadata
index_meta_kind = kind_by code_index_meta index_meta_of index_meta_text index_meta_from
