-- The files of a shard: what a snapshot has of it, and its index.
use Rattle.std.specs.Prelude.{map}
use Rattle.esr_shardidx.specs.declared.entry.FileEntry.{FileEntry as CodeEntry}
use Rattle.esr_shardidx.specs.declared.index.SnapList.{SnapList as CodeList}
use Rattle.esr_shardidx.specs.Snapshots.{SnapValue, shard_snap_text, shard_snap_from}
use Rattle.esr_shardidx.specs.Indices.{IndexValue, shard_index_text, shard_index_from}
use Rattle.esr_model.specs.Values.{FileEntry, ShardSnapshot, SnapList, ShardFiles, Kind}
use Rattle.esr_formats.specs.Ids.{number_of, id_of}
use Rattle.esr_formats.specs.Kinds.{kind_by}

-- the entry that an entry of the code is: its print is split into length and digest
abbrev pub entry_of : CodeEntry → FileEntry
entry_of e = record { name = e.name.number; physical = e.physical; len = e.print.len; digest = e.print.sha256; part_size = e.part_size }

-- the files that a snapshot has, by their ids
abbrev pub snap_list_of : CodeList → SnapList
snap_list_of l = record { uuid = l.uuid.number; files = map number_of l.files }

-- what a snapshot has of a shard
abbrev pub shard_snap_of : SnapValue → ShardSnapshot
shard_snap_of s = record { uuid = s.uuid.number; files = map entry_of s.files }

-- the index of a shard
abbrev pub shard_index_of : IndexValue → ShardFiles
shard_index_of v = record { files = map entry_of v.files; snapshots = map snap_list_of v.snapshots }

-- the same the other way
abbrev pub code_entry : FileEntry → CodeEntry
code_entry e = record { name = id_of e.name; physical = e.physical; print = record { len = e.len; sha256 = e.digest }; part_size = e.part_size }

abbrev pub code_snap_list : SnapList → CodeList
code_snap_list l = record { files = map id_of l.files; uuid = id_of l.uuid }

abbrev pub code_shard_snap : ShardSnapshot → SnapValue
code_shard_snap s = record { files = map code_entry s.files; uuid = id_of s.uuid }

abbrev pub code_shard_index : ShardFiles → IndexValue
code_shard_index v = record { files = map code_entry v.files; snapshots = map code_snap_list v.snapshots }

-- how what snapshots have of a shard is written and read
unfoldable pub shard_snap_kind : Kind ShardSnapshot
shard_snap_kind = kind_by code_shard_snap shard_snap_of shard_snap_text shard_snap_from

-- how indices of shards are written and read
unfoldable pub shard_index_kind : Kind ShardFiles
shard_index_kind = kind_by code_shard_index shard_index_of shard_index_text shard_index_from
